use Rattle.pep508_urls.specs.Variables.{value_of}
use Rattle.pep508_requirements.specs.Requirement.{urls_in}
use Rattle.pep508_requirements.proofs.JsonLaws.{refused_json}
use Rattle.pep508_requirements.proofs.requirement.Requirement.from_json.Goals as goal

pub returns-in-Some-clause-refused : goal.returns-in-Some-clause-refused
returns-in-Some-clause-refused g c =
    let is = rw c.in-Some.is at c.in_ok-text.ensures in
    refused_json (urls_in g.T.Pep508Url.names c.args.surroundings.now) g.T.Pep508Url.tells_size (λ piece. g.T.Pep508Url.may_overflow piece c.args.surroundings.now) (value_of c.args.surroundings.now)
    c.args.json.now _ is c.deref.result.now c.parse.result c.deref.ensures c.parse.ensures.refused
