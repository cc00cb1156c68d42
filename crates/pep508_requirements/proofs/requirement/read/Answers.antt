use Rattle.std.proofs.Common.{ℕ, List, subst}
use Rattle.pep508_urls.specs.Variables.{value_of}
use Rattle.requirement_words.specs.Head.{asked_of}
use Rattle.pep508_requirements.specs.Requirement.{urls_in}
use Rattle.pep508_requirements.specs.Refused.{IsEndRefusal}
use Rattle.pep508_requirements.proofs.ReadLaws.{end_refusal, head_refusal, url_refusal}
use Rattle.pep508_requirements.proofs.requirement.read.Goals as goal

pub returns-in-Err-clause-refused : goal.returns-in-Err-clause-refused
returns-in-Err-clause-refused g c =
    head_refusal (urls_in g.T.Pep508Url.names c.args.surroundings.now) c.args.text.now g.T.Pep508Url.tells_size
    (λ piece. g.T.Pep508Url.may_overflow piece c.args.surroundings.now) (value_of c.args.surroundings.now) _ c.in-Err.ensures.refused

pub returns-in-Err-read_version_or_url-clause-refused : goal.returns-in-Err-read_version_or_url-clause-refused
returns-in-Err-read_version_or_url-clause-refused g c =
    url_refusal (urls_in g.T.Pep508Url.names c.args.surroundings.now) c.args.text.now g.T.Pep508Url.tells_size
    (λ piece. g.T.Pep508Url.may_overflow piece c.args.surroundings.now) (value_of c.args.surroundings.now) c.in-Ok.read.1.now _ _ (asked_of c.in-Ok.read.0.asked) c.in-Ok.ensures.found _ c.in-Err-read_version_or_url.ensures.refused

pub returns-in-Err-read_end-clause-refused : goal.returns-in-Err-read_end-clause-refused
returns-in-Err-read_end-clause-refused g c =
    end_refusal (urls_in g.T.Pep508Url.names c.args.surroundings.now) c.args.text.now c.in-Ok.read.1.now _ _ (asked_of c.in-Ok.read.0.asked) c.in-Ok.ensures.found c.in-Ok-read_version_or_url.version_or_url c.in-Ok-read_version_or_url.ensures.found g.T.Pep508Url.tells_size
    (λ piece. g.T.Pep508Url.may_overflow piece c.args.surroundings.now) (value_of c.args.surroundings.now) _
    (subst (λ (url : List ℕ). IsEndRefusal c.args.text.now url c.in-Ok.read.1.now c.in-Err-read_end.refusal) c.written_url-url.ensures c.in-Err-read_end.ensures.refused)
