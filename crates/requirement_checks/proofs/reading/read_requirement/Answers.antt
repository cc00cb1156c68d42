use Rattle.std.proofs.Common.{sym, ◌∙◌}
use Rattle.requirement_checks.proofs.ReadingLaws.{refused_so, read_without}
use Rattle.requirement_checks.proofs.reading.read_requirement.Goals as goal

pub returns-then-needs_name-clause-read : goal.returns-then-needs_name-clause-read
returns-then-needs_name-clause-read g c =
    let needs = refused_so g.T.Pep508Url.names g.T.Pep508Url.tells_size g.T.Pep508Url.may_overflow g.T.UnnamedRequirementUrl.given_text c.args.surroundings.now c.read_named.new.interner c.args.text.now c.in_ok-reading.reading c.in_ok-reading.ensures.read (sym c.needs_name.ensures ∙ c.if-needs_name.true) in
    read_without g.T.Pep508Url.names g.T.Pep508Url.tells_size g.T.Pep508Url.may_overflow g.T.UnnamedRequirementUrl.given_text c.args.surroundings.now c.read_unnamed.new.interner c.args.text.now c.read_unnamed.result needs c.read_unnamed.ensures.read
