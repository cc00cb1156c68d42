use Rattle.pep440_version.proofs.Patterns.{one_pattern}
use Rattle.pep440_version.proofs.pattern.VersionPattern.parse.Goals as goal

pub returns-in-Some-clause-only : goal.returns-in-Some-clause-only
returns-in-Some-clause-only c = λ v star says.
    let read = rw c.in-Some.is at c.in_ok-pattern.ensures.found in
    one_pattern _ c.in-Some.pattern.version v c.in-Some.pattern.wildcard star read says

pub returns-in_ok-of_pattern-in-None-clause-only : goal.returns-in_ok-of_pattern-in-None-clause-only
returns-in_ok-of_pattern-in-None-clause-only c = λ v star says.
    let none = rw c.in-None.is at c.in_ok-pattern.ensures.none in
    absurd (none v star says)
