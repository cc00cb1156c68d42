use Rattle.pep440_version.proofs.Patterns.{one_version}
use Rattle.pep440_version.proofs.version.Version.parse.Goals as goal

pub returns-in-Some-clause-only : goal.returns-in-Some-clause-only
returns-in-Some-clause-only c = λ v says.
    let read = rw c.in-Some.is at c.in_ok-version.ensures.found in
    one_version _ c.in-Some.version v read says

pub returns-in_ok-of_version-in-None-clause-only : goal.returns-in_ok-of_version-in-None-clause-only
returns-in_ok-of_version-in-None-clause-only c = λ v says.
    let none = rw c.in-None.is at c.in_ok-version.ensures.none in
    absurd (none v says)
