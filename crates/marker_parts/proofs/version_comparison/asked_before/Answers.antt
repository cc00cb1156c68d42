use Rattle.marker_parts.specs.VersionComparison.{compares_before}
use Rattle.marker_parts.proofs.AskLaws.{no_plain_specifier}
use Rattle.marker_parts.proofs.version_comparison.asked_before.Goals as goal

pub returns-in_default-plain_specifier-clause-none : goal.returns-in_default-plain_specifier-clause-none
returns-in_default-plain_specifier-clause-none c =
    let read = rw c.in-Some.is at c.in_ok-version-in-Compare.ensures.found in
    rw c.in-Compare.is (no_plain_specifier read c.in_default-plain_specifier.ensures.none)

pub returns-in-Some-plain_specifier-clause-found : goal.returns-in-Some-plain_specifier-clause-found
returns-in-Some-plain_specifier-clause-found c =
    let read = rw c.in-Some.is at c.in_ok-version-in-Compare.ensures.found in
    rw c.in-Compare.is (compares_before read c.in-Some-plain_specifier.ensures.found)
