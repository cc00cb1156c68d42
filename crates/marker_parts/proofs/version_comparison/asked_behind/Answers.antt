use Rattle.marker_parts.specs.VersionComparison.{compares, lists}
use Rattle.marker_parts.proofs.AskLaws.{no_specifier}
use Rattle.marker_parts.proofs.version_comparison.asked_behind.Goals as goal

pub returns-in_default-specifier-clause-none : goal.returns-in_default-specifier-clause-none
returns-in_default-specifier-clause-none c =
    let read = rw c.in-Some.is at c.in_ok-pattern-in-Compare.ensures.found in
    rw c.in-Compare.is (no_specifier read c.in_default-specifier.ensures.none)

pub returns-in-Some-specifier-clause-found : goal.returns-in-Some-specifier-clause-found
returns-in-Some-specifier-clause-found c =
    let read = rw c.in-Some.is at c.in_ok-pattern-in-Compare.ensures.found in
    rw c.in-Compare.is (compares read c.in-Some-specifier.ensures.found)

pub returns-in-Some-2-clause-found : goal.returns-in-Some-2-clause-found
returns-in-Some-2-clause-found c = rw c.in-Among.is (lists (rw c.in-Some-2.is at c.in_ok-versions-in-Among.ensures.found))
