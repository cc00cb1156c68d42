use Rattle.std.proofs.Common.{◌≡◌, ◌≤◌, length, take}
use Rattle.pep440_version.specs.Order.{significant}
use Rattle.pep440_version.proofs.order.significant.Given as goal

abbrev pub invariant-zeros : goal.invariant-zeros
invariant-zeros l = (l.len ≤ length l.release) × (significant (take l.len l.release) ≡ significant l.release)

abbrev pub decreases-zeros : goal.decreases-zeros
decreases-zeros l = l.len
