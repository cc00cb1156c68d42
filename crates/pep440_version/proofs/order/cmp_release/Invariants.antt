use Rattle.std.proofs.Common.{◌≡◌, drop}
use Rattle.pep440_version.specs.Order.{padded_cmp}
use Rattle.pep440_version.proofs.order.cmp_release.Given as goal

abbrev pub invariant-numbers : goal.invariant-numbers
invariant-numbers l = padded_cmp l.a l.b ≡ padded_cmp (drop l.i l.a) (drop l.i l.b)
