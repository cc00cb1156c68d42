-- Bounds at versions that the order ties have the same points between them.
use Rattle.std.proofs.Common.{◌≡◌, ◌&&◌, not, Bool, refl, ap, ◌∙◌, arith}
use Rattle.std.specs.Cmp.{alike_right, tied_itself}
use Rattle.std.specs.Ordering.{eq_by_cmp, is_eq, ordering_then}
use Rattle.std.specs.Set.{ClonesAreEqual}
use Rattle.std.specs.declared.cmp.Ordering.{Ordering}
use Rattle.std.specs.declared.cmp.Ordering.TheVariants.{Less, Equal, Greater}
use Rattle.std.specs.declared.ops.Bound.{Bound}
use Rattle.version_ranges.specs.Point.{Point, above, at, bottom, is_from, is_in_bounds, is_until, point_cmp}
use Rattle.pep440_version.specs.Order.{version_cmp}
use Rattle.pep440_version.specs.OrderLaws.{version_total}
use Rattle.pep440_version.specs.Parts.{Parts}
use Rattle.pep440_rs.specs.Intervals.{IsSameBound}

-- each point has the same order to equal values
at-tied : (p : Point Parts) (v w : Parts) → version_cmp v w ≡ Equal → point_cmp version_cmp p (at v) ≡ point_cmp version_cmp p (at w)
at-tied bottom v w e = refl
at-tied (at u) v w e = alike_right version_total v w u e
at-tied (above u) v w e = ap (λ (o : Ordering). ordering_then o Greater) (alike_right version_total v w u e)

above-tied : (p : Point Parts) (v w : Parts) → version_cmp v w ≡ Equal → point_cmp version_cmp p (above v) ≡ point_cmp version_cmp p (above w)
above-tied bottom v w e = refl
above-tied (at u) v w e = ap (λ (o : Ordering). ordering_then o Less) (alike_right version_total v w u e)
above-tied (above u) v w e = alike_right version_total v w u e

from-same : (a b : Bound Parts) (p : Point Parts) → IsSameBound a b → is_from version_cmp a p ≡ is_from version_cmp b p
from-same a b p h1 = grind (arith, not, at-tied, above-tied)

until-same : (a b : Bound Parts) (p : Point Parts) → IsSameBound a b → is_until version_cmp a p ≡ is_until version_cmp b p
until-same a b p h1 = grind (arith, above-tied, at-tied)

pub between-same : (a b c d : Bound Parts) (p : Point Parts) → IsSameBound a c → IsSameBound b d → is_in_bounds version_cmp a b p ≡ is_in_bounds version_cmp c d p
between-same a b c d p lower upper =
    ap (λ (t : Bool). t && is_until version_cmp b p) (from-same a c p lower) ∙ ap (λ (t : Bool). is_from version_cmp c p && t) (until-same b d p upper)

-- a clone of a version is equal to it
pub version_clones : ClonesAreEqual (eq_by_cmp version_cmp) (λ v w. w ≡ v)
version_clones v w e = ap (λ (u : Parts). is_eq (version_cmp v u)) e ∙ ap is_eq (tied_itself version_total v)
