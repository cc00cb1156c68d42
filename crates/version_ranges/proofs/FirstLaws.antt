-- The value of the first piece.
use Rattle.std.proofs.Common.{◌≡◌, ◌∙◌, List, [], ◌∷◌, refl, sym, ap, cond}
use Rattle.std.specs.declared.cmp.Ordering.{Ordering}
use Rattle.version_ranges.specs.declared.cut.Cut.{Cut}
use Rattle.version_ranges.specs.declared.cuts.Cuts.{Cuts}
use Rattle.version_ranges.specs.Point.{bottom}
use Rattle.version_ranges.specs.Cut.{stands_before}
use Rattle.version_ranges.specs.Steps.{value_at}
use Rattle.version_ranges.specs.Cuts.{IsValueOfPiece, value_by}
use Rattle.version_ranges.proofs.FunctionLaws.{first_piece}
use Rattle.version_ranges.proofs.PointLaws.{bottom_before}

before_all : {T K V : Type 0} (f : T → K) (cmp : K → K → Ordering) (first : V) (xs : List (Cut T × V)) → value_at (stands_before f cmp bottom) first xs ≡ first
before_all f cmp first [] = refl
before_all f cmp first (x ∷ xs) = ap (λ b. cond b first (value_at (stands_before f cmp bottom) x.1 xs)) (bottom_before cmp (f x.0.value) x.0.above)

-- below all values a function has the value of its first piece, whatever the names of values
pub first_at_bottom : {T K V : Type 0} (f : T → K) (cmp : K → K → Ordering) (own : T → T → Ordering) {a : _} {b : _} {c : _} (cuts : Cuts T V a b c) (value : V) → IsValueOfPiece own cuts 0 value → value_by f cmp cuts bottom ≡ value
first_at_bottom f cmp own cuts value is =
    before_all f cmp cuts.first cuts.rest.items ∙ sym (before_all (λ v. v) own cuts.first cuts.rest.items) ∙ is bottom (first_piece (λ v. v) own cuts)
