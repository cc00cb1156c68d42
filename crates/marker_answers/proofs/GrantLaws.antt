-- Truths where something is granted.
use Rattle.std.proofs.Common.{◌≡◌, Bool, false, true, List, ℕ, refl, sym, ◌∙◌}
use Rattle.std.specs.declared.ops.Bound.{Bound}
use Rattle.std.proofs.lemmas.Bool.{true≢false}
use Rattle.version_ranges.specs.Clamp.{IsBetween, IsBare}
use Rattle.version_ranges.specs.Point.{begin_point}
use Rattle.pep440_version.specs.Order.{version_cmp}
use Rattle.pep440_version.specs.Parts.{Parts}
use Rattle.marker_environment.specs.Valuation.{Valuation}
use Rattle.marker_nodes.specs.Python.{with_python}
use Rattle.marker_simplifications.specs.Extras.{grant}
use Rattle.marker_simplifications.specs.Python.{Assumes}
use Rattle.marker_walks.specs.Possible.{is_listed}
use Rattle.marker_answers.specs.Simplified.{GrantsBy}

-- what is taken for granted of a truth is taken for granted of one that is the same everywhere
pub assumes_same : (lower upper : Bound Parts) (f g h : Valuation → Bool) → ((v : Valuation) → f v ≡ g v) → Assumes lower upper f h → Assumes lower upper g h
assumes_same lower upper f g h e a = record {
  inside = λ v i. a.inside v i ∙ e v;
  below = λ p b v i. a.below p b v i ∙ e (with_python (begin_point lower) v);
  above = λ p b v i. let q = a.above p b v i in (q.0, q.1, λ r c j. q.2 r c j ∙ e (with_python r v));
  empty = a.empty;
}

-- where the range is not required
pub granted_else : (f : Valuation → Bool) (lower upper : Bound Parts) (required : Bool) (extras : List (List ℕ)) (g : Valuation → Bool) → required ≡ false →
    Assumes lower upper (grant (is_listed extras) f) g → GrantsBy required f lower upper extras g
granted_else f lower upper true extras g e a = absurd (true≢false e)
granted_else f lower upper false extras g e a = a

-- a truth that is told apart from one that is false is true
pub other_is_true : (a b : Bool) → b ≡ false → (a ≡ b → ⊥) → a ≡ true
other_is_true true b e d = refl
other_is_true false b e d = absurd (d (sym e))
