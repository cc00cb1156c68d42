-- A borrowed function, as a function of points.
use Rattle.std.specs.Prelude.{◌≡◌, ℕ, ◌+◌, Bool, true, length}
use Rattle.std.specs.List.{list_all}
use Rattle.std.specs.declared.cmp.Ordering.{Ordering}
use Rattle.version_ranges.specs.declared.cut.Cut.{Cut}
use Rattle.version_ranges.specs.declared.cuts.Cuts.{Cuts}
use Rattle.version_ranges.specs.declared.lent.CutsRef.{CutsRef}
use Rattle.version_ranges.specs.Bounds.{IsKeptByClones, all_cuts}
use Rattle.version_ranges.specs.Cut.{stands_before}
use Rattle.version_ranges.specs.Point.{Point}
use Rattle.version_ranges.specs.Steps as steps

module _ {T V : Type 0} {a : _} {b : _} {c : _} where
  -- the value at a point that is known by a test, which says before which cuts it is
  abbrev pub value_at : (Cut T → Bool) → CutsRef T V a b c → V
  value_at is_before lent = steps.value_at is_before lent.first.now lent.rest.now

  -- the value at a point, if the values of the order have the names that f gives them, which cmp
  -- orders
  abbrev pub value_by :
      {K : Type 0} → (T → K) → (K → K → Ordering) → CutsRef T V a b c → Point K → V
  value_by f cmp lent p = value_at (stands_before f cmp p) lent

  -- the value at a point
  abbrev pub value_of : (T → T → Ordering) → CutsRef T V a b c → Point T → V
  value_of cmp lent p = value_by (λ v. v) cmp lent p

  -- how many pieces there are
  abbrev pub piece_count : CutsRef T V a b c → ℕ
  piece_count lent = length lent.rest.now + 1

  -- the function has the value at each point, by whatever names
  abbrev pub HasValueEverywhere : V → CutsRef T V a b c → Type 0
  HasValueEverywhere v lent = (is_before : Cut T → Bool) → value_at is_before lent ≡ v

  -- the borrowed function has the values of another one at each point, by whatever names
  abbrev pub IsLent : Cuts T V a b c → CutsRef T V a b c → Type 0
  IsLent cuts lent = (is_before : Cut T → Bool)
      → value_at is_before lent ≡ steps.value_at is_before cuts.first cuts.rest.items

  -- whether the value of each cut passes a test
  abbrev pub all_lent_cuts : (T → Bool) → CutsRef T V a b c → Bool
  all_lent_cuts test lent = list_all (λ s. test s.0.value) lent.rest.now

module _ {T V W X : Type 0} {a : _} {b : _} {c : _} where
  -- each cut of a function is at a clone of a value of one of two borrowed ones, as far as tests
  -- can distinguish
  abbrev pub KeepsLentCuts : (T → T → Type 0)
      → CutsRef T V a b c → CutsRef T W a b c → Cuts T X a b c → Type 0
  KeepsLentCuts C left right new = (test : T → Bool) → IsKeptByClones C test
      → all_lent_cuts test left ≡ true → all_lent_cuts test right ≡ true → all_cuts test new ≡ true
