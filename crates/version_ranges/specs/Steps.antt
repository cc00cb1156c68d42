-- Functions of points that are constant between cuts, as lists: the value before all cuts, then
-- each cut with the value after it. A point is known by a test, which says before which cuts it is.
use Rattle.std.proofs.Common.{suc}
use Rattle.std.specs.Prelude.{ℕ, Bool, true, not, List, [], ◌∷◌, Option, Some, None, if◌then◌else◌, ◌&&◌}
use Rattle.std.specs.Ordering.{is_lt}
use Rattle.std.specs.declared.cmp.Ordering.{Ordering}

module _ {C V : Type 0} where
  -- the value at a point, if v is the value before all cuts
  abbrev pub value_at : (C → Bool) → V → List (C × V) → V
  value_at is_before v [] = v
  value_at is_before v (s ∷ steps) = if is_before s.0 then v else value_at is_before s.1 steps

  -- which piece a point lies in, counted from the first
  abbrev pub piece_at : (C → Bool) → List (C × V) → ℕ
  piece_at is_before [] = 0
  piece_at is_before (s ∷ steps) = if is_before s.0 then 0 else suc (piece_at is_before steps)

  -- the value after all cuts
  abbrev pub last_value : V → List (C × V) → V
  last_value v [] = v
  last_value v (s ∷ steps) = last_value s.1 steps

module _ {C : Type 0} (cmp : C → C → Ordering) where
  -- whether the place of a cut lies before another cut; `None` lies before each
  abbrev pub is_before : Option C → C → Bool
  is_before None c = true
  is_before (Some p) c = is_lt (cmp p c)

  -- the cuts ascend, and are above the place
  abbrev pub ascends : {V : Type 0} → Option C → List (C × V) → Bool
  ascends low [] = true
  ascends low (s ∷ steps) = is_before low s.0 && ascends (Some s.0) steps

module _ {C V : Type 0} (same : V → V → Bool) where
  -- neighbors differ
  abbrev pub is_merged : V → List (C × V) → Bool
  is_merged v [] = true
  is_merged v (s ∷ steps) = not (same v s.1) && is_merged s.1 steps
