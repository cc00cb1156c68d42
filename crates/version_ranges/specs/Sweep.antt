-- What the sweeps over cuts give, step by step: for the contracts of private functions.
use Rattle.std.specs.Prelude.{◌≡◌, ℕ, ◌+◌, Bool, List, [], ◌∷◌, length, map, if◌then◌else◌}
use Rattle.std.specs.Ordering.{match_ordering}
use Rattle.std.specs.declared.cmp.Ordering.{Ordering}
use Rattle.version_ranges.specs.declared.cut.Cut.{Cut}
use Rattle.version_ranges.specs.declared.sweep.Sweep.{Sweep}
use Rattle.version_ranges.specs.Cut.{cut_cmp}

module _ {C V W : Type 0} (cmp : C → C → Ordering) where
  -- x and the steps after it, which `more` overlays, with the steps ys
  abbrev pub overlay_step : V → (C × V)
      → (W → List (C × W) → List (C × (V × W))) → W → List (C × W) → List (C × (V × W))
  overlay_step v x more w [] = (x.0, (x.1, w)) ∷ more w []
  overlay_step v x more w (y ∷ ys) =
      match_ordering (cmp x.0 y.0)
      ((x.0, (x.1, w)) ∷ more w (y ∷ ys))
      ((x.0, (x.1, y.1)) ∷ more y.1 ys)
      ((y.0, (v, y.1)) ∷ overlay_step v x more y.1 ys)

  -- both functions side by side
  abbrev pub overlay : V → List (C × V) → W → List (C × W) → List (C × (V × W))
  overlay v [] w ys = map (λ y. (y.0, (v, y.1))) ys
  overlay v (x ∷ xs) w ys = overlay_step v x (overlay x.1 xs) w ys

module _ {T V W : Type 0} where
  -- how many cuts of both functions a sweep has left
  abbrev pub cuts_left : Sweep T V W → ℕ
  cuts_left s = length s.lefts.now + length s.rights.now

  -- what a sweep has left of both functions side by side
  abbrev pub steps_left : (T → T → Ordering) → Sweep T V W → List (Cut T × (V × W))
  steps_left cmp s = overlay (cut_cmp cmp) s.left.now s.lefts.now s.right.now s.rights.now

  -- a sweep passes its next cut, and has the values from it on
  abbrev pub Passes : (T → T → Ordering) → Cut T → Sweep T V W → Sweep T V W → Type 0
  Passes cmp cut old new =
      steps_left cmp old ≡ (cut, (new.left.now, new.right.now)) ∷ steps_left cmp new

-- the steps, without those that change nothing
abbrev pub merge_steps : {C V : Type 0} → (V → V → Bool) → V → List (C × V) → List (C × V)
merge_steps same v [] = []
merge_steps same v (s ∷ steps) =
    if same v s.1 then merge_steps same v steps else s ∷ merge_steps same s.1 steps

-- the steps with other values
abbrev pub relabel : {C V W : Type 0} → List (C × V) → List W → List (C × W)
relabel [] ws = []
relabel (s ∷ steps) [] = []
relabel (s ∷ steps) (w ∷ ws) = (s.0, w) ∷ relabel steps ws
