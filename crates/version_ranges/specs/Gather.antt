-- The values of a function, each with the set of the points that have it.
use Rattle.std.specs.Prelude.{◌≡◌, ℕ, Bool, true, not, List, [], ◌∷◌, ◌++◌, None, Some, length, map, filter, slice_get, eqb, if◌then◌else◌}
use mathlib.Core.Bool.{beq}
use Rattle.std.specs.List.{list_any}
use Rattle.std.specs.Borrow.{Bor}
use Rattle.std.specs.declared.cmp.Ordering.{Ordering}
use Rattle.std.specs.declared.cmp.Ordering.TheVariants.{Equal}
use Rattle.version_ranges.specs.declared.cut.Cut.{Cut}
use Rattle.version_ranges.specs.declared.cuts.Cuts.{Cuts}
use Rattle.version_ranges.specs.declared.ranges.Ranges.{Ranges}
use Rattle.version_ranges.specs.Bounds.{IsKeptByClones, all_sets}
use Rattle.version_ranges.specs.Point.{Point}
use Rattle.version_ranges.specs.Cut.{cut_cmp}
use Rattle.version_ranges.specs.Cuts.{value_of}
use Rattle.version_ranges.specs.Ranges.{contains_point}
use Rattle.version_ranges.specs.Parts.{parts_of}
use Rattle.version_ranges.specs.Steps.{ascends, last_value}

-- the values of a list, each at its first place
abbrev pub first_seen : {V : Type 0} → (V → V → Bool) → List V → List V
first_seen same [] = []
first_seen same (v ∷ vs) = v ∷ filter (λ w. not (same v w)) (first_seen same vs)

module _ {T V : Type 0} {a : _} {b : _} {c : _} {a' : _} {b' : _} {c' : _}
    (cmp : T → T → Ordering) (same : V → V → Bool) where
  -- these pairs are the values of a function, each with the set of the points that have it
  pub record IsGathered (cuts : Cuts T V a b c)
      (pairs : List (Bor V × Ranges T a' b' c')) : Type 0 where
    -- the values of the pieces, in order, each at its first place
    pub values : map (λ q. q.0.now) pairs ≡
        first_seen same (map (λ part. part.value) (parts_of cuts))
    -- the set of a value has the points at which the function has it
    pub sets : (i : ℕ) (q : Bor V × Ranges T a' b' c') → slice_get pairs i ≡ Some q →
        (p : Point T) → contains_point cmp q.1 p ≡ same q.0.now (value_of cmp cuts p)
    -- the value of each point is in the list
    pub covers : (p : Point T) → (i : ℕ) × (q : Bor V × Ranges T a' b' c') ×
        (slice_get pairs i ≡ Some q) × (same q.0.now (value_of cmp cuts p) ≡ true)
    -- and no value is there twice
    pub apart : (i j : ℕ) (q r : Bor V × Ranges T a' b' c') →
        slice_get pairs i ≡ Some q → slice_get pairs j ≡ Some r →
        same q.0.now r.0.now ≡ true → i ≡ j

-- a value is at a place of a list, if key reads it
abbrev pub IsPlace : {V Q : Type 0} → (V → V → Bool) → (Q → V) → List Q → ℕ → V → Type 0
IsPlace {Q = Q} same key pairs i v =
    (q : Q) × (slice_get pairs i ≡ Some q) × (same v (key q) ≡ true)

module _ {T V : Type 0} {a : _} {b : _} {c : _} where
  -- one value inside a set, and another one outside
  abbrev pub IsSplitBy : (T → T → Ordering) → (V → V → Bool)
      → Ranges T a b c → V → V → Cuts T V a b c → Type 0
  IsSplitBy cmp same set inside outside f = (p : Point T)
      → same (value_of cmp f p) (if contains_point cmp set p then inside else outside) ≡ true

  -- these pairs, and one more if its value is new
  abbrev pub joined : (V → V → Bool) → List (Bor V × Ranges T a b c)
      → Bor V × Ranges T a b c → List (Bor V × Ranges T a b c)
  joined same pairs p =
      if list_any (λ q. same p.0.now q.0.now) pairs then pairs else pairs ++ p ∷ []

module _ {T : Type 0} {a : _} {b : _} {c : _} where
  -- the cuts of a set, and a later one, from which on the points are in it that were not
  abbrev pub with_turn : Ranges T a b c → Cut T → List (Cut T × Bool)
  with_turn set cut = set.cuts.rest.items ++
      (cut, not (last_value set.cuts.first set.cuts.rest.items)) ∷ []

module _ {T : Type 0} {a : _} {b : _} {c : _} (cmp : T → T → Ordering) where
  -- a cut is after all cuts of a set
  abbrev pub IsPast : Ranges T a b c → Cut T → Type 0
  IsPast set cut = ascends (cut_cmp cmp) None (set.cuts.rest.items ++ (cut, true) ∷ []) ≡ true

  -- after all cuts of each of these sets
  abbrev pub ArePast : {V : Type 0} → List (Bor V × Ranges T a b c) → Cut T → Type 0
  ArePast {V = V} pairs cut =
      (i : ℕ) (q : Bor V × Ranges T a b c) → slice_get pairs i ≡ Some q → IsPast q.1 cut

  -- one set is another one, and if `turns` ends or begins at a cut too
  pub record IsTurned (turns : Bool) (cut : Cut T) (old new : Ranges T a b c) : Type 0 where
    pub first : new.cuts.first ≡ old.cuts.first
    pub rest : (d : Cut T) × (cut_cmp cmp cut d ≡ Equal) ×
        (new.cuts.rest.items ≡ (if turns then with_turn old d else old.cuts.rest.items))

  -- the sets at two places end or begin at a cut if the places differ, and all else stays
  pub record AreTurned {V : Type 0} (from to : ℕ) (cut : Cut T)
      (old new : List (Bor V × Ranges T a b c)) : Type 0 where
    pub len : length new ≡ length old
    pub each : (i : ℕ) (q r : Bor V × Ranges T a b c)
        → slice_get old i ≡ Some q → slice_get new i ≡ Some r
        → (r.0 ≡ q.0) × IsTurned (not (beq (eqb i from) (eqb i to))) cut q.1 r.1

-- each bound of these sets is one of theirs before, or at a clone of the value of a cut
abbrev pub KeepsSets : {T V : Type 0} {a : _} {b : _} {c : _} → (T → T → Type 0) → Cut T
    → List (Bor V × Ranges T a b c) → List (Bor V × Ranges T a b c) → Type 0
KeepsSets {T = T} C cut old new = (test : T → Bool) → IsKeptByClones C test
    → test cut.value ≡ true → all_sets test old ≡ true → all_sets test new ≡ true
