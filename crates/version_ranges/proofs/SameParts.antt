-- Equal lists of cuts have equal pieces and equal intervals, and if the pieces are equal the cuts
-- are.
use Rattle.std.proofs.Common.{◌≡◌, Bool, true, cond, ◌&&◌, List, [], ◌∷◌, refl, arith}
use mathlib.Core.Bool.{beq}
use Rattle.std.proofs.lemmas.Bool.{and_parts, and_from, false≢true}
use Rattle.std.specs.declared.ops.Bound.{Bound}
use Rattle.std.specs.declared.ops.Bound.TheVariants.{Included, Excluded, Unbounded}
use Rattle.version_ranges.specs.declared.cut.Cut.{Cut}
use Rattle.version_ranges.specs.Cut.{lower_of, upper_of}
use Rattle.version_ranges.specs.Parts.{Part, parts_from, same_bound, same_part, same_parts}
use Rattle.version_ranges.specs.Intervals.{intervals_among, same_intervals}
use Rattle.version_ranges.proofs.StepLaws.{same_steps}
use Rattle.version_ranges.proofs.EqualLaws.{cut_eq}

module _ {T : Type 0} (eq : T → T → Bool) where
  -- equal cuts are equal bounds
  bounds_by : (v w : T) (a b : Bool) → eq v w ≡ true → beq a b ≡ true →
      (same_bound eq (cond a (Excluded v) (Included v)) (cond b (Excluded w) (Included w)) ≡ true) × (same_bound eq (cond a (Included v) (Excluded v)) (cond b (Included w) (Excluded w)) ≡ true)
  bounds_by v w a b h1 h2 = grind arith

  bounds_same : (c d : Cut T) → cut_eq eq c d ≡ true → (same_bound eq (lower_of c) (lower_of d) ≡ true) × (same_bound eq (upper_of c) (upper_of d) ≡ true)
  bounds_same c d e = let q = and_parts (eq c.value d.value) (beq c.above d.above) e in bounds_by c.value d.value c.above d.above q.0 q.1

  -- and the other way round
  cuts_by : (v w : T) (a b : Bool) → same_bound eq (cond a (Included v) (Excluded v)) (cond b (Included w) (Excluded w)) ≡ true → (eq v w && beq a b) ≡ true
  cuts_by v w a b h1 = grind arith

  not_open : (w : T) (b : Bool) → same_bound eq Unbounded (cond b (Included w) (Excluded w)) ≡ true → ⊥
  not_open w b h1 = grind arith

  not_closed : (w : T) (b : Bool) → same_bound eq (cond b (Included w) (Excluded w)) Unbounded ≡ true → ⊥
  not_closed w b h1 = grind arith

  module _ {V : Type 0} (same : V → V → Bool) where
    pub parts_same : (low low' : Bound T) (v w : V) (xs ys : List (Cut T × V)) → same_bound eq low low' ≡ true → same v w ≡ true → same_steps (cut_eq eq) same xs ys ≡ true →
        same_parts eq same (parts_from low v xs) (parts_from low' w ys) ≡ true
    parts_same low low' v w [] [] b s e = and_from _ _ (and_from _ _ b s) refl
    parts_same low low' v w [] (y ∷ ys) b s e = absurd (false≢true e)
    parts_same low low' v w (x ∷ xs) [] b s e = absurd (false≢true e)
    parts_same low low' v w (x ∷ xs) (y ∷ ys) b s e =
        let q = and_parts (cut_eq eq x.0 y.0 && same x.1 y.1) (same_steps (cut_eq eq) same xs ys) e in
        let r = and_parts (cut_eq eq x.0 y.0) (same x.1 y.1) q.0 in
        let k = bounds_same x.0 y.0 r.0 in
        and_from _ _ (and_from _ _ b (and_from _ _ k.1 s)) (parts_same (lower_of x.0) (lower_of y.0) x.1 y.1 xs ys k.0 r.1 q.1)

    part_parts : (p q : Part T V) → same_part eq same p q ≡ true → (same_bound eq p.upper q.upper ≡ true) × (same p.value q.value ≡ true)
    part_parts p q h1 = grind arith

    pub steps_same : (low low' : Bound T) (v w : V) (xs ys : List (Cut T × V)) → same_parts eq same (parts_from low v xs) (parts_from low' w ys) ≡ true → (same v w && same_steps (cut_eq eq) same xs ys) ≡ true
    steps_same low low' v w [] [] e =
        and_from _ _ ((part_parts (record { lower = low; upper = Unbounded; value = v }) (record { lower = low'; upper = Unbounded; value = w }) ((and_parts _ _ e).0)).1) refl
    steps_same low low' v w [] (y ∷ ys) e =
        absurd
        (not_open y.0.value y.0.above
        ((part_parts (record { lower = low; upper = Unbounded; value = v }) (record { lower = low'; upper = upper_of y.0; value = w }) ((and_parts _ _ e).0)).0))
    steps_same low low' v w (x ∷ xs) [] e =
        absurd
        (not_closed x.0.value x.0.above
        ((part_parts (record { lower = low; upper = upper_of x.0; value = v }) (record { lower = low'; upper = Unbounded; value = w }) ((and_parts _ _ e).0)).0))
    steps_same low low' v w (x ∷ xs) (y ∷ ys) e =
        let q = and_parts _ _ e in
        let r = part_parts (record { lower = low; upper = upper_of x.0; value = v }) (record { lower = low'; upper = upper_of y.0; value = w }) q.0 in
        let k = and_parts (same x.1 y.1) (same_steps (cut_eq eq) same xs ys) (steps_same (lower_of x.0) (lower_of y.0) x.1 y.1 xs ys q.1) in
        and_from _ _ r.1 (and_from _ _ (and_from _ _ (cuts_by x.0.value y.0.value x.0.above y.0.above r.0) k.0) k.1)

  -- equal pieces of sets are equal intervals
  held_by : (i j : Bound T × Bound T) (a b : Bool) (is js : List (Bound T × Bound T)) → same_bound eq i.0 j.0 ≡ true → same_bound eq i.1 j.1 ≡ true → beq a b ≡ true →
      same_intervals eq is js ≡ true → same_intervals eq (cond a (i ∷ is) is) (cond b (j ∷ js) js) ≡ true
  held_by i j a b is js h1 h2 h3 h4 = grind arith

  pub held_same : (ps qs : List (Part T Bool)) → same_parts eq beq ps qs ≡ true → same_intervals eq (intervals_among ps) (intervals_among qs) ≡ true
  held_same [] [] e = refl
  held_same [] (q ∷ qs) e = absurd (false≢true e)
  held_same (p ∷ ps) [] e = absurd (false≢true e)
  held_same (p ∷ ps) (q ∷ qs) e =
      let r = and_parts (same_part eq beq p q) (same_parts eq beq ps qs) e in
      let s = and_parts (same_bound eq p.lower q.lower) _ r.0 in
      let t = and_parts (same_bound eq p.upper q.upper) (beq p.value q.value) s.1 in
      held_by (p.lower, p.upper) (q.lower, q.upper) p.value q.value (intervals_among ps) (intervals_among qs) s.0 t.0 t.1 (held_same ps qs r.1)
