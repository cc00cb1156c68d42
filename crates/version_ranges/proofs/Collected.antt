-- What the loop of `gather` keeps, and what it leaves.
use Rattle.std.proofs.Common.{◌≡◌, ℕ, ◌+◌, ◌<◌, ◌≤◌, Bool, true, false, not, cond, List, [], ◌∷◌, ◌++◌, map, take, length, get_or, Some, None, refl, sym, ap, ◌∙◌, subst, slice_get, eqb}
use mathlib.Core.Bool.{beq}
use Rattle.std.specs.List.{list_any}
use Rattle.std.specs.Borrow.{Bor}
use Rattle.std.specs.declared.cmp.Ordering.{Ordering}
use Rattle.std.specs.declared.ops.Bound.{Bound}
use Rattle.std.specs.declared.ops.Bound.TheVariants.{Unbounded}
use Rattle.std.specs.Cmp.{IsTotalOrder, IsEquivalence}
use Rattle.std.proofs.lemmas.Bool.{eqb-true}
use Rattle.std.proofs.lemmas.List.{take_all}
use Rattle.version_ranges.specs.declared.cut.Cut.{Cut}
use Rattle.version_ranges.specs.declared.cuts.Cuts.{Cuts}
use Rattle.version_ranges.specs.declared.ranges.Ranges.{Ranges}
use Rattle.version_ranges.specs.Point.{Point}
use Rattle.version_ranges.specs.Cut.{cut_cmp, stands_before, lower_of}
use Rattle.version_ranges.specs.Steps.{ascends, last_value, value_at}
use Rattle.version_ranges.specs.Parts.{parts_from}
use Rattle.version_ranges.specs.Gather.{first_seen, IsGathered, IsPast, IsPlace, IsTurned}
use Rattle.version_ranges.proofs.PointLaws.{cut_total, place, value_at_place}
use Rattle.version_ranges.proofs.Seen.{found_seen, found_place, seen_apart, AreApart}
use Rattle.version_ranges.proofs.Gathers.{sees_value}
use Rattle.version_ranges.proofs.Merges.{last_value_append}
use Rattle.version_ranges.proofs.Places.{Gathers, any_key, placed, all_past, turned, turned_place, keys_kept, places_apart}
use Rattle.version_ranges.proofs.Turns.{prefix_more, taken_ascends, stays, value_found}

-- the values of the pieces
part_values : {T V : Type 0} (low : Bound T) (v : V) (xs : List (Cut T × V)) → map (λ part. part.value) (parts_from low v xs) ≡ v ∷ map (λ x. x.1) xs
part_values low v [] = refl
part_values low v (x ∷ xs) = ap (λ l. v ∷ l) (part_values (lower_of x.0) x.1 xs)

module _ {T V : Type 0} {a : _} {b : _} {c : _} (cmp : T → T → Ordering) (same : V → V → Bool) where
  -- the values of the steps xs, each with its set
  abbrev pub IsHeld : List V → V → List (Cut T × V) → List (Bor V × Ranges T a b c) → Type 0
  IsHeld seen v xs pairs = Gathers (cut_cmp cmp) same (λ q. q.0.now) (λ q. q.1.cuts.first) (λ q. q.1.cuts.rest.items) seen v xs pairs

  -- what the loop keeps after the first i steps
  abbrev pub Kept : V → List (Cut T × V) → ℕ → List (Bor V) → List (Bor V × Ranges T a b c) → ℕ → Type 0
  Kept v steps i keys pairs current =
      (keys ≡ map (λ q. q.0) pairs) × IsHeld (v ∷ map (λ y. y.1) (take i steps)) v (take i steps) pairs × IsPlace same (λ q. q.0.now) pairs current (last_value v (take i steps))

  module _ (o : IsTotalOrder cmp) (s : IsEquivalence same) where
    module _ (v : V) (steps items : List (Cut T × V)) (items_are : items ≡ steps) (rises : ascends (cut_cmp cmp) None steps ≡ true) (i : ℕ) (x : Cut T × V) (within : i < length items) (read : x ≡ get_or items i x) (none : Ranges T a b c) (first_is : none.cuts.first ≡ false) (rest_is : none.cuts.rest.items ≡ []) where
      prefix : take (i + 1) items ≡ take i items ++ x ∷ []
      prefix = prefix_more items i x within read

      prefix_rises : ascends (cut_cmp cmp) None (take i items ++ x ∷ []) ≡ true
      prefix_rises = ap (ascends (cut_cmp cmp) None) (sym prefix) ∙ taken_ascends (cut_cmp cmp) items None (i + 1) (ap (ascends (cut_cmp cmp) None) items_are ∙ rises)

      module _ (w : Bor V) (keys : List (Bor V)) (old mid : List (Bor V × Ranges T a b c)) (current : ℕ) (k : Kept v items i keys old current) (joined : mid ≡ cond (list_any (λ q. same w.now q.0.now) old) old (old ++ (w, none) ∷ [])) (value_is : w.now ≡ x.1) where
        held_mid : IsHeld (v ∷ map (λ y. y.1) (take i items ++ x ∷ [])) v (take i items) mid
        held_mid =
            placed (cut_total o) s (λ q. q.0.now) (λ q. q.1.cuts.first) (λ q. q.1.cuts.rest.items) v (take i items) x (w, none) old mid k.1 value_is first_is rest_is
            (joined ∙ ap (λ u. cond (list_any (λ q. same u q.0.now) old) old (old ++ (w, none) ∷ [])) value_is)

        -- the place of the value before, once the next one has joined
        pub kept_place : IsPlace same (λ q. q.0.now) mid current (last_value v (take i items))
        kept_place = (k.2.0, stays (list_any (λ q. same w.now q.0.now) old) old mid (w, none) joined current k.2.0 k.2.1, k.2.2)

        pub kept_past : (j : ℕ) (q : Bor V × Ranges T a b c) → slice_get mid j ≡ Some q → IsPast cmp q.1 x.0
        kept_past = all_past (cut_total o) s (λ q. q.0.now) (λ q. q.1.cuts.first) (λ q. q.1.cuts.rest.items) _ v (take i items) x mid held_mid prefix_rises

        pub kept_step : (keys' : List (Bor V)) (new : List (Bor V × Ranges T a b c)) (next : ℕ) → keys' ≡ map (λ q. q.0) mid → IsPlace same (λ q. q.0.now) mid next w.now → length new ≡ length mid →
            ((j : ℕ) (q r : Bor V × Ranges T a b c) → slice_get mid j ≡ Some q → slice_get new j ≡ Some r → (r.0 ≡ q.0) × IsTurned cmp (not (beq (eqb j current) (eqb j next))) x.0 q.1 r.1) → Kept v items (i + 1) keys' new next
        kept_step keys' new next keys_are found same_length each =
            let ends : IsPlace same (λ q. q.0.now) mid next x.1 = (found.0, found.1, ap (λ u. same u found.0.0.now) (sym value_is) ∙ found.2) in
            let after = turned (cut_total o) s (λ q. q.0.now) (λ q. q.1.cuts.first) (λ q. q.1.cuts.rest.items) _ v (take i items) x mid new current next held_mid kept_place ends same_length (λ j q r e f. let t = each j q r e f in (ap (λ u. u.now) t.0, t.1.first, t.1.rest.0, t.1.rest.1, t.1.rest.2)) in
            let place_after = turned_place (cut_total o) s (λ q. q.0.now) (λ q. q.1.cuts.first) (λ q. q.1.cuts.rest.items) _ v (take i items) x mid new current next held_mid kept_place ends same_length (λ j q r e f. let t = each j q r e f in (ap (λ u. u.now) t.0, t.1.first, t.1.rest.0, t.1.rest.1, t.1.rest.2)) in (
              keys_are ∙ sym (keys_kept (λ q. q.0) mid new same_length (λ j q r e f. (each j q r e f).0)),
              subst (λ l. IsHeld (v ∷ map (λ y. y.1) l) v l new) (sym prefix) after,
              (place_after.0, place_after.1, ap (λ u. same u place_after.0.0.now) (ap (last_value v) prefix ∙ last_is (take i items)) ∙ place_after.2),
            )
          where
            last_is : (ys : List (Cut T × V)) → last_value v (ys ++ x ∷ []) ≡ x.1
            last_is ys = last_value_append v ys x

    module _ {a' : _} {b' : _} {c' : _} (cuts : Cuts T V a' b' c') (items : List (Cut T × V)) (items_are : items ≡ cuts.rest.items) (rises : ascends (cut_cmp cmp) None cuts.rest.items ≡ true) (i : ℕ) (keys : List (Bor V)) (pairs : List (Bor V × Ranges T a b c)) (current : ℕ) (k : Kept cuts.first items i keys pairs current) (end : length items ≤ i) where
      all_steps : take i items ≡ cuts.rest.items
      all_steps = take_all i items end ∙ items_are

      intervals_among : IsHeld (cuts.first ∷ map (λ y. y.1) cuts.rest.items) cuts.first cuts.rest.items pairs
      intervals_among = subst (λ l. IsHeld (cuts.first ∷ map (λ y. y.1) l) cuts.first l pairs) all_steps k.1

      value_held : (p : Point T) → (j : ℕ) × (q : Bor V × Ranges T a b c) × (slice_get pairs j ≡ Some q) × (same q.0.now (value_at (stands_before (λ v. v) cmp p) cuts.first cuts.rest.items) ≡ true)
      value_held p =
          let u = value_at (stands_before (λ v. v) cmp p) cuts.first cuts.rest.items in
          let f = found_place (λ q. same u q.0.now) pairs
          (any_key (λ q. q.0.now) (same u) pairs ∙ ap (list_any (same u)) intervals_among.values ∙ found_seen s u (cuts.first ∷ map (λ y. y.1) cuts.rest.items) ∙ value_found (same u) (stands_before (λ v. v) cmp p) cuts.first cuts.rest.items (s.refl u)) in
          (f.0, f.1, f.2, s.symm f.1.0.now u ∙ f.3)

      pub gathered : IsGathered cmp same cuts pairs
      gathered = record {
        values = intervals_among.values ∙ ap (first_seen same) (sym (part_values Unbounded cuts.first cuts.rest.items));
        sets = λ j q e p.
            let h = intervals_among.sets j q e in
            value_at_place cmp q.1.cuts.first q.1.cuts.rest.items p ∙ sees_value same q.0.now (cut_total o) cuts.first cuts.rest.items q.1.cuts.first q.1.cuts.rest.items rises h.0 h.1 (place p)
            ∙ ap (same q.0.now) (sym (value_at_place cmp cuts.first cuts.rest.items p));
        covers = value_held;
        apart = λ j l q r e f h. eqb-true j l (places_apart (λ q. q.0.now) s pairs j l q r (subst (AreApart same) (sym intervals_among.values) (seen_apart same (cuts.first ∷ map (λ y. y.1) cuts.rest.items))) e f ∙ h);
      }
