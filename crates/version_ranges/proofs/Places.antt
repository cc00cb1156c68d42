-- For `Cuts::gather`: after each step its list has the values seen so far, each with the set of the
-- points that have it; and the place of a value in that list.
use Rattle.std.proofs.Common.{◌≡◌, ℕ, zero, suc, Bool, true, false, not, cond, ◌||◌, List, [], ◌∷◌, ◌++◌, map, length, Some, None, refl, sym, ap, ◌∙◌, subst, slice_get, eqb, pred, inl, inr, ◌⊎◌, arith}
use mathlib.Core.Bool.{beq}
use Rattle.std.specs.Ordering.{ordering_reverse}
use Rattle.std.specs.List.{list_any}
use Rattle.std.specs.declared.cmp.Ordering.{Ordering}
use Rattle.std.specs.declared.cmp.Ordering.TheVariants.{Equal}
use Rattle.std.specs.Cmp.{IsTotalOrder, IsEquivalence}
use Rattle.std.proofs.lemmas.Bool.{true≢false}
use Rattle.std.proofs.Math.Dec.{eqb-suc-suc, eqb-suc-zero, eqb-zero-suc}
use Rattle.std.proofs.Math.Nat.{suc-ne-zero}
use Rattle.std.proofs.lemmas.Cmp.{tied_itself}
use Rattle.std.proofs.lemmas.List.{map-append}
use Rattle.version_ranges.specs.Steps.{ascends, last_value}
use Rattle.version_ranges.specs.Gather.{first_seen, IsPlace}
use Rattle.version_ranges.proofs.StepLaws.{Alike, alike_ascends}
use Rattle.version_ranges.proofs.PieceLaws.{same_some, none_some}
use Rattle.version_ranges.proofs.Seen.{found_seen, seen_more, seen_apart, AllDiffer, AreApart}
use Rattle.version_ranges.proofs.Gathers.{sees, sees_last, sees_more, sees_none, sees_past, last_alike, alike_more}

module _ {V Q : Type 0} (key : Q → V) where
  pub any_key : (test : V → Bool) (qs : List Q) → list_any (λ q. test (key q)) qs ≡ list_any test (map key qs)
  any_key test [] = refl
  any_key test (q ∷ qs) = ap (λ b. test (key q) || b) (any_key test qs)

  all_at : (same : V → V → Bool) (v : V) (qs : List Q) (i : ℕ) (q : Q) → AllDiffer same v (map key qs) → slice_get qs i ≡ Some q → same v (key q) ≡ false
  all_at same v [] i q a e = none_some q e
  all_at same v (x ∷ qs) zero q a e = ap (λ y. same v (key y)) (sym (same_some x q e)) ∙ a.0
  all_at same v (x ∷ qs) (suc i) q a e = all_at same v qs i q a.1 e

  -- places are equal if their keys are
  module _ {same : V → V → Bool} (s : IsEquivalence same) where
    pub places_apart : (qs : List Q) (i j : ℕ) (q r : Q) → AreApart same (map key qs) → slice_get qs i ≡ Some q → slice_get qs j ≡ Some r → eqb i j ≡ same (key q) (key r)
    places_apart [] i j q r a e f = none_some q e
    places_apart (x ∷ qs) zero zero q r a e f = sym (s.refl (key q)) ∙ ap (λ y. same (key q) (key y)) (same_some q r (sym e ∙ f))
    places_apart (x ∷ qs) zero (suc j) q r a e f = eqb-zero-suc j ∙ sym (ap (λ y. same (key y) (key r)) (sym (same_some x q e)) ∙ all_at same (key x) qs j r a.0 f)
    places_apart (x ∷ qs) (suc i) zero q r a e f =
        eqb-suc-zero i ∙ sym (s.symm (key q) (key r) ∙ ap (λ y. same (key y) (key q)) (sym (same_some x r f)) ∙ all_at same (key x) qs i q a.0 e)
    places_apart (x ∷ qs) (suc i) (suc j) q r a e f = eqb-suc-suc i j ∙ places_apart qs i j q r a.1 e f

  -- the keys stay if each one stays
  pub keys_kept : (old new : List Q) → length new ≡ length old → ((i : ℕ) (q r : Q) → slice_get old i ≡ Some q → slice_get new i ≡ Some r → key r ≡ key q) → map key new ≡ map key old
  keys_kept [] [] e h = refl
  keys_kept [] (r ∷ new) e h = absurd (suc-ne-zero _ e)
  keys_kept (q ∷ old) [] e h = absurd (suc-ne-zero _ (sym e))
  keys_kept (q ∷ old) (r ∷ new) e h = ap (λ k. k ∷ map key new) (h 0 q r refl refl) ∙ ap (λ l. key q ∷ l) (keys_kept old new (suc_same _ _ e) (λ i a b f g. h (suc i) a b f g))
    where
      suc_same : (m n : ℕ) → suc m ≡ suc n → m ≡ n
      suc_same m n e = ap pred e

-- an element of a list that has one more
get_more : {Q : Type 0} (qs : List Q) (x : Q) (i : ℕ) (q : Q) → slice_get (qs ++ x ∷ []) i ≡ Some q → (slice_get qs i ≡ Some q) ⊎ (q ≡ x)
get_more [] x zero q e = inr (sym (same_some x q e))
get_more [] x (suc i) q e = none_some q e
get_more (y ∷ qs) x zero q e = inl e
get_more (y ∷ qs) x (suc i) q e = get_more qs x i q e

-- a list as long has an element at the same place
pub at_other : {Q : Type 0} (old new : List Q) → length new ≡ length old → (i : ℕ) (r : Q) → slice_get new i ≡ Some r → (q : Q) × (slice_get old i ≡ Some q)
at_other [] [] e i r f = none_some r f
at_other [] (y ∷ new) e i r f = absurd (suc-ne-zero _ e)
at_other (x ∷ old) [] e i r f = none_some r f
at_other (x ∷ old) (y ∷ new) e zero r f = (x, refl)
at_other (x ∷ old) (y ∷ new) e (suc i) r f = at_other old new (ap pred e) i r f

module _ {C V Q : Type 0} (cmp : C → C → Ordering) (same : V → V → Bool) (key : Q → V) (first : Q → Bool) (rest : Q → List (C × Bool)) where
  -- these are the values, each with its set, after the steps xs
  pub record Gathers (seen : List V) (v : V) (xs : List (C × V)) (pairs : List Q) : Type 0 where
    pub values : map key pairs ≡ first_seen same seen
    pub sets : (i : ℕ) (q : Q) → slice_get pairs i ≡ Some q → (first q ≡ same (key q) v) × Alike cmp (λ a b. a ≡ b) (rest q) (sees same (key q) v xs)

module _ {C : Type 0} {cmp : C → C → Ordering} (o : IsTotalOrder cmp) where
  turned_flags : (a b last : Bool) (us ws : List (C × Bool)) (c d : C) → last ≡ a → Alike cmp (λ a b. a ≡ b) us ws → cmp d c ≡ Equal →
      Alike cmp (λ a b. a ≡ b) (cond (not (beq a b)) (us ++ (d, not last) ∷ []) us) (cond (beq a b) ws (ws ++ (c, b) ∷ []))
  turned_flags a b last us ws c d h1 h2 h3 = grind (arith, alike_more, not)

  module _ {V Q : Type 0} {same : V → V → Bool} (s : IsEquivalence same) (key : Q → V) (first : Q → Bool) (rest : Q → List (C × Bool)) where
    added : (seen : List V) (v : V) (xs : List (C × V)) (x : V) (new : Q) (old : List Q) → Gathers cmp same key first rest seen v xs old → list_any (same x) seen ≡ false → same x v ≡ false → list_any (same x) (map (λ y. y.1) xs) ≡ false →
        key new ≡ x → first new ≡ false → rest new ≡ [] → (i : ℕ) (q : Q) → slice_get (old ++ new ∷ []) i ≡ Some q → (first q ≡ same (key q) v) × Alike cmp (λ a b. a ≡ b) (rest q) (sees same (key q) v xs)
    added seen v xs x new old g e h k key_is first_is rest_is i q f = by_place (get_more old new i q f)
      where
        for_new : (first new ≡ same (key new) v) × Alike cmp (λ a b. a ≡ b) (rest new) (sees same (key new) v xs)
        for_new = (
          first_is ∙ sym (ap (λ y. same y v) key_is ∙ h),
          subst (λ l. Alike cmp (λ a b. a ≡ b) l (sees same (key new) v xs)) (sym rest_is)
              (subst (λ l. Alike cmp (λ a b. a ≡ b) [] l) (sym (sees_none same (key new) v xs (ap (λ y. same y v) key_is ∙ h) (ap (λ y. list_any (same y) (map (λ y. y.1) xs)) key_is ∙ k))) tt),
        )

        by_place : (slice_get old i ≡ Some q) ⊎ (q ≡ new) → (first q ≡ same (key q) v) × Alike cmp (λ a b. a ≡ b) (rest q) (sees same (key q) v xs)
        by_place (inl a) = g.sets i q a
        by_place (inr a) = subst (λ y. (first y ≡ same (key y) v) × Alike cmp (λ a b. a ≡ b) (rest y) (sees same (key y) v xs)) (sym a) for_new

    -- a value joins the list if it is new
    pub placed : (v : V) (xs : List (C × V)) (x : C × V) (q : Q) (old new : List Q) → Gathers cmp same key first rest (v ∷ map (λ y. y.1) xs) v xs old → key q ≡ x.1 → first q ≡ false → rest q ≡ [] →
        new ≡ cond (list_any (λ r. same x.1 (key r)) old) old (old ++ q ∷ []) → Gathers cmp same key first rest (v ∷ map (λ y. y.1) (xs ++ x ∷ [])) v xs new
    placed v xs x q old new g key_is first_is rest_is e = by_test (list_any (λ r. same x.1 (key r)) old) refl
      where
        seen : List V
        seen = v ∷ map (λ y. y.1) xs

        found : list_any (λ r. same x.1 (key r)) old ≡ list_any (same x.1) (first_seen same seen)
        found = any_key key (same x.1) old ∙ ap (list_any (same x.1)) g.values

        more : first_seen same (v ∷ map (λ y. y.1) (xs ++ x ∷ [])) ≡ cond (list_any (same x.1) (first_seen same seen)) (first_seen same seen) (first_seen same seen ++ x.1 ∷ [])
        more = ap (λ l. first_seen same (v ∷ l)) (map-append (λ y. y.1) xs (x ∷ [])) ∙ seen_more s x.1 seen

        parts : (b c : Bool) → (b || c) ≡ false → (b ≡ false) × (c ≡ false)
        parts true c h = absurd (true≢false h)
        parts false c h = (refl, h)

        by_test : (t : Bool) → list_any (λ r. same x.1 (key r)) old ≡ t → Gathers cmp same key first rest (v ∷ map (λ y. y.1) (xs ++ x ∷ [])) v xs new
        by_test true h =
            let n : new ≡ old = e ∙ ap (λ b. cond b old (old ++ q ∷ [])) h in
            record {
              values = ap (map key) n ∙ g.values ∙ sym (more ∙ ap (λ b. cond b (first_seen same seen) (first_seen same seen ++ x.1 ∷ [])) (sym found ∙ h));
              sets = λ i r f. g.sets i r (ap (λ l. slice_get l i) (sym n) ∙ f);
            }
        by_test false h =
            let n : new ≡ old ++ q ∷ [] = e ∙ ap (λ b. cond b old (old ++ q ∷ [])) h in
            let none : list_any (same x.1) seen ≡ false = sym (found_seen s x.1 seen) ∙ sym found ∙ h in
            let p = parts (same x.1 v) (list_any (same x.1) (map (λ y. y.1) xs)) none in
            record {
              values = ap (map key) n ∙ map-append key old (q ∷ []) ∙ ap (λ l. l ++ key q ∷ []) g.values ∙ ap (λ y. first_seen same seen ++ y ∷ []) key_is
                  ∙ sym (more ∙ ap (λ b. cond b (first_seen same seen) (first_seen same seen ++ x.1 ∷ [])) (sym found ∙ h));
              sets = λ i r f. added seen v xs x.1 q old g none p.0 p.1 key_is first_is rest_is i r (ap (λ l. slice_get l i) (sym n) ∙ f);
            }

    -- a later cut is after all cuts of each set
    pub all_past : (seen : List V) (v : V) (xs : List (C × V)) (x : C × V) (pairs : List Q) → Gathers cmp same key first rest seen v xs pairs → ascends cmp None (xs ++ x ∷ []) ≡ true →
        (i : ℕ) (q : Q) → slice_get pairs i ≡ Some q → ascends cmp None (rest q ++ (x.0, true) ∷ []) ≡ true
    all_past seen v xs x pairs g h i q e =
        alike_ascends o (λ a b. a ≡ b) (rest q ++ (x.0, true) ∷ []) (sees same (key q) v xs ++ (x.0, true) ∷ []) None
        (alike_more cmp (rest q) (sees same (key q) v xs) ((x.0, true) ∷ []) ((x.0, true) ∷ []) ((g.sets i q e).1) (tied_itself o x.0, (refl, tt)))
        ∙ sees_past same (key q) o v xs x true h

    module _ (seen : List V) (v : V) (xs : List (C × V)) (x : C × V) (old new : List Q) (from to : ℕ) (g : Gathers cmp same key first rest seen v xs old) (begins : IsPlace same key old from (last_value v xs)) (ends : IsPlace same key old to x.1) (same_length : length new ≡ length old) (each : (i : ℕ) (q r : Q) → slice_get old i ≡ Some q → slice_get new i ≡ Some r → (key r ≡ key q) × (first r ≡ first q) × (d : C) × (cmp x.0 d ≡ Equal) × (rest r ≡ cond (not (beq (eqb i from) (eqb i to))) (rest q ++ (d, not (last_value (first q) (rest q))) ∷ []) (rest q))) where
      is_place : (u : V) (j : ℕ) → IsPlace same key old j u → (i : ℕ) (q : Q) → slice_get old i ≡ Some q → eqb i j ≡ same (key q) u
      is_place u j p i q e = places_apart key s old i j q p.0 (subst (AreApart same) (sym g.values) (seen_apart same seen)) e p.1 ∙ s.symm (key q) (key p.0) ∙ sym (s.congr u (key p.0) (key q) p.2) ∙ s.symm u (key q)

      turned_set : (i : ℕ) (q r : Q) → slice_get old i ≡ Some q → slice_get new i ≡ Some r → (first r ≡ same (key r) v) × Alike cmp (λ a b. a ≡ b) (rest r) (sees same (key r) v (xs ++ x ∷ []))
      turned_set i q r e f =
          let k = each i q r e f in
          let a = g.sets i q e in
          let flags = turned_flags (same (key q) (last_value v xs)) (same (key q) x.1) (last_value (first q) (rest q)) (rest q) (sees same (key q) v xs) x.0 k.2
          (last_alike cmp (first q) (rest q) (sees same (key q) v xs) a.1 ∙ ap (λ b. last_value b (sees same (key q) v xs)) a.0 ∙ sees_last same (key q) v xs) a.1 (o.antisymm k.2 x.0 ∙ ap ordering_reverse k.3) in (
            k.1 ∙ a.0 ∙ ap (λ y. same y v) (sym k.0),
            subst (λ y. Alike cmp (λ a b. a ≡ b) (rest r) (sees same y v (xs ++ x ∷ []))) (sym k.0)
                (subst (λ l. Alike cmp (λ a b. a ≡ b) (rest r) l) (sym (sees_more same (key q) v xs x))
                (subst (λ l. Alike cmp (λ a b. a ≡ b) l (cond (beq (same (key q) (last_value v xs)) (same (key q) x.1)) (sees same (key q) v xs) (sees same (key q) v xs ++ (x.0, same (key q) x.1) ∷ [])))
                (sym (k.4 ∙ ap (λ b. cond (not (beq b (eqb i to))) (rest q ++ (k.2, not (last_value (first q) (rest q))) ∷ []) (rest q)) (is_place (last_value v xs) from begins i q e)
                ∙ ap (λ b. cond (not (beq (same (key q) (last_value v xs)) b)) (rest q ++ (k.2, not (last_value (first q) (rest q))) ∷ []) (rest q)) (is_place x.1 to ends i q e))) flags)),
          )

      pub turned : Gathers cmp same key first rest seen v (xs ++ x ∷ []) new
      turned = record {
        values = keys_kept key old new same_length (λ i q r e f. (each i q r e f).0) ∙ g.values;
        sets = λ i r f. let p = at_other old new same_length i r f in turned_set i p.0 r p.1 f;
      }

      pub turned_place : IsPlace same key new to x.1
      turned_place = grind (arith, at_other)
