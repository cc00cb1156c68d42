-- Functions whose points are moved into a range.
use Rattle.std.proofs.Common.{◌≡◌, ℕ, ◌+◌, ◌<◌, get_or, Bool, true, false, not, cond, ◌&&◌, List, [], ◌∷◌, ◌++◌, drop, length, Option, Some, None, refl, sym, ap, ◌∙◌, append-nil, add-one, subst, suc, arith}
use Rattle.std.specs.declared.cmp.Ordering.{Ordering}
use Rattle.std.specs.declared.cmp.Ordering.TheVariants.{Equal}
use Rattle.std.specs.declared.ops.Bound.{Bound}
use Rattle.std.specs.declared.ops.Bound.TheVariants.{Included, Excluded, Unbounded}
use Rattle.std.specs.Cmp.{IsTotalOrder, IsEquivalence}
use Rattle.std.proofs.lemmas.Bool.{and_parts, and_from, true≢false}
use Rattle.std.proofs.Math.Seq.{drop-cons}
use Rattle.version_ranges.specs.declared.cut.Cut.{Cut}
use Rattle.version_ranges.specs.Point.{Point, bottom, above, begin_point, point_lt, is_from, is_until, is_in_bounds}
use Rattle.version_ranges.specs.Cut.{cut_cmp, cut_point, stands_before}
use Rattle.version_ranges.specs.Clamp.{IsBetween, IsBare, IsClamped}
use Rattle.version_ranges.specs.Steps.{is_before, ascends, value_at, last_value}
use Rattle.version_ranges.proofs.StepLaws.{value_from, value_from_low, value_from_first, value_from_later, ascends_lower, from_later, from_itself, not_true, IsFrom, Alike, alike_itself, alike_moved, alike_value, alike_ascends}
use Rattle.version_ranges.proofs.PointLaws.{cut_total, place, point_of, place_point, place_before, value_at_place}
use Rattle.version_ranges.proofs.PartLaws.{is_not}
use Rattle.version_ranges.proofs.SpotLaws.{low_cut, high_cut}

module _ {C : Type 0} (cmp : C → C → Ordering) where
  -- whether a place is before an end; without an end each is
  abbrev pub is_short : Option C → Option C → Bool
  is_short None p = true
  is_short (Some c) p = is_before cmp p c

  module _ {V : Type 0} (low : Option C) where
    -- the value after all cuts that are not after the low place
    abbrev pub started : V → List (C × V) → V
    started v [] = v
    started v (x ∷ xs) = started (cond (is_before cmp low x.0) v x.1) xs

    -- the cuts after the low place and before an end
    abbrev pub kept : Option C → List (C × V) → List (C × V)
    kept high [] = []
    kept high (x ∷ xs) = cond (is_before cmp low x.0 && is_short high (Some x.0)) (x ∷ kept high xs) (kept high xs)

    -- the place of the last cut, or the low one
    abbrev pub last_place : Option C → List (C × V) → Option C
    last_place l [] = l
    last_place l (x ∷ xs) = last_place (Some x.0) xs

module _ {C : Type 0} {cmp : C → C → Ordering} (o : IsTotalOrder cmp) where
  -- a place is before a cut, or the cut is not after the low one
  from_before : (low : Option C) (c : C) (p : Option C) → IsFrom cmp low p → is_before cmp low c ≡ false → is_before cmp p c ≡ false
  from_before low c p h1 h2 = grind arith

  -- a place that is short of an end is before each cut that is not
  short_before : (high : Option C) (c : C) (p : Option C) → is_short cmp high p ≡ true → is_short cmp high (Some c) ≡ false → is_before cmp p c ≡ true
  short_before high c p h1 h2 = grind arith

  -- a place that is not short of an end is not before one that is
  past_from : (high l p : Option C) → is_short cmp high l ≡ true → is_short cmp high p ≡ false → IsFrom cmp l p
  past_from high l p h1 h2 = grind arith

  module _ {V : Type 0} (low high : Option C) where
    pub started_is : (v : V) (xs : List (C × V)) (l : Option C) → ascends cmp l xs ≡ true → started cmp low v xs ≡ value_from cmp v xs low
    started_is v [] l a = refl
    started_is v (x ∷ xs) l a =
        let tail = (and_parts _ _ a).1 in by_test (is_before cmp low x.0) refl tail (started_is v xs (Some x.0) tail) (started_is x.1 xs (Some x.0) tail)
      where
        by_test : (b : Bool) → is_before cmp low x.0 ≡ b → ascends cmp (Some x.0) xs ≡ true → started cmp low v xs ≡ value_from cmp v xs low → started cmp low x.1 xs ≡ value_from cmp x.1 xs low →
            started cmp low (cond b v x.1) xs ≡ cond b v (value_from cmp x.1 xs low)
        by_test true e tail m n = m ∙ value_from_low o v xs low (ascends_lower o low x.0 xs e tail)
        by_test false e tail m n = n

    -- if the low place is before all cuts, nothing has passed
    started_low : (v : V) (xs : List (C × V)) → ascends cmp low xs ≡ true → started cmp low v xs ≡ v
    started_low v xs a = started_is v xs low a ∙ value_from_low o v xs low a

    pub kept_ascends : (l : Option C) (xs : List (C × V)) → ascends cmp l xs ≡ true → ascends cmp l (kept cmp low high xs) ≡ true
    kept_ascends l [] a = refl
    kept_ascends l (x ∷ xs) a = let q = and_parts _ _ a in by_test (is_before cmp low x.0 && is_short cmp high (Some x.0)) q.0 (kept_ascends (Some x.0) xs q.1)
      where
        by_test : (b : Bool) → is_before cmp l x.0 ≡ true → ascends cmp (Some x.0) (kept cmp low high xs) ≡ true → ascends cmp l (cond b (x ∷ kept cmp low high xs) (kept cmp low high xs)) ≡ true
        by_test true h m = and_from _ _ h m
        by_test false h m = ascends_lower o l x.0 (kept cmp low high xs) h m

    -- the cuts that are kept are after the low place
    kept_after : (l : Option C) (xs : List (C × V)) → ascends cmp l xs ≡ true → ascends cmp low (kept cmp low high xs) ≡ true
    kept_after l [] a = refl
    kept_after l (x ∷ xs) a =
        let tail = (and_parts _ _ a).1 in by_test (is_before cmp low x.0) refl (is_short cmp high (Some x.0)) (kept_ascends (Some x.0) xs tail) (kept_after (Some x.0) xs tail)
      where
        by_test : (b : Bool) → is_before cmp low x.0 ≡ b → (d : Bool) → ascends cmp (Some x.0) (kept cmp low high xs) ≡ true → ascends cmp low (kept cmp low high xs) ≡ true →
            ascends cmp low (cond (b && d) (x ∷ kept cmp low high xs) (kept cmp low high xs)) ≡ true
        by_test true e true m n = and_from _ _ e m
        by_test true e false m n = n
        by_test false e d m n = n

    -- and before the end, as the low place does
    kept_short : (l : Option C) (xs : List (C × V)) → is_short cmp high l ≡ true → is_short cmp high (last_place cmp low l (kept cmp low high xs)) ≡ true
    kept_short l [] h = h
    kept_short l (x ∷ xs) h = by_test (is_before cmp low x.0) (is_short cmp high (Some x.0)) refl (kept_short (Some x.0) xs) (kept_short l xs h)
      where
        by_test : (b d : Bool) → is_short cmp high (Some x.0) ≡ d → (is_short cmp high (Some x.0) ≡ true → is_short cmp high (last_place cmp low (Some x.0) (kept cmp low high xs)) ≡ true) →
            is_short cmp high (last_place cmp low l (kept cmp low high xs)) ≡ true → is_short cmp high (last_place cmp low l (cond (b && d) (x ∷ kept cmp low high xs) (kept cmp low high xs))) ≡ true
        by_test true true e m n = m e
        by_test true false e m n = n
        by_test false d e m n = n

    -- in the range the function is what it was
    pub kept_inside : (v : V) (xs : List (C × V)) (l : Option C) → ascends cmp l xs ≡ true → (p : Option C) → IsFrom cmp low p → is_short cmp high p ≡ true →
        value_from cmp (started cmp low v xs) (kept cmp low high xs) p ≡ value_from cmp v xs p
    kept_inside v [] l a p f h = refl
    kept_inside v (x ∷ xs) l a p f h =
        let tail = (and_parts _ _ a).1 in by_test (is_before cmp low x.0) refl (is_short cmp high (Some x.0)) refl tail (kept_inside x.1 xs (Some x.0) tail p f h)
      where
        by_test : (b : Bool) → is_before cmp low x.0 ≡ b → (d : Bool) → is_short cmp high (Some x.0) ≡ d → ascends cmp (Some x.0) xs ≡ true →
            value_from cmp (started cmp low x.1 xs) (kept cmp low high xs) p ≡ value_from cmp x.1 xs p →
            value_from cmp (started cmp low (cond b v x.1) xs) (cond (b && d) (x ∷ kept cmp low high xs) (kept cmp low high xs)) p ≡ value_from cmp v (x ∷ xs) p
        by_test true e true g tail later =
            let start : ascends cmp low xs ≡ true = ascends_lower o low x.0 xs e tail in
            ap (λ w. value_from cmp w (x ∷ kept cmp low high xs) p) (started_low v xs start)
            ∙ ap (λ w. cond (is_before cmp p x.0) v w) (ap (λ w. value_from cmp w (kept cmp low high xs) p) (sym (started_low x.1 xs start)) ∙ later)
        by_test true e false g tail later =
            let start : ascends cmp low xs ≡ true = ascends_lower o low x.0 xs e tail in
            let first : is_before cmp p x.0 ≡ true = short_before high x.0 p h g in
            ap (λ w. value_from cmp w (kept cmp low high xs) p) (started_low v xs start)
            ∙ value_from_low o v (kept cmp low high xs) p (ascends_lower o p x.0 (kept cmp low high xs) first (kept_ascends (Some x.0) xs tail)) ∙ sym (value_from_first o v x xs p first)
        by_test false e d g tail later = later ∙ sym (value_from_later o v x xs p (from_before low x.0 p f e))

    -- below the range it has the value of the first place
    pub kept_below : (v : V) (xs : List (C × V)) (l : Option C) → ascends cmp l xs ≡ true → (p : Option C) (b : C) → low ≡ Some b → is_before cmp p b ≡ true →
        value_from cmp (started cmp low v xs) (kept cmp low high xs) p ≡ value_from cmp v xs low
    kept_below v xs l a p b e h =
        value_from_low o (started cmp low v xs) (kept cmp low high xs) p (ascends_lower o p b (kept cmp low high xs) h (subst (λ z. ascends cmp z (kept cmp low high xs) ≡ true) e (kept_after l xs a))) ∙ started_is v xs l a

    -- past all cuts
    from_last : (l : Option C) (xs : List (C × V)) (p : Option C) → ascends cmp l xs ≡ true → IsFrom cmp (last_place cmp low l xs) p → IsFrom cmp l p
    from_last l [] p a f = f
    from_last l (x ∷ xs) p a f = let q = and_parts _ _ a in from_later o l x.0 p q.0 (from_last (Some x.0) xs p q.1 f)

    value_last : (v : V) (l : Option C) (xs : List (C × V)) (p : Option C) → ascends cmp l xs ≡ true → IsFrom cmp (last_place cmp low l xs) p → value_from cmp v xs p ≡ last_value v xs
    value_last v l [] p a f = refl
    value_last v l (x ∷ xs) p a f = let q = and_parts _ _ a in value_from_later o v x xs p (from_last (Some x.0) xs p q.1 f) ∙ value_last x.1 (Some x.0) xs p q.1 f

    -- above it, the value of each place of the range from some place on
    pub kept_above : (v : V) (xs : List (C × V)) (l : Option C) → ascends cmp l xs ≡ true → is_short cmp high low ≡ true → (p : Option C) → is_short cmp high p ≡ false →
        (q : Option C) × IsFrom cmp low q × (is_short cmp high q ≡ true) × ((r : Option C) → IsFrom cmp low r → is_short cmp high r ≡ true → IsFrom cmp q r → value_from cmp (started cmp low v xs) (kept cmp low high xs) p ≡ value_from cmp v xs r)
    kept_above v xs l a s p e =
        let last = last_place cmp low low (kept cmp low high xs) in
        let after = kept_after l xs a in
        let short = kept_short low xs s in
        let at_p = value_last (started cmp low v xs) low (kept cmp low high xs) p after (past_from high last p short e) in (
          last,
          from_last low (kept cmp low high xs) last after (from_itself o last),
          short,
          λ r f h g. at_p ∙ sym (value_last (started cmp low v xs) low (kept cmp low high xs) r after g) ∙ kept_inside v xs l a r f h,
        )

-- ---- points and places
module _ {T : Type 0} (cmp : T → T → Ordering) where
  -- the place of the end of a range
  abbrev pub end_place : Bound T → Option (Cut T)
  end_place (Included v) = Some (high_cut v)
  end_place (Excluded v) = Some (low_cut v)
  end_place Unbounded = None

  abbrev pub begin_place : Bound T → Option (Cut T)
  begin_place lower = place (begin_point lower)

  pub until_place : (upper : Bound T) (p : Point T) → is_until cmp upper p ≡ is_short (cut_cmp cmp) (end_place upper) (place p)
  until_place upper p = grind arith

  until_cut : (upper : Bound T) (c : Cut T) → is_until cmp upper (cut_point (λ v. v) c) ≡ is_short (cut_cmp cmp) (end_place upper) (Some c)
  until_cut upper c = until_place upper (cut_point (λ v. v) c) ∙ ap (is_short (cut_cmp cmp) (end_place upper)) (place_point (Some c))

  -- what the code says of a cut, in places
  pub end_test : (upper : Bound T) (c : Cut T) (d : Bool) → d ≡ is_until cmp upper (cut_point (λ v. v) c) → d ≡ is_short (cut_cmp cmp) (end_place upper) (Some c)
  end_test upper c d e = e ∙ until_cut upper c

  pub begin_test : (lower : Bound T) (c : Cut T) (d : Bool) → d ≡ point_lt cmp (begin_point lower) (cut_point (λ v. v) c) → d ≡ is_before (cut_cmp cmp) (begin_place lower) c
  begin_test lower c d e = e ∙ place_before cmp (begin_point lower) c

  after_point : (q : Point T) (p : Point T) → point_lt cmp p q ≡ false → IsFrom (cut_cmp cmp) (place q) (place p)
  after_point q p h1 = grind arith

  pub from_place : (lower : Bound T) (p : Point T) → is_from cmp lower p ≡ true → IsFrom (cut_cmp cmp) (begin_place lower) (place p)
  from_place lower p e = after_point (begin_point lower) p (is_not _ e)

  not_before : (p : Point T) → point_lt cmp p bottom ≡ false
  not_before p = grind arith

  pub below_place : (lower : Bound T) (p : Point T) → is_from cmp lower p ≡ false → (b : Cut T) × (begin_place lower ≡ Some b) × (is_before (cut_cmp cmp) (place p) b ≡ true)
  below_place (Included v) p e = (low_cut v, refl, sym (place_before cmp p (low_cut v)) ∙ not_not _ e)
    where
      not_not : (b : Bool) → not b ≡ false → b ≡ true
      not_not true h = refl
      not_not false h = absurd (true≢false h)
  below_place (Excluded v) p e = (high_cut v, refl, sym (place_before cmp p (high_cut v)) ∙ not_not _ e)
    where
      not_not : (b : Bool) → not b ≡ false → b ≡ true
      not_not true h = refl
      not_not false h = absurd (true≢false h)
  below_place Unbounded p e = absurd (true≢false (sym (ap not (not_before p)) ∙ e))

  -- the place from which a point is on
  place_from : (q : Option (Cut T)) (r : Point T) → point_lt cmp r (point_of q) ≡ false → IsFrom (cut_cmp cmp) q (place r)
  place_from q r h1 = grind arith

  from_point : (lower : Bound T) (q : Option (Cut T)) → IsFrom (cut_cmp cmp) (begin_place lower) q → is_from cmp lower (point_of q) ≡ true
  from_point lower q h1 = grind arith

  until_point : (upper : Bound T) (q : Option (Cut T)) → is_short (cut_cmp cmp) (end_place upper) q ≡ true → is_until cmp upper (point_of q) ≡ true
  until_point upper q h = until_place upper (point_of q) ∙ ap (is_short (cut_cmp cmp) (end_place upper)) (place_point q) ∙ h

  -- ---- whether a range has a point
  module _ (o : IsTotalOrder cmp) where
    pub begin_from : (lower : Bound T) → is_from cmp lower (begin_point lower) ≡ true
    begin_from lower = grind arith

    pub point_found : (lower upper : Bound T) → is_until cmp upper (begin_point lower) ≡ true → (p : Point T) × IsBetween cmp lower upper p
    point_found lower upper h = (begin_point lower, and_from _ _ (begin_from lower) h)

    -- if some point is between the bounds, the first one is
    pub begin_until : (lower upper : Bound T) (p : Point T) → IsBetween cmp lower upper p → is_until cmp upper (begin_point lower) ≡ true
    begin_until lower upper p h1 = grind arith

    pub no_point : (lower upper : Bound T) → is_until cmp upper (begin_point lower) ≡ false → IsBare cmp lower upper
    no_point lower upper e p = not_true (is_in_bounds cmp lower upper p) (is_until cmp upper (begin_point lower)) (λ h. begin_until lower upper p h) e

-- ---- the function that the loop makes
module _ {T V : Type 0} (cmp : T → T → Ordering) (same : V → V → Bool) where
  -- what the loop keeps
  pub record Clamps (low high : Option (Cut T)) (first v : V) (out xs all : List (Cut T × V)) (i : ℕ) : Type 0 where
    pub passed : started (cut_cmp cmp) low first (drop i xs) ≡ started (cut_cmp cmp) low v all
    pub left : Alike (cut_cmp cmp) (λ a b. same a b ≡ true) (out ++ kept (cut_cmp cmp) low high (drop i xs)) (kept (cut_cmp cmp) low high all)

module _ {T V : Type 0} {cmp : T → T → Ordering} {same : V → V → Bool} (o : IsTotalOrder cmp) (s : IsEquivalence same) where
  abbrev SameValue : V → V → Type 0
  SameValue a b = same a b ≡ true

  module _ (low high : Option (Cut T)) (v : V) (all : List (Cut T × V)) where
    pub clamps_init : (first : V) (out xs : List (Cut T × V)) → first ≡ v → out ≡ [] → xs ≡ all → Clamps cmp same low high first v out xs all 0
    clamps_init first out xs e f g = record {
      passed = ap (λ w. started (cut_cmp cmp) low w xs) e ∙ ap (started (cut_cmp cmp) low v) g;
      left = rw (f, g) (alike_itself (cut_total o) SameValue s.refl (kept (cut_cmp cmp) low high all));
    }

    module _ (out xs : List (Cut T × V)) (i : ℕ) (first : V) (k : Clamps cmp same low high first v out xs all i) (x : Cut T × V) (within : i < length xs) (x_is : x ≡ get_or xs i x) where
      next_is : drop i xs ≡ x ∷ drop (i + 1) xs
      next_is = drop-cons xs i x within ∙ ap (λ y. y ∷ drop (suc i) xs) (sym x_is) ∙ ap (λ n. x ∷ drop n xs) (sym (add-one i))

      start_is : started (cut_cmp cmp) low (cond (is_before (cut_cmp cmp) low x.0) first x.1) (drop (i + 1) xs) ≡ started (cut_cmp cmp) low v all
      start_is = ap (started (cut_cmp cmp) low first) (sym next_is) ∙ k.passed

      rest_is : Alike (cut_cmp cmp) SameValue (out ++ cond (is_before (cut_cmp cmp) low x.0 && is_short (cut_cmp cmp) high (Some x.0)) (x ∷ kept (cut_cmp cmp) low high (drop (i + 1) xs)) (kept (cut_cmp cmp) low high (drop (i + 1) xs))) (kept (cut_cmp cmp) low high all)
      rest_is = subst (λ l. Alike (cut_cmp cmp) SameValue (out ++ kept (cut_cmp cmp) low high l) (kept (cut_cmp cmp) low high all)) next_is k.left

      -- a cut that is not after the low place is passed
      pub clamps_passed : (b : Bool) → b ≡ is_before (cut_cmp cmp) low x.0 → b ≡ false → (now : V) (rest : List (Cut T × V)) → now ≡ x.1 → rest ≡ out → Clamps cmp same low high now v rest xs all (i + 1)
      clamps_passed b e f now rest m n =
          let h : is_before (cut_cmp cmp) low x.0 ≡ false = sym e ∙ f in
          record {
            passed = ap (λ w. started (cut_cmp cmp) low w (drop (i + 1) xs)) m ∙ ap (λ d. started (cut_cmp cmp) low (cond d first x.1) (drop (i + 1) xs)) (sym h) ∙ start_is;
            left = rw n (subst (λ d. Alike (cut_cmp cmp) SameValue (out ++ cond (d && is_short (cut_cmp cmp) high (Some x.0)) (x ∷ kept (cut_cmp cmp) low high (drop (i + 1) xs)) (kept (cut_cmp cmp) low high (drop (i + 1) xs))) (kept (cut_cmp cmp) low high all)) h rest_is);
          }

      module _ (b : Bool) (e : b ≡ is_before (cut_cmp cmp) low x.0) (f : b ≡ true) (d : Bool) (g : d ≡ is_short (cut_cmp cmp) high (Some x.0)) where
        after_is : is_before (cut_cmp cmp) low x.0 ≡ true
        after_is = sym e ∙ f

        first_is : started (cut_cmp cmp) low first (drop (i + 1) xs) ≡ started (cut_cmp cmp) low v all
        first_is = ap (λ z. started (cut_cmp cmp) low (cond z first x.1) (drop (i + 1) xs)) (sym after_is) ∙ start_is

        both_are : (z : Bool) → d ≡ z → Alike (cut_cmp cmp) SameValue (out ++ cond z (x ∷ kept (cut_cmp cmp) low high (drop (i + 1) xs)) (kept (cut_cmp cmp) low high (drop (i + 1) xs))) (kept (cut_cmp cmp) low high all)
        both_are z h1 = grind (arith, cond, drop, after_is, rest_is)

        -- one past the end is left out
        pub clamps_left : d ≡ false → (now : V) (rest : List (Cut T × V)) → now ≡ first → rest ≡ out → Clamps cmp same low high now v rest xs all (i + 1)
        clamps_left h now rest m n = record { passed = ap (λ w. started (cut_cmp cmp) low w (drop (i + 1) xs)) m ∙ first_is; left = rw n (both_are false h) }

        -- and one before it is kept
        pub clamps_kept : d ≡ true → (now : V) (new : List (Cut T × V)) (c : Cut T) (u : V) → now ≡ first → new ≡ out ++ (c, u) ∷ [] → cut_cmp cmp c x.0 ≡ Equal → same u x.1 ≡ true → Clamps cmp same low high now v new xs all (i + 1)
        clamps_kept h now new c u q m n w = record {
          passed = ap (λ z. started (cut_cmp cmp) low z (drop (i + 1) xs)) q ∙ first_is;
          left = rw m (alike_moved (cut_total o) SameValue (λ y z t r k. s.congr y z t r ∙ k) out c x.0 u x.1 (kept (cut_cmp cmp) low high (drop (i + 1) xs)) (kept (cut_cmp cmp) low high all) n w (both_are true h));
        }

    module _ (out xs : List (Cut T × V)) (i : ℕ) (first : V) (k : Clamps cmp same low high first v out xs all i) (done : drop i xs ≡ []) where
      end_first : first ≡ started (cut_cmp cmp) low v all
      end_first = ap (started (cut_cmp cmp) low first) (sym done) ∙ k.passed

      end_rest : Alike (cut_cmp cmp) SameValue out (kept (cut_cmp cmp) low high all)
      end_rest = subst (λ l. Alike (cut_cmp cmp) SameValue l (kept (cut_cmp cmp) low high all)) (ap (λ l. out ++ kept (cut_cmp cmp) low high l) done ∙ append-nil out) k.left

      pub clamps_ascend : ascends (cut_cmp cmp) None all ≡ true → ascends (cut_cmp cmp) None out ≡ true
      clamps_ascend a = alike_ascends (cut_total o) SameValue out (kept (cut_cmp cmp) low high all) None end_rest ∙ kept_ascends (cut_total o) low high None all a

  -- the function that is made is the old one, with its points moved into the range
  module _ (lower upper : Bound T) (v : V) (all : List (Cut T × V)) (a : ascends (cut_cmp cmp) None all ≡ true) (some : (p : Point T) × IsBetween cmp lower upper p)
      (out xs : List (Cut T × V)) (i : ℕ) (first u : V) (k : Clamps cmp same (begin_place cmp lower) (end_place cmp upper) first v out xs all i) (done : drop i xs ≡ []) (clone : same u first ≡ true) where
    abbrev low : Option (Cut T)
    low = begin_place cmp lower

    abbrev high : Option (Cut T)
    high = end_place cmp upper

    abbrev old_value : Point T → V
    old_value p = value_at (stands_before (λ v. v) cmp p) v all

    abbrev new_value : Point T → V
    new_value p = value_at (stands_before (λ v. v) cmp p) u out

    abbrev kept_value : Option (Cut T) → V
    kept_value p = value_from (cut_cmp cmp) (started (cut_cmp cmp) low v all) (kept (cut_cmp cmp) low high all) p

    made_is : (p : Point T) → same (new_value p) (kept_value (place p)) ≡ true
    made_is p =
        ap (λ w. same w (kept_value (place p))) (value_at_place cmp u out p)
        ∙ alike_value (cut_total o) SameValue out (kept (cut_cmp cmp) low high all) u (started (cut_cmp cmp) low v all) (place p) (ap (same u) (sym (end_first low high v all out xs i first k done)) ∙ clone)
        (end_rest low high v all out xs i first k done)

    short : is_short (cut_cmp cmp) high low ≡ true
    short = sym (until_place cmp upper (begin_point lower)) ∙ begin_until cmp o lower upper some.0 some.1

    pub clamps_is : IsClamped cmp lower upper same old_value new_value
    clamps_is = record {
      inside = λ p h.
          let q = and_parts (is_from cmp lower p) (is_until cmp upper p) h in
          ap (same (new_value p)) (value_at_place cmp v all p ∙ sym (kept_inside (cut_total o) low high v all None a (place p) (from_place cmp lower p q.0) (sym (until_place cmp upper p) ∙ q.1))) ∙ made_is p;
      below = λ p e.
          let b = below_place cmp lower p e in
          ap (same (new_value p)) (value_at_place cmp v all (begin_point lower) ∙ sym (kept_below (cut_total o) low high v all None a (place p) b.0 b.1 b.2)) ∙ made_is p;
      above = λ p e.
          let r = kept_above (cut_total o) low high v all None a short (place p) (sym (until_place cmp upper p) ∙ e) in (
            point_of r.0,
            and_from _ _ (from_point cmp lower r.0 r.1) (until_point cmp upper r.0 r.2),
            λ t h g.
                let q = and_parts (is_from cmp lower t) (is_until cmp upper t) h in
                ap (same (new_value p)) (value_at_place cmp v all t ∙ sym (r.3 (place t) (from_place cmp lower t q.0) (sym (until_place cmp upper t) ∙ q.1) (place_from cmp r.0 t g))) ∙ made_is p,
          );
    }
