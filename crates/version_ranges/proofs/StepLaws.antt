-- Laws of functions of points that are constant between cuts.
use Rattle.std.proofs.Common.{◌≡◌, ℕ, Bool, true, false, not, cond, ◌&&◌, List, [], ◌∷◌, ◌++◌, map, Option, Some, None, refl, sym, ap, ◌∙◌, ◌⊎◌, inl, inr, arith, rules}
use lib.Pointwise.{pointwise}
use Rattle.std.specs.Ordering.{is_lt, is_eq, ordering_reverse, match_ordering}
use Rattle.std.specs.declared.cmp.Ordering.{Ordering}
use Rattle.std.specs.declared.cmp.Ordering.TheVariants.{Less, Equal, Greater}
use Rattle.std.specs.Cmp.{IsTotalOrder, IsEquivalence}
use Rattle.std.proofs.lemmas.Cmp.{tied_itself}
use Rattle.std.proofs.lemmas.Bool.{true≢false, false≢true, and_parts, and_from}
use Rattle.version_ranges.specs.Steps.{is_before, ascends, value_at, piece_at, is_merged}
use Rattle.version_ranges.specs.Sweep.{overlay, overlay_step, merge_steps}

-- the value at the place of a cut, or before all cuts
abbrev pub value_from : {C V : Type 0} → (C → C → Ordering) → V → List (C × V) → Option C → V
value_from cmp v xs p = value_at (is_before cmp p) v xs

-- the piece that this place lies in
abbrev pub piece_from : {C V : Type 0} → (C → C → Ordering) → List (C × V) → Option C → ℕ
piece_from cmp xs p = piece_at (is_before cmp p) xs

pub lt_less : (r : Ordering) → is_lt r ≡ true → r ≡ Less
lt_less r h1 = grind arith

pub is_equal : (r : Ordering) → is_eq r ≡ true → r ≡ Equal
is_equal r h1 = grind arith

pub not_true : (b c : Bool) → (b ≡ true → c ≡ true) → c ≡ false → b ≡ false
not_true b c h1 h2 = grind arith

module _ {C V : Type 0} (cmp : C → C → Ordering) (R : V → V → Type 0) where
  -- the same steps, at equal cuts, and with values that are equal by R
  abbrev pub Alike : List (C × V) → List (C × V) → Type 0
  Alike [] [] = Unit {0}
  Alike [] (y ∷ ys) = ⊥
  Alike (x ∷ xs) [] = ⊥
  Alike (x ∷ xs) (y ∷ ys) = (cmp x.0 y.0 ≡ Equal) × (R x.1 y.1 × Alike xs ys)

module _ {C : Type 0} {cmp : C → C → Ordering} (o : IsTotalOrder cmp) where
  -- a point before a cut lies before each later cut
  pub before_trans : (p : Option C) (c d : C) → is_before cmp p c ≡ true → cmp c d ≡ Less → is_before cmp p d ≡ true
  before_trans p c d h1 h2 = grind arith

  pub before_alike : (p : Option C) (c d : C) → cmp c d ≡ Equal → is_before cmp p c ≡ is_before cmp p d
  before_alike p c d h1 = grind arith

  pub before_itself : (c : C) → is_before cmp (Some c) c ≡ false
  before_itself c = ap is_lt (tied_itself o c)

  module _ {V : Type 0} where
    pub ascends_lower : (p : Option C) (c : C) (xs : List (C × V)) → is_before cmp p c ≡ true → ascends cmp (Some c) xs ≡ true → ascends cmp p xs ≡ true
    ascends_lower p c [] h a = refl
    ascends_lower p c (x ∷ xs) h a = grind (arith, and_parts, and_from, before_trans, lt_less)

    pub ascends_alike : (c d : C) (xs : List (C × V)) → cmp c d ≡ Equal → ascends cmp (Some c) xs ≡ ascends cmp (Some d) xs
    ascends_alike c d [] e = refl
    ascends_alike c d (x ∷ xs) e = ap (λ r. is_lt r && ascends cmp (Some x.0) xs) (o.congr c d x.0 e)

    -- the value at a point before all cuts
    pub value_from_low : (v : V) (xs : List (C × V)) (p : Option C) → ascends cmp p xs ≡ true → value_from cmp v xs p ≡ v
    value_from_low v [] p a = refl
    value_from_low v (x ∷ xs) p a = ap (λ b. cond b v (value_from cmp x.1 xs p)) ((and_parts _ _ a).0)

    pub value_from_first : (v : V) (x : C × V) (xs : List (C × V)) (p : Option C) → is_before cmp p x.0 ≡ true → value_from cmp v (x ∷ xs) p ≡ v
    value_from_first v x xs p h = ap (λ b. cond b v (value_from cmp x.1 xs p)) h

    pub value_from_later : (v : V) (x : C × V) (xs : List (C × V)) (p : Option C) → is_before cmp p x.0 ≡ false → value_from cmp v (x ∷ xs) p ≡ value_from cmp x.1 xs p
    value_from_later v x xs p h = ap (λ b. cond b v (value_from cmp x.1 xs p)) h

  module _ {V W : Type 0} where
    value_from_mapped : (v : V) (w : W) (ys : List (C × W)) (p : Option C) → ◌≡◌ {A = V × W} (value_from cmp (v, w) (map (λ y. (y.0, (v, y.1))) ys) p) (v, value_from cmp w ys p)
    value_from_mapped v w [] p = refl
    value_from_mapped v w (y ∷ ys) p = grind (arith, cond, map, value_from_mapped v y.1 ys p)

    module _ (v : V) (w : W) (a : V) (b : W) (m : V × W) where
      first_is : (bx by : Bool) → (bx ≡ true → by ≡ true) → ◌≡◌ {A = V × W} m (a, cond by w b) → ◌≡◌ {A = V × W} (cond bx (v, w) m) (cond bx v a, cond by w b)
      first_is bx by h1 h2 = grind arith

      both_are : (bx by : Bool) → bx ≡ by → ◌≡◌ {A = V × W} m (a, b) → ◌≡◌ {A = V × W} (cond bx (v, w) m) (cond bx v a, cond by w b)
      both_are bx by h1 h2 = grind arith

      second_is : (bx by : Bool) → (by ≡ true → bx ≡ true) → ◌≡◌ {A = V × W} m (cond bx v a, b) → ◌≡◌ {A = V × W} (cond by (v, w) m) (cond bx v a, cond by w b)
      second_is bx by h1 h2 = grind arith

    -- what `overlay` gives at a point
    abbrev pub Both : V → List (C × V) → W → List (C × W) → Option C → List (C × (V × W)) → Type 0
    Both v xs w ys p zs = ◌≡◌ {A = V × W} (value_from cmp (v, w) zs p) (value_from cmp v xs p, value_from cmp w ys p)

    step_by_order : (v : V) (x : C × V) (xs : List (C × V)) (w : W) (y : C × W) (ys : List (C × W)) (p : Option C) (first both second : List (C × (V × W))) →
        Both x.1 xs w (y ∷ ys) p first → Both x.1 xs y.1 ys p both → Both v (x ∷ xs) y.1 ys p second →
        (r : Ordering) → cmp x.0 y.0 ≡ r →
        Both v (x ∷ xs) w (y ∷ ys) p (match_ordering r ((x.0, (x.1, w)) ∷ first) ((x.0, (x.1, y.1)) ∷ both) ((y.0, (v, y.1)) ∷ second))
    step_by_order v x xs w y ys p first both second h1 h2 h3 r h4 = grind arith

    step_value : (v : V) (x : C × V) (xs : List (C × V)) (more : W → List (C × W) → List (C × (V × W))) (p : Option C) →
        ((w : W) (ys : List (C × W)) → Both x.1 xs w ys p (more w ys)) →
        (w : W) (ys : List (C × W)) → Both v (x ∷ xs) w ys p (overlay_step cmp v x more w ys)
    step_value v x xs more p h w [] = grind (arith, cond)
    step_value v x xs more p h w (y ∷ ys) = grind (arith, step_by_order, step_value v x xs more p h y.1 ys)

    pub overlay_value : (v : V) (xs : List (C × V)) (w : W) (ys : List (C × W)) (p : Option C) → Both v xs w ys p (overlay cmp v xs w ys)
    overlay_value v [] w ys p = value_from_mapped v w ys p
    overlay_value v (x ∷ xs) w ys p = step_value v x xs (overlay cmp x.1 xs) p (λ w ys. overlay_value x.1 xs w ys p) w ys

    mapped_ascends : (v : V) (low : Option C) (ys : List (C × W)) → ascends cmp low ys ≡ true → ascends cmp {V = V × W} low (map (λ y. (y.0, (v, y.1))) ys) ≡ true
    mapped_ascends v low [] a = refl
    mapped_ascends v low (y ∷ ys) a = let q = and_parts _ _ a in and_from _ _ q.0 (mapped_ascends v (Some y.0) ys q.1)

    order_ascends : (v : V) (x : C × V) (xs : List (C × V)) (w : W) (y : C × W) (ys : List (C × W)) (first both second : List (C × (V × W))) →
        (ascends cmp (Some x.0) xs ≡ true → ascends cmp (Some x.0) (y ∷ ys) ≡ true → ascends cmp (Some x.0) first ≡ true) →
        (ascends cmp (Some x.0) xs ≡ true → ascends cmp (Some x.0) ys ≡ true → ascends cmp (Some x.0) both ≡ true) →
        (ascends cmp (Some y.0) (x ∷ xs) ≡ true → ascends cmp (Some y.0) ys ≡ true → ascends cmp (Some y.0) second ≡ true) →
        (low : Option C) → ascends cmp low (x ∷ xs) ≡ true → ascends cmp low (y ∷ ys) ≡ true →
        (r : Ordering) → cmp x.0 y.0 ≡ r →
        ascends cmp {V = V × W} low (match_ordering r ((x.0, (x.1, w)) ∷ first) ((x.0, (x.1, y.1)) ∷ both) ((y.0, (v, y.1)) ∷ second)) ≡ true
    order_ascends v x xs w y ys first both second h1 h2 h3 low h4 h5 r h6 = grind (arith, and_parts, and_from, ascends_alike)

    step_ascends : (v : V) (x : C × V) (xs : List (C × V)) (more : W → List (C × W) → List (C × (V × W))) →
        ((w : W) (ys : List (C × W)) → ascends cmp (Some x.0) ys ≡ true → ascends cmp (Some x.0) (more w ys) ≡ true) →
        ascends cmp (Some x.0) xs ≡ true →
        (w : W) (ys : List (C × W)) (low : Option C) → is_before cmp low x.0 ≡ true → ascends cmp low ys ≡ true → ascends cmp low (overlay_step cmp v x more w ys) ≡ true
    step_ascends v x xs more h t w [] low a c = and_from _ _ a (h w [] refl)
    step_ascends v x xs more h t w (y ∷ ys) low a c = grind (arith, order_ascends, and_parts, and_from, step_ascends v x xs more h t y.1 ys)

    pub overlay_ascends : (v : V) (xs : List (C × V)) (w : W) (ys : List (C × W)) (low : Option C) → ascends cmp low xs ≡ true → ascends cmp low ys ≡ true → ascends cmp low (overlay cmp v xs w ys) ≡ true
    overlay_ascends v [] w ys low a c = mapped_ascends v low ys c
    overlay_ascends v (x ∷ xs) w ys low a c =
        let q = and_parts _ _ a in
        step_ascends v x xs (overlay cmp x.1 xs) (λ w ys r. overlay_ascends x.1 xs w ys (Some x.0) q.1 r) q.1 w ys low q.0 c

  module _ {V : Type 0} (R : V → V → Type 0) where
    pub alike_itself : ((v : V) → R v v) → (xs : List (C × V)) → Alike cmp R xs xs
    alike_itself r [] = tt
    alike_itself r (x ∷ xs) = (tied_itself o x.0, (r x.1, alike_itself r xs))

    -- a step may be replaced by one that is alike, and moved from one list to the other
    pub alike_moved : ((u v w : V) → R u v → R v w → R u w) → (out : List (C × V)) (c d : C) (u v : V) (rest all : List (C × V)) → cmp c d ≡ Equal → R u v →
        Alike cmp R (out ++ (d, v) ∷ rest) all → Alike cmp R ((out ++ (c, u) ∷ []) ++ rest) all
    alike_moved r [] c d u v rest [] e k a = a
    alike_moved r [] c d u v rest (y ∷ ys) e k a = (o.congr c d y.0 e ∙ a.0, (r u v y.1 k a.1.0, a.1.1))
    alike_moved r (x ∷ out) c d u v rest [] e k a = a
    alike_moved r (x ∷ out) c d u v rest (y ∷ ys) e k a = (a.0, (a.1.0, alike_moved r out c d u v rest ys e k a.1.1))

    pub alike_value : (xs ys : List (C × V)) (v w : V) (p : Option C) → R v w → Alike cmp R xs ys → R (value_from cmp v xs p) (value_from cmp w ys p)
    alike_value [] [] v w p r a = r
    alike_value [] (y ∷ ys) v w p r a = absurd a
    alike_value (x ∷ xs) [] v w p r a = absurd a
    alike_value (x ∷ xs) (y ∷ ys) v w p r a = grind (arith, before_alike, cond, true≢false, false≢true, alike_value xs ys x.1 y.1 p a.1.0 a.1.1)

    pub alike_ascends : (xs ys : List (C × V)) (low : Option C) → Alike cmp R xs ys → ascends cmp low xs ≡ ascends cmp low ys
    alike_ascends [] [] low a = refl
    alike_ascends [] (y ∷ ys) low a = absurd a
    alike_ascends (x ∷ xs) [] low a = absurd a
    alike_ascends (x ∷ xs) (y ∷ ys) low a = grind (arith, before_alike, ascends_alike, alike_ascends xs ys)

  module _ {V : Type 0} {same : V → V → Bool} (s : IsEquivalence same) where
    same_trans : (u v w : V) → same u v ≡ true → same v w ≡ true → same u w ≡ true
    same_trans u v w e f = s.congr u v w e ∙ f

    same_start : (v w : V) (xs : List (C × V)) (p : Option C) → same v w ≡ true → same (value_from cmp v xs p) (value_from cmp w xs p) ≡ true
    same_start v w [] p e = e
    same_start v w (x ∷ xs) p e = grind (arith, cond)

    merge_by : (v : V) (x : C × V) (xs : List (C × V)) (p : Option C) → ascends cmp (Some x.0) xs ≡ true →
        same (value_from cmp v (merge_steps same v xs) p) (value_from cmp v xs p) ≡ true → same (value_from cmp x.1 (merge_steps same x.1 xs) p) (value_from cmp x.1 xs p) ≡ true →
        (t : Bool) → same v x.1 ≡ t → (b : Bool) → is_before cmp p x.0 ≡ b → same (value_from cmp v (cond t (merge_steps same v xs) (x ∷ merge_steps same x.1 xs)) p) (cond b v (value_from cmp x.1 xs p)) ≡ true
    merge_by v x xs p h1 h2 h3 t h4 b h5 = search (rules, value_from_low, ascends_lower, same_trans, same_start, value_from_first, value_from_later)

    -- merged steps are the same function
    pub merge_value : (low : Option C) (v : V) (xs : List (C × V)) (p : Option C) → ascends cmp low xs ≡ true → same (value_from cmp v (merge_steps same v xs) p) (value_from cmp v xs p) ≡ true
    merge_value low v [] p a = s.refl v
    merge_value low v (x ∷ xs) p a =
        let q = and_parts _ _ a in
        merge_by v x xs p q.1 (merge_value low v xs p (ascends_lower low x.0 xs q.0 q.1)) (merge_value (Some x.0) x.1 xs p q.1) (same v x.1) refl (is_before cmp p x.0) refl

    keep_merged : (x : C × V) (xs : List (C × V)) (v : V) (t : Bool) → same v x.1 ≡ t → is_merged same v (merge_steps same v xs) ≡ true → is_merged same x.1 (merge_steps same x.1 xs) ≡ true →
        is_merged same v (cond t (merge_steps same v xs) (x ∷ merge_steps same x.1 xs)) ≡ true
    keep_merged x xs v t h1 h2 h3 = grind arith

    pub merge_merges : (v : V) (xs : List (C × V)) → is_merged same v (merge_steps same v xs) ≡ true
    merge_merges v [] = refl
    merge_merges v (x ∷ xs) = keep_merged x xs v (same v x.1) refl (merge_merges v xs) (merge_merges x.1 xs)

    keep_ascends : (low : Option C) (x : C × V) (ys zs : List (C × V)) (t : Bool) → is_before cmp low x.0 ≡ true → ascends cmp low ys ≡ true → ascends cmp (Some x.0) zs ≡ true → ascends cmp low (cond t ys (x ∷ zs)) ≡ true
    keep_ascends low x ys zs t h1 h2 h3 = grind arith

    pub merge_ascends : (low : Option C) (v : V) (xs : List (C × V)) → ascends cmp low xs ≡ true → ascends cmp low (merge_steps same v xs) ≡ true
    merge_ascends low v [] a = refl
    merge_ascends low v (x ∷ xs) a =
        let q = and_parts _ _ a in
        keep_ascends low x _ _ (same v x.1) q.0 (merge_ascends low v xs (ascends_lower low x.0 xs q.0 q.1)) (merge_ascends (Some x.0) x.1 xs q.1)

-- whether a point is not before the low one
abbrev pub IsFrom : {C : Type 0} → (C → C → Ordering) → Option C → Option C → Type 0
IsFrom cmp None p = Unit {0}
IsFrom cmp (Some c) p = is_before cmp p c ≡ false

-- equality of steps, as `==` of the code has it
abbrev pub same_steps : {C V : Type 0} → (C → C → Bool) → (V → V → Bool) → List (C × V) → List (C × V) → Bool
same_steps eq same = pointwise (λ x y. eq x.0 y.0 && same x.1 y.1)

module _ {C : Type 0} {cmp : C → C → Ordering} (o : IsTotalOrder cmp) where
  pub from_itself : (low : Option C) → IsFrom cmp low low
  from_itself low = grind arith

  turned : (c d : C) → cmp c d ≡ Less → cmp d c ≡ Greater
  turned c d e = o.antisymm d c ∙ ap ordering_reverse e

  pub from_later : (low : Option C) (c : C) (p : Option C) → is_before cmp low c ≡ true → is_before cmp p c ≡ false → IsFrom cmp low p
  from_later low c p h1 h2 = grind arith

  module _ {V : Type 0} {same : V → V → Bool} (s : IsEquivalence same) (eq : C → C → Bool) (ties : (c d : C) → eq c d ≡ is_eq (cmp c d)) where
    -- a point at which the two functions differ
    pub record Differs (low : Option C) (v w : V) (xs ys : List (C × V)) : Type 0 where
      pub point : Option C
      pub from : IsFrom cmp low point
      pub differ : same (value_from cmp v xs point) (value_from cmp w ys point) ≡ false

    abbrev pub Compared : Option C → V → V → List (C × V) → List (C × V) → Type 0
    Compared low v w xs ys = ((same v w && same_steps eq same xs ys) ≡ true) ⊎ Differs low v w xs ys

    -- at a cut of the first that the second has not
    at_first : (low : Option C) (v w : V) (x : C × V) (xs ys : List (C × V)) → ascends cmp low (x ∷ xs) ≡ true → same v x.1 ≡ false → same v w ≡ true →
        value_from cmp w ys (Some x.0) ≡ w → Differs low v w (x ∷ xs) ys
    at_first low v w x xs ys a m e k =
        let q = and_parts _ _ a in
        record {
          point = Some x.0;
          from = from_later low x.0 (Some x.0) q.0 (before_itself o x.0);
          differ = ap (λ u. same u (value_from cmp w ys (Some x.0))) (value_from_later o v x xs (Some x.0) (before_itself o x.0) ∙ value_from_low o x.1 xs (Some x.0) q.1)
              ∙ ap (same x.1) k ∙ s.symm x.1 w ∙ sym (s.congr v w x.1 e) ∙ m;
        }

    turn_differs : (low : Option C) (v w : V) (xs ys : List (C × V)) → Differs low v w xs ys → Differs low w v ys xs
    turn_differs low v w xs ys d = record { point = d.point; from = d.from; differ = s.symm _ _ ∙ d.differ }

    after_equal : (low : Option C) (v w : V) (x y : C × V) (xs ys : List (C × V)) → is_before cmp low x.0 ≡ true → cmp x.0 y.0 ≡ Equal → same v w ≡ true →
        Compared (Some x.0) x.1 y.1 xs ys → Compared low v w (x ∷ xs) (y ∷ ys)
    after_equal low v w x y xs ys h e k (inl f) =
        let q = and_parts (same x.1 y.1) (same_steps eq same xs ys) f in
        inl (and_from _ _ k (and_from _ _ (and_from _ _ (ties x.0 y.0 ∙ ap is_eq e) q.0) q.1))
    after_equal low v w x y xs ys h e k (inr d) = inr (record {
      point = d.point;
      from = from_later low x.0 d.point h d.from;
      differ = ap (λ u. same u (value_from cmp w (y ∷ ys) d.point)) (value_from_later o v x xs d.point d.from)
          ∙ ap (same (value_from cmp x.1 xs d.point)) (value_from_later o w y ys d.point (sym (before_alike o d.point x.0 y.0 e) ∙ d.from)) ∙ d.differ;
    })

    by_order : (low : Option C) (v w : V) (x y : C × V) (xs ys : List (C × V)) → ascends cmp low (x ∷ xs) ≡ true → ascends cmp low (y ∷ ys) ≡ true → same v x.1 ≡ false → same w y.1 ≡ false → same v w ≡ true →
        (ascends cmp (Some x.0) ys ≡ true → Compared (Some x.0) x.1 y.1 xs ys) → (r : Ordering) → cmp x.0 y.0 ≡ r → Compared low v w (x ∷ xs) (y ∷ ys)
    by_order low v w x y xs ys a b m n k ih Less e = inr (at_first low v w x xs (y ∷ ys) a m k (value_from_first o w y ys (Some x.0) (ap is_lt e)))
    by_order low v w x y xs ys a b m n k ih Equal e = after_equal low v w x y xs ys ((and_parts _ _ a).0) e k (ih (ascends_alike o x.0 y.0 ys e ∙ (and_parts _ _ b).1))
    by_order low v w x y xs ys a b m n k ih Greater e =
        inr (turn_differs low w v (y ∷ ys) (x ∷ xs)
        (at_first low w v y ys (x ∷ xs) b n (s.symm w v ∙ k) (value_from_first o v x xs (Some y.0) (ap is_lt (o.antisymm y.0 x.0 ∙ ap ordering_reverse e)))))

    not_not : (b : Bool) → not b ≡ true → b ≡ false
    not_not b h1 = grind arith

    at_start : (low : Option C) (v w : V) (xs ys : List (C × V)) → ascends cmp low xs ≡ true → ascends cmp low ys ≡ true → (t : Bool) → same v w ≡ t → (same v w ≡ true → Compared low v w xs ys) → Compared low v w xs ys
    at_start low v w xs ys a b true e h = h e
    at_start low v w xs ys a b false e h = inr (record {
      point = low;
      from = from_itself low;
      differ = ap (λ u. same u (value_from cmp w ys low)) (value_from_low o v xs low a) ∙ ap (same v) (value_from_low o w ys low b) ∙ e;
    })

    -- merged functions have equal lists, or differ at a point
    pub compared : (low : Option C) (v w : V) (xs ys : List (C × V)) → ascends cmp low xs ≡ true → ascends cmp low ys ≡ true → is_merged same v xs ≡ true → is_merged same w ys ≡ true → Compared low v w xs ys
    compared low v w [] [] a b m n = at_start low v w [] [] a b (same v w) refl (λ e. inl (and_from _ _ e refl))
    compared low v w [] (y ∷ ys) a b m n =
        at_start low v w [] (y ∷ ys) a b (same v w) refl (λ e. inr (turn_differs low w v (y ∷ ys) [] (at_first low w v y ys [] b (not_not _ ((and_parts _ _ n).0)) (s.symm w v ∙ e) refl)))
    compared low v w (x ∷ xs) [] a b m n =
        at_start low v w (x ∷ xs) [] a b (same v w) refl (λ e. inr (at_first low v w x xs [] a (not_not _ ((and_parts _ _ m).0)) e refl))
    compared low v w (x ∷ xs) (y ∷ ys) a b m n =
        at_start low v w (x ∷ xs) (y ∷ ys) a b (same v w) refl
        (λ e. by_order low v w x y xs ys a b (not_not _ ((and_parts _ _ m).0)) (not_not _ ((and_parts _ _ n).0)) e
        (λ f. compared (Some x.0) x.1 y.1 xs ys ((and_parts _ _ a).1) f ((and_parts _ _ m).1) ((and_parts _ _ n).1)) (cmp x.0 y.0) refl)

    -- equal lists are one function
    pub same_value : (v w : V) (xs ys : List (C × V)) (p : Option C) → same v w ≡ true → same_steps eq same xs ys ≡ true → same (value_from cmp v xs p) (value_from cmp w ys p) ≡ true
    same_value v w [] [] p e f = e
    same_value v w [] (y ∷ ys) p e f = absurd (false≢true f)
    same_value v w (x ∷ xs) [] p e f = absurd (false≢true f)
    same_value v w (x ∷ xs) (y ∷ ys) p e f =
        let q = and_parts (eq x.0 y.0 && same x.1 y.1) (same_steps eq same xs ys) f in
        let r = and_parts (eq x.0 y.0) (same x.1 y.1) q.0 in
        let h : is_before cmp p x.0 ≡ is_before cmp p y.0 = before_alike o p x.0 y.0 (is_equal _ (sym (ties x.0 y.0) ∙ r.0)) in
        ap (λ b. same (cond b v (value_from cmp x.1 xs p)) (value_from cmp w (y ∷ ys) p)) h
        ∙ at_both (is_before cmp p y.0) e (same_value x.1 y.1 xs ys p r.1 q.1)
      where
        at_both : (b : Bool) → same v w ≡ true → same (value_from cmp x.1 xs p) (value_from cmp y.1 ys p) ≡ true → same (cond b v (value_from cmp x.1 xs p)) (cond b w (value_from cmp y.1 ys p)) ≡ true
        at_both true e f = e
        at_both false e f = f
