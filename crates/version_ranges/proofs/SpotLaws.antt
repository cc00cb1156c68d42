-- For `Ranges::from_points`: the cuts around sorted values, one below and one above each, ascend, and
-- what they make is the set of these values.
use Rattle.std.proofs.Common.{◌≡◌, ℕ, zero, suc, ◌<◌, get_or, Bool, true, false, not, cond, ◌&&◌, ◌||◌, List, [], ◌∷◌, ◌++◌, length, Option, Some, None, refl, sym, ap, ◌∙◌, subst, append-nil, add-one, arith}
use mathlib.Core.Bool.{beq}
use Rattle.std.specs.List.{list_any, dedup, dedup_from}
use Rattle.std.specs.List.Sorted.{IsSorted, IsPermutation}
use Rattle.std.specs.Ordering.{is_lt, is_eq, ordering_then}
use Rattle.std.specs.declared.cmp.Ordering.{Ordering}
use Rattle.std.specs.declared.cmp.Ordering.TheVariants.{Less, Equal, Greater}
use Rattle.std.specs.declared.ops.Bound.TheVariants.{Included}
use Rattle.std.specs.Cmp.{IsTotalOrder}
use Rattle.std.proofs.lemmas.Bool.{and_parts, and_from}
use Rattle.std.proofs.lemmas.Cmp.{tied_itself, alike_right}
use Rattle.std.proofs.lemmas.List.Sorted.{list_any-IsPermutation}
use Rattle.version_ranges.specs.declared.cut.Cut.{Cut}
use Rattle.version_ranges.specs.Point.{Point, is_in_bounds, point_lt, above}
use Rattle.version_ranges.specs.Cut.{cut_cmp, stands_before}
use Rattle.version_ranges.specs.Steps.{value_at, is_before, ascends, is_merged}
use Rattle.version_ranges.proofs.StepLaws.{Alike, alike_itself, alike_moved, alike_value, alike_ascends, lt_less, is_equal}
use Rattle.version_ranges.proofs.PointLaws.{cut_total, place, value_at_place}
use Rattle.version_ranges.proofs.PartLaws.{before_later}

module _ {T : Type 0} where
  -- a value extends from the cut at it to the cut above it
  abbrev pub low_cut : T → Cut T
  low_cut v = record { value = v; above = false }

  abbrev pub high_cut : T → Cut T
  high_cut v = record { value = v; above = true }

  abbrev pub spots : List T → List (Cut T × Bool)
  spots [] = []
  spots (v ∷ vs) = (low_cut v, true) ∷ (high_cut v, false) ∷ spots vs

  spots_merged : (vs : List T) → is_merged beq false (spots vs) ≡ true
  spots_merged [] = refl
  spots_merged (v ∷ vs) = spots_merged vs

module _ {T : Type 0} {cmp : T → T → Ordering} (o : IsTotalOrder cmp) where
  -- whether a point is at a value
  abbrev pub is_at : Point T → T → Bool
  is_at p v = is_in_bounds cmp (Included v) (Included v) p

  pub low_high : (v : T) → is_lt (cut_cmp cmp (low_cut v) (high_cut v)) ≡ true
  low_high v = ap (λ r. is_lt (ordering_then r Less)) (tied_itself o v)

  none_left : (p : Point T) (c : Cut T) (vs : List T) → ascends (cut_cmp cmp) (Some c) (spots vs) ≡ true → stands_before (λ v. v) cmp p c ≡ true → list_any (is_at p) vs ≡ false
  none_left p c [] a e = refl
  none_left p c (v ∷ vs) a e =
      let q = and_parts _ _ a in
      let r = and_parts _ _ q.1 in
      let low = before_later cmp o p c (low_cut v) e (lt_less _ q.0) in
      ap (λ b. (not b && point_lt cmp p (above v)) || list_any (is_at p) vs) low
      ∙ none_left p (high_cut v) vs r.1 (before_later cmp o p (low_cut v) (high_cut v) low (lt_less _ (low_high v)))

  spot_by : (low high more : Bool) → (high ≡ true → more ≡ false) → (low ≡ true → high ≡ true) → cond low false (cond high true more) ≡ ((not low && high) || more)
  spot_by low high more h1 h2 = grind arith

  -- a point is in the set if it is at a value
  pub spots_value : (low : Option (Cut T)) (vs : List T) (p : Point T) → ascends (cut_cmp cmp) low (spots vs) ≡ true → value_at (stands_before (λ v. v) cmp p) false (spots vs) ≡ list_any (is_at p) vs
  spots_value low [] p a = refl
  spots_value low (v ∷ vs) p a =
      let q = and_parts _ _ a in
      let r = and_parts _ _ q.1 in
      ap (λ w. cond (stands_before (λ v. v) cmp p (low_cut v)) false (cond (stands_before (λ v. v) cmp p (high_cut v)) true w)) (spots_value (Some (high_cut v)) vs p r.1)
      ∙ spot_by (stands_before (λ v. v) cmp p (low_cut v)) (stands_before (λ v. v) cmp p (high_cut v)) (list_any (is_at p) vs) (none_left p (high_cut v) vs r.1)
      (λ e. before_later cmp o p (low_cut v) (high_cut v) e (lt_less _ (low_high v)))

  module _ (eq : T → T → Bool) (ties : (x y : T) → eq x y ≡ is_eq (cmp x y)) where
    -- values that tie are at the same points
    pub at_tied : (p : Point T) (x y : T) → cmp x y ≡ Equal → is_at p x ≡ is_at p y
    at_tied p x y h1 = grind arith

    absorbed : (a b : Bool) → (a || (a || b)) ≡ (a || b)
    absorbed a b = grind arith

    any_from : (p : Point T) (k : T) (xs : List T) → list_any (is_at p) (dedup_from eq k xs) ≡ (is_at p k || list_any (is_at p) xs)
    any_from p k [] = refl
    any_from p k (x ∷ xs) = grind (arith, cond, absorbed, at_tied, is_equal, any_from p k xs, any_from p x xs)

    any_dedup : (p : Point T) (xs : List T) → list_any (is_at p) (dedup eq xs) ≡ list_any (is_at p) xs
    any_dedup p xs = grind (arith, any_from)

    -- no value is less than the one before it
    abbrev pub Rises : T → List T → Type 0
    Rises k [] = Unit {0}
    Rises k (x ∷ xs) = (is_lt (cmp x k) ≡ false) × Rises x xs

    rises_by : (k : T) (xs : List T) → ((j : ℕ) (d : T) → suc j < length (k ∷ xs) → is_lt (cmp (get_or (k ∷ xs) (suc j) d) (get_or (k ∷ xs) j d)) ≡ false) → Rises k xs
    rises_by k [] h = tt
    rises_by k (x ∷ xs) h = (h zero k (omega arith), rises_by x xs (λ j d l. h (suc j) d (omega (arith, l))))

    sorted_rises : (k : T) (xs : List T) → IsSorted cmp (k ∷ xs) → Rises k xs
    sorted_rises k xs s = rises_by k xs (λ j d l. subst (λ n. is_lt (cmp (get_or (k ∷ xs) n d) (get_or (k ∷ xs) j d)) ≡ false) (add-one j) (s j d (omega arith) (omega (arith, l))))

    rises_tied : (x k : T) (xs : List T) → cmp x k ≡ Equal → Rises x xs → Rises k xs
    rises_tied x k [] e r = tt
    rises_tied x k (y ∷ ys) e r = (ap is_lt (sym (alike_right o x k y e)) ∙ r.0, r.1)

    after_it : (x k : T) → is_lt (cmp x k) ≡ false → eq x k ≡ false → cmp k x ≡ Less
    after_it x k h1 h2 = grind arith

    dedup_ascends : (low : Option (Cut T)) (k : T) (xs : List T) → is_before (cut_cmp cmp) low (low_cut k) ≡ true → Rises k xs → ascends (cut_cmp cmp) low (spots (dedup_from eq k xs)) ≡ true
    dedup_ascends low k [] h r = and_from _ _ h (and_from _ _ (low_high k) refl)
    dedup_ascends low k (x ∷ xs) h r = by_test (eq x k) refl (dedup_ascends low k xs h) (dedup_ascends (Some (high_cut k)) x xs)
      where
        by_test : (b : Bool) → eq x k ≡ b → (Rises k xs → ascends (cut_cmp cmp) low (spots (dedup_from eq k xs)) ≡ true) →
            (is_before (cut_cmp cmp) (Some (high_cut k)) (low_cut x) ≡ true → Rises x xs → ascends (cut_cmp cmp) (Some (high_cut k)) (spots (dedup_from eq x xs)) ≡ true) → ascends (cut_cmp cmp) low (spots (cond b (dedup_from eq k xs) (k ∷ dedup_from eq x xs))) ≡ true
        by_test true e m n = m (rises_tied x k xs (is_equal _ (sym (ties x k) ∙ e)) r.1)
        by_test false e m n = and_from _ _ h (and_from _ _ (low_high k) (n (ap (λ q. is_lt (ordering_then q Greater)) (after_it x k r.0 e)) r.1))

    sorted_ascends : (xs : List T) → IsSorted cmp xs → ascends (cut_cmp cmp) None (spots (dedup eq xs)) ≡ true
    sorted_ascends [] s = refl
    sorted_ascends (x ∷ xs) s = dedup_ascends None x xs refl (sorted_rises x xs s)

  abbrev pub SameFlag : Bool → Bool → Type 0
  SameFlag a b = a ≡ b

  -- what the loop keeps
  abbrev pub Spotted : List (Cut T × Bool) → List T → List T → Type 0
  Spotted out left all = Alike (cut_cmp cmp) SameFlag (out ++ spots left) (spots all)

  pub spots_init : (out : List (Cut T × Bool)) (left all : List T) → out ≡ [] → left ≡ all → Spotted out left all
  spots_init out left all e f = rw (e, f) (alike_itself (cut_total o) SameFlag (λ v. refl) (spots all))

  pub spots_step : (out one two : List (Cut T × Bool)) (c : Cut T) (v : T) (left rest all : List T) → Spotted out left all → left ≡ v ∷ rest → one ≡ out ++ (c, true) ∷ [] → two ≡ one ++ (high_cut v, false) ∷ [] →
      cut_cmp cmp c (low_cut v) ≡ Equal → Spotted two rest all
  spots_step out one two c v left rest all a e f h k =
      let start : Spotted out (v ∷ rest) all = subst (λ l. Spotted out l all) e a in
      let trans : (x y z : Bool) → SameFlag x y → SameFlag y z → SameFlag x z = λ x y z m n. m ∙ n in
      let first = alike_moved (cut_total o) SameFlag trans out c (low_cut v) true true ((high_cut v, false) ∷ spots rest) (spots all) k refl start in
      let second = alike_moved (cut_total o) SameFlag trans (out ++ (c, true) ∷ []) (high_cut v) (high_cut v) false false (spots rest) (spots all) (tied_itself (cut_total o) (high_cut v)) refl first in
      subst (λ l. Spotted l rest all) (sym (h ∙ ap (λ l. l ++ (high_cut v, false) ∷ []) f)) second

  flags_merged : (v w : Bool) (xs ys : List (Cut T × Bool)) → v ≡ w → Alike (cut_cmp cmp) SameFlag xs ys → is_merged beq v xs ≡ is_merged beq w ys
  flags_merged v w [] [] e a = refl
  flags_merged v w [] (y ∷ ys) e a = absurd a
  flags_merged v w (x ∷ xs) [] e a = absurd a
  flags_merged v w (x ∷ xs) (y ∷ ys) e a = grind (arith, not, beq, flags_merged x.1 y.1 xs ys a.1.0 a.1.1)

  module _ (out : List (Cut T × Bool)) (left all : List T) (a : Spotted out left all) (e : left ≡ []) where
    spots_end : Alike (cut_cmp cmp) SameFlag out (spots all)
    spots_end = subst (λ l. Alike (cut_cmp cmp) SameFlag l (spots all)) (ap (λ l. out ++ spots l) e ∙ append-nil out) a

    pub made_merged : is_merged beq false out ≡ true
    made_merged = flags_merged false false out (spots all) refl spots_end ∙ spots_merged all

    module _ (eq : T → T → Bool) (ties : (x y : T) → eq x y ≡ is_eq (cmp x y)) (sorted : List T) (f : all ≡ dedup eq sorted) (s : IsSorted cmp sorted) where
      all_ascends : ascends (cut_cmp cmp) None (spots all) ≡ true
      all_ascends = subst (λ l. ascends (cut_cmp cmp) None (spots l) ≡ true) (sym f) (sorted_ascends eq ties sorted s)

      pub made_ascends : ascends (cut_cmp cmp) None out ≡ true
      made_ascends = alike_ascends (cut_total o) SameFlag out (spots all) None spots_end ∙ all_ascends

      pub made_value : (points : List T) → IsPermutation points sorted → (p : Point T) → value_at (stands_before (λ v. v) cmp p) false out ≡ list_any (is_at p) points
      made_value points m p =
          value_at_place cmp false out p ∙ alike_value (cut_total o) SameFlag out (spots all) false false (place p) refl spots_end ∙ sym (value_at_place cmp false (spots all) p)
          ∙ spots_value None all p all_ascends ∙ ap (list_any (is_at p)) f ∙ any_dedup eq ties p sorted ∙ sym (list_any-IsPermutation (is_at p) points sorted m)
