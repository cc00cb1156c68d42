-- The intervals of a set: its points and no other, in order.
use Rattle.std.proofs.Common.{◌≡◌, Bool, true, false, not, cond, ◌&&◌, ◌||◌, List, [], ◌∷◌, Option, Some, None, refl, sym, ap, ◌∙◌, arith}
use mathlib.Core.Bool.{beq}
use Rattle.std.specs.List.{list_any}
use Rattle.std.specs.declared.cmp.Ordering.{Ordering}
use Rattle.std.specs.declared.cmp.Ordering.TheVariants.{Less}
use Rattle.std.specs.declared.ops.Bound.{Bound}
use Rattle.std.specs.declared.ops.Bound.TheVariants.{Unbounded}
use Rattle.std.specs.Cmp.{IsTotalOrder}
use Rattle.std.proofs.lemmas.Bool.{and_parts, and_from, true≢false, false≢true}
use Rattle.version_ranges.specs.declared.cut.Cut.{Cut}
use Rattle.version_ranges.specs.declared.ranges.Ranges.{Ranges}
use Rattle.version_ranges.specs.Point.{Point, point_cmp, is_from, is_until}
use Rattle.version_ranges.specs.Cut.{cut_cmp, stands_before, lower_of, upper_of}
use Rattle.version_ranges.specs.Steps.{value_at, is_before, ascends, is_merged}
use Rattle.version_ranges.specs.Parts.{parts_from}
use Rattle.version_ranges.specs.Intervals.{intervals_among, is_within, StandsBefore, AreAscending, HasGap, AreApart, AreIntervals, intervals_of}
use Rattle.version_ranges.proofs.StepLaws.{lt_less, before_itself}
use Rattle.version_ranges.proofs.PointLaws.{cut_total, point_of, place_before, place_point}
use Rattle.version_ranges.proofs.PartLaws.{lower_is, upper_is, bottom_from, before_later, parted_less, is_not}

module _ {T : Type 0} {cmp : T → T → Ordering} (o : IsTotalOrder cmp) where
  -- a point before a cut is in no interval after it
  none_after : (p : Point T) (c : Cut T) (v : Bool) (xs : List (Cut T × Bool)) → ascends (cut_cmp cmp) (Some c) xs ≡ true → stands_before (λ v. v) cmp p c ≡ true →
      list_any (λ i. is_within cmp i p) (intervals_among (parts_from (lower_of c) v xs)) ≡ false
  none_after p c true [] a e = ap (λ b. (b && true) || false) (lower_is cmp p c ∙ ap not e)
  none_after p c false [] a e = refl
  none_after p c true (x ∷ xs) a e =
      let q = and_parts _ _ a in
      ap (λ b. (b && is_until cmp (upper_of x.0) p) || list_any (λ i. is_within cmp i p) (intervals_among (parts_from (lower_of x.0) x.1 xs))) (lower_is cmp p c ∙ ap not e)
      ∙ none_after p x.0 x.1 xs q.1 (before_later cmp o p c x.0 e (lt_less _ q.0))
  none_after p c false (x ∷ xs) a e = let q = and_parts _ _ a in none_after p x.0 x.1 xs q.1 (before_later cmp o p c x.0 e (lt_less _ q.0))

  covers_by : (p : Point T) (from : Bool) (until : Bool) (v w : Bool) (more : Bool) → from ≡ true → (until ≡ true → more ≡ false) → (until ≡ false → w ≡ more) →
      cond until v w ≡ cond v ((from && until) || more) more
  covers_by p from until v w more h1 h2 h3 = grind arith

  any_cond : (t : Bound T × Bound T → Bool) (v : Bool) (i : Bound T × Bound T) (is : List (Bound T × Bound T)) → list_any t (cond v (i ∷ is) is) ≡ cond v (t i || list_any t is) (list_any t is)
  any_cond t v i is = grind arith

  -- a point is in the set if it is in an interval
  held_covers : (p : Point T) (low : Option (Cut T)) (lower : Bound T) (v : Bool) (xs : List (Cut T × Bool)) → ascends (cut_cmp cmp) low xs ≡ true → is_from cmp lower p ≡ true →
      value_at (stands_before (λ v. v) cmp p) v xs ≡ list_any (λ i. is_within cmp i p) (intervals_among (parts_from lower v xs))
  held_covers p low lower true [] a e = ap (λ b. (b && true) || false) (sym e)
  held_covers p low lower false [] a e = refl
  held_covers p low lower v (x ∷ xs) a e =
      let q = and_parts _ _ a in
      covers_by p (is_from cmp lower p) (stands_before (λ v. v) cmp p x.0) v (value_at (stands_before (λ v. v) cmp p) x.1 xs) (list_any (λ i. is_within cmp i p) (intervals_among (parts_from (lower_of x.0) x.1 xs))) e
      (none_after p x.0 x.1 xs q.1) (λ f. held_covers p (Some x.0) (lower_of x.0) x.1 xs q.1 (lower_is cmp p x.0 ∙ ap not f))
      ∙ ap (λ b. cond v ((is_from cmp lower p && b) || list_any (λ i. is_within cmp i p) (intervals_among (parts_from (lower_of x.0) x.1 xs))) (list_any (λ i. is_within cmp i p) (intervals_among (parts_from (lower_of x.0) x.1 xs)))) (sym (upper_is cmp p x.0))
      ∙ sym (any_cond (λ i. is_within cmp i p) v (lower, upper_of x.0) (intervals_among (parts_from (lower_of x.0) x.1 xs)))

  later_passed : (c d : Cut T) (q : Point T) → cut_cmp cmp c d ≡ Less → stands_before (λ v. v) cmp q d ≡ false → stands_before (λ v. v) cmp q c ≡ false
  later_passed c d q h1 h2 = grind (arith, false≢true, before_later)

  -- the points of an interval that ends at a cut are before those of all intervals from it on
  stands_cond : (i j : Bound T × Bound T) (v : Bool) (js : List (Bound T × Bound T)) → ((p q : Point T) → is_within cmp i p ≡ true → is_within cmp j q ≡ true → point_cmp cmp p q ≡ Less) → StandsBefore cmp i js → StandsBefore cmp i (cond v (j ∷ js) js)
  stands_cond i j v js h1 h2 = grind arith

  before_rest : (i : Bound T × Bound T) (c d : Cut T) (v : Bool) (xs : List (Cut T × Bool)) → ((p : Point T) → is_within cmp i p ≡ true → stands_before (λ v. v) cmp p c ≡ true) →
      ((q : Point T) → stands_before (λ v. v) cmp q d ≡ false → stands_before (λ v. v) cmp q c ≡ false) →
      ascends (cut_cmp cmp) (Some d) xs ≡ true → StandsBefore cmp i (intervals_among (parts_from (lower_of d) v xs))
  before_rest i c d v [] h k a = stands_cond i (lower_of d, Unbounded) v [] (λ p q e f. parted_less cmp o p q c (h p e) (k q (is_not _ (sym (lower_is cmp q d) ∙ (and_parts _ _ f).0)))) tt
  before_rest i c d v (x ∷ xs) h k a =
      let r = and_parts _ _ a in
      stands_cond i (lower_of d, upper_of x.0) v (intervals_among (parts_from (lower_of x.0) x.1 xs)) (λ p q e f. parted_less cmp o p q c (h p e) (k q (is_not _ (sym (lower_is cmp q d) ∙ (and_parts _ _ f).0))))
      (before_rest i c x.0 x.1 xs h (λ q e. k q (later_passed d x.0 q (lt_less _ r.0) e)) r.1)

  ascending_cond : (i : Bound T × Bound T) (v : Bool) (is : List (Bound T × Bound T)) → (p : Point T) → is_within cmp i p ≡ true → StandsBefore cmp i is → AreAscending cmp is → AreAscending cmp (cond v (i ∷ is) is)
  ascending_cond i v is p h1 h2 h3 = grind arith

  held_ascending : (low : Option (Cut T)) (lower : Bound T) (v : Bool) (xs : List (Cut T × Bool)) → ascends (cut_cmp cmp) low xs ≡ true → is_from cmp lower (point_of low) ≡ true → AreAscending cmp (intervals_among (parts_from lower v xs))
  held_ascending low lower v [] a e = ascending_cond (lower, Unbounded) v [] (point_of low) (and_from _ _ e refl) tt tt
  held_ascending low lower v (x ∷ xs) a e =
      let q = and_parts _ _ a in
      let before : stands_before (λ v. v) cmp (point_of low) x.0 ≡ true = place_before cmp (point_of low) x.0 ∙ ap (λ p. is_before (cut_cmp cmp) p x.0) (place_point low) ∙ q.0 in
      let here : stands_before (λ v. v) cmp (point_of (Some x.0)) x.0 ≡ false = place_before cmp (point_of (Some x.0)) x.0 ∙ ap (λ p. is_before (cut_cmp cmp) p x.0) (place_point (Some x.0)) ∙ before_itself (cut_total o) x.0 in
      ascending_cond (lower, upper_of x.0) v (intervals_among (parts_from (lower_of x.0) x.1 xs)) (point_of low) (and_from _ _ e (upper_is cmp (point_of low) x.0 ∙ before))
      (before_rest (lower, upper_of x.0) x.0 x.0 x.1 xs (λ p f. sym (upper_is cmp p x.0) ∙ (and_parts _ _ f).1) (λ q f. f) q.1)
      (held_ascending (Some x.0) (lower_of x.0) x.1 xs q.1 (lower_is cmp (point_of (Some x.0)) x.0 ∙ ap not here))

  other_flag : (v w : Bool) → not (beq v w) ≡ true → w ≡ not v
  other_flag v w h1 = grind arith

  -- an interval that ends at a cut does not touch one that begins at a later cut: the point of the first cut is between
  gap_at : (i : Bound T × Bound T) (c d : Cut T) (upper : Bound T) → ((p : Point T) → is_within cmp i p ≡ true → stands_before (λ v. v) cmp p c ≡ true) → is_before (cut_cmp cmp) (Some c) d ≡ true →
      (p : Point T) × ((q : Point T) → is_within cmp i q ≡ true → point_cmp cmp q p ≡ Less) × ((q : Point T) → is_within cmp (lower_of d, upper) q ≡ true → point_cmp cmp p q ≡ Less)
  gap_at i c d upper h l =
      let before : stands_before (λ v. v) cmp (point_of (Some c)) d ≡ true = place_before cmp (point_of (Some c)) d ∙ ap (λ p. is_before (cut_cmp cmp) p d) (place_point (Some c)) ∙ l in
      (point_of (Some c), λ q e. lt_less _ (h q e), λ q e. parted_less cmp o (point_of (Some c)) q d before (is_not _ (sym (lower_is cmp q d) ∙ (and_parts _ _ e).0)))

  gap_by : (i : Bound T × Bound T) (c d : Cut T) (v : Bool) (xs : List (Cut T × Bool)) → ((p : Point T) → is_within cmp i p ≡ true → stands_before (λ v. v) cmp p c ≡ true) → is_before (cut_cmp cmp) (Some c) d ≡ true →
      v ≡ true → HasGap cmp i (intervals_among (parts_from (lower_of d) v xs))
  gap_by i c d false xs h l e = absurd (false≢true e)
  gap_by i c d true [] h l e = gap_at i c d Unbounded h l
  gap_by i c d true (x ∷ xs) h l e = gap_at i c d (upper_of x.0) h l

  gap_after : (i : Bound T × Bound T) (c : Cut T) (v : Bool) (xs : List (Cut T × Bool)) → ((p : Point T) → is_within cmp i p ≡ true → stands_before (λ v. v) cmp p c ≡ true) →
      ascends (cut_cmp cmp) (Some c) xs ≡ true → is_merged beq v xs ≡ true → v ≡ false → HasGap cmp i (intervals_among (parts_from (lower_of c) v xs))
  gap_after i c true xs h a m e = absurd (true≢false e)
  gap_after i c false [] h a m e = tt
  gap_after i c false (x ∷ xs) h a m e =
      gap_by i c x.0 x.1 xs h ((and_parts _ _ a).0) (other_flag false x.1 ((and_parts (not (beq false x.1)) (is_merged beq x.1 xs) m).0))

  held_apart : (low : Option (Cut T)) (lower : Bound T) (v : Bool) (xs : List (Cut T × Bool)) → ascends (cut_cmp cmp) low xs ≡ true → is_merged beq v xs ≡ true → AreApart cmp (intervals_among (parts_from lower v xs))
  held_apart low lower true [] a m = (tt, tt)
  held_apart low lower false [] a m = tt
  held_apart low lower true (x ∷ xs) a m =
      let q = and_parts _ _ a in
      let n = and_parts (not (beq true x.1)) (is_merged beq x.1 xs) m in
      (gap_after (lower, upper_of x.0) x.0 x.1 xs (λ p f. sym (upper_is cmp p x.0) ∙ (and_parts _ _ f).1) q.1 n.1 (other_flag true x.1 n.0), held_apart (Some x.0) (lower_of x.0) x.1 xs q.1 n.1)
  held_apart low lower false (x ∷ xs) a m = held_apart (Some x.0) (lower_of x.0) x.1 xs ((and_parts _ _ a).1) ((and_parts (not (beq false x.1)) (is_merged beq x.1 xs) m).1)

  module _ {a : _} {b : _} {c : _} where
    pub intervals_apart : (ranges : Ranges T a b c) → ascends (cut_cmp cmp) None ranges.cuts.rest.items ≡ true → is_merged beq ranges.cuts.first ranges.cuts.rest.items ≡ true → AreApart cmp (intervals_of ranges)
    intervals_apart ranges h m = held_apart None Unbounded ranges.cuts.first ranges.cuts.rest.items h m

    pub are_intervals : (ranges : Ranges T a b c) → ascends (cut_cmp cmp) None ranges.cuts.rest.items ≡ true → AreIntervals cmp ranges (intervals_of ranges)
    are_intervals ranges h1 = grind (arith, held_covers, bottom_from, held_ascending)
