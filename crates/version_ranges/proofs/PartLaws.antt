-- The pieces of a function, one after another, and the points that lie in them.
use Rattle.std.proofs.Common.{◌≡◌, ℕ, zero, suc, ◌<◌, ◌≤◌, get_or, Bool, true, false, not, cond, List, [], ◌∷◌, length, vec_len, Option, Some, None, refl, sym, ap, ◌∙◌, subst, arith, rules}
use Rattle.std.specs.Prelude.{slice_get}
use Rattle.std.specs.Ordering.{is_lt, ordering_then}
use Rattle.std.specs.declared.cmp.Ordering.{Ordering}
use Rattle.std.specs.declared.cmp.Ordering.TheVariants.{Less, Equal}
use Rattle.std.specs.Cmp.{IsTotalOrder}
use Rattle.std.specs.List.Sorted.{IsPartitionedBy, IsPartitionPoint}
use Rattle.std.proofs.lemmas.Bool.{and_parts, and_from, true≢false, false≢true}
use Rattle.std.specs.declared.ops.Bound.{Bound}
use Rattle.std.specs.declared.ops.Bound.TheVariants.{Included, Excluded, Unbounded}
use Rattle.version_ranges.specs.declared.cut.Cut.{Cut}
use Rattle.version_ranges.specs.Point.{Point, at, above, point_cmp, point_lt, is_from, is_until}
use Rattle.version_ranges.specs.Cut.{cut_cmp, cut_point, stands_before, lower_of, upper_of}
use Rattle.version_ranges.specs.Steps.{value_at, piece_at, ascends}
use Rattle.version_ranges.specs.Parts.{Part, parts_from, parts_of, IsIn, ArePieces}
use Rattle.version_ranges.specs.Cuts.{piece_of}
use Rattle.version_ranges.specs.declared.cuts.Cuts.{Cuts}
use Rattle.std.specs.Option.{option_cmp}
use Rattle.std.specs.Cmp.Lexicographic.{options_total}
use Rattle.std.proofs.lemmas.Cmp.{on_total}
use Rattle.std.proofs.lemmas.Option.{slice_get_within}
use Rattle.version_ranges.proofs.StepLaws.{before_trans, lt_less, not_true}
use Rattle.version_ranges.proofs.PointLaws.{cut_total, place, point_of, place_before, piece_at_point}
use Rattle.version_ranges.proofs.PieceLaws.{piece_point, none_some, same_some}

module _ {C V : Type 0} (t : C → Bool) where
  -- if each earlier cut is passed and no later one is, that many pieces are passed
  pub partition_piece : (xs : List (C × V)) (i : ℕ) → i ≤ length xs → ((k : ℕ) (d : C × V) → k < i → not (t (get_or xs k d).0) ≡ true) →
      ((k : ℕ) (d : C × V) → i ≤ k → k < length xs → not (t (get_or xs k d).0) ≡ false) → piece_at t xs ≡ i
  partition_piece [] i h f g = omega arith
  partition_piece (x ∷ xs) zero h f g = by_test (t x.0) (g 0 x (omega arith) (omega arith))
    where
      by_test : (b : Bool) → not b ≡ false → cond b 0 (suc (piece_at t xs)) ≡ 0
      by_test true e = refl
      by_test false e = absurd (true≢false e)
  partition_piece (x ∷ xs) (suc i) h f g =
      by_test (t x.0) (f 0 x (omega arith)) (partition_piece xs i (omega arith) (λ k d l. f (suc k) d (omega arith)) (λ k d l m. g (suc k) d (omega arith) (omega arith)))
    where
      by_test : (b : Bool) → not b ≡ true → piece_at t xs ≡ i → cond b 0 (suc (piece_at t xs)) ≡ suc i
      by_test true e k = absurd (false≢true e)
      by_test false e k = ap suc k

  -- two points in different pieces have a cut between them
  pub between : (u : C → Bool) (xs : List (C × V)) → piece_at t xs < piece_at u xs → (c : C) × (t c ≡ true) × (u c ≡ false)
  between u [] h = absurd (omega arith)
  between u (x ∷ xs) h = grind (arith, cond, between u xs)

pub is_not : (b : Bool) → not b ≡ true → b ≡ false
is_not b h1 = grind arith

module _ {C V : Type 0} (cmp : C → C → Ordering) (t : C → Bool) (upward : (c d : C) → t c ≡ true → cmp c d ≡ Less → t d ≡ true) where
  -- if the test is true of a cut, it is true of each later one
  later_holds : (c : C) (xs : List (C × V)) (j : ℕ) (d : C × V) → ascends cmp (Some c) xs ≡ true → j < length xs → t c ≡ true → t (get_or xs j d).0 ≡ true
  later_holds c [] j d a h k = absurd (omega (arith, h))
  later_holds c (x ∷ xs) zero d a h k = upward c x.0 k (lt_less _ ((and_parts _ _ a).0))
  later_holds c (x ∷ xs) (suc j) d a h k =
      let q = and_parts _ _ a in
      later_holds x.0 xs j d q.1 (omega (arith, h)) (upward c x.0 k (lt_less _ q.0))

  -- the cuts of which the test is not true are before the others
  pub parted_by : (low : Option C) (xs : List (C × V)) → ascends cmp low xs ≡ true → IsPartitionedBy (λ y. not (t y.0)) xs
  parted_by low [] a i j d h k e = absurd (omega (arith, k))
  parted_by low (x ∷ xs) a zero zero d h k e = e
  parted_by low (x ∷ xs) a zero (suc j) d h k e = ap not (not_true _ _ (later_holds x.0 xs j d ((and_parts _ _ a).1) (omega (arith, k))) (is_not _ e))
  parted_by low (x ∷ xs) a (suc i) zero d h k e = absurd (omega (arith, h))
  parted_by low (x ∷ xs) a (suc i) (suc j) d h k e = parted_by (Some x.0) xs ((and_parts _ _ a).1) i j d (omega (arith, h)) (omega (arith, k)) e

then_equal : (r : Ordering) → ordering_then r Equal ≡ r
then_equal r = grind arith

parts_length : {T V : Type 0} (low : Bound T) (v : V) (xs : List (Cut T × V)) → length (parts_from low v xs) ≡ suc (length xs)
parts_length low v [] = refl
parts_length low v (x ∷ xs) = ap suc (parts_length (lower_of x.0) x.1 xs)

module _ {T : Type 0} (cmp : T → T → Ordering) where
  lower_by : (p : Point T) (w : T) (b : Bool) → is_from cmp (cond b (Excluded w) (Included w)) p ≡ not (point_lt cmp p (cond b (above w) (at w)))
  lower_by p w b = grind arith

  upper_by : (p : Point T) (w : T) (b : Bool) → is_until cmp (cond b (Included w) (Excluded w)) p ≡ point_lt cmp p (cond b (above w) (at w))
  upper_by p w b = grind arith

  pub lower_is : (p : Point T) (c : Cut T) → is_from cmp (lower_of c) p ≡ not (stands_before (λ v. v) cmp p c)
  lower_is p c = lower_by p c.value c.above

  pub upper_is : (p : Point T) (c : Cut T) → is_until cmp (upper_of c) p ≡ stands_before (λ v. v) cmp p c
  upper_is p c = upper_by p c.value c.above

  pub bottom_from : (p : Point T) → is_from cmp Unbounded p ≡ true
  bottom_from p = grind arith

  pub before_later : IsTotalOrder cmp → (p : Point T) (c d : Cut T) → stands_before (λ v. v) cmp p c ≡ true → cut_cmp cmp c d ≡ Less → stands_before (λ v. v) cmp p d ≡ true
  before_later o p c d h e = place_before cmp p d ∙ before_trans (cut_total o) (place p) c d (sym (place_before cmp p c) ∙ h) e

  module _ {V : Type 0} where
    -- a point lies in the part at the index of its piece
    pub part_covers : (low : Bound T) (v : V) (xs : List (Cut T × V)) (p : Point T) → is_from cmp low p ≡ true →
        (part : Part T V) × (slice_get (parts_from low v xs) (piece_at (stands_before (λ v. v) cmp p) xs) ≡ Some part) × IsIn cmp part p × (part.value ≡ value_at (stands_before (λ v. v) cmp p) v xs)
    part_covers low v [] p h = (record { lower = low; upper = Unbounded; value = v }, refl, and_from _ _ h refl, refl)
    part_covers low v (x ∷ xs) p h = by_test (stands_before (λ v. v) cmp p x.0) refl (λ f. part_covers (lower_of x.0) x.1 xs p f)
      where
        by_test : (b : Bool) → stands_before (λ v. v) cmp p x.0 ≡ b →
            (is_from cmp (lower_of x.0) p ≡ true → (part : Part T V) × (slice_get (parts_from (lower_of x.0) x.1 xs) (piece_at (stands_before (λ v. v) cmp p) xs) ≡ Some part) × IsIn cmp part p × (part.value ≡ value_at (stands_before (λ v. v) cmp p) x.1 xs)) →
            (part : Part T V) × (slice_get (parts_from low v (x ∷ xs)) (cond b 0 (suc (piece_at (stands_before (λ v. v) cmp p) xs))) ≡ Some part) × IsIn cmp part p × (part.value ≡ cond b v (value_at (stands_before (λ v. v) cmp p) x.1 xs))
        by_test true e k = (record { lower = low; upper = upper_of x.0; value = v }, refl, and_from _ _ h (upper_is p x.0 ∙ e), refl)
        by_test false e k = k (lower_is p x.0 ∙ ap not e)

    module _ (o : IsTotalOrder cmp) where
      -- a point from a later part on has passed this cut
      passed : (c : Cut T) (v : V) (xs : List (Cut T × V)) (i : ℕ) (part : Part T V) (p : Point T) → ascends (cut_cmp cmp) (Some c) xs ≡ true →
          slice_get (parts_from (lower_of c) v xs) i ≡ Some part → is_from cmp part.lower p ≡ true → stands_before (λ v. v) cmp p c ≡ false
      passed c v [] zero part p a e f = is_not _ (sym (lower_is p c) ∙ subst (λ q. is_from cmp q.lower p ≡ true) (sym (same_some _ _ e)) f)
      passed c v [] (suc i) part p a e f = none_some _ e
      passed c v (x ∷ xs) zero part p a e f = is_not _ (sym (lower_is p c) ∙ subst (λ q. is_from cmp q.lower p ≡ true) (sym (same_some _ _ e)) f)
      passed c v (x ∷ xs) (suc i) part p a e f =
          let q = and_parts _ _ a in
          not_true _ _ (λ h. before_later o p c x.0 h (lt_less _ q.0)) (passed x.0 x.1 xs i part p q.1 e f)

      -- a point lies in no part but that of its piece
      pub part_apart : (low : Option (Cut T)) (lower : Bound T) (v : V) (xs : List (Cut T × V)) (i : ℕ) (part : Part T V) (p : Point T) → ascends (cut_cmp cmp) low xs ≡ true →
          slice_get (parts_from lower v xs) i ≡ Some part → IsIn cmp part p → piece_at (stands_before (λ v. v) cmp p) xs ≡ i
      part_apart low lower v [] zero part p a e f = refl
      part_apart low lower v [] (suc i) part p a e f = none_some _ e
      part_apart low lower v (x ∷ xs) zero part p a e f =
          let h : IsIn cmp (record { lower = lower; upper = upper_of x.0; value = v }) p = subst (λ q. IsIn cmp q p) (sym (same_some _ _ e)) f in
          ap (λ b. cond b 0 (suc (piece_at (stands_before (λ v. v) cmp p) xs))) (sym (upper_is p x.0) ∙ (and_parts _ _ h).1)
      part_apart low lower v (x ∷ xs) (suc i) part p a e f =
          let q = and_parts _ _ a in
          ap (λ b. cond b 0 (suc (piece_at (stands_before (λ v. v) cmp p) xs))) (passed x.0 x.1 xs i part p q.1 e ((and_parts _ _ f).0))
          ∙ ap suc (part_apart (Some x.0) (lower_of x.0) x.1 xs i part p q.1 e f)

  -- the order of points is that of their places
  pub place_cmp : (p q : Point T) → option_cmp (cut_cmp cmp) (place p) (place q) ≡ point_cmp cmp p q
  place_cmp p q = grind arith

  module _ (o : IsTotalOrder cmp) where
    -- points are in a total order
    pub point_total : IsTotalOrder (point_cmp cmp)
    point_total = subst IsTotalOrder (λ i p q. place_cmp p q i) (on_total place (options_total (cut_total o)))

    less_by : (p q r : Point T) → point_cmp cmp p r ≡ Less → is_lt (point_cmp cmp q r) ≡ false → (s : Ordering) → point_cmp cmp p q ≡ s → s ≡ Less
    less_by p q r h1 h2 s h3 = search (rules, false≢true)

    -- a point before a cut is before a point that has passed it
    pub parted_less : (p q : Point T) (c : Cut T) → stands_before (λ v. v) cmp p c ≡ true → stands_before (λ v. v) cmp q c ≡ false → point_cmp cmp p q ≡ Less
    parted_less p q c h k = less_by p q (cut_point (λ v. v) c) (lt_less _ h) k (point_cmp cmp p q) refl

    module _ {V : Type 0} {a : _} {b : _} {c : _} (cuts : Cuts T V a b c) (asc : ascends (cut_cmp cmp) None cuts.rest.items ≡ true) where
      part_point : (i : ℕ) → i < suc (length cuts.rest.items) → (p : Point T) × (piece_of cmp cuts p ≡ i)
      part_point i h =
          let q = piece_point (cut_cmp cmp) (cut_total o) None cuts.rest.items i asc h in
          (point_of q.0, piece_at_point cmp cuts.rest.items q.0 ∙ q.2)

      part_nonempty : (i : ℕ) (part : Part T V) → slice_get (parts_of cuts) i ≡ Some part → (p : Point T) × IsIn cmp part p
      part_nonempty i part e =
          let h : i < suc (length cuts.rest.items) = omega (arith, slice_get_within (parts_of cuts) i part e, parts_length Unbounded cuts.first cuts.rest.items) in
          let p = part_point i h in
          let q = part_covers Unbounded cuts.first cuts.rest.items p.0 (bottom_from p.0) in
          (p.0, subst (λ r. IsIn cmp r p.0) (same_some _ _ (sym q.1 ∙ ap (slice_get (parts_of cuts)) p.1 ∙ e)) q.2)

      pub are_pieces : vec_len cuts.rest ≡ length cuts.rest.items → ArePieces cmp cuts (parts_of cuts)
      are_pieces len = record {
        count = omega (arith, parts_length Unbounded cuts.first cuts.rest.items, len);
        covers = λ p. part_covers Unbounded cuts.first cuts.rest.items p (bottom_from p);
        apart = λ i part p e h. part_apart o None Unbounded cuts.first cuts.rest.items i part p asc e h;
        nonempty = part_nonempty;
        ascending = λ p q h. let c = between (stands_before (λ v. v) cmp p) (stands_before (λ v. v) cmp q) cuts.rest.items h in parted_less p q c.0 c.1 c.2;
      }

-- the result of `partition_point` is the piece
pub parted_piece : {C V : Type 0} (t : C → Bool) (xs ys : List (C × V)) (i : ℕ) → ys ≡ xs → i ≤ length ys → IsPartitionPoint (λ y. not (t y.0) ≡ true) (λ y. not (t y.0) ≡ false) ys i → piece_at t xs ≡ i
parted_piece t xs ys i e h p =
    let q : IsPartitionPoint (λ y. not (t y.0) ≡ true) (λ y. not (t y.0) ≡ false) xs i = subst (λ l. IsPartitionPoint (λ y. not (t y.0) ≡ true) (λ y. not (t y.0) ≡ false) l i) e p in
    partition_piece t xs i (subst (λ l. i ≤ length l) e h) (λ k d l. q.0 k d (omega arith) l) (λ k d l m. q.1 k d l m)
