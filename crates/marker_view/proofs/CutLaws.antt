-- If the point of a cut is equal to none of some points, there is a point in the piece before the
-- cut that is in the same order to all of them.
use Rattle.std.proofs.Common.{◌≡◌, ◌+◌, ℕ, suc, Bool, true, false, ◌&&◌, List, [], ◌∷◌, cond, refl, sym, ap, ◌∙◌, arith}
use Rattle.std.specs.Bool.{⊤}
use Rattle.std.specs.Cmp.{IsTotalOrder}
use Rattle.std.specs.List.{list_all}
use Rattle.std.specs.Ordering.{is_lt, ordering_reverse}
use Rattle.std.specs.declared.cmp.Ordering.{Ordering}
use Rattle.std.proofs.lemmas.Cmp.{tied_itself}
use Rattle.version_ranges.specs.Alike.{AreAlike, TiesWithNone}
use Rattle.version_ranges.specs.Point.{Point, point_cmp, point_lt}
use Rattle.version_ranges.specs.Steps.{piece_at}
use Rattle.version_ranges.proofs.AlikeLaws.{point_near}
use Rattle.version_ranges.proofs.PartLaws.{point_total}
use Rattle.version_ranges.proofs.StepLaws.{lt_less, not_true}

module _ {K C : Type 0} {cmp : K → K → Ordering} (o : IsTotalOrder cmp) (pt : C → Point K) (ends : List (Point K)) where
  -- whether a point is before a cut
  abbrev pub stands : Point K → C → Bool
  stands p c = point_lt cmp p (pt c)

  abbrev pub Ascends : {V : Type 0} → Point K → List (C × V) → Type 0
  Ascends low [] = ⊤
  Ascends low (s ∷ xs) = (point_lt cmp low (pt s.0) ≡ true) × Ascends (pt s.0) xs

  -- two points with the same order to the others, in neighboring pieces
  pub record Around {V : Type 0} (low : Point K) (xs : List (C × V)) : Type 0 where
    pub before : Point K
    pub after : Point K
    pub alike : AreAlike cmp before after ends
    pub step : piece_at (stands after) xs ≡ piece_at (stands before) xs + 1
    pub above : point_lt cmp before low ≡ false
    pub later : point_lt cmp after low ≡ false

  pub no_back : (p q : Point K) → point_lt cmp p q ≡ true → point_lt cmp q p ≡ false
  no_back p q h = ap is_lt ((point_total cmp o).antisymm q p ∙ ap ordering_reverse (lt_less (point_cmp cmp p q) h))

  pub not_itself : (p : Point K) → point_lt cmp p p ≡ false
  not_itself p = ap is_lt (tied_itself (point_total cmp o) p)

  pub stays : (low c p : Point K) → point_lt cmp low c ≡ true → point_lt cmp p c ≡ false → point_lt cmp p low ≡ false
  stays low c p h k =
      not_true (point_lt cmp p low) (point_lt cmp p c) (λ e. ap is_lt ((point_total cmp o).trans p low c (lt_less (point_cmp cmp p low) e) (lt_less (point_cmp cmp low c) h))) k

  none_before : {V : Type 0} → (p : Point K) (xs : List (C × V)) → Ascends p xs → piece_at (stands p) xs ≡ 0
  none_before p [] a = refl
  none_before p (s ∷ xs) a = ap (λ b. cond b 0 (suc (piece_at (stands p) xs))) a.0

  first_piece : {V : Type 0} → (p : Point K) (s : C × V) (xs : List (C × V)) → point_lt cmp p (pt s.0) ≡ true → piece_at (stands p) (s ∷ xs) ≡ 0
  first_piece p s xs e = ap (λ b. cond b 0 (suc (piece_at (stands p) xs))) e

  later_piece : {V : Type 0} → (p : Point K) (s : C × V) (xs : List (C × V)) → point_lt cmp p (pt s.0) ≡ false → piece_at (stands p) (s ∷ xs) ≡ suc (piece_at (stands p) xs)
  later_piece p s xs e = ap (λ b. cond b 0 (suc (piece_at (stands p) xs))) e

  at_first : {V : Type 0} → (low : Point K) (s : C × V) (xs : List (C × V)) → Ascends low (s ∷ xs) → TiesWithNone cmp (pt s.0) ends → Around low (s ∷ xs)
  at_first low s xs a n =
      let near = point_near cmp o ends low (pt s.0) n (lt_less (point_cmp cmp low (pt s.0)) a.0) in
      record {
        before = near.0;
        after = pt s.0;
        alike = near.3;
        step = later_piece (pt s.0) s xs (not_itself (pt s.0)) ∙ ap suc (none_before (pt s.0) xs a.1) ∙ sym (ap (λ (i : ℕ). i + 1) (first_piece near.0 s xs near.2));
        above = near.1;
        later = no_back low (pt s.0) a.0;
      }

  further : {V : Type 0} → (low : Point K) (s : C × V) (xs : List (C × V)) → Ascends low (s ∷ xs) → Around (pt s.0) xs → Around low (s ∷ xs)
  further low s xs a i =
      let e = later_piece i.after s xs i.later in
      let f = later_piece i.before s xs i.above in
      record {
        before = i.before;
        after = i.after;
        alike = i.alike;
        step = omega (arith, e, f, i.step);
        above = stays low (pt s.0) i.before a.0 i.above;
        later = stays low (pt s.0) i.after a.0 i.later;
      }

  pub around : {V : Type 0} → (ok : C → Bool) → ((c : C) → ok c ≡ false → TiesWithNone cmp (pt c) ends) → (low : Point K) (xs : List (C × V)) → Ascends low xs → list_all (λ s. ok s.0) xs ≡ false → Around low xs
  around ok ties low [] a h = cc
  around ok ties low (s ∷ xs) a h = by_test (ok s.0) refl (around ok ties (pt s.0) xs a.1)
    where
      by_test : (b : Bool) → ok s.0 ≡ b → (list_all (λ t. ok t.0) xs ≡ false → Around (pt s.0) xs) → Around low (s ∷ xs)
      by_test false e next = at_first low s xs a (ties s.0 e)
      by_test true e next = further low s xs a (next (sym (ap (λ b. b && list_all (λ t. ok t.0) xs) e) ∙ h))
