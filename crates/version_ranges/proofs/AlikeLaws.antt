-- A point right before another one, as far as finitely many points can distinguish, in any total
-- order.
use Rattle.std.proofs.Common.{◌≡◌, ◌≢◌, true, false, List, [], ◌∷◌, refl, sym, ap, ◌∙◌, arith}
use Rattle.std.specs.Bool.{⊤}
use Rattle.std.specs.Ordering.{is_lt, is_gt, ordering_reverse}
use Rattle.std.specs.declared.cmp.Ordering.{Ordering}
use Rattle.std.specs.declared.cmp.Ordering.TheVariants.{Less, Equal, Greater}
use Rattle.std.specs.Cmp.{IsTotalOrder}
use Rattle.std.proofs.lemmas.Cmp.{tied_itself, tied_back, alike_right}
use Rattle.std.proofs.lemmas.Bool.{true≢false}
use Rattle.version_ranges.specs.Alike.{AreAlike, TiesWithNone}
use Rattle.version_ranges.specs.Point.{Point, point_cmp, point_lt}
use Rattle.version_ranges.proofs.PartLaws.{point_total}

not_less : (r : Ordering) → is_gt r ≡ false → is_lt (ordering_reverse r) ≡ false
not_less r h1 = grind arith

module _ {P : Type 0} (cmp : P → P → Ordering) where
  abbrev pub NoneTies : P → List P → Type 0
  NoneTies c [] = ⊤
  NoneTies c (k ∷ ks) = (cmp k c ≢ Equal) × NoneTies c ks

  abbrev pub StandAlike : P → P → List P → Type 0
  StandAlike p q [] = ⊤
  StandAlike p q (k ∷ ks) = (is_lt (cmp p k) ≡ is_lt (cmp q k)) × StandAlike p q ks

module _ {P : Type 0} {cmp : P → P → Ordering} (o : IsTotalOrder cmp) where
  -- p is not before low and is before c, and before exactly the other points that c is before
  pub record IsNear (low c : P) (ks : List P) (p : P) : Type 0 where
    pub from : is_gt (cmp low p) ≡ false
    pub until : cmp p c ≡ Less
    pub alike : StandAlike cmp p c ks

  le_lt : (x y z : P) → is_gt (cmp x y) ≡ false → cmp y z ≡ Less → cmp x z ≡ Less
  le_lt x y z h1 h2 = grind arith

  turned : (x y : P) → cmp x y ≡ Less → cmp y x ≡ Greater
  turned x y h = o.antisymm y x ∙ ap ordering_reverse h

  -- a later point that is still before c is before the same ones as c, if the earlier one is
  later_alike : (p q c : P) (ks : List P) → cmp p q ≡ Less → cmp q c ≡ Less → StandAlike cmp p c ks → StandAlike cmp q c ks
  later_alike p q c [] h k a = tt
  later_alike p q c (x ∷ ks) h k a = grind (arith, turned, tied_back, true≢false, alike_right, later_alike p q c ks h k a.1)

  near_more : (low c k p : P) (ks : List P) → (cmp k c ≢ Equal) → IsNear low c ks p → (r : Ordering) → cmp k c ≡ r → (t : Ordering) → cmp p k ≡ t → (q : P) × IsNear low c (k ∷ ks) q
  near_more low c k p ks n i Equal e t f = absurd (n e)
  near_more low c k p ks n i Greater e t f = (p, record { from = i.from; until = i.until; alike = (ap is_lt (o.trans p c k i.until after) ∙ ap is_lt (sym after), i.alike) })
    where
      after : cmp c k ≡ Less
      after = o.antisymm c k ∙ ap ordering_reverse e
  near_more low c k p ks n i Less e Less f = (k, record { from = ap is_gt (le_lt low p k i.from f); until = e; alike = (ap is_lt (tied_itself o k) ∙ ap is_lt (sym (turned k c e)), later_alike p k c ks f e i.alike) })
  near_more low c k p ks n i Less e Equal f = (p, record { from = i.from; until = i.until; alike = (ap is_lt f ∙ ap is_lt (sym (turned k c e)), i.alike) })
  near_more low c k p ks n i Less e Greater f = (p, record { from = i.from; until = i.until; alike = (ap is_lt f ∙ ap is_lt (sym (turned k c e)), i.alike) })

  pub near : (low c : P) (ks : List P) → NoneTies cmp c ks → cmp low c ≡ Less → (p : P) × IsNear low c ks p
  near low c [] n h = (low, record { from = ap is_gt (tied_itself o low); until = h; alike = tt })
  near low c (k ∷ ks) n h = let q = near low c ks n.1 h in near_more low c k q.0 ks n.0 q.1 (cmp k c) refl (cmp q.0 k) refl

-- the same of points
module _ {T : Type 0} (cmp : T → T → Ordering) where
  none_tie : (p : Point T) (ends : List (Point T)) → TiesWithNone cmp p ends → NoneTies (point_cmp cmp) p ends
  none_tie p ends h1 = grind arith

  are_alike : (p q : Point T) (ends : List (Point T)) → StandAlike (point_cmp cmp) p q ends → AreAlike cmp p q ends
  are_alike p q ends h1 = grind arith

  pub point_near : IsTotalOrder cmp → (ends : List (Point T)) (low p : Point T) → TiesWithNone cmp p ends → point_cmp cmp low p ≡ Less
      → (q : Point T) × (point_lt cmp q low ≡ false) × (point_lt cmp q p ≡ true) × AreAlike cmp q p ends
  point_near o ends low p n h =
      let place = near (point_total cmp o) low p ends (none_tie p ends n) h in
      let i = place.1 in
      (place.0, ap is_lt ((point_total cmp o).antisymm place.0 low) ∙ not_less (point_cmp cmp low place.0) i.from, ap is_lt i.until, are_alike place.0 p ends i.alike)
