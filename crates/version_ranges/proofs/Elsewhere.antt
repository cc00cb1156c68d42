-- For `names_have_the_values_of_points`: what is true at every point over the values of an order is
-- true at every point over other names of these values, because a function with finitely many cuts
-- cannot distinguish such a point from some point of the order.
use Rattle.std.proofs.Common.{◌≡◌, ℕ, suc, Bool, true, false, cond, List, [], ◌∷◌, ◌++◌, map, Option, Some, None, refl, sym, ap, ◌∙◌, subst, arith}
use Rattle.std.specs.Ordering.{is_lt}
use Rattle.std.specs.declared.cmp.Ordering.{Ordering}
use Rattle.std.specs.declared.cmp.Ordering.TheVariants.{Less, Equal}
use Rattle.std.specs.Cmp.{IsTotalOrder}
use Rattle.std.proofs.lemmas.Bool.{true≢false, false≢true}
use Rattle.std.proofs.lemmas.Cmp.{alike_right}
use Rattle.version_ranges.specs.declared.cut.Cut.{Cut}
use Rattle.version_ranges.specs.declared.cuts.Cuts.{Cuts}
use Rattle.version_ranges.specs.declared.lent.CutsRef.{CutsRef}
use Rattle.version_ranges.specs.Lent as lent
use Rattle.version_ranges.specs.Point.{Point, at, point_map, point_cmp, point_lt}
use Rattle.version_ranges.specs.Cut.{cut_cmp, cut_point, stands_before}
use Rattle.version_ranges.specs.Cuts.{value_by, value_of, piece_by, piece_of}
use Rattle.version_ranges.specs.Steps.{is_before, value_at, piece_at}
use Rattle.version_ranges.proofs.StepLaws.{before_itself, before_trans, lt_less}
use Rattle.version_ranges.proofs.PointLaws.{cut_total, point_of, value_at_same, piece_at_same, value_at_point, piece_at_point}
use Rattle.version_ranges.proofs.PartLaws.{point_total}

module _ {C : Type 0} (cmp : C → C → Ordering) where
  -- a test of cuts that a point could give: it is true upward, and the same for equal cuts
  pub record IsStanding (t : C → Bool) : Type 0 where
    pub upward : (c d : C) → t c ≡ true → cmp c d ≡ Less → t d ≡ true
    pub alike : (c d : C) → cmp c d ≡ Equal → t c ≡ t d

  -- the test and the place agree at these cuts
  abbrev pub Agree : (C → Bool) → Option C → List C → Type 0
  Agree t p [] = Unit {0}
  Agree t p (c ∷ cs) = (t c ≡ is_before cmp p c) × Agree t p cs

  -- the place is the first one, or a cut that the test has passed
  abbrev pub IsPassed : (C → Bool) → Option C → Type 0
  IsPassed t None = Unit {0}
  IsPassed t (Some d) = t d ≡ false

module _ {C : Type 0} {cmp : C → C → Ordering} (o : IsTotalOrder cmp) (t : C → Bool) (h : IsStanding cmp t) where
  -- the order of a cut that is passed and one that is not
  parted : (c d : C) → t c ≡ false → t d ≡ true → cmp c d ≡ Less
  parted c d h1 h2 = grind arith

  raised : (p : Option C) (c : C) (cs : List C) → is_before cmp p c ≡ true → t c ≡ false → Agree cmp t p cs → Agree cmp t (Some c) cs
  raised p c [] e f a = tt
  raised p c (d ∷ cs) e f a = grind (arith, parted, false≢true, before_trans, lt_less, raised p c cs e f a.1)

  agree_more : (p : Option C) (c : C) (cs : List C) → IsPassed cmp t p → Agree cmp t p cs → (b : Bool) → t c ≡ b → (s : Bool) → is_before cmp p c ≡ s → (q : Option C) × IsPassed cmp t q × Agree cmp t q (c ∷ cs)
  agree_more p c cs k a true e true f = (p, k, (e ∙ sym f, a))
  agree_more p c cs k a false e false f = (p, k, (e ∙ sym f, a))
  agree_more p c cs k a false e true f = (Some c, e, (e ∙ sym (before_itself o c), raised p c cs f e a))
  agree_more None c cs k a true e false f = absurd (true≢false f)
  agree_more (Some d) c cs k a true e false f = absurd (true≢false (sym (ap is_lt (parted d c k e)) ∙ f))

  -- a place that agrees with the test at finitely many cuts
  pub located : (cs : List C) → (q : Option C) × IsPassed cmp t q × Agree cmp t q cs
  located [] = (None, tt, tt)
  located (c ∷ cs) = let q = located cs in agree_more q.0 c cs q.1 q.2 (t c) refl (is_before cmp q.0 c) refl

  pub agree_front : (p : Option C) (cs ds : List C) → Agree cmp t p (cs ++ ds) → Agree cmp t p cs
  agree_front p [] ds a = tt
  agree_front p (c ∷ cs) ds a = (a.0, agree_front p cs ds a.1)

  pub agree_back : (p : Option C) (cs ds : List C) → Agree cmp t p (cs ++ ds) → Agree cmp t p ds
  agree_back p [] ds a = a
  agree_back p (c ∷ cs) ds a = agree_back p cs ds a.1

  module _ {V : Type 0} where
    pub agree_value : (p : Option C) (v : V) (xs : List (C × V)) → Agree cmp t p (map (λ x. x.0) xs) → value_at t v xs ≡ value_at (is_before cmp p) v xs
    agree_value p v [] a = refl
    agree_value p v (x ∷ xs) a = ap (λ b. cond b v (value_at t x.1 xs)) a.0 ∙ ap (λ w. cond (is_before cmp p x.0) v w) (agree_value p x.1 xs a.1)

    pub agree_piece : (p : Option C) (xs : List (C × V)) → Agree cmp t p (map (λ x. x.0) xs) → piece_at t xs ≡ piece_at (is_before cmp p) xs
    agree_piece p [] a = refl
    agree_piece p (x ∷ xs) a = ap (λ b. cond b 0 (suc (piece_at t xs))) a.0 ∙ ap (λ w. cond (is_before cmp p x.0) 0 (suc w)) (agree_piece p xs a.1)

module _ {T K : Type 0} (f : T → K) (cmp : T → T → Ordering) (cmp' : K → K → Ordering) (o : IsTotalOrder cmp) (o' : IsTotalOrder cmp') (named : (x y : T) → cmp x y ≡ cmp' (f x) (f y)) where
  named_points : (p q : Point T) → point_cmp cmp' (point_map f p) (point_map f q) ≡ point_cmp cmp p q
  named_points p q = grind arith

  named_cut : (c : Cut T) → cut_point f c ≡ point_map f (cut_point (λ v. v) c)
  named_cut c = grind arith

  -- a point of the order, by the other names
  pub named_before : (p : Point T) (c : Cut T) → stands_before f cmp' (point_map f p) c ≡ stands_before (λ v. v) cmp p c
  named_before p c = ap (point_lt cmp' (point_map f p)) (named_cut c) ∙ ap is_lt (named_points p (cut_point (λ v. v) c))

  cut_by_points : (c d : Cut T) → cut_cmp cmp c d ≡ point_cmp cmp' (cut_point f c) (cut_point f d)
  cut_by_points c d = grind arith

  -- a point by the other names is such a test
  pub standing : (q : Point K) → IsStanding (cut_cmp cmp) (stands_before f cmp' q)
  standing q = record {
    upward = λ c d h e. ap is_lt ((point_total cmp' o').trans q (cut_point f c) (cut_point f d) (lt_less _ h) (sym (cut_by_points c d) ∙ e));
    alike = λ c d e. ap is_lt (alike_right (point_total cmp' o') (cut_point f c) (cut_point f d) q (sym (cut_by_points c d) ∙ e));
  }

  module _ {V : Type 0} (first : V) (xs : List (Cut T × V)) (q : Point K) (r : Option (Cut T)) (h : Agree (cut_cmp cmp) (stands_before f cmp' q) r (map (λ x. x.0) xs)) where
    value_found : value_at (stands_before (λ v. v) cmp (point_of r)) first xs ≡ value_at (stands_before f cmp' q) first xs
    value_found = value_at_point cmp first xs r ∙ sym (agree_value (cut_total o) (stands_before f cmp' q) (standing q) r first xs h)

    piece_found : piece_at (stands_before (λ v. v) cmp (point_of r)) xs ≡ piece_at (stands_before f cmp' q) xs
    piece_found = piece_at_point cmp xs r ∙ sym (agree_piece (cut_total o) (stands_before f cmp' q) (standing q) r xs h)

  module _ {V : Type 0} {a : _} {b : _} {c : _} (cuts : Cuts T V a b c) where
    -- the value and the piece at a point of the order, by the other names
    pub value_by_name : (p : Point T) → value_by f cmp' cuts (point_map f p) ≡ value_of cmp cuts p
    value_by_name p = value_at_same _ _ (named_before p) cuts.first cuts.rest.items

    pub piece_by_name : (p : Point T) → piece_by f cmp' cuts (point_map f p) ≡ piece_of cmp cuts p
    piece_by_name p = piece_at_same _ _ (named_before p) cuts.rest.items

  -- the same of a borrowed function
  pub lent_by_name : {V : Type 0} {a : _} {b : _} {c : _} (l : CutsRef T V a b c) (p : Point T) → lent.value_by f cmp' l (point_map f p) ≡ lent.value_of cmp l p
  lent_by_name l p = value_at_same _ _ (named_before p) l.first.now l.rest.now

  -- what holds of the values and the pieces of three functions at each point, as lists, holds of them at each point by other names
  module _ {V W U : Type 0} (v : V) (w : W) (u : U) (left : List (Cut T × V)) (right : List (Cut T × W)) (both : List (Cut T × U)) where
    pub steps_at_names : (P : V → ℕ → W → ℕ → U → ℕ → Type 0) →
        ((p : Point T) → P (value_at (stands_before (λ v. v) cmp p) v left) (piece_at (stands_before (λ v. v) cmp p) left) (value_at (stands_before (λ v. v) cmp p) w right) (piece_at (stands_before (λ v. v) cmp p) right)
        (value_at (stands_before (λ v. v) cmp p) u both) (piece_at (stands_before (λ v. v) cmp p) both)) →
        (q : Point K) → P (value_at (stands_before f cmp' q) v left) (piece_at (stands_before f cmp' q) left) (value_at (stands_before f cmp' q) w right) (piece_at (stands_before f cmp' q) right)
        (value_at (stands_before f cmp' q) u both) (piece_at (stands_before f cmp' q) both)
    steps_at_names P h q =
        let xs = map (λ (x : Cut T × V). x.0) left in
        let ys = map (λ (x : Cut T × W). x.0) right in
        let zs = map (λ (x : Cut T × U). x.0) both in
        let t = stands_before f cmp' q in
        let r = located (cut_total o) t (standing q) (xs ++ (ys ++ zs)) in
        let i = agree_front (cut_total o) t (standing q) r.0 xs (ys ++ zs) r.2 in
        let rest = agree_back (cut_total o) t (standing q) r.0 xs (ys ++ zs) r.2 in
        let j = agree_front (cut_total o) t (standing q) r.0 ys zs rest in
        let k = agree_back (cut_total o) t (standing q) r.0 ys zs rest in
        let at = stands_before (λ v. v) cmp (point_of r.0) in
        subst (λ x. P x (piece_at t left) (value_at t w right) (piece_at t right) (value_at t u both) (piece_at t both)) (value_found v left q r.0 i)
        (subst (λ n. P (value_at at v left) n (value_at t w right) (piece_at t right) (value_at t u both) (piece_at t both)) (piece_found v left q r.0 i)
        (subst (λ x. P (value_at at v left) (piece_at at left) x (piece_at t right) (value_at t u both) (piece_at t both)) (value_found w right q r.0 j)
        (subst (λ n. P (value_at at v left) (piece_at at left) (value_at at w right) n (value_at t u both) (piece_at t both)) (piece_found w right q r.0 j)
        (subst (λ x. P (value_at at v left) (piece_at at left) (value_at at w right) (piece_at at right) x (piece_at t both)) (value_found u both q r.0 k)
        (subst (λ n. P (value_at at v left) (piece_at at left) (value_at at w right) (piece_at at right) (value_at at u both) n) (piece_found u both q r.0 k) (h (point_of r.0)))))))

  module _ {V W U : Type 0} {a : _} {b : _} {c : _} {a' : _} {b' : _} {c' : _} {a'' : _} {b'' : _} {c'' : _} (left : Cuts T V a b c) (right : Cuts T W a' b' c') (both : Cuts T U a'' b'' c'') where
    -- and of three functions
    pub at_names : (P : V → ℕ → W → ℕ → U → ℕ → Type 0) →
        ((p : Point T) → P (value_of cmp left p) (piece_of cmp left p) (value_of cmp right p) (piece_of cmp right p) (value_of cmp both p) (piece_of cmp both p)) →
        (q : Point K) → P (value_by f cmp' left q) (piece_by f cmp' left q) (value_by f cmp' right q) (piece_by f cmp' right q) (value_by f cmp' both q) (piece_by f cmp' both q)
    at_names = steps_at_names left.first right.first both.first left.rest.items right.rest.items both.rest.items
