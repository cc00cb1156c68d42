-- What a crate above needs of functions of points, in the words of their contracts: how cuts are stored does not show. A function
-- takes the order of its values from its type, and the values may go by other names.
use Rattle.std.proofs.Common.{◌≡◌, ℕ, suc, ◌+◌, ◌<◌, Bool, true, false, not, cond, ◌&&◌, List, [], ◌∷◌, length, map, None, Some, refl, sym, ap, ◌∙◌, arith}
use Rattle.std.specs.Ordering.{is_eq}
use Rattle.std.specs.declared.cmp.Ordering.{Ordering}
use Rattle.std.specs.declared.cmp.Ordering.TheVariants.{Less, Equal, Greater}
use Rattle.std.specs.Cmp.{IsTotalOrder, IsEquivalence}
use Rattle.std.proofs.lemmas.Bool.{and_parts}
use Rattle.version_ranges.specs.declared.cut.Cut.{Cut}
use Rattle.version_ranges.specs.declared.cuts.Cuts.{Cuts}
use Rattle.version_ranges.specs.Point.{Point, bottom, at, above, point_map, point_cmp, point_lt}
use Rattle.version_ranges.specs.Cut.{cut_cmp, stands_before}
use Rattle.version_ranges.specs.Steps.{is_before, ascends, value_at, piece_at, is_merged}
use Rattle.version_ranges.specs.Cuts.{value_by, value_of, piece_by, piece_count, neighbors_differ, IsMerged}
use Rattle.version_ranges.specs.declared.lent.CutsRef.{CutsRef}
use Rattle.version_ranges.specs.Lent as lent
use Rattle.version_ranges.specs.Pairs.{count_of_both, piece_of_both, piece_of_both_by, steps_of_both}
use Rattle.version_ranges.proofs.StepLaws.{same_steps, value_from_low, value_from_later, before_itself}
use Rattle.version_ranges.proofs.PointLaws.{cut_total, point_of, place_point, place_before, value_at_place, value_at_point, bottom_before}
use Rattle.version_ranges.proofs.PieceLaws.{piece_bound}
use Rattle.version_ranges.proofs.PartLaws.{is_not}
use Rattle.version_ranges.proofs.EqualLaws.{cut_eq, equal_values, unequal_point}
use Rattle.version_ranges.proofs.Elsewhere.{value_by_name, at_names, steps_at_names, standing, located, agree_value}

-- equality of functions, as `==` has it
abbrev pub same_functions : {T V : Type 0} → (T → T → Bool) → (V → V → Bool) → {a : _} {b : _} {c : _} (left right : Cuts T V a b c) → Bool
same_functions eq same left right = same left.first right.first && same_steps (cut_eq eq) same left.rest.items right.rest.items

-- ---- pieces

at_bottom : {T K V : Type 0} (f : T → K) (cmp : K → K → Ordering) (xs : List (Cut T × V)) → piece_at (stands_before f cmp bottom) xs ≡ 0
at_bottom f cmp [] = refl
at_bottom f cmp (x ∷ xs) = ap (λ b. cond b 0 (suc (piece_at (stands_before f cmp bottom) xs))) (bottom_before cmp (f x.0.value) x.0.above)

module _ {T K V : Type 0} (f : T → K) (cmp : K → K → Ordering) {a : _} {b : _} {c : _} (cuts : Cuts T V a b c) where
  -- a point lies in one of the pieces
  pub piece_within : (p : Point K) → piece_by f cmp cuts p < piece_count cuts
  piece_within p = let h = piece_bound (stands_before f cmp p) cuts.rest.items in let k = cuts.rest.ok.0 in omega arith

  -- the point below all values lies in the first piece
  pub first_piece : piece_by f cmp cuts bottom ≡ 0
  first_piece = at_bottom f cmp cuts.rest.items

  -- a function of one piece has one value
  pub one_value : piece_count cuts ≡ 1 → (p q : Point K) → value_by f cmp cuts p ≡ value_by f cmp cuts q
  one_value one p q = let k = cuts.rest.ok.0 in no_cuts cuts.rest.items (omega arith)
    where
      no_cuts : (xs : List (Cut T × V)) → length xs ≡ 0 → value_at (stands_before f cmp p) cuts.first xs ≡ value_at (stands_before f cmp q) cuts.first xs
      no_cuts [] h = refl
      no_cuts (x ∷ xs) h = absurd (omega (arith, h))

-- ---- pieces of two functions side by side

module _ {T K V W : Type 0} (cmp : T → T → Ordering) (f : T → K) (named : K → K → Ordering) {a : _} {b : _} {c : _} {a' : _} {b' : _} {c' : _} (left : CutsRef T V a b c) (right : CutsRef T W a' b' c') where
  -- a point lies in one of them
  pub both_within : (p : Point K) → piece_of_both_by cmp f named left right p < count_of_both cmp left right
  both_within p = let h = piece_bound (stands_before f named p) (steps_of_both cmp left right) in omega arith

  -- the point below all values lies in the first
  pub first_of_both : piece_of_both_by cmp f named left right bottom ≡ 0
  first_of_both = at_bottom f named (steps_of_both cmp left right)

  module _ (o : IsTotalOrder cmp) (o' : IsTotalOrder named) (same_order : (x y : T) → cmp x y ≡ named (f x) (f y)) where
    -- what holds of both values at each point, and of the piece that it lies in, holds of them at each point by other names
    pub pairs_at_names : (P : V → W → ℕ → Type 0) → ((p : Point T) → P (lent.value_of cmp left p) (lent.value_of cmp right p) (piece_of_both cmp left right p)) →
        (q : Point K) → P (lent.value_by f named left q) (lent.value_by f named right q) (piece_of_both_by cmp f named left right q)
    pairs_at_names P =
        steps_at_names f cmp named o o' same_order left.first.now right.first.now (left.first.now, right.first.now) left.rest.now right.rest.now (steps_of_both cmp left right) (λ v i w j u k. P v w k)

    -- and so of the value of another function there
    pub value_at_names : {U : Type 0} {a'' : _} {b'' : _} {c'' : _} (made : Cuts T U a'' b'' c'') (P : U → ℕ → Type 0) → ((p : Point T) → P (value_of cmp made p) (piece_of_both cmp left right p)) →
        (q : Point K) → P (value_by f named made q) (piece_of_both_by cmp f named left right q)
    value_at_names made P =
        steps_at_names f cmp named o o' same_order made.first made.first (left.first.now, right.first.now) made.rest.items made.rest.items (steps_of_both cmp left right) (λ v i w j u k. P v k)

-- ---- neighbors

module _ {C V : Type 0} (same : V → V → Bool) where
  -- in the first piece the value is the first one
  first_value : (p : C → Bool) (v : V) (xs : List (C × V)) → piece_at p xs ≡ 0 → value_at p v xs ≡ v
  first_value p v [] e = refl
  first_value p v (s ∷ xs) e = grind (arith, cond)

  -- so values of neighboring pieces differ, if those of neighboring cuts do
  values_differ : (p q : C → Bool) (v : V) (xs : List (C × V)) → is_merged same v xs ≡ true → piece_at q xs ≡ piece_at p xs + 1 → same (value_at p v xs) (value_at q v xs) ≡ false
  values_differ p q v [] m e = absurd (omega arith)
  values_differ p q v (s ∷ xs) m e = by_test (p s.0) (q s.0) e (values_differ p q s.1 xs merged.1)
    where
      merged : (not (same v s.1) ≡ true) × (is_merged same s.1 xs ≡ true)
      merged = and_parts (not (same v s.1)) (is_merged same s.1 xs) m

      by_test : (a b : Bool) → cond b 0 (suc (piece_at q xs)) ≡ cond a 0 (suc (piece_at p xs)) + 1 → (piece_at q xs ≡ piece_at p xs + 1 → same (value_at p s.1 xs) (value_at q s.1 xs) ≡ false) →
          same (cond a v (value_at p s.1 xs)) (cond b v (value_at q s.1 xs)) ≡ false
      by_test a true e next = absurd (omega arith)
      by_test true false e next = ap (same v) (first_value q s.1 xs (omega arith)) ∙ is_not (same v s.1) merged.0
      by_test false false e next = next (omega arith)

-- if neighbors differ, points of neighboring pieces have different values
pub neighbors_have_other_values : {T K V : Type 0} (f : T → K) (cmp : K → K → Ordering) (same : V → V → Bool) {a : _} {b : _} {c : _} (cuts : Cuts T V a b c) → neighbors_differ same cuts ≡ true → (p q : Point K) →
    piece_by f cmp cuts q ≡ piece_by f cmp cuts p + 1 → same (value_by f cmp cuts p) (value_by f cmp cuts q) ≡ false
neighbors_have_other_values f cmp same cuts m p q e = values_differ same (stands_before f cmp p) (stands_before f cmp q) cuts.first cuts.rest.items m e

-- ---- values

module _ {T V : Type 0} {cmp : T → T → Ordering} (o : IsTotalOrder cmp) {same : V → V → Bool} (s : IsEquivalence same) where
  -- from its first cut on, a function whose neighbors differ has not the value that it has below
  past_the_first : (v : V) (x : Cut T × V) (xs : List (Cut T × V)) → ascends (cut_cmp cmp) None (x ∷ xs) ≡ true → is_merged same v (x ∷ xs) ≡ true →
      (p : Point T) × (same (value_at (stands_before (λ v. v) cmp bottom) v (x ∷ xs)) (value_at (stands_before (λ v. v) cmp p) v (x ∷ xs)) ≡ false)
  past_the_first v x xs a m =
      let q = and_parts true (ascends (cut_cmp cmp) (Some x.0) xs) a in
      let low : value_at (stands_before (λ v. v) cmp bottom) v (x ∷ xs) ≡ v = value_at_place cmp v (x ∷ xs) bottom ∙ value_from_low (cut_total o) v (x ∷ xs) None a in
      let high : value_at (stands_before (λ v. v) cmp (point_of (Some x.0))) v (x ∷ xs) ≡ x.1 =
      value_at_point cmp v (x ∷ xs) (Some x.0) ∙ value_from_later (cut_total o) v x xs (Some x.0) (before_itself (cut_total o) x.0) ∙ value_from_low (cut_total o) x.1 xs (Some x.0) q.1 in
      (point_of (Some x.0), ap (same _) high ∙ ap (λ u. same u x.1) low ∙ is_not _ ((and_parts (not (same v x.1)) (is_merged same x.1 xs) m).0))

  -- the same of any cuts but none
  other_by : (v : V) (xs : List (Cut T × V)) → ascends (cut_cmp cmp) None xs ≡ true → is_merged same v xs ≡ true → (length xs ≡ 0 → ⊥) →
      (p : Point T) × (same (value_at (stands_before (λ v. v) cmp bottom) v xs) (value_at (stands_before (λ v. v) cmp p) v xs) ≡ false)
  other_by v [] a m h = absurd (h refl)
  other_by v (x ∷ xs) a m h = past_the_first v x xs a m

module _ {T K V : Type 0} (f : T → K) (cmp' : K → K → Ordering) {same : V → V → Bool} (s : IsEquivalence same) {a : _} {b : _} {c : _} where
  -- a function of more than one piece whose neighbors differ has not everywhere the value that it has below all values
  pub other_value : (cuts : Cuts T V a b c) → IsTotalOrder a.cmp → IsTotalOrder cmp' → ((x y : T) → a.cmp x y ≡ cmp' (f x) (f y)) → IsMerged same cuts → (piece_count cuts ≡ 1 → ⊥) →
      (q : Point K) × (same (value_by f cmp' cuts bottom) (value_by f cmp' cuts q) ≡ false)
  other_value cuts o o' named m more =
      let p = other_by o s cuts.first cuts.rest.items cuts.ascending m (λ h. more (let k = cuts.rest.ok.0 in omega arith)) in
      (point_map f p.0, ap (λ v. same v (value_by f cmp' cuts (point_map f p.0))) (value_by_name f a.cmp cmp' o o' named cuts bottom) ∙ ap (same _) (value_by_name f a.cmp cmp' o o' named cuts p.0) ∙ p.1)

  module _ (eq : T → T → Bool) (left right : Cuts T V a b c) (o : IsTotalOrder a.cmp) (o' : IsTotalOrder cmp') (named : (x y : T) → a.cmp x y ≡ cmp' (f x) (f y)) (ties : (x y : T) → eq x y ≡ is_eq (a.cmp x y)) where
    -- equal functions have equal values at each point
    pub equal_everywhere : same_functions eq same left right ≡ true → (q : Point K) → same (value_by f cmp' left q) (value_by f cmp' right q) ≡ true
    equal_everywhere e q = at_names f a.cmp cmp' o o' named left right left (λ v i w j u k. same v w ≡ true) (equal_values o s eq ties left.first right.first left.rest.items right.rest.items e) q

    -- functions whose neighbors differ, and which are not equal, have values that differ at some point
    pub unequal_somewhere : IsMerged same left → IsMerged same right → same_functions eq same left right ≡ false → (q : Point K) × (same (value_by f cmp' left q) (value_by f cmp' right q) ≡ false)
    unequal_somewhere m n e =
        let p = unequal_point o s eq ties left.first right.first left.rest.items right.rest.items left.ascending right.ascending m n e in
        (point_map f p.0, ap (λ v. same v (value_by f cmp' right (point_map f p.0))) (value_by_name f a.cmp cmp' o o' named left p.0) ∙ ap (same _) (value_by_name f a.cmp cmp' o o' named right p.0) ∙ p.1)

-- ---- beside a value

-- the order of a point to a value, by whether it is before the value and before the point above it
abbrev beside_by : Bool → Bool → Ordering
beside_by true b = Less
beside_by false true = Equal
beside_by false false = Greater

-- whether a point is before a value and before the point above it determines its order to the value
beside_is : {T : Type 0} (cmp : T → T → Ordering) (p : Point T) (v : T) → point_cmp cmp p (at v) ≡ beside_by (point_lt cmp p (at v)) (point_lt cmp p (above v))
beside_is cmp p v = grind arith

module _ {T K V : Type 0} (f : T → K) (cmp : T → T → Ordering) (cmp' : K → K → Ordering) (o : IsTotalOrder cmp) (o' : IsTotalOrder cmp') (named : (x y : T) → cmp x y ≡ cmp' (f x) (f y)) where
  -- a function of the order of a point to a value is that function by other names too
  pub beside_by_name : {a : _} {b : _} {c : _} (cuts : Cuts T V a b c) (holds : Ordering → V) (v : T) → ((p : Point T) → value_of cmp cuts p ≡ holds (point_cmp cmp p (at v))) →
      (q : Point K) → value_by f cmp' cuts q ≡ holds (point_cmp cmp' q (at (f v)))
  beside_by_name cuts holds v h q =
      let low : Cut T = record { value = v; above = false } in
      let high : Cut T = record { value = v; above = true } in
      let t = stands_before f cmp' q in
      let up = standing f cmp cmp' o o' named q in
      let r = located (cut_total o) t up (low ∷ high ∷ map (λ x. x.0) cuts.rest.items) in
      let p = point_of r.0 in
      let before : (c : Cut T) → t c ≡ is_before (cut_cmp cmp) r.0 c → t c ≡ stands_before (λ v. v) cmp p c = λ c e. e ∙ ap (λ s. is_before (cut_cmp cmp) s c) (sym (place_point r.0)) ∙ sym (place_before cmp p c) in
      agree_value (cut_total o) t up r.0 cuts.first cuts.rest.items r.2.1.1 ∙ sym (value_at_point cmp cuts.first cuts.rest.items r.0) ∙ h p
      ∙ ap holds (beside_is cmp p v ∙ ap (λ b. beside_by b (point_lt cmp p (above v))) (sym (before low r.2.0)) ∙ ap (beside_by (point_lt cmp' q (at (f v)))) (sym (before high r.2.1.0)) ∙ sym (beside_is cmp' q (f v)))
