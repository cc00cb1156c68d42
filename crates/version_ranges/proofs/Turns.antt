-- For `place_of` and `pass`, the private steps of `Cuts::gather`: a value that joins the list, two
-- sets that end and go on at a cut, and the steps that are done.
use Rattle.std.proofs.Common.{◌≡◌, ℕ, zero, suc, ◌+◌, ◌<◌, Bool, true, false, not, cond, ◌||◌, List, [], ◌∷◌, ◌++◌, map, take, set, length, get_or, Option, Some, None, refl, sym, ap, ◌∙◌, slice_get, eqb, add-one, arith}
use mathlib.Core.Bool.{beq}
use Rattle.std.specs.List.{list_any}
use Rattle.std.specs.declared.cmp.Ordering.{Ordering}
use Rattle.std.specs.declared.cmp.Ordering.TheVariants.{Equal}
use Rattle.std.specs.Cmp.{IsTotalOrder}
use Rattle.std.proofs.Math.Dec.{eqb-suc-suc, eqb-suc-zero, eqb-zero-suc}
use Rattle.std.proofs.Math.Seq.{take-suc}
use Rattle.std.proofs.lemmas.Bool.{true≢false, false≢true, eqb-true, and_parts, and_from}
use Rattle.std.proofs.lemmas.List.{map-append}
use Rattle.version_ranges.specs.Steps.{ascends, value_at}
use Rattle.version_ranges.proofs.StepLaws.{alike_itself, alike_ascends}
use Rattle.version_ranges.proofs.PieceLaws.{same_some, none_some}
use Rattle.version_ranges.proofs.Gathers.{alike_more}

-- what holds of a list before and after a push holds of what is left of it
pub either_list : {X : Type 0} (P : List X → Type 0) (b : Bool) (new xs ys : List X) → new ≡ cond b ys xs → P xs → P ys → P new
either_list P b new xs ys h1 h2 h3 = grind arith

-- a clone of a cut has the place of the cut
pub past_clone : {C : Type 0} {cmp : C → C → Ordering} → IsTotalOrder cmp → (xs : List (C × Bool)) (c d : C) → cmp d c ≡ Equal → ascends cmp None (xs ++ (c, true) ∷ []) ≡ true → ascends cmp None (xs ++ (d, true) ∷ []) ≡ true
past_clone {cmp = cmp} o xs c d e h =
    alike_ascends o (λ a b. a ≡ b) (xs ++ (d, true) ∷ []) (xs ++ (c, true) ∷ []) None (alike_more cmp xs xs ((d, true) ∷ []) ((c, true) ∷ []) (alike_itself o (λ a b. a ≡ b) (λ b. refl) xs) (e, (refl, tt))) ∙ h

module _ {Q : Type 0} where
  set_hit : (xs : List Q) (j : ℕ) (y : Q) (i : ℕ) (r : Q) → eqb i j ≡ true → slice_get (set xs j y) i ≡ Some r → r ≡ y
  set_hit [] j y i r e f = none_some r f
  set_hit (x ∷ xs) zero y zero r e f = sym (same_some y r f)
  set_hit (x ∷ xs) zero y (suc i) r e f = absurd (false≢true (sym (eqb-suc-zero i) ∙ e))
  set_hit (x ∷ xs) (suc j) y zero r e f = absurd (false≢true (sym (eqb-zero-suc j) ∙ e))
  set_hit (x ∷ xs) (suc j) y (suc i) r e f = set_hit xs j y i r (sym (eqb-suc-suc i j) ∙ e) f

  pub set_miss : (xs : List Q) (j : ℕ) (y : Q) (i : ℕ) → eqb i j ≡ false → slice_get (set xs j y) i ≡ slice_get xs i
  set_miss [] j y i e = refl
  set_miss (x ∷ xs) zero y zero e = absurd (true≢false e)
  set_miss (x ∷ xs) zero y (suc i) e = refl
  set_miss (x ∷ xs) (suc j) y zero e = refl
  set_miss (x ∷ xs) (suc j) y (suc i) e = set_miss xs j y i (sym (eqb-suc-suc i j) ∙ e)

  -- what two writes at different places leave at each place
  pub two_set : (P : Bool → Q → Q → Type 0) → ((q : Q) → P false q q) → (xs : List Q) (from to : ℕ) (p y p' y' : Q) → (from ≡ to → ⊥) →
      slice_get xs from ≡ Some p → P true p y → slice_get xs to ≡ Some p' → P true p' y' →
      (i : ℕ) (q r : Q) → slice_get xs i ≡ Some q → slice_get (set (set xs from y) to y') i ≡ Some r → P (not (beq (eqb i from) (eqb i to))) q r
  two_set P h1 xs from to p y p' y' h2 h3 h4 h5 h6 i q r h7 h8 = grind (arith, eqb, not, beq, eqb-true, set_hit, set_miss, set, same_some, slice_get)

  -- two writes at one place are none
  pub unturned : (P : Bool → Q → Q → Type 0) → ((q : Q) → P false q q) → (xs : List Q) (from to : ℕ) → from ≡ to → (i : ℕ) (q r : Q) → slice_get xs i ≡ Some q → slice_get xs i ≡ Some r → P (not (beq (eqb i from) (eqb i to))) q r
  unturned P h1 xs from to h2 i q r h3 h4 = grind arith

  get_front : (xs ys : List Q) (i : ℕ) (q : Q) → slice_get xs i ≡ Some q → slice_get (xs ++ ys) i ≡ Some q
  get_front [] ys i q e = none_some q e
  get_front (x ∷ xs) ys zero q e = e
  get_front (x ∷ xs) ys (suc i) q e = get_front xs ys i q e

  -- an element keeps its place when the list grows
  pub stays : (b : Bool) (xs new : List Q) (x : Q) → new ≡ cond b xs (xs ++ x ∷ []) → (i : ℕ) (q : Q) → slice_get xs i ≡ Some q → slice_get new i ≡ Some q
  stays b xs new x h1 i q h2 = grind (arith, slice_get, get_front)

  module _ {K : Type 0} (key : Q → K) where
    any_at : (test : K → Bool) (qs : List Q) → list_any (λ q. test (key q)) qs ≡ list_any test (map key qs)
    any_at test [] = refl
    any_at test (q ∷ qs) = ap (λ b. test (key q) || b) (any_at test qs)

    not_not : (b : Bool) → not (not b) ≡ b
    not_not b = grind arith

    module _ (test : K → Bool) (qs : List Q) (ks : List K) (a : Bool) (held : ks ≡ map key qs) (added : a ≡ not (list_any test ks)) where
      is_known : list_any (λ q. test (key q)) qs ≡ not a
      is_known = any_at test qs ∙ ap (list_any test) (sym held) ∙ sym (not_not (list_any test ks)) ∙ ap not (sym added)

      pub joins : (new : List Q) (q : Q) → a ≡ true → new ≡ qs ++ q ∷ [] → new ≡ cond (list_any (λ r. test (key r)) qs) qs (qs ++ q ∷ [])
      joins new q e f = f ∙ sym (ap (λ b. cond b qs (qs ++ q ∷ [])) (is_known ∙ ap not e))

      pub is_there : (q : Q) → a ≡ false → qs ≡ cond (list_any (λ r. test (key r)) qs) qs (qs ++ q ∷ [])
      is_there q e = sym (ap (λ b. cond b qs (qs ++ q ∷ [])) (is_known ∙ ap not e))

      known_keys : list_any test ks ≡ not a
      known_keys = sym (not_not (list_any test ks)) ∙ ap not (sym added)

      pub keys_join : (ks' : List K) (k : K) (new : List Q) (q : Q) → a ≡ true → ks' ≡ cond (list_any test ks) ks (ks ++ k ∷ []) → new ≡ qs ++ q ∷ [] → key q ≡ k → ks' ≡ map key new
      keys_join ks' k new q h1 h2 h3 h4 = grind (arith, cond, known_keys, not, map, map-append)

      pub keys_stay : (ks' : List K) (k : K) → a ≡ false → ks' ≡ cond (list_any test ks) ks (ks ++ k ∷ []) → ks' ≡ map key qs
      keys_stay ks' k e f = f ∙ ap (λ b. cond b ks (ks ++ k ∷ [])) (known_keys ∙ ap not e) ∙ held

    pub at_key : (qs : List Q) (i : ℕ) (k : K) → slice_get (map key qs) i ≡ Some k → (q : Q) × (slice_get qs i ≡ Some q) × (key q ≡ k)
    at_key [] i k e = none_some k e
    at_key (q ∷ qs) zero k e = (q, refl, same_some (key q) k e)
    at_key (q ∷ qs) (suc i) k e = at_key qs i k e

    pub found_key : (test : K → Bool) (qs : List Q) (ks : List K) (i : ℕ) → ks ≡ map key qs → (k : K) × (slice_get ks i ≡ Some k) × (test k ≡ true) → (q : Q) × (slice_get qs i ≡ Some q) × (test (key q) ≡ true)
    found_key test qs ks i h1 h2 = grind (arith, at_key, slice_get)

-- the steps that are done, with the next one
pub prefix_more : {X : Type 0} (xs : List X) (i : ℕ) (x : X) → i < length xs → x ≡ get_or xs i x → take (i + 1) xs ≡ take i xs ++ x ∷ []
prefix_more xs i x h e = ap (λ n. take n xs) (add-one i) ∙ take-suc xs i x h ∙ ap (λ y. take i xs ++ y ∷ []) (sym e)

pub taken_ascends : {C V : Type 0} (cmp : C → C → Ordering) (xs : List (C × V)) (low : Option C) (i : ℕ) → ascends cmp low xs ≡ true → ascends cmp low (take i xs) ≡ true
taken_ascends cmp [] low zero h = refl
taken_ascends cmp [] low (suc i) h = refl
taken_ascends cmp (x ∷ xs) low zero h = refl
taken_ascends cmp (x ∷ xs) low (suc i) h = let q = and_parts _ _ h in and_from _ _ q.0 (taken_ascends cmp xs (Some x.0) i q.1)

-- the value at a place is one of the values
pub value_found : {C V : Type 0} (test : V → Bool) (t : C → Bool) (v : V) (xs : List (C × V)) → test (value_at t v xs) ≡ true → list_any test (v ∷ map (λ x. x.1) xs) ≡ true
value_found test t v [] e = ap (λ b. b || false) e
value_found test t v (x ∷ xs) e = by_test (t x.0) refl (λ h. value_found test t x.1 xs h)
  where
    or_true : (b : Bool) → (b || true) ≡ true
    or_true true = refl
    or_true false = refl

    by_test : (b : Bool) → t x.0 ≡ b → (test (value_at t x.1 xs) ≡ true → list_any test (x.1 ∷ map (λ x. x.1) xs) ≡ true) → (test v || list_any test (x.1 ∷ map (λ x. x.1) xs)) ≡ true
    by_test true f h = ap (λ b. b || list_any test (x.1 ∷ map (λ x. x.1) xs)) (sym (ap (λ b. test (cond b v (value_at t x.1 xs))) f) ∙ e)
    by_test false f h = ap (λ b. test v || b) (h (sym (ap (λ b. test (cond b v (value_at t x.1 xs))) f) ∙ e)) ∙ or_true (test v)
