-- Points and the pieces that they lie in.
use Rattle.std.proofs.Common.{◌≡◌, ℕ, zero, suc, ◌+◌, ◌-◌, ◌<◌, get_or, Bool, true, cond, List, [], ◌∷◌, length, map, Option, Some, None, refl, sym, ap, ◌∙◌, arith}
use Rattle.std.specs.Prelude.{slice_get}
use Rattle.std.specs.declared.cmp.Ordering.{Ordering}
use Rattle.std.specs.Cmp.{IsTotalOrder}
use Rattle.std.proofs.lemmas.Bool.{and_parts}
use Rattle.version_ranges.specs.Steps.{is_before, ascends, piece_at}
use Rattle.version_ranges.proofs.StepLaws.{IsFrom, from_itself, from_later, value_from, piece_from}
use Rattle.std.proofs.lemmas.Option.{slice_get_read}

-- a point lies in one of the pieces
pub piece_bound : {C V : Type 0} (t : C → Bool) (xs : List (C × V)) → piece_at t xs < suc (length xs)
piece_bound t [] = omega arith
piece_bound t (x ∷ xs) = grind (arith, length, cond, piece_bound t xs)

module _ {C V : Type 0} (cmp : C → C → Ordering) where
  pub piece_value : (v : V) (xs : List (C × V)) (p : Option C) → slice_get (v ∷ map (λ s. s.1) xs) (piece_from cmp xs p) ≡ Some (value_from cmp v xs p)
  piece_value v [] p = refl
  piece_value v (x ∷ xs) p = grind (arith, map, piece_from, value_from, cond, piece_value x.1 xs p)

  module _ (o : IsTotalOrder cmp) where
    pub piece_low : (xs : List (C × V)) (p : Option C) → ascends cmp p xs ≡ true → piece_from cmp xs p ≡ 0
    piece_low [] p a = refl
    piece_low (x ∷ xs) p a = ap (λ b. cond b 0 (suc (piece_from cmp xs p))) ((and_parts (is_before cmp p x.0) _ a).0)

    -- each piece has a point from the low one on
    pub piece_point : (low : Option C) (xs : List (C × V)) (i : ℕ) → ascends cmp low xs ≡ true → i < suc (length xs) → (p : Option C) × (IsFrom cmp low p) × (piece_from cmp xs p ≡ i)
    piece_point low [] i a h = (low, from_itself o low, omega arith)
    piece_point low (x ∷ xs) zero a h = (low, from_itself o low, piece_low (x ∷ xs) low a)
    piece_point low (x ∷ xs) (suc i) a h =
        let q = and_parts (is_before cmp low x.0) (ascends cmp (Some x.0) xs) a in
        let p = piece_point (Some x.0) xs i q.1 (omega arith) in
        (p.0, from_later o low x.0 p.0 q.0 p.1, ap (λ b. cond b 0 (suc (piece_from cmp xs p.0))) p.1 ∙ ap suc p.2)

pub same_some : {W : Type 0} (a b : W) → Some a ≡ Some b → a ≡ b
same_some a b e = cc

pub none_some : {W G : Type 0} (a : W) → None ≡ Some a → G
none_some a e = cc

get_mapped : {X Y : Type 0} (f : X → Y) (xs : List X) (i : ℕ) (x : X) → slice_get xs i ≡ Some x → slice_get (map f xs) i ≡ Some (f x)
get_mapped f [] i x e = none_some x e
get_mapped f (y ∷ ys) zero x e = ap (λ o. Some (f o)) (same_some y x e)
get_mapped f (y ∷ ys) (suc i) x e = get_mapped f ys i x e

module _ {C V : Type 0} (cmp : C → C → Ordering) (v : V) (xs : List (C × V)) (index : ℕ) (p : Option C) (e : piece_from cmp xs p ≡ index) where
  pub value_first : index ≡ 0 → value_from cmp v xs p ≡ v
  value_first h = same_some (value_from cmp v xs p) v (sym (piece_value cmp v xs p) ∙ ap (slice_get (v ∷ map (λ s. s.1) xs)) (e ∙ h))

  pub value_later : (x : C × V) → (index ≡ 0 → ⊥) → index < length xs + 1 → x ≡ get_or xs (index - 1) x → value_from cmp v xs p ≡ x.1
  value_later x n h g =
      let k : index ≡ suc (index - 1) = omega arith in
      same_some (value_from cmp v xs p) x.1
      (sym (piece_value cmp v xs p) ∙ ap (slice_get (v ∷ map (λ s. s.1) xs)) (e ∙ k) ∙ get_mapped (λ s. s.1) xs (index - 1) x (slice_get_read xs (length xs) (index - 1) x refl (omega arith) g))
