-- A list of nodes that grows at its end, as the keys of a set do, read from the newest.
use Rattle.std.proofs.Common.{◌≡◌, ℕ, zero, suc, ◌<◌, ◌≤◌, false, cond, List, [], ◌∷◌, ◌++◌, reverse, length, Some, None, refl, sym, ap, ◌∙◌, arith}
use Rattle.std.specs.Prelude.{slice_get}
use Rattle.std.proofs.lemmas.Bool.{ne_eqb}
use lib.Dec.{eqb}
use Rattle.std.proofs.lemmas.List.{reverse-append, reverse-reverse, length-reverse}
use Rattle.marker_diagrams.specs.Diagram.{node_at}
use Rattle.marker_diagrams.proofs.NodeLaws.{node_bounds}

eqb_suc : (i n : ℕ) → eqb (suc i) (suc n) ≡ eqb i n
eqb_suc i n = grind arith

not_zero : (i : ℕ) → eqb (suc i) 0 ≡ false
not_zero i = ne_eqb (suc i) 0 (λ h. omega arith)

not_suc : (i : ℕ) → eqb 0 (suc i) ≡ false
not_suc i = ne_eqb 0 (suc i) (λ h. omega arith)

-- what a list has at an index, with one more at the end
pub get_last : {N : Type 0} (xs : List N) (n : N) (i : ℕ) → slice_get (xs ++ n ∷ []) i ≡ cond (eqb i (length xs)) (Some n) (slice_get xs i)
get_last [] n zero = refl
get_last [] n (suc i) = ap (λ b. cond b (Some n) None) (sym (not_zero i))
get_last (x ∷ xs) n zero = ap (λ b. cond b (Some n) (Some x)) (sym (not_suc (length xs)))
get_last (x ∷ xs) n (suc i) = get_last xs n i ∙ ap (λ b. cond b (Some n) (slice_get xs i)) (sym (eqb_suc i (length xs)))

reverse_cons : {N : Type 0} (n : N) (rs : List N) → reverse (n ∷ rs) ≡ reverse rs ++ n ∷ []
reverse_cons n rs = reverse-append (n ∷ []) rs

place : {N : Type 0} (rs : List N) (i : ℕ) → node_at rs (suc i) ≡ slice_get (reverse rs) i
place [] i = refl
place (n ∷ rs) i = grind (arith, cond, length, reverse, eqb_suc, length-reverse, get_last, reverse_cons, place rs i)

-- the node at a place, by its index in the order of insertion
pub node_is : {N : Type 0} (keys : List N) (i : ℕ) → node_at (reverse keys) (suc i) ≡ slice_get keys i
node_is keys i = place (reverse keys) i ∙ ap (λ l. slice_get l i) (reverse-reverse keys)

-- the key of a node
pub key_of : {N : Type 0} (keys : List N) (i : ℕ) (n : N) → node_at (reverse keys) i ≡ Some n → (j : ℕ) × (i ≡ suc j) × (slice_get keys j ≡ Some n)
key_of keys zero n e = absurd (let b : (0 < 0) × (0 ≤ length (reverse keys)) = node_bounds (reverse keys) 0 n e in omega arith)
key_of keys (suc j) n e = (j, refl, sym (node_is keys j) ∙ e)

-- what comes last is the newest
pub newest : {N : Type 0} (n : N) (keys : List N) → reverse (keys ++ n ∷ []) ≡ n ∷ reverse keys
newest n keys = reverse-append keys (n ∷ [])
