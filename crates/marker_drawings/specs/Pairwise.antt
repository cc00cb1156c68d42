-- Two lists, element by element.
use Rattle.std.specs.Prelude.{List, [], ◌∷◌}

-- the lists have as many elements, and each of one is so to the other's at its place
pub data Pairwise {A B : Type 0} (R : A → B → Type 0) : List A → List B → Type 0 where
  no_more : Pairwise R [] []
  pair : (x : A) (y : B) {xs : List A} {ys : List B} → R x y → Pairwise R xs ys
      → Pairwise R (x ∷ xs) (y ∷ ys)
