-- A list of clones that are each as their source is that list.
use Rattle.std.proofs.Common.{◌≡◌, List, [], ◌∷◌, refl}
use Rattle.std.specs.List.{AllZip}

pub same_items : {T : Type 0} (xs ys : List T) → AllZip (λ x y. y ≡ x) xs ys → ys ≡ xs
same_items [] [] h = refl
same_items [] (y ∷ ys) h = absurd h
same_items (x ∷ xs) [] h = absurd h
same_items (x ∷ xs) (y ∷ ys) h = λ i. h.0 i ∷ same_items xs ys h.1 i
