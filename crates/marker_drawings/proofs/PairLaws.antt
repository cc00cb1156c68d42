-- Lists side by side.
use Rattle.std.proofs.Common.{◌≡◌, List, [], ◌∷◌, ◌++◌}
use Rattle.marker_drawings.specs.Pairwise.{Pairwise, no_more, pair}

-- what holds of the pairs under one relation holds under a weaker one
pub pairs_still : {A B : Type 0} {R S : A → B → Type 0} {xs : List A} {ys : List B} → ((x : A) (y : B) → R x y → S x y) → Pairwise R xs ys → Pairwise S xs ys
pairs_still f no_more = no_more
pairs_still f (pair x y r p) = pair x y (f x y r) (pairs_still f p)

-- one pair more
pub pairs_then : {A B : Type 0} {R : A → B → Type 0} {xs us : List A} {ys vs : List B} → Pairwise R xs ys → Pairwise R us vs → Pairwise R (xs ++ us) (ys ++ vs)
pairs_then no_more q = q
pairs_then (pair x y r p) q = pair x y r (pairs_then p q)
