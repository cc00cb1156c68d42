-- Elements of lists.
use Rattle.std.proofs.Common.{◌≡◌, ℕ, zero, suc, ◌+◌, ◌<◌, ◌≤◌, List, [], ◌∷◌, ◌++◌, length, map, Some, None, ◌⊎◌, inl, inr, refl, sym, ap, ◌∙◌, arith}
use Rattle.std.specs.Prelude.{slice_get}
use Rattle.std.proofs.lemmas.Option.{slice_get_within}
use Rattle.marker_diagrams.proofs.NodeLaws.{none_some, same_some}
use Rattle.marker_graph.specs.declared.tree.MarkerTree.{MarkerTree}
use Rattle.marker_drawings.specs.Numbering.{Has}

-- an element of a list stays where more follow
pub get_front : {X : Type 0} (xs ys : List X) (i : ℕ) (x : X) → slice_get xs i ≡ Some x → slice_get (xs ++ ys) i ≡ Some x
get_front [] ys i x e = none_some x e
get_front (z ∷ xs) ys zero x e = e
get_front (z ∷ xs) ys (suc i) x e = get_front xs ys i x e

pub has_front : (xs ys : List MarkerTree) (t : MarkerTree) → Has xs t → Has (xs ++ ys) t
has_front xs ys t h = (h.0, get_front xs ys h.0 t h.1)

pub has_back : (xs ys : List MarkerTree) (t : MarkerTree) → Has ys t → Has (xs ++ ys) t
has_back [] ys t h = h
has_back (x ∷ xs) ys t h = let p = has_back xs ys t h in (suc p.0, p.1)

pub has_split : (xs ys : List MarkerTree) (t : MarkerTree) (i : ℕ) → slice_get (xs ++ ys) i ≡ Some t → Has xs t ⊎ Has ys t
has_split [] ys t i e = inr (i, e)
has_split (x ∷ xs) ys t zero e = inl (0, e)
has_split (x ∷ xs) ys t (suc i) e = elim (has_split xs ys t i e) [ inl h ↦ inl (suc h.0, h.1) | inr h ↦ inr h ]

-- an element of a list of values is the value of an element
pub map_at : {X Y : Type 0} (f : X → Y) (xs : List X) (i : ℕ) (y : Y) → slice_get (map f xs) i ≡ Some y → (x : X) × (slice_get xs i ≡ Some x) × (f x ≡ y)
map_at f [] i y e = none_some y e
map_at f (x ∷ xs) zero y e = (x, refl, same_some (f x) y e)
map_at f (x ∷ xs) (suc i) y e = map_at f xs i y e

-- what is at an index past some elements is one that follows them, the first one right behind them
pub past_front : {X : Type 0} (xs ys : List X) (i : ℕ) (x : X) → slice_get (xs ++ ys) i ≡ Some x → i ≡ length xs → (rest : List X) × (ys ≡ x ∷ rest)
past_front [] [] i x e l = none_some x e
past_front [] (y ∷ ys) zero x e l = (ys, ap (λ z. z ∷ ys) (same_some y x e))
past_front [] (y ∷ ys) (suc i) x e l = absurd (omega arith)
past_front (z ∷ xs) ys zero x e l = absurd (omega arith)
past_front (z ∷ xs) ys (suc i) x e l = past_front xs ys i x e (omega arith)

-- a list that is no longer than a part of it is that part
pub no_rest : {X : Type 0} (xs ys : List X) → length (xs ++ ys) ≤ length xs → ys ≡ []
no_rest [] [] l = refl
no_rest [] (y ∷ ys) l = absurd (omega arith)
no_rest (x ∷ xs) ys l = no_rest xs ys (omega arith)

-- the element at an index of a list with one more at its end: one that was there, or the new one
pub last_or_before : {X : Type 0} (xs : List X) (y : X) (i : ℕ) (x : X) → slice_get (xs ++ y ∷ []) i ≡ Some x → (slice_get xs i ≡ Some x) ⊎ (x ≡ y)
last_or_before [] y zero x e = inr (sym (same_some y x e))
last_or_before [] y (suc i) x e = none_some x e
last_or_before (z ∷ xs) y zero x e = inl e
last_or_before (z ∷ xs) y (suc i) x e = last_or_before xs y i x e

-- what is past the end of a list
pub end_past : {X : Type 0} (xs : List X) (i : ℕ) → slice_get xs i ≡ None → length xs ≤ i
end_past [] i e = omega arith
end_past (x ∷ xs) zero e = none_some x (sym e)
end_past (x ∷ xs) (suc i) e = let l : length xs ≤ i = end_past xs i e in omega arith
