-- Where the parts of a path lead, and paths joined from parts.
use Rattle.std.proofs.Common.{◌≡◌, ℕ, ◌+◌, ◌<◌, true, false, List, [], ◌∷◌, ◌++◌, length, get_or, take, drop, map, sym, ap, ◌∙◌, None}
use Rattle.std.specs.Prelude.{reverse}
use Rattle.std.specs.List.{flat_map, join_with_byte}
use Rattle.std.specs.Option.{option_and_then}
use Rattle.std.proofs.lemmas.Bool.{cond-true, cond-false}
use Rattle.std.proofs.lemmas.List.{append-nil, map-append, reverse-append, take_more, at_drop_more}
use Rattle.std.proofs.lemmas.List.Concat.{flat_map-append}
use Rattle.pep508_urls.specs.Path.{walk, parent, stays, leaves, file_part}

pub walk_stays : (folder rest : List (List ℕ)) (part : List ℕ) → stays part ≡ true → walk folder (part ∷ rest) ≡ walk folder rest
walk_stays folder rest part s = cond-true _ _ _ s

pub walk_leaves : (folder rest : List (List ℕ)) (part : List ℕ) → stays part ≡ false → leaves part ≡ true → walk folder (part ∷ rest) ≡ option_and_then (λ outer. walk outer rest) (parent folder)
walk_leaves folder rest part s l = cond-false _ _ _ s ∙ cond-true _ _ _ l

pub walk_enters : (folder rest : List (List ℕ)) (part : List ℕ) → stays part ≡ false → leaves part ≡ false → walk folder (part ∷ rest) ≡ walk (part ∷ folder) rest
walk_enters folder rest part s l = cond-false _ _ _ s ∙ cond-false _ _ _ l

-- one more part, or one less, at the end of a list is the innermost of a folder
pub reverse_push : {X : Type 0} (xs : List X) (x : X) → reverse (xs ++ (x ∷ [])) ≡ x ∷ reverse xs
reverse_push xs x = reverse-append xs (x ∷ [])

-- joined parts are the first, and each other one after a separator
pub join_is : {B : Type 0} (f : B → List ℕ) (c : ℕ) (x : B) (xs : List B) → join_with_byte c (map f (x ∷ xs)) ≡ f x ++ flat_map (λ y. c ∷ f y) xs
join_is f c x [] = sym (append-nil (f x))
join_is f c x (y ∷ ys) = ap (λ (t : List ℕ). f x ++ (c ∷ t)) (join_is f c y ys)

-- this part is the next of the path's
abbrev pub IsNext : List (List ℕ) → ℕ → List ℕ → Type 0
IsNext all n part = (n < length all) × (part ≡ get_or all n part)

next_part : {X : Type 0} (F : List (List ℕ) → X) (all : List (List ℕ)) (n : ℕ) (part : List ℕ) → IsNext all n part → F (drop n all) ≡ F (part ∷ drop (n + 1) all)
next_part F all n part h = at_drop_more F all n part h.0 ∙ ap (λ (p : List ℕ). F (p ∷ drop (n + 1) all)) (sym h.1)

-- a step of the walk: the part stays in the folder, leaves it, leaves none, or enters the next
pub step_stays : (folder all : List (List ℕ)) (n : ℕ) (part : List ℕ) → IsNext all n part → stays part ≡ true → walk folder (drop (n + 1) all) ≡ walk folder (drop n all)
step_stays folder all n part h s = sym (next_part (walk folder) all n part h ∙ walk_stays folder (drop (n + 1) all) part s)

pub step_leaves : {B : Type 0} (f : B → List ℕ) (items outer : List B) (left : B) (all : List (List ℕ)) (n : ℕ) (part : List ℕ) → IsNext all n part → stays part ≡ false → leaves part ≡ true → items ≡ outer ++ (left ∷ []) → walk (reverse (map f outer)) (drop (n + 1) all) ≡ walk (reverse (map f items)) (drop n all)
step_leaves f items outer left all n part h s l e =
    let inner : reverse (map f items) ≡ f left ∷ reverse (map f outer) = ap (λ (x : List _). reverse (map f x)) e ∙ ap reverse (map-append f outer (left ∷ [])) ∙ reverse_push (map f outer) (f left) in
    sym (next_part (walk (reverse (map f items))) all n part h ∙ walk_leaves (reverse (map f items)) (drop (n + 1) all) part s l
    ∙ ap (λ (x : List (List ℕ)). option_and_then (λ y. walk y (drop (n + 1) all)) (parent x)) inner)

pub step_lost : {B : Type 0} (f : B → List ℕ) (items : List B) (all : List (List ℕ)) (n : ℕ) (part : List ℕ) → IsNext all n part → stays part ≡ false → leaves part ≡ true → items ≡ [] → walk (reverse (map f items)) (drop n all) ≡ None
step_lost f items all n part h s l e =
    next_part (walk (reverse (map f items))) all n part h ∙ walk_leaves (reverse (map f items)) (drop (n + 1) all) part s l
    ∙ ap (λ (x : List _). option_and_then (λ y. walk y (drop (n + 1) all)) (parent (reverse (map f x)))) e

pub step_enters : {B : Type 0} (f : B → List ℕ) (items : List B) (entered : B) (all : List (List ℕ)) (n : ℕ) → IsNext all n (f entered) → stays (f entered) ≡ false → leaves (f entered) ≡ false → walk (reverse (map f (items ++ (entered ∷ [])))) (drop (n + 1) all) ≡ walk (reverse (map f items)) (drop n all)
step_enters f items entered all n h s l =
    ap (λ (x : List (List ℕ)). walk x (drop (n + 1) all)) (ap reverse (map-append f items (entered ∷ [])) ∙ reverse_push (map f items) (f entered))
    ∙ sym (next_part (walk (reverse (map f items))) all n (f entered) h ∙ walk_enters (reverse (map f items)) (drop (n + 1) all) (f entered) s l)

-- one more part of a file URL
pub file_more : (all : List (List ℕ)) (n : ℕ) (part : List ℕ) → IsNext all n part → flat_map file_part (take (n + 1) all) ≡ flat_map file_part (take n all) ++ file_part part
file_more all n part h =
    ap (flat_map file_part) (take_more all n part h.0) ∙ flat_map-append file_part (take n all) (get_or all n part ∷ [])
    ∙ ap (λ (p : List ℕ). flat_map file_part (take n all) ++ (file_part p ++ [])) (sym h.1) ∙ ap (λ (x : List ℕ). flat_map file_part (take n all) ++ x) (append-nil (file_part part))
