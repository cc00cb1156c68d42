-- A name is found in a sorted list exactly if it is in the list.
use Rattle.std.proofs.Common.{◌≡◌, ℕ, ◌<◌, Bool, true, false, List, [], ◌∷◌, length, map, Result, Ok, Err, refl, ap, sym, ◌∙◌, arith, bytes_eq}
use Rattle.std.specs.Borrow.{Bor}
use Rattle.std.specs.Cmp.Lexicographic.{slice_cmp, texts_ties, nat_list_cmp_total}
use Rattle.std.specs.List.{HoldsAt, list_any}
use Rattle.std.specs.List.Sorted.{IsBinarySearchResult, IsPartitionPoint, IsPermutation, IsSearchInRange, IsSortedByKey}
use Rattle.std.specs.Ordering.{nat_cmp, is_eq}
use Rattle.std.specs.Result.{is_ok}
use Rattle.std.specs.declared.cmp.Ordering.{Ordering}
use Rattle.std.specs.declared.cmp.Ordering.TheVariants.{Equal, Less, Greater}
use Rattle.std.proofs.lemmas.Bool.{cases_lt}
use Rattle.std.proofs.lemmas.List.Folds.{list_any_at, list_any_none}
use Rattle.std.proofs.lemmas.List.Sorted.{list_any-IsPermutation, searchable_from_sorted}
use Rattle.marker_graph.specs.Extras.{has_reference_to, is_listed}

-- the test of an element by its text, which the order of texts decides
same_by_order : (a b : List ℕ) (o : Ordering) → slice_cmp nat_cmp a b ≡ o → bytes_eq a b ≡ is_eq o
same_by_order a b o e = texts_ties a b ∙ ap is_eq e

-- an element whose text is this one is found
found_at : {X : Type 0} (key : X → List ℕ) (x : List ℕ) (xs : List X) (i : ℕ) → i < length xs
    → HoldsAt (λ y. slice_cmp nat_cmp (key y) x ≡ Equal) xs i
    → list_any (λ y. bytes_eq (key y) x) xs ≡ true
found_at key x [] i inside equal = absurd (omega arith)
found_at key x (y ∷ ys) i inside equal =
    list_any_at (λ z. bytes_eq (key z) x) (y ∷ ys) i y inside (same_by_order _ x Equal (equal y))

-- if all are before or after this text, none is found
none_around : {X : Type 0} (key : X → List ℕ) (x : List ℕ) (xs : List X) (i : ℕ)
    → IsPartitionPoint (λ y. slice_cmp nat_cmp (key y) x ≡ Less)
    (λ y. slice_cmp nat_cmp (key y) x ≡ Greater) xs i
    → list_any (λ y. bytes_eq (key y) x) xs ≡ false
none_around key x xs i h1 = grind (arith, list_any_none, bytes_eq, cases_lt, same_by_order)

-- a search in a list that is in order finds exactly what is one of it
pub found_by_search : {X : Type 0} (key : X → List ℕ) (x : List ℕ) (xs : List X) (r : Result ℕ ℕ)
    → IsSearchInRange r (length xs)
    → IsBinarySearchResult (λ y. slice_cmp nat_cmp (key y) x) xs r
    → IsSortedByKey key (slice_cmp nat_cmp) xs
    → is_ok r ≡ list_any (λ y. bytes_eq (key y) x) xs
found_by_search key x xs (Ok i) inside equal sorted = sym (found_at key x xs i inside equal)
found_by_search key x xs (Err i) inside around sorted =
    sym (none_around key x xs i
    (around (searchable_from_sorted nat_list_cmp_total key xs x sorted)))

-- what references point to is looked through as they are
through_references : (p : List ℕ → Bool) (names : List (Bor (List ℕ)))
    → list_any (λ name. p name.now) names ≡ list_any p (map (λ name. name.now) names)
through_references p [] = refl
through_references p (name ∷ names) = grind (arith, through_references p names)

-- this is true if they point to these names, in another order
pub listed_in_order : (gathered sorted : List (Bor (List ℕ))) (names : List (List ℕ))
    → map (λ name. name.now) gathered ≡ names → IsPermutation gathered sorted
    → (name : List ℕ) → has_reference_to sorted name ≡ is_listed names name
listed_in_order gathered sorted names same moved name =
    sym (list_any-IsPermutation (λ listed. bytes_eq listed.now name) gathered sorted moved)
    ∙ through_references (λ listed. bytes_eq listed name) gathered
    ∙ ap (λ (zs : List (List ℕ)). is_listed zs name) same
