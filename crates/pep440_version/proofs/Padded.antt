-- One step of the order of releases.
use Rattle.std.proofs.Common.{◌≡◌, ◌==◌, ◌++◌, false, true, not, ℕ, ◌+◌, List, [], ◌∷◌, drop, get_or, refl, ap, ◌∙◌, arith, get_or-drop, drop-drop, sym, ◌<◌, ◌≤◌, ◌-◌, length, take}
use Rattle.std.proofs.lemmas.Bool.Decides.{nat_tests}
use Rattle.std.proofs.lemmas.List.{drop_all, take_more}
use Rattle.std.specs.Ordering.{nat_cmp, ordering_index, ordering_then}
use Rattle.std.specs.declared.cmp.Ordering.{Ordering}
use Rattle.std.specs.declared.cmp.Ordering.TheVariants.{Equal}
use Rattle.pep440_version.specs.Order.{padded_cmp}
use Rattle.pep440_version.specs.Order.{keep, significant}

at_front : (xs ys : List ℕ) → padded_cmp xs ys ≡ ordering_then (nat_cmp (get_or xs 0 0) (get_or ys 0 0)) (padded_cmp (drop 1 xs) (drop 1 ys))
unfolding padded_cmp
at_front [] [] = refl
at_front [] (y ∷ ys) = refl
at_front (x ∷ xs) [] = refl
at_front (x ∷ xs) (y ∷ ys) = refl

pub padded-step : (xs ys : List ℕ) (i : ℕ) → padded_cmp (drop i xs) (drop i ys)
    ≡ ordering_then (nat_cmp (get_or xs i 0) (get_or ys i 0)) (padded_cmp (drop (i + 1) xs) (drop (i + 1) ys))
padded-step xs ys i =
    let e : i + 0 ≡ i = omega arith in
    rw (e) at (rw (get_or-drop i xs 0 0, get_or-drop i ys 0 0, drop-drop 1 i xs, drop-drop 1 i ys) at (at_front (drop i xs) (drop i ys)))

pub padded-end : (xs ys : List ℕ) (i : ℕ) → length xs ≤ i → length ys ≤ i → padded_cmp (drop i xs) (drop i ys) ≡ Equal
unfolding padded_cmp
padded-end xs ys i h k = rw (drop_all i xs h, drop_all i ys k) refl

-- ---- the significant numbers

pub significant-zero : (xs : List ℕ) → significant (xs ++ 0 ∷ []) ≡ significant xs
unfolding significant
significant-zero [] = refl
significant-zero (x ∷ xs) = ap (keep x) (significant-zero xs)

cons-keep : (x y : ℕ) (xs : List ℕ) → keep x (xs ++ y ∷ []) ≡ x ∷ (xs ++ y ∷ [])
cons-keep x y [] = refl
cons-keep x y (z ∷ xs) = refl

pub significant-push : (xs : List ℕ) (y : ℕ) → (y == 0) ≡ false → significant (xs ++ y ∷ []) ≡ xs ++ y ∷ []
unfolding significant
significant-push [] y h = rw h refl
significant-push (x ∷ xs) y h = ap (keep x) (significant-push xs y h) ∙ cons-keep x y xs

-- ---- what a test of a result means

pub then_other : (r s : Ordering) → true ≡ not (ordering_index r == 1) → ordering_then r s ≡ r
then_other r s h1 = grind arith

pub then_equal : (r s : Ordering) → false ≡ not (ordering_index r == 1) → ordering_then r s ≡ s
then_equal r s h1 = grind arith

-- a zero at the end of the first numbers is not significant
pub significant-drop : (xs : List ℕ) (n : ℕ) → 0 < n → n ≤ length xs → get_or xs (n - 1) 0 ≡ 0 → significant (take (n - 1) xs) ≡ significant (take n xs)
significant-drop xs n h k zero =
    let back : n - 1 + 1 ≡ n = omega arith in
    let more : take n xs ≡ take (n - 1) xs ++ 0 ∷ [] = rw (back, zero) at (take_more xs (n - 1) 0 (omega arith)) in
    sym (ap significant more ∙ significant-zero (take (n - 1) xs))

-- a number that is not zero ends what is significant
pub significant-stop : (xs : List ℕ) (n : ℕ) → 0 < n → n ≤ length xs → (get_or xs (n - 1) 0 ≡ 0 → ⊥) → significant (take n xs) ≡ take n xs
significant-stop xs n h k other =
    let back : n - 1 + 1 ≡ n = omega arith in
    let some : (get_or xs (n - 1) 0 == 0) ≡ false = grind (arith, nat_tests) in
    let more : take n xs ≡ take (n - 1) xs ++ get_or xs (n - 1) 0 ∷ [] = rw back at (take_more xs (n - 1) 0 (omega arith)) in
    ap significant more ∙ significant-push (take (n - 1) xs) _ some ∙ sym more

pub significant-none : (xs : List ℕ) (n : ℕ) → n ≤ 0 → significant (take n xs) ≡ take n xs
unfolding significant
significant-none xs n h = let none : n ≡ 0 = omega arith in rw none refl
