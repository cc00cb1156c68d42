-- A release without the zeros at its end is the same release.
use Rattle.std.proofs.Common.{◌≡◌, ◌==◌, ◌∷◌, [], ℕ, List, length, take, refl, sym, ap, ◌∙◌, arith, inl, inr, subst, max}
use Rattle.std.proofs.lemmas.Bool.{cases_Bool}
use Rattle.std.specs.Cmp.{tied_itself}
use Rattle.std.specs.Cmp.Lexicographic.{nat_list_cmp_total}
use Rattle.std.specs.declared.cmp.Ordering.TheVariants.{Equal}
use Rattle.pep440_version.specs.Order.{IsSameVersion, keep, padded_cmp, significant, trimmed, trimmed_parts}
use Rattle.pep440_version.specs.OrderLaws.{padded-significant}
use Rattle.pep440_version.specs.Parts.{Parts}

take-keep : (x : ℕ) (xs s : List ℕ) → take (length s) xs ≡ s → take (length (keep x s)) (x ∷ xs) ≡ keep x s
take-keep x xs s h1 = grind arith

take-significant : (xs : List ℕ) → take (length (significant xs)) xs ≡ significant xs
unfolding significant
take-significant [] = refl
take-significant (x ∷ xs) = take-keep x xs (significant xs) (take-significant xs)

significant-keep : (x : ℕ) (s : List ℕ) → significant s ≡ s → significant (keep x s) ≡ keep x s
unfolding significant
significant-keep x [] h = elim (cases_Bool (x == 0)) [ inl e ↦ rw e refl | inr e ↦ rw (e, e) refl ]
significant-keep x (y ∷ s) h = ap (keep x) h

significant-again : (xs : List ℕ) → significant (significant xs) ≡ significant xs
unfolding significant
significant-again [] = refl
significant-again (x ∷ xs) = significant-keep x (significant xs) (significant-again xs)

keep-none : (x : ℕ) (s : List ℕ) → keep x s ≡ [] → keep x [] ≡ []
keep-none x s h1 = grind arith

take_one : (xs : List ℕ) → significant xs ≡ [] → significant (take 1 xs) ≡ []
unfolding significant
take_one [] h = refl
take_one (x ∷ xs) h = keep-none x (significant xs) h

trimmed_of : (xs s : List ℕ) → significant xs ≡ s → significant (take (max 1 (length s)) xs) ≡ s
trimmed_of xs [] e = take_one xs e
trimmed_of xs (y ∷ s) e =
    let m : max 1 (length (y ∷ s)) ≡ length (y ∷ s) = omega arith in
    let whole : take (length (y ∷ s)) xs ≡ significant xs = subst (λ (z : List ℕ). take (length z) xs ≡ significant xs) e (take-significant xs) in
    rw (m, whole) (significant-again xs ∙ e)

significant-trimmed : (xs : List ℕ) → significant (trimmed xs) ≡ significant xs
significant-trimmed xs = trimmed_of xs (significant xs) refl

-- releases with the same significant numbers tie
padded-tied : (xs ys : List ℕ) → significant xs ≡ significant ys → padded_cmp xs ys ≡ Equal
padded-tied xs ys e = padded-significant xs ys ∙ rw e (tied_itself nat_list_cmp_total (significant ys))

trimmed-same : (v : Parts) → IsSameVersion (trimmed_parts v) v
trimmed-same v = grind (arith, padded-tied, significant-trimmed)

pub trimmed-version : (x v : Parts) → x ≡ trimmed_parts v → IsSameVersion x v
trimmed-version x v e = subst (λ (z : Parts). IsSameVersion z v) (sym e) (trimmed-same v)
