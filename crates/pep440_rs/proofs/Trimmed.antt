-- Versions that are written without zeros at the end of their releases, and the bounds at them.
use Rattle.std.proofs.Common.{◌≡◌, ◌==◌, ◌<◌, [], ◌∷◌, ℕ, Bool, true, List, ◌↔◌, length, map, max, refl, sym, ap, ◌∙◌, eq-eqb, eqb-true, inl, inr, arith}
use Rattle.std.proofs.lemmas.Bool.{and_from, cases_Bool}
use Rattle.std.proofs.lemmas.List.{length-take, take_all}
use Rattle.std.specs.List.{list_all}
use Rattle.version_ranges.specs.Bounds.{IsKeptByClones}
use Rattle.pep440_version.specs.Order.{keep, significant, trimmed, trimmed_parts}
use Rattle.pep440_version.specs.Parts.{Parts}
use Rattle.pep440_rs.specs.Intervals.{is_trimmed}
use Rattle.pep440_rs.proofs.Alike.{shape, trimmed-of}

-- a number before those that are kept is kept as it was
keep-twice : (x : ℕ) (s : List ℕ) → significant s ≡ s → significant (keep x s) ≡ keep x s
unfolding significant
keep-twice x [] h = elim (cases_Bool (x == 0)) [ inl e ↦ rw e refl | inr e ↦ rw (e, e) refl ]
keep-twice x (y ∷ s) h = ap (keep x) h

significant-twice : (xs : List ℕ) → significant (significant xs) ≡ significant xs
unfolding significant
significant-twice [] = refl
significant-twice (x ∷ xs) = keep-twice x (significant xs) (significant-twice xs)

trimmed-some : (xs : List ℕ) → 0 < length xs → trimmed xs ≡ shape (significant xs)
trimmed-some xs some = trimmed-of xs (significant xs) some refl

shape-trimmed : (s : List ℕ) → significant s ≡ s → trimmed (shape s) ≡ shape s
unfolding significant shape
shape-trimmed [] h = refl
shape-trimmed (y ∷ s) h = trimmed-some (y ∷ s) (omega arith) ∙ ap shape h

pub trimmed-twice : (xs : List ℕ) → trimmed (trimmed xs) ≡ trimmed xs
unfolding significant
trimmed-twice [] = refl
trimmed-twice (x ∷ xs) =
    let e : trimmed (x ∷ xs) ≡ shape (significant (x ∷ xs)) = trimmed-some (x ∷ xs) (omega arith) in
    ap trimmed e ∙ shape-trimmed (significant (x ∷ xs)) (significant-twice (x ∷ xs)) ∙ sym e

pub trimmed-is : (xs : List ℕ) (v : Parts) → v.release ≡ trimmed xs → is_trimmed v ≡ true
trimmed-is xs v e = eq-eqb (length v.release) (length (trimmed v.release)) (ap length (e ∙ sym (trimmed-twice xs) ∙ ap trimmed (sym e)))

-- the test says that dropping the zeros changes nothing
trimmed-same : (xs : List ℕ) → length xs ≡ length (trimmed xs) → trimmed xs ≡ xs
trimmed-same xs e = take_all (max 1 (length (significant xs))) xs (omega (arith, e, length-take (max 1 (length (significant xs))) xs))

pub trimmed-means : (v : Parts) → (is_trimmed v ≡ true) ↔ (trimmed_parts v ≡ v)
trimmed-means v = grind (arith, trimmed-same, eqb-true, length, eq-eqb)

pub trimmed-each : (vs : List Parts) → list_all is_trimmed (map trimmed_parts vs) ≡ true
trimmed-each [] = refl
trimmed-each (v ∷ vs) = and_from _ _ (trimmed-is v.release (trimmed_parts v) refl) (trimmed-each vs)

-- a clone of a version passes what the version passes
pub clones-keep : (test : Parts → Bool) → IsKeptByClones (λ v w. w ≡ v) test
clones-keep test v w e h = ap test e ∙ h
