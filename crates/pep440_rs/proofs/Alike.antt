-- Versions that the order ties are written alike without the zeros at the end of their releases.
use Rattle.std.proofs.Common.{◌≡◌, ◌<◌, [], ◌∷◌, ℕ, List, length, take, max, refl, sym, ap, ◌∙◌, arith, subst}
use Rattle.std.specs.declared.cmp.Ordering.TheVariants.{Equal}
use Rattle.pep440_version.specs.Order.{keep, padded_cmp, significant, trimmed, trimmed_parts, version_cmp}
use Rattle.pep440_version.specs.OrderLaws.{padded-tie, tied-same}
use Rattle.pep440_version.specs.Parts.{Parts}

take-keep : (x : ℕ) (xs s : List ℕ) → take (length s) xs ≡ s → take (length (keep x s)) (x ∷ xs) ≡ keep x s
take-keep x xs s h1 = grind arith

take-significant : (xs : List ℕ) → take (length (significant xs)) xs ≡ significant xs
unfolding significant
take-significant [] = refl
take-significant (x ∷ xs) = take-keep x xs (significant xs) (take-significant xs)

-- if no number is significant, the first one is 0
keep-zero : (x : ℕ) (s : List ℕ) → keep x s ≡ [] → x ≡ 0
keep-zero x s h1 = grind arith

first-zero : (xs : List ℕ) → 0 < length xs → significant xs ≡ [] → take 1 xs ≡ 0 ∷ []
unfolding significant
first-zero [] some h = absurd (omega arith)
first-zero (x ∷ xs) some h = ap (λ (z : ℕ). z ∷ []) (keep-zero x (significant xs) h)

-- what a release is down to one number
unfoldable pub shape : List ℕ → List ℕ
shape [] = 0 ∷ []
shape (y ∷ s) = y ∷ s

pub trimmed-of : (xs s : List ℕ) → 0 < length xs → significant xs ≡ s → take (max 1 (length s)) xs ≡ shape s
unfolding shape
trimmed-of xs [] some e = first-zero xs some e
trimmed-of xs (y ∷ s) some e =
    let m : max 1 (length (y ∷ s)) ≡ length (y ∷ s) = omega arith in
    rw m (subst (λ (z : List ℕ). take (length z) xs ≡ z) e (take-significant xs))

pub tied-trimmed : (xs ys : List ℕ) → 0 < length xs → 0 < length ys → padded_cmp xs ys ≡ Equal → trimmed xs ≡ trimmed ys
tied-trimmed xs ys some more e =
    trimmed-of xs (significant xs) some refl ∙ ap shape (padded-tie xs ys e) ∙ sym (trimmed-of ys (significant ys) more refl)

pub alike-trimmed : (v w : Parts) → 0 < length v.release → 0 < length w.release → version_cmp v w ≡ Equal → trimmed_parts v ≡ trimmed_parts w
alike-trimmed v w some more tie =
    let same = tied-same v w tie in
    let release : trimmed v.release ≡ trimmed w.release = tied-trimmed v.release w.release some more same.release in
    λ i. record { epoch = same.epoch i; release = release i; pre = same.pre i; post = same.post i; dev = same.dev i; locals = same.locals i }
