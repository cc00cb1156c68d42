-- A text and the same text in lower case are read alike, up to its suffixes.
use Rattle.std.proofs.Common.{◌≡◌, ◌==◌, zero, suc, ℕ, ◌+◌, ◌-◌, ◌*◌, ◌^◌, ◌<◌, Option, Some, None, List, [], ◌∷◌, length, refl, arith, inl, inr, true, false, nat_lt}
use Rattle.std.specs.Char.{is_ascii_digit, is_ascii_uppercase, to_ascii_lowercase}
use Rattle.std.specs.List.{list_any}
use Rattle.std.proofs.lemmas.Bool.{cases_Bool}
use Rattle.std.proofs.lemmas.Bool.Decides.{nat_tests}
use Rattle.std.proofs.lemmas.List.{length-map}
use Rattle.pep440_version.specs.Parts.{Parts}
use Rattle.pep440_version.specs.Grammar.{starred_parts}
use Rattle.pep440_version.specs.Reading.{after_mark, after_release, digits_from, epoch_at, epoch_of, head_at, head_of, is_star, lower, more_at, more_of, number_after, number_at, pattern_at, release_at, release_of, star_at, star_of, starts_digit, tagged_parts, version_at}

-- ---- bytes

digit-lower : (b : ℕ) → is_ascii_digit (to_ascii_lowercase b) ≡ is_ascii_digit b
digit-lower b = grind (arith, nat_tests)

digit-same : (b : ℕ) → is_ascii_digit b ≡ true → to_ascii_lowercase b ≡ b
digit-same b h = grind (arith, nat_tests)

-- a byte that is not a letter
sign-lower : (b c : ℕ) → c < 65 → (to_ascii_lowercase b == c) ≡ (b == c)
sign-lower b c h = grind (arith, nat_tests)

small-lower : (b : ℕ) → is_ascii_uppercase b ≡ false → to_ascii_lowercase b ≡ b
small-lower b h = grind (arith, nat_tests)

pub small-text : (t : List ℕ) → list_any is_ascii_uppercase t ≡ false → lower t ≡ t
small-text [] h = refl
small-text (b ∷ t) h = grind (arith, cases_Bool, small-lower, small-text t)

-- ---- numbers

-- what is read, with the rest in lower case
abbrev lowered : {A : Type 0} → Option (A × List ℕ) → Option (A × List ℕ)
lowered None = None
lowered (Some x) = Some (x.0, lower x.1)

abbrev lowered_pair : {A : Type 0} → A × List ℕ → A × List ℕ
lowered_pair x = (x.0, lower x.1)

digits_from-lower : (v : ℕ) (t : List ℕ) → digits_from v (lower t) ≡ lowered (digits_from v t)
unfolding digits_from
digits_from-lower v [] = refl
digits_from-lower v (b ∷ t) = elim (cases_Bool (is_ascii_digit b)) [
  | inl digit ↦ elim (cases_Bool (nat_lt (v * 10 + (b - 48)) (2 ^ 64))) [
    | inl fits ↦ rw (digit-same b digit, digit, fits) (digits_from-lower (v * 10 + (b - 48)) t)
    | inr over ↦ rw (digit-same b digit, digit, over) refl
  ]
  | inr other ↦ rw (digit-lower b, other) refl
]

starts_digit-lower : (t : List ℕ) → starts_digit (lower t) ≡ starts_digit t
starts_digit-lower t = grind arith

number_at-lower : (t : List ℕ) → number_at (lower t) ≡ lowered (number_at t)
number_at-lower t = grind (arith, cases_Bool, starts_digit-lower, digits_from-lower)

number_after-lower : (m : ℕ) → m < 65 → (t : List ℕ) → number_after m (lower t) ≡ lowered (number_after m t)
number_after-lower m h1 t = grind (arith, cases_Bool, sign-lower, number_at-lower)

-- ---- the epoch and the release

more_at-lower : (k : ℕ) (t : List ℕ) → more_at k (lower t) ≡ lowered_pair (more_at k t)
unfolding more_at
more_at-lower zero t = refl
more_at-lower (suc k) t =
    let step : (o : Option (ℕ × List ℕ)) → more_of (lower t) (more_at k) (lowered o) ≡ lowered_pair (more_of t (more_at k) o)
    = elim [
      | None ↦ refl
      | Some x ↦ rw (more_at-lower k x.1) refl
    ] in
    rw (number_after-lower 46 (omega arith) t) (step (number_after 46 t))

release_of-lower : (o : Option (ℕ × List ℕ)) → release_of (lowered o) ≡ lowered (release_of o)
release_of-lower o = grind (arith, length-map, more_at-lower, length)

release_at-lower : (t : List ℕ) → release_at (lower t) ≡ lowered (release_at t)
unfolding release_at
release_at-lower t = rw (number_at-lower t) (release_of-lower (number_at t))

epoch_of-lower : (t : List ℕ) (o : Option (ℕ × List ℕ)) → epoch_of (lower t) (lowered o) ≡ lowered_pair (epoch_of t o)
epoch_of-lower t o = grind arith

epoch_at-lower : (t : List ℕ) → epoch_at (lower t) ≡ lowered_pair (epoch_at t)
unfolding epoch_at
epoch_at-lower t = rw (number_at-lower t) (epoch_of-lower t (number_at t))

-- ---- what a head gives

-- a head that was read, or none, as the release of the text in lower case
abbrev IsHead : Option (ℕ × List ℕ × List ℕ) → ℕ → Option (List ℕ × List ℕ) → Type 0
IsHead None epoch release = release ≡ None
IsHead (Some x) epoch release = (epoch ≡ x.0) × (release ≡ Some (x.1, lower x.2))

head_of-lower : (e : ℕ) (o : Option (List ℕ × List ℕ)) → IsHead (head_of e o) e (lowered o)
head_of-lower e o = grind arith

head-lower : (t : List ℕ) → IsHead (head_at t) (epoch_at (lower t)).0 (release_at (epoch_at (lower t)).1)
unfolding head_at
head-lower t = rw (epoch_at-lower t, release_at-lower (epoch_at t).1) (head_of-lower (epoch_at t).0 (release_at (epoch_at t).1))

pub head-none : (t : List ℕ) → None ≡ head_at t → release_at (epoch_at (lower t)).1 ≡ None
head-none t h = rw (← h) at (head-lower t)

pub head-some : (t : List ℕ) (e : ℕ) (r rest : List ℕ) → Some (e, r, rest) ≡ head_at t
    → ((epoch_at (lower t)).0 ≡ e) × (release_at (epoch_at (lower t)).1 ≡ Some (r, lower rest))
head-some t e r rest h = rw (← h) at (head-lower t)

-- ---- a version and a pattern

-- t1 is the text after its mark

pub version-none : (t t1 : List ℕ) → lower t1 ≡ after_mark (lower t) → None ≡ head_at t1 → version_at (lower t) ≡ None
unfolding version_at
version-none t t1 marked h = rw (← marked, head-none t1 h) refl

pub version-some : (t t1 : List ℕ) (e : ℕ) (r rest : List ℕ) → lower t1 ≡ after_mark (lower t) → Some (e, r, rest) ≡ head_at t1
    → version_at (lower t) ≡ after_release e (Some (r, lower rest))
unfolding version_at
version-some t t1 e r rest marked h =
    let head = head-some t1 e r rest h in
    rw (← marked, head.0, head.1) refl

star-none : (t t1 : List ℕ) → lower t1 ≡ after_mark (lower t) → None ≡ head_at t1 → star_at (lower t) ≡ None
unfolding star_at
star-none t t1 marked h = rw (← marked, head-none t1 h) refl

star-some : (t t1 : List ℕ) (e : ℕ) (r rest : List ℕ) → lower t1 ≡ after_mark (lower t) → Some (e, r, rest) ≡ head_at t1
    → star_at (lower t) ≡ star_of e (Some (r, lower rest))
unfolding star_at
star-some t t1 e r rest marked h =
    let head = head-some t1 e r rest h in
    rw (← marked, head.0, head.1) refl

pub pattern-none : (t t1 : List ℕ) → lower t1 ≡ after_mark (lower t) → None ≡ head_at t1 → None ≡ pattern_at (lower t)
unfolding pattern_at
pattern-none t t1 marked h = rw (star-none t t1 marked h, version-none t t1 marked h) refl

pub pattern-star : (t t1 : List ℕ) (e : ℕ) (r rest : List ℕ) → lower t1 ≡ after_mark (lower t) → Some (e, r, rest) ≡ head_at t1
    → is_star (lower rest) ≡ true → Some (starred_parts e r, true) ≡ pattern_at (lower t)
unfolding pattern_at
pattern-star t t1 e r rest marked h star = rw (star-some t t1 e r rest marked h, star) refl

pub pattern-plain : (t t1 : List ℕ) (e : ℕ) (r rest : List ℕ) → lower t1 ≡ after_mark (lower t) → Some (e, r, rest) ≡ head_at t1
    → is_star (lower rest) ≡ false → (o : Option Parts) → o ≡ after_release e (Some (r, lower rest)) → tagged_parts false o ≡ pattern_at (lower t)
unfolding pattern_at
pattern-plain t t1 e r rest marked h other o same = rw (star-some t t1 e r rest marked h, other, version-some t t1 e r rest marked h, ← same) refl
