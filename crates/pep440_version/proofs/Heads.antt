-- An epoch and a release, from the first number on.
use Rattle.std.proofs.Common.{◌≡◌, ◌==◌, ℕ, arith, Option, Some, None, List, [], ◌∷◌, length, refl, ap, inl, inr}
use Rattle.std.specs.Prelude.{codes}
use Rattle.std.proofs.lemmas.Bool.{cases_Bool}
use Rattle.pep440_version.specs.Grammar.{starred_parts}
use Rattle.pep440_version.specs.Reading.{after_release, bang_of, dev_at, epoch_at, head_at, head_of, lower, number_at, post_at, post_word_at, pre_at, pre_word_at, release_at, release_of, strip}
use Rattle.pep440_version.specs.Valid.{AreNumbers}
use Rattle.pep440_version.proofs.Sound.{release-sound, some-value}
use Rattle.pep440_version.proofs.Valid.{release-fits}

no_bang : (n : ℕ) (t after : List ℕ) → None ≡ strip (codes "!") after → bang_of n t after ≡ (0, t)
unfolding strip
no_bang n t [] h = refl
no_bang n t (b ∷ after) h = elim (cases_Bool (b == 33)) [
  | inl bang ↦ cc (rw bang at h)
  | inr other ↦ rw other refl
]

bang : (n : ℕ) (t after release : List ℕ) → Some release ≡ strip (codes "!") after → bang_of n t after ≡ (n, release)
unfolding strip
bang n t [] release h = cc h
bang n t (b ∷ after) release h = elim (cases_Bool (b == 33)) [
  | inl same ↦
      let rest : release ≡ after = some-value _ _ (rw same at h) in
      rw (same, rest) refl
  | inr other ↦ cc (rw other at h)
]

pub head-absent : (t : List ℕ) → None ≡ number_at t → None ≡ head_at t
unfolding head_at epoch_at release_at
head-absent t h = rw (← h, ← h) refl

pub head-plain : (t after : List ℕ) (n : ℕ) (r rest : List ℕ) → Some (n, after) ≡ number_at t → None ≡ strip (codes "!") after
    → Some (r, rest) ≡ release_of (Some (n, after)) → Some (0, r, rest) ≡ head_at t
unfolding head_at epoch_at release_at
head-plain t after n r rest h none k = rw (← h, no_bang n t after none, ← h) (ap (head_of 0) k)

pub head-unreleased : (t after release : List ℕ) (n : ℕ) → Some (n, after) ≡ number_at t → Some release ≡ strip (codes "!") after
    → None ≡ number_at release → None ≡ head_at t
unfolding head_at epoch_at release_at
head-unreleased t after release n h some k = rw (← h, bang n t after release some, ← k) refl

pub head-epoch : (t after release : List ℕ) (n m : ℕ) (more r rest : List ℕ) → Some (n, after) ≡ number_at t → Some release ≡ strip (codes "!") after
    → Some (m, more) ≡ number_at release → Some (r, rest) ≡ release_of (Some (m, more)) → Some (n, r, rest) ≡ head_at t
unfolding head_at epoch_at release_at
head-epoch t after release n m more r rest h some number k = rw (← h, bang n t after release some, ← number) (ap (head_of n) k)

head_of-release : (e : ℕ) (o : Option (List ℕ × List ℕ)) (x : ℕ × List ℕ × List ℕ) → Some x ≡ head_of e o → o ≡ Some (x.1, x.2)
head_of-release e o x h1 = grind arith

pub head-numbers : (t : List ℕ) (e : ℕ) (r rest : List ℕ) → Some (e, r, rest) ≡ head_at t → AreNumbers r
unfolding head_at
head-numbers t e r rest h =
    let found = head_of-release (epoch_at t).0 (release_at (epoch_at t).1) (e, r, rest) h in
    let fits = release-fits (release-sound (epoch_at t).1 r rest found).1 in
    record { some = fits.0; fit = fits.1 }

-- nothing follows the release
pub suffixes-empty : (e : ℕ) (r t : List ℕ) → length t ≡ 0 → Some (starred_parts e r) ≡ after_release e (Some (r, lower t))
unfolding pre_at pre_word_at post_at post_word_at dev_at strip
suffixes-empty e r [] h = refl
suffixes-empty e r (b ∷ t) h = absurd (omega arith)
