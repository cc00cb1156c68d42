-- Patterns are read exactly as the grammar has them.
use Rattle.std.proofs.Common.{◌≡◌, ◌++◌, ℕ, Bool, Option, Some, None, List, refl, sym, ap, ◌∙◌, inl, inr, true, false, subst, arith}
use Rattle.std.specs.Prelude.{IfNone, IfSome, codes}
use Rattle.std.specs.Str.{trim}
use Rattle.std.proofs.lemmas.Bool.{cases_Bool}
use Rattle.pep440_version.specs.declared.version.Prerelease.{Prerelease}
use Rattle.pep440_version.specs.declared.version.PrereleaseKind.{PrereleaseKind}
use Rattle.pep440_version.specs.declared.pattern.VersionPattern.{VersionPattern}
use Rattle.pep440_version.specs.Parts.{Parts, Segment}
use Rattle.pep440_version.specs.Grammar.{IsDev, IsEpoch, IsLocal, IsMark, IsPattern, IsPatternText, IsPost, IsPostWord, IsPre, IsPreWord, IsRelease, IsSeparator, IsVersion, IsVersionText, dash, dashed, dev, dot, left_out, no_dev, no_post, no_pre, plain, post, pre, starred, starred_parts, underscore, version}
use Rattle.pep440_version.specs.Reading.{after_mark, epoch_at, is_asterisk, is_star, lower, pattern_at, pattern_view, release_at, star_at, star_of, tagged_parts, version_at}
use Rattle.pep440_version.proofs.Complete.{AfterRelease, after-version, epoch-again, epoch-digit, mark-again, regroup, release-again, release-digit, version-again}
use Rattle.pep440_version.proofs.Sound.{epoch-sound, mark-sound, or-cases, release-sound, some-value, version-sound}

-- ---- the text after a release does not begin with a star

star-separated : (s x : List ℕ) → IsSeparator s → is_star x ≡ false → is_asterisk x ≡ false → is_star (s ++ x) ≡ false
star-separated s x left_out h k = h
star-separated s x dash h k = refl
star-separated s x dot h k = k
star-separated s x underscore h k = refl

no_star-local : (l : List ℕ) (ss : List Segment) → IsLocal l ss → is_star l ≡ false
no_star-local l ss h1 = grind arith

no_star-dev : (d : List ℕ) (o : Option ℕ) (l : List ℕ) → IsDev d o → is_star l ≡ false → is_star (d ++ l) ≡ false
no_star-dev d o l no_dev h = h
no_star-dev d o l (dev left_out num) h = refl
no_star-dev d o l (dev dash num) h = refl
no_star-dev d o l (dev dot num) h = refl
no_star-dev d o l (dev underscore num) h = refl

post_word-no_star : (w x : List ℕ) → IsPostWord w → (is_star (w ++ x) ≡ false) × (is_asterisk (w ++ x) ≡ false)
post_word-no_star w x h1 = grind arith

no_star-post : (after : Bool) (q : List ℕ) (o : Option ℕ) (rest : List ℕ) → IsPost after q o → is_star rest ≡ false → is_star (q ++ rest) ≡ false
no_star-post after q o rest no_post h = h
no_star-post after q o rest (post {s = s} {w = w} {t = t} sep is_word num) h = grind (arith, post_word-no_star, regroup, star-separated)
no_star-post after q o rest (dashed num) h = refl

pre_word-no_star : (w : List ℕ) (kind : PrereleaseKind) (x : List ℕ) → IsPreWord w kind → (is_star (w ++ x) ≡ false) × (is_asterisk (w ++ x) ≡ false)
pre_word-no_star w kind x h1 = grind arith

no_star-pre : (p : List ℕ) (o : Option Prerelease) (b : Bool) (rest : List ℕ) → IsPre p o b → is_star rest ≡ false → is_star (p ++ rest) ≡ false
no_star-pre p o b rest no_pre h = h
no_star-pre p o b rest (pre {s = s} {w = w} {t = t} {kind = kind} sep is_word num) h = grind (arith, pre_word-no_star, regroup, star-separated)

-- ---- both directions

star-rest : (t : List ℕ) → is_star t ≡ true → t ≡ codes ".*"
star-rest t h1 = grind arith

star_of-sound : (t m t1 : List ℕ) → IsMark m → t ≡ m ++ t1 → (o : Option (List ℕ × List ℕ)) → release_at (epoch_at t1).1 ≡ o
    → (v : Parts) → star_of (epoch_at t1).0 o ≡ Some v → IsPattern t v true
star_of-sound t m t1 is_m whole None found v h = cc h
star_of-sound t m t1 is_m whole (Some x) found v h = elim (cases_Bool (is_star x.1)) [
  | inl star ↦
      let e = epoch-sound t1 in
      let r = release-sound (epoch_at t1).1 x.0 x.1 found in
      let end = star-rest x.1 star in
      let value : starred_parts (epoch_at t1).0 x.0 ≡ v = some-value _ _ (rw star at h) in
      let text : t ≡ m ++ (e.0 ++ (r.0 ++ codes ".*")) =
      whole ∙ ap (λ (z : List ℕ). m ++ z) (e.2 ∙ ap (λ (z : List ℕ). e.0 ++ z) (r.2 ∙ ap (λ (z : List ℕ). r.0 ++ z) end)) in
      let derived : IsPattern (m ++ (e.0 ++ (r.0 ++ codes ".*"))) (starred_parts (epoch_at t1).0 x.0) true = starred is_m e.1 r.1 in
      subst (λ (z : Parts). IsPattern t z true) value (subst (λ (z : List ℕ). IsPattern z (starred_parts (epoch_at t1).0 x.0) true) (sym text) derived)
  | inr other ↦ cc (rw other at h)
]

pub star-sound : (t : List ℕ) (v : Parts) → star_at t ≡ Some v → IsPattern t v true
unfolding star_at
star-sound t v h =
    let m = mark-sound t in
    star_of-sound t m.0 (after_mark t) m.1 m.2 (release_at (epoch_at (after_mark t)).1) refl v h

tagged-value : (star : Bool) (o : Option Parts) (v : Parts) (b : Bool) → tagged_parts star o ≡ Some (v, b) → (o ≡ Some v) × (star ≡ b)
tagged-value star o v b h1 = grind arith

pub pattern-sound : (t : List ℕ) (v : Parts) (b : Bool) → pattern_at t ≡ Some (v, b) → IsPattern t v b
unfolding pattern_at
pattern-sound t v b h = elim (or-cases _ _ (v, b) h) [
  | inl found ↦ let e = tagged-value true (star_at t) v b found in subst (IsPattern t v) e.1 (star-sound t v e.0)
  | inr found ↦ let e = tagged-value false (version_at t) v b found in subst (IsPattern t v) e.1 (plain (version-sound t v e.0))
]

star-after : AfterRelease (codes ".*")
star-after = record { digit = refl; release = refl; bang = λ n u. refl }

star-again : (m e r : List ℕ) (n : ℕ) (ns : List ℕ) → IsMark m → IsEpoch e n → IsRelease r ns → star_at (m ++ (e ++ (r ++ codes ".*"))) ≡ Some (starred_parts n ns)
unfolding star_at
star-again m e r n ns is_m is_e is_r =
    let start = epoch-digit e n (r ++ codes ".*") is_e (release-digit r ns (codes ".*") is_r) in
    rw (mark-again m (e ++ (r ++ codes ".*")) is_m start, epoch-again e n r ns (codes ".*") is_e is_r star-after, release-again r ns (codes ".*") is_r star-after) refl

-- a version is not a release with a star
no_star : (t : List ℕ) (v : Parts) → IsVersion t v → star_at t ≡ None
unfolding star_at
no_star t v (version {m = m} {e = e} {r = r} {p = p} {q = q} {d = d} {l = l} {after = after} is_m is_e is_r is_p is_q is_d is_l) =
    let rest = p ++ (q ++ (d ++ l)) in
    let a = after-version p q d l after v is_p is_q is_d is_l in
    let start = epoch-digit e v.epoch (r ++ rest) is_e (release-digit r v.release rest is_r) in
    let none : is_star (p ++ (q ++ (d ++ l))) ≡ false =
    no_star-pre p v.pre after (q ++ (d ++ l)) is_p (no_star-post after q v.post (d ++ l) is_q (no_star-dev d v.dev l is_d (no_star-local l v.locals is_l))) in
    rw (
      mark-again m (e ++ (r ++ (p ++ (q ++ (d ++ l))))) is_m start,
      epoch-again e v.epoch r v.release (p ++ (q ++ (d ++ l))) is_e is_r a,
      release-again r v.release (p ++ (q ++ (d ++ l))) is_r a,
      none,
    ) refl

pub pattern-again : (t : List ℕ) (v : Parts) (b : Bool) → IsPattern t v b → pattern_at t ≡ Some (v, b)
unfolding pattern_at
pattern-again t v b (plain h) = rw (no_star t v h, version-again t v h) refl
pattern-again t v b (starred {m = m} {e = e} {r = r} {n = n} {ns = ns} is_m is_e is_r) = rw (star-again m e r n ns is_m is_e is_r) refl

-- ---- a text says one

pub one_version : (t : List ℕ) (v w : Parts) → IsVersion t v → IsVersion t w → v ≡ w
one_version t v w h k = some-value _ _ (sym (version-again t v h) ∙ version-again t w k)

pub one_pattern : (t : List ℕ) (v w : Parts) (b d : Bool) → IsPattern t v b → IsPattern t w d → (v ≡ w) × (b ≡ d)
one_pattern t v w b d h1 h2 = grind (arith, some-value, pattern-again)

-- ---- a text is parsed as exactly what it denotes

-- t is the text without the white space around it

pub version-found : (text t : List ℕ) → t ≡ trim text → (o : Option Parts) → o ≡ version_at (lower t) → IfSome o (IsVersionText text)
version-found text t h1 o h2 = grind (arith, version-sound)

pub version-missing : (text t : List ℕ) → t ≡ trim text → (o : Option Parts) → o ≡ version_at (lower t)
    → IfNone o ((v : Parts) → ¬ IsVersionText text v)
version-missing text t h1 o h2 = grind (arith, version-again)

pub pattern-found : (text t : List ℕ) → t ≡ trim text → (o : Option VersionPattern) → pattern_view o ≡ pattern_at (lower t)
    → IfSome o (λ p. IsPatternText text p.version p.wildcard)
pattern-found text t h1 o h2 = grind (arith, pattern-sound)

pub pattern-missing : (text t : List ℕ) → t ≡ trim text → (o : Option VersionPattern) → pattern_view o ≡ pattern_at (lower t)
    → IfNone o ((v : Parts) (star : Bool) → ¬ IsPatternText text v star)
pattern-missing text t h1 o h2 = grind (arith, pattern-again)
