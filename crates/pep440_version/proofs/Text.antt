-- The normal text of a version derives that version.
use Rattle.std.proofs.Common.{◌≡◌, ◌==◌, ◌++◌, ℕ, ◌<◌, Option, Some, None, List, [], ◌∷◌, length, sym, ap, ◌∙◌, arith, inl, inr, true, false, rules, append-nil, append_assoc, subst}
use Rattle.std.specs.Prelude.{codes}
use Rattle.std.specs.Char.{is_ascii_digit}
use Rattle.std.specs.Fmt.{decimal}
use Rattle.std.specs.List.{AllByRecursion, list_all}
use Rattle.std.proofs.lemmas.Bool.{cases_Bool, eqb-true}
use Rattle.std.proofs.lemmas.Fmt.{decimal_nonempty, digits_decimal, digits_value-decimal}
use Rattle.std.proofs.lemmas.Str.Parse.{IsNumeralModel, numerals_by_fold}
use Rattle.pep440_version.specs.declared.version.Prerelease.{Prerelease}
use Rattle.pep440_version.specs.declared.version.PrereleaseKind.{PrereleaseKind}
use Rattle.pep440_version.specs.declared.version.PrereleaseKind.TheVariants.{Alpha, Beta, Rc}
use Rattle.pep440_version.specs.Parts.{Parts, Segment, word, number}
use Rattle.pep440_version.specs.Grammar.{IsDev, IsEpoch, IsLocal, IsNumber, IsNumbering, IsPattern, IsPost, IsPre, IsRelease, IsSegment, IsSegments, IsVersion, before, dev, dot, epoch, last, last_segment, left_out, no_dev, no_epoch, no_local, no_mark, no_post, no_pre, numeric, plus, post, pre, segment_before, starred, starred_parts, short_alpha, short_beta, textual, value_from, version, word_post, word_rc, written}
use Rattle.pep440_version.specs.Valid.{Fits, FitsIfSome, IsValid, PrereleaseFits, SegmentIsValid}
use Rattle.pep440_version.specs.Text.{dev_text, dotted, dotted_segments, epoch_text, kind_text, local_text, post_text, pre_text, release_text, segment_text, version_text}

own : IsNumeralModel (λ ds. list_all is_ascii_digit ds ≡ true) (value_from 0)
own = numerals_by_fold _ (search rules) value_from (search rules)

pub decimal-number : (n : ℕ) → Fits n → IsNumber (decimal n) n
decimal-number n h = record { digits = digits_decimal own n h; some = decimal_nonempty n h; value = digits_value-decimal own n h; fits = h }

epoch-text : (e : ℕ) → Fits e → IsEpoch (epoch_text e) e
epoch-text e h = elim (cases_Bool (e == 0)) [
  | inl none ↦ let zero : e ≡ 0 = eqb-true e 0 none in rw zero no_epoch
  | inr some ↦ rw some (epoch (decimal-number e h))
]

release-text : (n : ℕ) (ns : List ℕ) → Fits n → AllByRecursion Fits ns → IsRelease (decimal n ++ dotted ns) (n ∷ ns)
release-text n [] h all = rw append-nil (last (decimal-number n h))
release-text n (m ∷ ns) h all = before (decimal-number n h) (release-text m ns all.0 all.1)

number-text : (n : ℕ) → Fits n → IsNumbering (decimal n) n false
number-text n h = written left_out (decimal-number n h)

pre-text : (p : Option Prerelease) → PrereleaseFits p → IsPre (pre_text p) p false
pre-text None h = no_pre
pre-text (Some p) h = by_kind p.kind p.number h
  where
    by_kind : (k : PrereleaseKind) (n : ℕ) → Fits n → IsPre (kind_text k ++ decimal n) (Some (record { kind = k; number = n })) false
    by_kind Alpha n h = pre left_out short_alpha (number-text n h)
    by_kind Beta n h = pre left_out short_beta (number-text n h)
    by_kind Rc n h = pre left_out word_rc (number-text n h)

post-text : (o : Option ℕ) → FitsIfSome o → IsPost false (post_text o) o
post-text None h = no_post
post-text (Some n) h = post dot word_post (number-text n h)

dev-text : (o : Option ℕ) → FitsIfSome o → IsDev (dev_text o) o
dev-text None h = no_dev
dev-text (Some n) h = dev dot (number-text n h)

segment-text : (s : Segment) → SegmentIsValid s → IsSegment (segment_text s) s
segment-text (word t) h = textual h
segment-text (number n) h = numeric (decimal-number n h)

segments-text : (s : Segment) (ss : List Segment) → SegmentIsValid s → AllByRecursion SegmentIsValid ss → IsSegments (segment_text s ++ dotted_segments ss) (s ∷ ss)
segments-text s [] h all = rw append-nil (last_segment (segment-text s h))
segments-text s (t ∷ ss) h all = segment_before {p = 46 ∷ []} (segment-text s h) dot (omega arith) (segments-text t ss all.0 all.1)

local-text : (ss : List Segment) → AllByRecursion SegmentIsValid ss → IsLocal (local_text ss) ss
local-text [] h = no_local
local-text (s ∷ ss) h = plus (segments-text s ss h.0 h.1)

release-parts : (ns : List ℕ) → 0 < length ns → AllByRecursion Fits ns → IsRelease (release_text ns) ns
release-parts ns h1 h2 = grind (arith, release-text)

-- the normal text of a version is a text of it
pub valid-text : (v : Parts) → IsValid v → IsVersion (version_text v) v
unfolding version_text
valid-text v h =
    let whole = version {v = v} no_mark (epoch-text v.epoch h.epoch) (release-parts v.release h.some h.release) (pre-text v.pre h.pre)
    (post-text v.post h.post) (dev-text v.dev h.dev) (local-text v.locals h.locals) in
    let same : epoch_text v.epoch ++ (release_text v.release ++ (pre_text v.pre ++ (post_text v.post ++ (dev_text v.dev ++ local_text v.locals))))
    ≡ epoch_text v.epoch ++ (release_text v.release ++ ((pre_text v.pre ++ (post_text v.post ++ dev_text v.dev)) ++ local_text v.locals)) =
    ap (λ (z : List ℕ). epoch_text v.epoch ++ (release_text v.release ++ z))
    (sym (append_assoc (pre_text v.pre) (post_text v.post ++ dev_text v.dev) (local_text v.locals) ∙ ap (λ (z : List ℕ). pre_text v.pre ++ z) (append_assoc (post_text v.post) (dev_text v.dev) (local_text v.locals)))) in
    subst (λ (z : List ℕ). IsVersion z v) same whole

-- the normal text of a release, followed by `.*`, derives that release with a star
pub star-text : (e : ℕ) (ns : List ℕ) → IsValid (starred_parts e ns) → IsPattern (version_text (starred_parts e ns) ++ codes ".*") (starred_parts e ns) true
unfolding version_text
star-text e ns h =
    let derived : IsPattern (epoch_text e ++ (release_text ns ++ codes ".*")) (starred_parts e ns) true = starred no_mark (epoch-text e h.epoch) (release-parts ns h.some h.release) in
    let same : (epoch_text e ++ (release_text ns ++ [])) ++ codes ".*" ≡ epoch_text e ++ (release_text ns ++ codes ".*") =
    append_assoc (epoch_text e) (release_text ns ++ []) (codes ".*") ∙ ap (λ (z : List ℕ). epoch_text e ++ z) (append_assoc (release_text ns) [] (codes ".*")) in
    subst (λ (z : List ℕ). IsPattern z (starred_parts e ns) true) (sym same) derived
