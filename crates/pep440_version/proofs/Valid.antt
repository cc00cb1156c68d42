-- The parts that the grammar gives a text are those of a version.
use Rattle.std.proofs.Common.{◌≡◌, ◌<◌, ℕ, sym, subst, Option, Some, List, length, arith, Bool}
use Rattle.std.specs.List.{AllByRecursion}
use Rattle.pep440_version.specs.declared.version.Prerelease.{Prerelease}
use Rattle.pep440_version.specs.Parts.{Parts, Segment}
use Rattle.pep440_version.specs.Grammar.{IsDev, IsLocal, IsNumbering, IsPost, IsPre, IsRelease, IsSegment, IsSegments, before, dev, last, last_segment, post, pre, segment_before, starred_parts}
use Rattle.pep440_version.specs.Reading.{after_release, dev_at, post_at, pre_at}
use Rattle.pep440_version.specs.Valid.{AreNumbers, Fits, FitsIfSome, IsValid, PrereleaseFits, SegmentIsValid}
use Rattle.pep440_version.proofs.Sound.{dev-sound, finish-sound, locals-sound, post-sound, pre-sound}

numbering-fits : {t : List ℕ} {n : ℕ} {b : Bool} → IsNumbering t n b → Fits n
numbering-fits h1 = grind arith

pub release-fits : {t ns : List ℕ} → IsRelease t ns → (0 < length ns) × AllByRecursion Fits ns
release-fits (last num) = (omega arith, (num.fits, tt))
release-fits (before num more) = (omega arith, (num.fits, (release-fits more).1))

pre-fits : {t : List ℕ} {p : Option Prerelease} {b : Bool} → IsPre t p b → PrereleaseFits p
pre-fits h1 = grind (arith, numbering-fits)

post-fits : {b : Bool} {t : List ℕ} {p : Option ℕ} → IsPost b t p → FitsIfSome p
post-fits h1 = grind (arith, numbering-fits)

dev-fits : {t : List ℕ} {p : Option ℕ} → IsDev t p → FitsIfSome p
dev-fits h1 = grind (arith, numbering-fits)

segment-valid : {t : List ℕ} {s : Segment} → IsSegment t s → SegmentIsValid s
segment-valid h1 = grind arith

segments-valid : {t : List ℕ} {ss : List Segment} → IsSegments t ss → AllByRecursion SegmentIsValid ss
segments-valid (last_segment h) = (segment-valid h, tt)
segments-valid (segment_before h sep some more) = (segment-valid h, segments-valid more)

local-valid : {t : List ℕ} {ss : List Segment} → IsLocal t ss → AllByRecursion SegmentIsValid ss
local-valid h1 = grind (arith, segments-valid)

-- what is read of the suffixes of a version is valid
pub suffixes-valid : (e : ℕ) (ns t : List ℕ) (v : Parts) → Fits e → AreNumbers ns
    → Some v ≡ after_release e (Some (ns, t)) → IsValid v
suffixes-valid e ns t v small numbers h =
    let p = pre-sound t in
    let q = post-sound p.1 (pre_at t).1 p.4 in
    let d = dev-sound (post_at (pre_at t).1).1 in
    let end = finish-sound _ _ _ _ _ _ v (sym h) in
    let l = locals-sound (dev_at (post_at (pre_at t).1).1).1 end.0 end.1 in
    record {
      epoch = subst Fits end.2 small;
      some = subst (λ (z : List ℕ). 0 < length z) end.3 numbers.some;
      release = subst (AllByRecursion Fits) end.3 numbers.fit;
      pre = subst PrereleaseFits end.4 (pre-fits p.2);
      post = subst FitsIfSome end.5 (post-fits q.1);
      dev = subst FitsIfSome end.6 (dev-fits d.1);
      locals = subst (AllByRecursion SegmentIsValid) end.7 (local-valid l);
    }

pub release-valid : (e : ℕ) (ns : List ℕ) → Fits e → AreNumbers ns → IsValid (starred_parts e ns)
release-valid e ns h1 h2 = grind arith
