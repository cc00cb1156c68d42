-- The normal text of a version.
use Rattle.std.specs.Prelude.{ℕ, ◌==◌, List, [], ◌∷◌, ◌++◌, Option, None, Some, codes, if◌then◌else◌}
use Rattle.std.specs.Fmt.{decimal}
use Rattle.std.specs.List.{flat_map}
use Rattle.pep440_version.specs.declared.version.Prerelease.{Prerelease}
use Rattle.pep440_version.specs.declared.version.PrereleaseKind.{PrereleaseKind}
use Rattle.pep440_version.specs.declared.version.PrereleaseKind.TheVariants.{Alpha, Beta, Rc}
use Rattle.pep440_version.specs.Grammar.{starred_parts}
use Rattle.pep440_version.specs.Parts.{Parts, Segment, word, number}

abbrev pub epoch_text : ℕ → List ℕ
epoch_text e = if e == 0 then [] else decimal e ++ 33 ∷ []

-- numbers, each after a dot
abbrev pub dotted_number : ℕ → List ℕ
dotted_number n = 46 ∷ decimal n

abbrev pub dotted : List ℕ → List ℕ
dotted ns = flat_map dotted_number ns

abbrev pub release_text : List ℕ → List ℕ
release_text [] = []
release_text (n ∷ ns) = decimal n ++ dotted ns

abbrev pub kind_text : PrereleaseKind → List ℕ
kind_text Alpha = codes "a"
kind_text Beta = codes "b"
kind_text Rc = codes "rc"

abbrev pub pre_text : Option Prerelease → List ℕ
pre_text None = []
pre_text (Some p) = kind_text p.kind ++ decimal p.number

abbrev pub post_text : Option ℕ → List ℕ
post_text None = []
post_text (Some n) = codes ".post" ++ decimal n

abbrev pub dev_text : Option ℕ → List ℕ
dev_text None = []
dev_text (Some n) = codes ".dev" ++ decimal n

abbrev pub segment_text : Segment → List ℕ
segment_text (word t) = t
segment_text (number n) = decimal n

-- segments, each after a dot
abbrev pub dotted_segment : Segment → List ℕ
dotted_segment s = 46 ∷ segment_text s

abbrev pub dotted_segments : List Segment → List ℕ
dotted_segments ss = flat_map dotted_segment ss

abbrev pub local_text : List Segment → List ℕ
local_text [] = []
local_text (s ∷ ss) = 43 ∷ (segment_text s ++ dotted_segments ss)

-- pre-release, post and dev parts
abbrev pub suffix_text : Option Prerelease → Option ℕ → Option ℕ → List ℕ
suffix_text pre post dev = pre_text pre ++ (post_text post ++ dev_text dev)

unfoldable pub version_text : Parts → List ℕ
version_text v = epoch_text v.epoch ++ (release_text v.release ++
    (suffix_text v.pre v.post v.dev ++ local_text v.locals))

-- the normal text of an epoch and a release, and `.*`
abbrev pub starred_text : ℕ → List ℕ → List ℕ
starred_text epoch release = version_text (starred_parts epoch release) ++ codes ".*"
