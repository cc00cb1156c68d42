-- The grammar of versions (PEP 440, appendix B, and its "Normalization"), on a text in lower case
-- with no white space around it. In the comments `?` is for what may be left out, and N for a
-- number.
use Rattle.std.specs.Prelude.{◌≡◌, ℕ, ◌+◌, ◌-◌, ◌*◌, ◌<◌, Bool, true, false, List, [], ◌∷◌, ◌++◌, length, Option, None, Some, codes, map}
use Rattle.std.specs.Char.{is_ascii_digit, to_ascii_lowercase}
use Rattle.std.specs.List.{list_all}
use Rattle.std.specs.Str.{trim}
use Rattle.pep440_version.specs.declared.version.Prerelease.{Prerelease}
use Rattle.pep440_version.specs.declared.version.PrereleaseKind.{PrereleaseKind}
use Rattle.pep440_version.specs.declared.version.PrereleaseKind.TheVariants.{Alpha, Beta, Rc}
use Rattle.pep440_version.specs.Parts.{Parts, Segment, word, number}
use Rattle.pep440_version.specs.Valid.{Fits, IsWord}

-- the value of digits, after those of a value so far; `0` is byte 48
abbrev pub value_from : ℕ → List ℕ → ℕ
value_from v [] = v
value_from v (b ∷ ds) = value_from (v * 10 + (b - 48)) ds

-- N: digits, of a number that fits 64 bits
pub record IsNumber (ds : List ℕ) (n : ℕ) : Type 0 where
  pub digits : list_all is_ascii_digit ds ≡ true
  pub some : 0 < length ds
  pub value : value_from 0 ds ≡ n
  pub fits : Fits n

-- separator?
pub data IsSeparator : List ℕ → Type 0 where
  left_out : IsSeparator []
  dash : IsSeparator (codes "-")
  dot : IsSeparator (codes ".")
  underscore : IsSeparator (codes "_")

-- (separator? N)? after a word, and whether it is left out; its number is 0 then
pub data IsNumbering : List ℕ → ℕ → Bool → Type 0 where
  bare : IsNumbering [] 0 true
  written : {s ds : List ℕ} {n : ℕ} → IsSeparator s → IsNumber ds n → IsNumbering (s ++ ds) n false

-- v?
pub data IsMark : List ℕ → Type 0 where
  no_mark : IsMark []
  mark : IsMark (codes "v")

-- (N `!`)?
pub data IsEpoch : List ℕ → ℕ → Type 0 where
  no_epoch : IsEpoch [] 0
  epoch : {ds : List ℕ} {n : ℕ} → IsNumber ds n → IsEpoch (ds ++ codes "!") n

-- N (`.` N) and so on
pub data IsRelease : List ℕ → List ℕ → Type 0 where
  last : {ds : List ℕ} {n : ℕ} → IsNumber ds n → IsRelease ds (n ∷ [])
  before : {ds t : List ℕ} {n : ℕ} {ns : List ℕ} → IsNumber ds n → IsRelease t ns
      → IsRelease (ds ++ (codes "." ++ t)) (n ∷ ns)

-- the words of a pre-release, and the kind that each is normalized to
pub data IsPreWord : List ℕ → PrereleaseKind → Type 0 where
  long_alpha : IsPreWord (codes "alpha") Alpha
  short_alpha : IsPreWord (codes "a") Alpha
  long_beta : IsPreWord (codes "beta") Beta
  short_beta : IsPreWord (codes "b") Beta
  word_rc : IsPreWord (codes "rc") Rc
  word_c : IsPreWord (codes "c") Rc
  word_preview : IsPreWord (codes "preview") Rc
  word_pre : IsPreWord (codes "pre") Rc

-- (separator? word numbering)?, and whether it ends in its word
pub data IsPre : List ℕ → Option Prerelease → Bool → Type 0 where
  no_pre : IsPre [] None false
  pre : {s w t : List ℕ} {kind : PrereleaseKind} {n : ℕ} {b : Bool}
      → IsSeparator s → IsPreWord w kind → IsNumbering t n b
      → IsPre (s ++ (w ++ t)) (Some (record { kind = kind; number = n })) b

pub data IsPostWord : List ℕ → Type 0 where
  word_post : IsPostWord (codes "post")
  word_rev : IsPostWord (codes "rev")
  word_r : IsPostWord (codes "r")

-- (separator? word numbering)?, or `-` N, but after a bare word, whose number `-` N is: `1a-1` is
-- `1a1`
pub data IsPost : Bool → List ℕ → Option ℕ → Type 0 where
  no_post : {after : Bool} → IsPost after [] None
  post : {after : Bool} {s w t : List ℕ} {n : ℕ} {b : Bool}
      → IsSeparator s → IsPostWord w → IsNumbering t n b
      → IsPost after (s ++ (w ++ t)) (Some n)
  dashed : {ds : List ℕ} {n : ℕ} → IsNumber ds n → IsPost false (codes "-" ++ ds) (Some n)

-- (separator? `dev` numbering)?
pub data IsDev : List ℕ → Option ℕ → Type 0 where
  no_dev : IsDev [] None
  dev : {s t : List ℕ} {n : ℕ} {b : Bool} → IsSeparator s → IsNumbering t n b
      → IsDev (s ++ (codes "dev" ++ t)) (Some n)

-- a segment of the local part: only digits are a number
pub data IsSegment : List ℕ → Segment → Type 0 where
  numeric : {ds : List ℕ} {n : ℕ} → IsNumber ds n → IsSegment ds (number n)
  textual : {t : List ℕ} → IsWord t → IsSegment t (word t)

-- segments with a separator between each two
pub data IsSegments : List ℕ → List Segment → Type 0 where
  last_segment : {t : List ℕ} {s : Segment} → IsSegment t s → IsSegments t (s ∷ [])
  segment_before : {t p u : List ℕ} {s : Segment} {ss : List Segment}
      → IsSegment t s → IsSeparator p → 0 < length p → IsSegments u ss
      → IsSegments (t ++ (p ++ u)) (s ∷ ss)

-- (`+` segments)?
pub data IsLocal : List ℕ → List Segment → Type 0 where
  no_local : IsLocal [] []
  plus : {t : List ℕ} {ss : List Segment} → IsSegments t ss → IsLocal (codes "+" ++ t) ss

-- v? epoch? release pre? post? dev? local?
pub data IsVersion : List ℕ → Parts → Type 0 where
  version : {m e r p q d l : List ℕ} {after : Bool} {v : Parts}
      → IsMark m → IsEpoch e v.epoch → IsRelease r v.release
      → IsPre p v.pre after → IsPost after q v.post → IsDev d v.dev → IsLocal l v.locals
      → IsVersion (m ++ (e ++ (r ++ (p ++ (q ++ (d ++ l)))))) v

-- a text of a version: letters in any ASCII case, Unicode's white space around it dropped
abbrev pub IsVersionText : List ℕ → Parts → Type 0
IsVersionText text v = IsVersion (map to_ascii_lowercase (trim text)) v

-- the text is no text of a version
abbrev pub IsNoVersionText : List ℕ → Type 0
IsNoVersionText text = (v : Parts) → ¬ IsVersionText text v

-- only an epoch and a release
abbrev pub starred_parts : ℕ → List ℕ → Parts
starred_parts n ns =
    record { epoch = n; release = ns; pre = None; post = None; dev = None; locals = [] }

-- a version, or v? epoch? release `.*`; and whether it is the second (PEP 440, "Version matching")
pub data IsPattern : List ℕ → Parts → Bool → Type 0 where
  plain : {t : List ℕ} {v : Parts} → IsVersion t v → IsPattern t v false
  starred : {m e r : List ℕ} {n : ℕ} {ns : List ℕ} → IsMark m → IsEpoch e n → IsRelease r ns
      → IsPattern (m ++ (e ++ (r ++ codes ".*"))) (starred_parts n ns) true

-- a text of a pattern, as a text of a version
abbrev pub IsPatternText : List ℕ → Parts → Bool → Type 0
IsPatternText text v star = IsPattern (map to_ascii_lowercase (trim text)) v star
