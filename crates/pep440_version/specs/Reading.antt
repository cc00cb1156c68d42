-- How the readers of `read` follow a text in lower case. Each gives a value and the text after it.
-- The grammar is in `Grammar`; the proofs show that these read exactly it.
use Rattle.std.specs.Prelude.{true, false, ◌&&◌, Vec, map, ℕ, zero, suc, ◌+◌, ◌-◌, ◌*◌, ◌^◌, ◌==◌, ◌||◌, Bool, false, List, [], ◌∷◌, length, take, drop, Option, None, Some, nat_lt, codes, if◌then◌else◌}
use Rattle.std.specs.Borrow.{Bor}
use Rattle.smallvec.specs.SmallVec.{SmallVec}
use Rattle.std.specs.declared.alloc.Global.{Global}
use Rattle.std.specs.Char.{is_ascii_digit, to_ascii_lowercase}
use Rattle.pep440_version.specs.Valid.{is_word_byte}
use Rattle.std.specs.List.{list_all, prefix_len}
use Rattle.std.specs.Option.{option_or}
use Rattle.pep440_version.specs.declared.version.LocalSegment.{LocalSegment}
use Rattle.pep440_version.specs.declared.version.Prerelease.{Prerelease}
use Rattle.pep440_version.specs.declared.version.PrereleaseKind.{PrereleaseKind}
use Rattle.pep440_version.specs.declared.version.PrereleaseKind.TheVariants.{Alpha, Beta, Rc}
use Rattle.pep440_version.specs.Parts.{Parts, Segment, word, number}
use Rattle.pep440_version.specs.declared.pattern.VersionPattern.{VersionPattern}
use Rattle.pep440_version.specs.Grammar.{starred_parts}
use Rattle.pep440_version.specs.View.{segment_of}

-- a text with its ASCII letters in lower case
abbrev pub lower : List ℕ → List ℕ
lower t = map to_ascii_lowercase t

-- ---- views

abbrev pub read_view : {A : Type 0} → Option (A × Bor (List ℕ)) → Option (A × List ℕ)
read_view None = None
read_view (Some p) = Some (p.0, p.1.now)

abbrev pub text_view : Option (Bor (List ℕ)) → Option (List ℕ)
text_view None = None
text_view (Some t) = Some t.now

abbrev pub pair_view : {A : Type 0} → A × Bor (List ℕ) → A × List ℕ
pair_view p = (p.0, p.1.now)

-- ---- numbers

-- a separator: `-`, `.` or `_`
abbrev pub is_separator : ℕ → Bool
is_separator b = b == 45 || b == 46 || b == 95

abbrev pub starts_digit : List ℕ → Bool
starts_digit [] = false
starts_digit (b ∷ rest) = is_ascii_digit b

-- the digits at the front, after some of this value, unless the number passes 64 bits
unfoldable pub digits_from : ℕ → List ℕ → Option (ℕ × List ℕ)
digits_from v [] = Some (v, [])
digits_from v (b ∷ rest) =
    if is_ascii_digit b then
    if nat_lt (v * 10 + (b - 48)) (2 ^ 64) then digits_from (v * 10 + (b - 48)) rest else None
    else Some (v, b ∷ rest)

abbrev pub number_at : List ℕ → Option (ℕ × List ℕ)
number_at t = if starts_digit t then digits_from 0 t else None

abbrev pub after_separator : List ℕ → List ℕ
after_separator [] = []
after_separator (b ∷ rest) = if is_separator b then rest else b ∷ rest

-- the number after a word, which may be left out
abbrev pub numbered_of : List ℕ → Option (ℕ × List ℕ) → ℕ × List ℕ
numbered_of t None = (0, t)
numbered_of t (Some x) = x

unfoldable pub numbered_at : List ℕ → ℕ × List ℕ
numbered_at t = numbered_of t (number_at (after_separator t))

-- a byte, and a number after it
abbrev pub number_after : ℕ → List ℕ → Option (ℕ × List ℕ)
number_after mark [] = None
number_after mark (b ∷ rest) = if b == mark then number_at rest else None

-- ---- words

-- what follows a word
unfoldable pub strip : List ℕ → List ℕ → Option (List ℕ)
strip [] t = Some t
strip (w ∷ ws) [] = None
strip (w ∷ ws) (b ∷ t) = if b == w then strip ws t else None

-- the longer of two words, else the shorter
abbrev pub either : List ℕ → List ℕ → List ℕ → Option (List ℕ)
either long short t = option_or (strip long t) (strip short t)

abbrev pub tagged : PrereleaseKind → Option (List ℕ) → Option (PrereleaseKind × List ℕ)
tagged kind None = None
tagged kind (Some rest) = Some (kind, rest)

unfoldable pub pre_word_at : List ℕ → Option (PrereleaseKind × List ℕ)
pre_word_at t = option_or (tagged Alpha (either (codes "alpha") (codes "a") t))
    (option_or (tagged Beta (either (codes "beta") (codes "b") t))
    (option_or (tagged Rc (either (codes "rc") (codes "c") t))
    (tagged Rc (either (codes "preview") (codes "pre") t))))

unfoldable pub post_word_at : List ℕ → Option (List ℕ)
post_word_at t = option_or (strip (codes "post") t) (either (codes "rev") (codes "r") t)

-- ---- the parts

abbrev pub bang_of : ℕ → List ℕ → List ℕ → ℕ × List ℕ
bang_of n t [] = (0, t)
bang_of n t (b ∷ rest) = if b == 33 then (n, rest) else (0, t)

abbrev pub epoch_of : List ℕ → Option (ℕ × List ℕ) → ℕ × List ℕ
epoch_of t None = (0, t)
epoch_of t (Some x) = bang_of x.0 t x.1

unfoldable pub epoch_at : List ℕ → ℕ × List ℕ
epoch_at t = epoch_of t (number_at t)

-- further numbers of a release, at most this many
abbrev pub more_of : List ℕ → (List ℕ → List ℕ × List ℕ) → Option (ℕ × List ℕ) → List ℕ × List ℕ
more_of t next None = ([], t)
more_of t next (Some x) = (x.0 ∷ (next x.1).0, (next x.1).1)

unfoldable pub more_at : ℕ → List ℕ → List ℕ × List ℕ
more_at zero t = ([], t)
more_at (suc k) t = more_of t (more_at k) (number_after 46 t)

-- the numbers after the first one
abbrev pub others : List ℕ → List ℕ
others t = (more_at (length t) t).0

abbrev pub release_of : Option (ℕ × List ℕ) → Option (List ℕ × List ℕ)
release_of None = None
release_of (Some x) = Some (x.0 ∷ (more_at (length x.1) x.1).0, (more_at (length x.1) x.1).1)

-- a release with this first number, from the text after it
abbrev pub release_from : ℕ → List ℕ → Option (List ℕ × List ℕ)
release_from first t = release_of (Some (first, t))

unfoldable pub release_at : List ℕ → Option (List ℕ × List ℕ)
release_at t = release_of (number_at t)

abbrev pub pre_of : List ℕ → Option (PrereleaseKind × List ℕ) → Option Prerelease × List ℕ
pre_of t None = (None, t)
pre_of t (Some w) =
    (Some (record { kind = w.0; number = (numbered_at w.1).0 }), (numbered_at w.1).1)

unfoldable pub pre_at : List ℕ → Option Prerelease × List ℕ
pre_at t = pre_of t (pre_word_at (after_separator t))

abbrev pub plain_of : List ℕ → Option (ℕ × List ℕ) → Option ℕ × List ℕ
plain_of t None = (None, t)
plain_of t (Some x) = (Some x.0, x.1)

abbrev pub post_of : List ℕ → Option (List ℕ) → Option ℕ × List ℕ
post_of t None = plain_of t (number_after 45 t)
post_of t (Some rest) = (Some (numbered_at rest).0, (numbered_at rest).1)

unfoldable pub post_at : List ℕ → Option ℕ × List ℕ
post_at t = post_of t (post_word_at (after_separator t))

abbrev pub dev_of : List ℕ → Option (List ℕ) → Option ℕ × List ℕ
dev_of t None = (None, t)
dev_of t (Some rest) = (Some (numbered_at rest).0, (numbered_at rest).1)

unfoldable pub dev_at : List ℕ → Option ℕ × List ℕ
dev_at t = dev_of t (strip (codes "dev") (after_separator t))

-- ---- local segments

abbrev pub whole_number : Option (ℕ × List ℕ) → Option Segment
whole_number None = None
whole_number (Some x) = Some (number x.0)

-- the segment of a run of letters and digits
unfoldable pub segment_of_run : List ℕ → Option Segment
segment_of_run run =
    if length run == 0 then None
    else if list_all is_ascii_digit run then whole_number (number_at run)
    else Some (word run)

abbrev pub run_len : List ℕ → ℕ
run_len t = prefix_len is_word_byte t

abbrev pub before_rest : List ℕ → Option Segment → Option (Segment × List ℕ)
before_rest rest None = None
before_rest rest (Some s) = Some (s, rest)

unfoldable pub segment_at : List ℕ → Option (Segment × List ℕ)
segment_at t = before_rest (drop (run_len t) t) (segment_of_run (take (run_len t) t))

-- the segments after a first one
abbrev pub prepend : Segment → Option (List Segment) → Option (List Segment)
prepend s None = None
prepend s (Some ss) = Some (s ∷ ss)

abbrev pub after_segment :
    (List ℕ → Option (List Segment)) → Segment → List ℕ → Option (List Segment)
after_segment next s [] = Some (s ∷ [])
after_segment next s (b ∷ rest) = if is_separator b then prepend s (next rest) else None

abbrev pub segments_of :
    (List ℕ → Option (List Segment)) → Option (Segment × List ℕ) → Option (List Segment)
segments_of next None = None
segments_of next (Some x) = after_segment next x.0 x.1

-- at most this many segments, to the end of the text
unfoldable pub segments_at : ℕ → List ℕ → Option (List Segment)
segments_at zero t = None
segments_at (suc k) t = segments_of (segments_at k) (segment_at t)

-- the segments to the end of the text
abbrev pub local_segments : List ℕ → Option (List Segment)
local_segments t = segments_at (length t) t

abbrev pub locals_at : List ℕ → Option (List Segment)
locals_at [] = Some []
locals_at (b ∷ rest) = if b == 43 then segments_at (length rest) rest else None

-- ---- a whole version

-- the epoch, the release, and the text after them
abbrev pub head_of : ℕ → Option (List ℕ × List ℕ) → Option (ℕ × List ℕ × List ℕ)
head_of epoch None = None
head_of epoch (Some r) = Some (epoch, r.0, r.1)

unfoldable pub head_at : List ℕ → Option (ℕ × List ℕ × List ℕ)
head_at t = head_of (epoch_at t).0 (release_at (epoch_at t).1)

abbrev pub after_mark : List ℕ → List ℕ
after_mark [] = []
after_mark (b ∷ rest) = if b == 118 then rest else b ∷ rest

abbrev pub finish : ℕ → List ℕ
    → Option Prerelease → Option ℕ → Option ℕ → Option (List Segment) → Option Parts
finish epoch release pre post dev None = None
finish epoch release pre post dev (Some locals) =
    Some (record {
      epoch = epoch;
      release = release;
      pre = pre;
      post = post;
      dev = dev;
      locals = locals;
    })

abbrev pub after_release : ℕ → Option (List ℕ × List ℕ) → Option Parts
after_release epoch None = None
after_release epoch (Some r) =
    let p = pre_at r.1 in
    let q = post_at p.1 in
    let d = dev_at q.1 in
    finish epoch r.0 p.0 q.0 d.0 (locals_at d.1)

-- a version with this epoch and these release numbers, from the text after them
abbrev pub after_numbers : ℕ → List ℕ → List ℕ → Option Parts
after_numbers epoch numbers t = after_release epoch (Some (numbers, t))

-- the same of a text with letters in any case
abbrev pub version_after : ℕ → List ℕ → List ℕ → Option Parts
version_after epoch numbers t = after_numbers epoch numbers (lower t)

unfoldable pub version_at : List ℕ → Option Parts
version_at t = after_release (epoch_at (after_mark t)).0 (release_at (epoch_at (after_mark t)).1)

-- ---- views of what allocates

abbrev pub head_view :
    Option (ℕ × SmallVec ℕ × Bor (List ℕ)) → Option (ℕ × List ℕ × List ℕ)
head_view None = None
head_view (Some p) = Some (p.0, p.1.items, p.2.now)

abbrev pub run_view : Option LocalSegment → Option Segment
run_view None = None
run_view (Some s) = Some (segment_of s)

abbrev pub segment_view : Option (LocalSegment × Bor (List ℕ)) → Option (Segment × List ℕ)
segment_view None = None
segment_view (Some p) = Some (segment_of p.0, p.1.now)

abbrev pub segments_view : Option (Vec LocalSegment Global) → Option (List Segment)
segments_view None = None
segments_view (Some v) = Some (map segment_of v.items)

-- ---- a pattern

abbrev pub is_end : List ℕ → Bool
is_end [] = true
is_end (b ∷ t) = false

abbrev pub is_asterisk : List ℕ → Bool
is_asterisk [] = false
is_asterisk (b ∷ t) = b == 42 && is_end t

abbrev pub is_star : List ℕ → Bool
is_star [] = false
is_star (b ∷ t) = b == 46 && is_asterisk t

abbrev pub star_of : ℕ → Option (List ℕ × List ℕ) → Option Parts
star_of n None = None
star_of n (Some r) = if is_star r.1 then Some (starred_parts n r.0) else None

unfoldable pub star_at : List ℕ → Option Parts
star_at t = star_of (epoch_at (after_mark t)).0 (release_at (epoch_at (after_mark t)).1)

abbrev pub tagged_parts : Bool → Option Parts → Option (Parts × Bool)
tagged_parts star None = None
tagged_parts star (Some v) = Some (v, star)

unfoldable pub pattern_at : List ℕ → Option (Parts × Bool)
pattern_at t = option_or (tagged_parts true (star_at t)) (tagged_parts false (version_at t))

-- the same of a text with letters in any case
abbrev pub pattern_of : List ℕ → Option (Parts × Bool)
pattern_of t = pattern_at (lower t)

abbrev pub pattern_view : Option VersionPattern → Option (Parts × Bool)
pattern_view None = None
pattern_view (Some p) = Some (p.version, p.wildcard)
