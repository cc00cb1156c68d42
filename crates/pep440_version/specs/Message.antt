-- The messages of faults in texts that are no versions.
use Rattle.std.specs.Prelude.{ℕ, ◌==◌, List, [], ◌∷◌, ◌++◌, length, drop, Option, None, Some, codes, if◌then◌else◌}
use Rattle.std.specs.Fmt.{◌++?◌, debug_char, debug_str, decimal}
use Rattle.std.specs.Str.{chars, trim}
use Rattle.pep440_version.specs.declared.error.Expected.{Expected}
use Rattle.pep440_version.specs.declared.error.Expected.TheVariants.{ReleaseNumber, SmallerNumber, Suffix, LocalSegment, End}

-- what was expected, in words
abbrev pub expected_text : Expected → List ℕ
expected_text ReleaseNumber = codes "a release number"
expected_text SmallerNumber = codes "a number of at most 18446744073709551615"
expected_text Suffix = codes "a pre-release, a post release or a development release"
expected_text LocalSegment = codes "letters or digits of the local version"
expected_text End = codes "the end of the version"

-- the first character, if there is one
abbrev pub first_of : List ℕ → Option ℕ
first_of [] = None
first_of (c ∷ cs) = Some c

-- the character at the front of the rest of a text; only white space counts as nothing
abbrev pub found_in : List ℕ → Option ℕ
found_in rest = if length (trim rest) == 0 then None else first_of (chars rest)

-- what was found in a text, and at which byte. A text and a character are quoted as by `{:?}`,
-- which is specified only for ASCII here
abbrev pub found_text : List ℕ → ℕ → Option ℕ → Option (List ℕ)
found_text text offset None = Some (codes "the end of ") ++? debug_str text
found_text text offset (Some found) =
    debug_char found ++? Some (codes " at byte " ++ (decimal offset ++ codes " of "))
    ++? debug_str text

-- the character at a byte of a text, and which byte that is
abbrev pub place_text : List ℕ → ℕ → Option (List ℕ)
place_text text offset = found_text text offset (found_in (drop offset text))

-- the message of a fault: what was expected, what was found, and where
abbrev pub error_text : Expected → List ℕ → ℕ → Option (List ℕ)
error_text expected text offset =
    Some (codes "Expected " ++ (expected_text expected ++ codes ", found "))
    ++? place_text text offset
