-- The headers of a metadata file as folded lines, as in Python's `email`: a header is a line and
-- those that continue it, with their line breaks. A line ends at LF, CR LF or CR.
use Rattle.std.specs.Prelude.{◌≡◌, ℕ, Bool, not, ◌||◌, ◌&&◌, List, [], ◌∷◌, if◌then◌else◌}
use Rattle.requirement_lines.specs.Character.{Character, characters}
use Rattle.requirement_lines.specs.Ends.{begins_with}
use Rattle.requirement_lines.specs.Physical.{with_first}
use Rattle.requirement_lines.specs.Position.{ends_line}

-- a line that begins with a space or a tab continues the one before it
abbrev pub is_continuation : List Character → Bool
is_continuation line = begins_with 32 line || begins_with 9 line

-- a folded line ends where a line ends that the next one does not continue
abbrev pub ends_folded : ℕ → List Character → Bool
ends_folded c rest = ends_line c rest && not (is_continuation rest)

-- the folded lines of these characters
abbrev pub folded_lines : List Character → List (List Character)
folded_lines [] = []
folded_lines (p ∷ ps) =
    if ends_folded p.char ps then (p ∷ []) ∷ folded_lines ps
    else with_first p (folded_lines ps)

-- the text has this folded line, and then those of the rest
abbrev pub HasFoldedLine : List ℕ → List Character → List ℕ → Type 0
HasFoldedLine text line rest =
    folded_lines (characters text) ≡ line ∷ folded_lines (characters rest)
