-- A mark ends the text before it, if it is the first character or follows one of its class: `#`
-- after white space begins a comment, `-` after a space begins options.
use Rattle.std.specs.Prelude.{ℕ, Bool, List, [], ◌∷◌, Option, None, Some, ◌&&◌, ◌==◌, if◌then◌else◌}
use Rattle.std.specs.Char.{is_whitespace}
use Rattle.requirement_lines.specs.Character.{Character}
use Rattle.requirement_lines.specs.declared.sets.Mark.{Mark}
use Rattle.requirement_lines.specs.declared.sets.Mark.TheVariants.{Comment, Options}

abbrev pub is_mark : Mark → ℕ → Bool
is_mark Comment c = c == 35
is_mark Options c = c == 45

-- the mark counts after this character
abbrev pub opens : Mark → ℕ → Bool
opens Comment c = is_whitespace c
opens Options c = c == 32

-- The part before the first mark that counts; `may` says whether one counts at the front.
abbrev pub before : Mark → Bool → List Character → List Character
before mark may [] = []
before mark may (p ∷ ps) =
    if may && is_mark mark p.char then [] else p ∷ before mark (opens mark p.char) ps

-- Whether a mark counts after all of it; nothing, if one was found.
abbrev pub may_follow : Mark → Bool → List Character → Option Bool
may_follow mark may [] = Some may
may_follow mark may (p ∷ ps) =
    if may && is_mark mark p.char then None else may_follow mark (opens mark p.char) ps

-- The part from the first mark that counts on.
abbrev pub from_mark : Mark → Bool → List Character → List Character
from_mark mark may [] = []
from_mark mark may (p ∷ ps) =
    if may && is_mark mark p.char then p ∷ ps else from_mark mark (opens mark p.char) ps
