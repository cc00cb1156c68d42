-- Characters of a set at the front and at the back of a line.
use Rattle.std.specs.Prelude.{◌≡◌, ℕ, Bool, false, List, [], ◌∷◌, ◌==◌, drop, reverse, if◌then◌else◌}
use Rattle.std.specs.Char.{is_whitespace}
use Rattle.requirement_lines.specs.Character.{Character}
use Rattle.requirement_lines.specs.declared.sets.CharacterSet.{CharacterSet}
use Rattle.requirement_lines.specs.declared.sets.CharacterSet.TheVariants.{Space, Backslash}

abbrev pub holds : CharacterSet → ℕ → Bool
holds Space c = is_whitespace c
holds Backslash c = c == 92

-- what follows the characters of the set at the front
abbrev pub skip : CharacterSet → List Character → List Character
skip set [] = []
skip set (p ∷ ps) = if holds set p.char then skip set ps else p ∷ ps

-- the line without characters of the set at the back
abbrev pub skip_back : CharacterSet → List Character → List Character
skip_back set ps = reverse (skip set (reverse ps))

-- the new line is the old one without white space at the back
abbrev pub LosesSpace : List Character → List Character → Type 0
LosesSpace old new = new ≡ skip_back Space old

-- the first character is this one
abbrev pub begins_with : ℕ → List Character → Bool
begins_with c [] = false
begins_with c (p ∷ ps) = p.char == c

-- all but the last character
abbrev pub without_last : List Character → List Character
without_last ps = reverse (drop 1 (reverse ps))
