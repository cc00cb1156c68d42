-- What a word of options is, by its first characters, as Python's `optparse` has it.
use Rattle.std.specs.Prelude.{◌≡◌, ℕ, ◌==◌, List, [], ◌∷◌, Option, None, Some, option_map, encode_utf8_all, string_bytes, Vec, if◌then◌else◌}
use Rattle.std.specs.declared.alloc.Global.{Global}
use Rattle.requirement_lines.specs.Character.{Character}
use Rattle.requirement_lines.specs.Pieces.{line_of}
use Rattle.requirement_lines.specs.declared.pieces.Piece.{Piece}
use Rattle.requirement_options.specs.declared.form.Form.{Form}
use Rattle.requirement_options.specs.declared.form.Form.TheVariants as forms

-- A word is not an option; or it ends the options, as `--`; or it is one letter after `-`, with the
-- text after that; or a name, with its `--`, and the text after a `=`.
pub data FormOf : Type 0 where
  plain : FormOf
  ending : FormOf
  short : ℕ → Option (List Character) → FormOf
  long : List ℕ → Option (List Character) → FormOf

-- the characters before the first `=`
abbrev pub name_before : List Character → List ℕ
name_before [] = []
name_before (p ∷ ps) = if p.char == 61 then [] else p.char ∷ name_before ps

-- what follows the first `=`
abbrev pub argument_after : List Character → Option (List Character)
argument_after [] = None
argument_after (p ∷ ps) = if p.char == 61 then Some ps else argument_after ps

abbrev pub long_form : List Character → FormOf
long_form word = long (encode_utf8_all (name_before word)) (argument_after word)

-- characters that are some
abbrev pub not_empty : List Character → Option (List Character)
not_empty [] = None
not_empty (p ∷ ps) = Some (p ∷ ps)

-- after `--`
abbrev pub double_form : List Character → List Character → FormOf
double_form word [] = ending
double_form word (p ∷ ps) = long_form word

-- after a first `-`
abbrev pub dash_form : List Character → List Character → FormOf
dash_form word [] = plain
dash_form word (p ∷ ps) =
    if p.char == 45 then double_form word ps else short p.char (not_empty ps)

abbrev pub form_of : List Character → FormOf
form_of [] = plain
form_of (p ∷ ps) = if p.char == 45 then dash_form (p ∷ ps) ps else plain

abbrev pub IsLine : List Character → Vec Piece Global → Type 0
IsLine line pieces = line_of pieces.items ≡ line

abbrev pub argument_in : Option (Vec Piece Global) → Option (List Character)
argument_in argument = option_map (λ pieces. line_of pieces.items) argument

abbrev pub IsArgument : Option (List Character) → Option (Vec Piece Global) → Type 0
IsArgument argument pieces = argument_in pieces ≡ argument

-- what the value of the program says
abbrev pub form_in : Form → FormOf
form_in forms.Plain = plain
form_in forms.Ending = ending
form_in (forms.Short c argument) = short c (argument_in argument)
form_in (forms.Long name argument) = long (string_bytes name) (argument_in argument)

abbrev pub IsForm : FormOf → Form → Type 0
IsForm said form = form_in form ≡ said
