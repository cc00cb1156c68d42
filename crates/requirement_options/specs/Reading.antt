-- The words of the options of a line, as Python's `optparse` reads them: the argument of an option
-- is in its own word or the next one, and the first fault is the result.
use Rattle.std.specs.Prelude.{ℕ, List, [], ◌∷◌, Option, None, Some, option_map, if◌then◌else◌}
use Rattle.requirement_lines.specs.Character.{Character}
use Rattle.requirement_lines.specs.Reports.{text_of}
use Rattle.requirement_lines.specs.Words.{Spelled}
use Rattle.requirement_lines.specs.declared.places.Place.{Place}
use Rattle.requirement_options.specs.Kinds.{takes_argument, short_option, long_option}
use Rattle.requirement_options.specs.Arguments.{argument_fault}
use Rattle.requirement_options.specs.Forms.{FormOf, plain, ending, short, long, form_of}
use Rattle.requirement_options.specs.declared.kind.OptionKind.{OptionKind}
use Rattle.requirement_options.specs.declared.naming.Naming.{Naming}
use Rattle.requirement_options.specs.declared.naming.Naming.TheVariants.{Unknown, One, Several}
use Rattle.requirement_options.specs.declared.fault.OptionFault.{OptionFault}
use Rattle.requirement_options.specs.declared.fault.OptionFaultKind.{OptionFaultKind}
use Rattle.requirement_options.specs.declared.fault.OptionFaultKind.TheVariants as faults
use Rattle.requirement_options.specs.declared.reading.Mode.{Mode}
use Rattle.requirement_options.specs.declared.reading.Mode.TheVariants.{Ready, Waiting, Ended}

-- an option, the place of its word, and its argument
pub record Setting : Type 0 where
  pub kind : OptionKind
  pub place : Place
  pub argument : Option (List Character)

-- What a word does: it is an option that is whole, or one whose argument the next word is, or it
-- ends the options, or it is text by itself, or it is wrong.
pub data EffectOf : Type 0 where
  adds : Setting → EffectOf
  waits : OptionKind → Place → EffectOf
  ends : EffectOf
  lost : Place → EffectOf
  wrong : OptionFault → EffectOf

abbrev pub wrong_at : Place → OptionFaultKind → EffectOf
wrong_at place kind = wrong (record { kind = kind; place = place })

-- an option with its argument, unless pip does not take that
abbrev pub adds_unless : Setting → Option OptionFaultKind → EffectOf
adds_unless setting None = adds setting
adds_unless setting (Some fault) = wrong_at setting.place fault

abbrev pub with_argument : OptionKind → Place → List Character → EffectOf
with_argument kind place argument =
    adds_unless (record { kind = kind; place = place; argument = Some argument })
    (argument_fault kind (text_of argument))

-- an option that takes an argument, with what its word has of it
abbrev pub taking : OptionKind → Place → Option (List Character) → EffectOf
taking kind place None = waits kind place
taking kind place (Some argument) = with_argument kind place argument

-- an option that takes none
abbrev pub alone : OptionKind → Place → Option (List Character) → EffectOf
alone kind place None = adds (record { kind = kind; place = place; argument = None })
alone kind place (Some argument) = wrong_at place faults.UnwantedArgument

abbrev pub option_at : OptionKind → Place → Option (List Character) → EffectOf
option_at kind place argument =
    if takes_argument kind then taking kind place argument else alone kind place argument

abbrev pub short_at : Option OptionKind → Place → Option (List Character) → EffectOf
short_at None place argument = wrong_at place faults.Unknown
short_at (Some kind) place argument = option_at kind place argument

abbrev pub long_at : Naming → Place → Option (List Character) → EffectOf
long_at Unknown place argument = wrong_at place faults.Unknown
long_at Several place argument = wrong_at place faults.Ambiguous
long_at (One kind) place argument = option_at kind place argument

abbrev pub form_at : FormOf → Place → EffectOf
form_at plain place = lost place
form_at ending place = ends
form_at (short c argument) place = short_at (short_option c) place argument
form_at (long name argument) place = long_at (long_option name) place argument

-- what a word does after others
abbrev pub effect_of : Mode → Spelled → EffectOf
effect_of Ready word = form_at (form_of word.characters) word.place
effect_of (Waiting kind place) word = with_argument kind place word.characters
effect_of Ended word = lost word.place

abbrev pub next_mode : Mode → EffectOf → Mode
next_mode mode (adds setting) = Ready
next_mode mode (waits kind place) = Waiting kind place
next_mode mode ends = Ended
next_mode mode (lost place) = mode
next_mode mode (wrong fault) = mode

-- All options of a line, and the places of its words that are not options; or a fault.
pub data OutcomeOf : Type 0 where
  invalid : OptionFault → OutcomeOf
  found : List Setting → List Place → OutcomeOf

-- a word before others
abbrev pub put : EffectOf → OutcomeOf → OutcomeOf
put (wrong fault) outcome = invalid fault
put effect (invalid fault) = invalid fault
put (adds setting) (found settings words) = found (setting ∷ settings) words
put (lost place) (found settings words) = found settings (place ∷ words)
put (waits kind place) (found settings words) = found settings words
put ends (found settings words) = found settings words

-- at the end of the words
abbrev pub finished : Mode → OutcomeOf
finished Ready = found [] []
finished (Waiting kind place) = invalid (record { kind = faults.NoArgument; place = place })
finished Ended = found [] []

-- what the words say, after others
abbrev pub outcome_of : Mode → List Spelled → OutcomeOf
outcome_of mode [] = finished mode
outcome_of mode (word ∷ words) =
    put (effect_of mode word) (outcome_of (next_mode mode (effect_of mode word)) words)
