-- What was found in options, from the values of the program.
use Rattle.std.specs.Prelude.{◌≡◌, List, ◌++◌, map, Option, None, Some}
use Rattle.requirement_lines.specs.declared.places.Place.{Place}
use Rattle.requirement_options.specs.Forms.{argument_in}
use Rattle.requirement_options.specs.Reading.{Setting, EffectOf, adds, waits, ends, lost, wrong, OutcomeOf, invalid, found, put}
use Rattle.requirement_options.specs.declared.fault.OptionFault.{OptionFault}
use Rattle.requirement_options.specs.declared.reading.LineOption.{LineOption}
use Rattle.requirement_options.specs.declared.reading.Found.{Found}
use Rattle.requirement_options.specs.declared.reading.Effect.{Effect}
use Rattle.requirement_options.specs.declared.reading.Effect.TheVariants as effects
use Rattle.requirement_options.specs.declared.reading.Outcome.{Outcome}
use Rattle.requirement_options.specs.declared.reading.Outcome.TheVariants as outcomes

abbrev pub setting_in : LineOption → Setting
setting_in option =
    record { kind = option.kind; place = option.place; argument = argument_in option.argument }

abbrev pub settings_in : List LineOption → List Setting
settings_in options = map setting_in options

abbrev pub effect_in : Effect → EffectOf
effect_in (effects.Adds option) = adds (setting_in option)
effect_in (effects.Waits kind place) = waits kind place
effect_in effects.Ends = ends
effect_in (effects.Lost place) = lost place
effect_in (effects.Wrong fault) = wrong fault

abbrev pub Does : EffectOf → Effect → Type 0
Does said effect = effect_in effect ≡ said

abbrev pub outcome_in : Outcome → OutcomeOf
outcome_in (outcomes.Invalid fault) = invalid fault
outcome_in (outcomes.All all) = found (settings_in all.options.items) all.lost.items

abbrev pub Tells : OutcomeOf → Outcome → Type 0
Tells said outcome = outcome_in outcome ≡ said

-- the outcome of a line of which this was found so far
abbrev pub resumed : Found → OutcomeOf → OutcomeOf
resumed so_far (invalid fault) = invalid fault
resumed so_far (found settings words) =
    found (settings_in so_far.options.items ++ settings) (so_far.lost.items ++ words)

-- a word with this effect is processed: it extends what was found, or it is wrong
abbrev pub Takes : Found → EffectOf → Option OptionFault → Found → Type 0
Takes old effect None new = (rest : OutcomeOf) → resumed old (put effect rest) ≡ resumed new rest
Takes old effect (Some fault) new = effect ≡ wrong fault
