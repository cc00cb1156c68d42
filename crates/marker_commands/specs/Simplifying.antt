-- What `simplify` writes.
use Rattle.std.specs.Prelude.{◌≡◌, ◌⊎◌, ℕ, Bool, List, codes, string_bytes}
use Rattle.marker_environment.specs.Valuation.{Valuation}
use Rattle.marker_answers.specs.Simplified.{GrantsBy, Shows}
use Rattle.marker_answers.specs.declared.simplifying.MarkerAnswer.{MarkerAnswer}
use Rattle.marker_answers.specs.declared.simplifying.MarkerAnswer.TheVariants.{Always, Never, Text}
use Rattle.marker_commands.specs.declared.outcome.Outcome.TheVariants.{Answered}
use Rattle.marker_commands.specs.declared.outcome.Reply.{Reply}
use Rattle.marker_commands.specs.declared.simplifying.Simplification.{Simplification}
use Rattle.marker_commands.specs.Outcome.{Answers, IsRefused}
use Rattle.marker_commands.specs.Parsing.{ReadsAs}

-- The text is a marker, and the answer shows the truth g that is left of its truth f: in the range
-- that of f with the extras, and where the range is required, false outside of it.
pub record IsSimplified (text : List ℕ) (by : Simplification) (answer : MarkerAnswer) : Type 0
  where
    pub f : Valuation → Bool
    pub reads : ReadsAs text f
    pub g : Valuation → Bool
    pub grants : GrantsBy by.requires_python f by.range.now.lower by.range.now.upper by.extras.now g
    pub shows : Shows g answer

abbrev pub answer_text : MarkerAnswer → List ℕ
answer_text Always = codes "always"
answer_text Never = codes "never"
answer_text (Text text) = string_bytes text

-- what is left of the marker is written, or the text gets no answer
abbrev pub IsSimplificationReply : List ℕ → Simplification → Reply → Type 0
IsSimplificationReply text by reply =
    ((answer : MarkerAnswer) × IsSimplified text by answer
    × Answers Answered (answer_text answer) reply)
    ⊎ IsRefused text reply
