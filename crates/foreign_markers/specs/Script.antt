-- Scripts, and the replies to them.
use Rattle.std.specs.Prelude.{◌≢◌, ℕ, List}
use Rattle.line_server.specs.Serving.{AnswersEachLine}
use Rattle.marker_lines.specs.LineStep.{State, start, LineStep}
use Rattle.foreign_calls.specs.declared.answer.Answer.{Answer}
use Rattle.foreign_calls.specs.declared.answer.Answer.TheVariants.{Done, Invalid, BufferTooSmall}

-- the replies answer the script line by line, on a session that begins without cells
abbrev pub IsAnswered : List ℕ → List ℕ → Type 0
IsAnswered script replies = (end : State) × AnswersEachLine LineStep start end script replies

-- why there are no replies
pub record IsUnanswered (answer : Answer) : Type 0 where
  pub not_done : answer ≢ Done
  pub not_small : answer ≢ BufferTooSmall
  pub not_invalid : answer ≢ Invalid
