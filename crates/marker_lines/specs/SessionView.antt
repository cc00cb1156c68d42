-- The state of a session of lines, and what it appends to the replies.
use Rattle.std.specs.Prelude.{◌≡◌, ◌≢◌, ℕ, Bool, List, Err, IsTrue, Option, MatchOption, Result, Vec}
use Rattle.std.specs.Borrow.{Bor}
use Rattle.std.specs.declared.alloc.Global.{Global}
use Rattle.std.specs.declared.ops.Bound.{Bound}
use Rattle.line_server.specs.Serving.{ServesAll, ServesWhole}
use Rattle.line_server.specs.declared.fault.ServeFault.{ServeFault}
use Rattle.line_server.specs.declared.fault.ServeFault.TheVariants.{Input, Output, Usage}
use Rattle.pep440_version.specs.Parts.{Parts}
use Rattle.marker_environment.specs.Environment.{values_of}
use Rattle.marker_environment.specs.Written.{Says, written}
use Rattle.marker_environment.specs.declared.string_version.StringVersion.{StringVersion}
use Rattle.pep508_markers.specs.Session.{cells_of}
use Rattle.marker_lines.specs.declared.line_session.LineSession.{LineSession}
use Rattle.marker_lines.specs.declared.line.LineCommand.{LineCommand}
use Rattle.marker_lines.specs.Line.{Request, set}
use Rattle.marker_lines.specs.LineView.{bound_text_of, texts_of, request_of}
use Rattle.marker_lines.specs.LineStep.{State, start, RequestStep, LineStep, Names, HasNoNames, SaysBound, SaysNoBound, SaysNoVersion}
use Rattle.marker_lines.specs.Reply.{GrowsBy}

abbrev pub state_of : LineSession → State
state_of s = record { cells = cells_of s.session; values = values_of s.environment }

-- the session answers the request and becomes the new one; the reply is appended to `before`
abbrev pub Replies : LineSession → Request → LineSession → Vec ℕ Global → Vec ℕ Global → Type 0
Replies old request new before after =
    (reply : List ℕ) × RequestStep (state_of old) request reply (state_of new)
    × GrowsBy before after reply

-- the same for a command, and for a key and its value
abbrev pub Obeys : LineSession → LineCommand → LineSession → Vec ℕ Global → Vec ℕ Global → Type 0
Obeys old command = Replies old (request_of command)

abbrev pub Sets : LineSession → List ℕ → List ℕ → LineSession → Vec ℕ Global → Vec ℕ Global
    → Type 0
Sets old key value = Replies old (set key value)

-- what the value of a line says: a version, a bound, names; or nothing
abbrev pub ReadsVersion : List ℕ → Option StringVersion → Type 0
ReadsVersion value read = MatchOption read (SaysNoVersion value) (λ v. Says value (written v))

abbrev pub ReadsBound : Bound (Bor (List ℕ)) → Option (Bound Parts) → Type 0
ReadsBound bound read = MatchOption read
    (SaysNoBound (bound_text_of bound)) (SaysBound (bound_text_of bound))

abbrev pub ReadsNames : List (Bor (List ℕ)) → Option (Vec (List ℕ) Global) → Type 0
ReadsNames words read = MatchOption read
    (HasNoNames (texts_of words)) (λ names. Names (texts_of words) names.items)

-- what a source gave is answered by what a sink took: each line, or each with a line feed
module _ {R W : Type 0} (remaining : R → Option (List ℕ)) (contents : W → Option (List ℕ)) where
  abbrev pub AnswersAll : R → R → W → W → Type 0
  AnswersAll from to had has =
      (end : State) × ServesAll LineStep remaining contents start end from to had has

  abbrev pub AnswersWhole : R → R → W → W → Type 0
  AnswersWhole from to had has =
      (end : State) × ServesWhole LineStep remaining contents start end from to had has

-- the fault is of the side that failed, and the other has failed only if it had before
module _ {R W A : Type 0} (read_failed : R → Bool) (write_failed : W → Bool) where
  pub record NamesFailedSide (result : Result A ServeFault) (from to : R) (had has : W)
      : Type 0 where
    pub input_failed : result ≡ Err Input → IsTrue (read_failed to)
    pub input_sound : result ≢ Err Input → read_failed to ≡ read_failed from
    pub output_failed : result ≡ Err Output → IsTrue (write_failed has)
    pub output_sound : result ≢ Err Output → write_failed has ≡ write_failed had
    pub no_usage : result ≢ Err Usage
