-- What `eval` writes.
use Rattle.std.specs.Prelude.{◌≡◌, ◌⊎◌, ⊤, ℕ, Bool, true, false, List, [], ◌∷◌, ◌++◌, codes, string_bytes}
use Rattle.std.specs.List.{flat_map}
use Rattle.marker_environment.specs.Valuation.{Valuation}
use Rattle.marker_walks.specs.declared.keys.EnvironmentKey.{EnvironmentKey}
use Rattle.marker_walks.specs.Keys.{key_name}
use Rattle.marker_answers.specs.Evaluation.{IsEvaluation}
use Rattle.marker_answers.specs.declared.evaluating.Evaluation.{Evaluation}
use Rattle.marker_answers.specs.declared.evaluating.Evaluation.TheVariants.{Known, Depends, TooComplex}
use Rattle.marker_commands.specs.declared.evaluating.Situation.{Situation}
use Rattle.marker_commands.specs.declared.outcome.Outcome.{Outcome}
use Rattle.marker_commands.specs.declared.outcome.Outcome.TheVariants.{Answered, Failed, Open, OutOfMemory}
use Rattle.marker_commands.specs.declared.outcome.Outcome.TheVariants as outcomes
use Rattle.marker_commands.specs.declared.outcome.Reply.{Reply}
use Rattle.marker_commands.specs.Outcome.{Answers, HasNoAnswer, IsRefused}
use Rattle.marker_commands.specs.Parsing.{ReadsAs}

-- the text is a marker, and this is what its truth is in a situation
pub record IsEvaluated (text : List ℕ) (situation : Situation) (evaluation : Evaluation) : Type 0
  where
    pub f : Valuation → Bool
    pub reads : ReadsAs text f
    pub is : IsEvaluation f situation.known.now situation.extras.now evaluation

abbrev pub truth_word : Bool → List ℕ
truth_word true = codes "true"
truth_word false = codes "false"

-- the names of keys, with a space before each
abbrev pub names_of : List EnvironmentKey → List ℕ
names_of keys = flat_map (λ key. codes " " ++ key_name key) keys

-- that a marker depends on these keys
abbrev pub keys_text : List EnvironmentKey → List ℕ
keys_text keys =
    codes "The marker depends on values that are not given:" ++ names_of keys ++ 10 ∷ []

-- how the command ends that writes a truth, if it is to fail on a false one, or if it is not
abbrev pub outcome_of : Bool → Bool → Outcome
outcome_of fails true = Answered
outcome_of true false = Failed
outcome_of false false = Answered

-- the truth is written
abbrev pub ShowsTruth : Bool → Bool → Reply → Type 0
ShowsTruth fails b reply = Answers (outcome_of fails b) (truth_word b) reply

-- there is no answer, and the last message names the keys
abbrev pub ShowsKeys : List EnvironmentKey → Reply → Type 0
ShowsKeys keys reply = HasNoAnswer Open reply × ((before : List ℕ)
    × (string_bytes reply.messages ≡ before ++ keys_text keys))

-- what a marker is, is written, unless memory runs out
abbrev pub ShowsEvaluation : Bool → Evaluation → Reply → Type 0
ShowsEvaluation fails (Known b) reply = HasNoAnswer OutOfMemory reply ⊎ ShowsTruth fails b reply
ShowsEvaluation fails (Depends keys) reply =
    HasNoAnswer OutOfMemory reply ⊎ ShowsKeys keys.items reply
ShowsEvaluation fails TooComplex reply =
    HasNoAnswer OutOfMemory reply ⊎ HasNoAnswer outcomes.TooComplex reply

-- the evaluation of the text is written, or the text gets no answer
abbrev pub IsEvaluationReply : List ℕ → Situation → Reply → Type 0
IsEvaluationReply text situation reply =
    ((evaluation : Evaluation) × IsEvaluated text situation evaluation
    × ShowsEvaluation situation.fails_on_false evaluation reply)
    ⊎ IsRefused text reply
