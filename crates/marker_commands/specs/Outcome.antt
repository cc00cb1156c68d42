-- The exit status of a command, and why a text gets no answer.
use Rattle.std.specs.Prelude.{◌≡◌, ⊤, ℕ, List, [], ◌∷◌, ◌++◌, String, string_bytes}
use Rattle.marker_grammar.specs.Refused.{IsNoMarker}
use Rattle.pep508_markers.specs.Text.{TextOverflows}
use Rattle.marker_commands.specs.declared.outcome.Outcome.{Outcome}
use Rattle.marker_commands.specs.declared.outcome.Outcome.TheVariants.{Answered, Failed, Open, Invalid, TooLarge, TooComplex, WrongUse, OutOfMemory}
use Rattle.marker_commands.specs.declared.outcome.Reply.{Reply}

-- the string has this text after that which it had
abbrev pub HasAppended : {A : Type 0} → String A → String A → List ℕ → Type 0
HasAppended old new text = string_bytes new ≡ string_bytes old ++ text

abbrev pub status_of : Outcome → ℕ
status_of Answered = 0
status_of Failed = 1
status_of Open = 2
status_of Invalid = 2
status_of TooLarge = 2
status_of TooComplex = 2
status_of WrongUse = 2
status_of OutOfMemory = 2

-- how a command ends if a text gets no answer as a marker
abbrev pub IsRefusalOf : List ℕ → Outcome → Type 0
IsRefusalOf text Answered = ⊥
IsRefusalOf text Failed = ⊥
IsRefusalOf text Open = ⊥
IsRefusalOf text Invalid = IsNoMarker text
IsRefusalOf text TooLarge = TextOverflows text
IsRefusalOf text TooComplex = ⊤
IsRefusalOf text WrongUse = ⊥
IsRefusalOf text OutOfMemory = ⊤

-- the answer is a line with this text, and the command ends so
abbrev pub Answers : Outcome → List ℕ → Reply → Type 0
Answers outcome text reply = (reply.outcome ≡ outcome)
    × (string_bytes reply.output ≡ text ++ 10 ∷ [])

-- there is no answer, and the command ends so
abbrev pub HasNoAnswer : Outcome → Reply → Type 0
HasNoAnswer outcome reply = (reply.outcome ≡ outcome) × (string_bytes reply.output ≡ [])

-- the messages of the reply are this one, and then those of the old reply
abbrev pub HasMessageFirst : List ℕ → Reply → Reply → Type 0
HasMessageFirst message old reply =
    string_bytes reply.messages ≡ message ++ string_bytes old.messages

-- the text gets no answer as a marker
abbrev pub IsRefused : List ℕ → Reply → Type 0
IsRefused text reply = IsRefusalOf text reply.outcome × (string_bytes reply.output ≡ [])
