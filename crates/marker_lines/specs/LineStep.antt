-- The machine of a session, spoken to in lines. A line and its reply are given
-- without the line feed that ends them.
use Rattle.std.specs.Prelude.{◌≡◌, ◌⊎◌, ℕ, List, [], ◌∷◌, codes}
use Rattle.std.specs.Str.{IsUtf8}
use Rattle.std.specs.declared.ops.Bound.{Bound}
use Rattle.std.specs.declared.ops.Bound.TheVariants.{Included, Excluded, Unbounded}
use Rattle.pep440_version.specs.Grammar.{IsVersionText}
use Rattle.pep440_version.specs.Parts.{Parts, release_only}
use Rattle.marker_words.specs.declared.key.TextVariable.{TextVariable}
use Rattle.marker_words.specs.declared.key.MarkerValueVersion.{MarkerValueVersion}
use Rattle.marker_environment.specs.Written.{Written, Says}
use Rattle.marker_environment.specs.Environment.{Values, SetsText, SetsVersion}
use Rattle.pep508_names.specs.Name.{NormalizesTo}
use Rattle.pep508_markers.specs.Machine as Machine
use Rattle.pep508_markers.specs.Machine.{Cells, Answer, Step}
use Rattle.marker_lines.specs.declared.word.NamesCommand.{NamesCommand}
use Rattle.marker_lines.specs.declared.word.RangeCommand.{RangeCommand}
use Rattle.marker_lines.specs.declared.key.EnvironmentKey.TheVariants.{Text, Version}
use Rattle.marker_lines.specs.Key.{key_name, IsNoKey}
use Rattle.marker_lines.specs.Word.{names_request, range_request}
use Rattle.marker_lines.specs.Line.{Request, set, run, with_names, with_range, Asks, AsksNothing}
use Rattle.marker_lines.specs.Reply.{reply_text}

-- the cells, and the values that they are evaluated at
pub record State : Type 0 where
  pub cells : Cells
  pub values : Values

-- the version 0, written `0`
abbrev pub zero_version : Written
zero_version = record { string = codes "0"; version = release_only (0 ∷ []) }

-- no cell, each text empty and each version 0
abbrev pub start : State
start = record {
  cells = [];
  values = record { text = λ variable. []; version = λ key. zero_version };
}

-- each word is a name, and these are their normal forms (PEP 503)
pub data Names : List (List ℕ) → List (List ℕ) → Type 0 where
  no_more : Names [] []
  name : {word normal : List ℕ} {words names : List (List ℕ)}
      → NormalizesTo word normal → Names words names → Names (word ∷ words) (normal ∷ names)

-- the text of the bound's version says the version of a bound of the same kind
pub data SaysBound : Bound (List ℕ) → Bound Parts → Type 0 where
  included : {text : List ℕ} {version : Parts}
      → IsVersionText text version → SaysBound (Included text) (Included version)
  excluded : {text : List ℕ} {version : Parts}
      → IsVersionText text version → SaysBound (Excluded text) (Excluded version)
  unbounded : SaysBound Unbounded Unbounded

-- one of the words is an invalid name
abbrev pub HasNoNames : List (List ℕ) → Type 0
HasNoNames words = (names : List (List ℕ)) → Names words names → ⊥

-- the text of the bound says no version
abbrev pub SaysNoBound : Bound (List ℕ) → Type 0
SaysNoBound bound = (version : Bound Parts) → SaysBound bound version → ⊥

-- the text is no version
abbrev pub SaysNoVersion : List ℕ → Type 0
SaysNoVersion value = (version : Parts) → IsVersionText value version → ⊥

-- the machine answers the request, and the values stay
pub record MachineStep (old : State) (request : Machine.Request) (answer : Answer)
    (new : State) : Type 0 where
  pub step : Step old.cells request answer new.cells
  pub values : new.values ≡ old.values

-- From the state old the request may be answered by this reply, and the state is new then.
pub data RequestStep : State → Request → List ℕ → State → Type 0 where
  -- the key is the modern name of a text variable
  is_set : {old new : State} {key value : List ℕ} (variable : TextVariable)
      → key ≡ key_name (Text variable) → new.cells ≡ old.cells
      → SetsText old.values new.values variable value
      → RequestStep old (set key value) (codes "ok") new
  -- the key is one of a version, which the value says
  is_version_set : {old new : State} {key value : List ℕ} (version_key : MarkerValueVersion)
      (version : Written) → key ≡ key_name (Version version_key) → Says value version
      → new.cells ≡ old.cells → SetsVersion old.values new.values version_key version
      → RequestStep old (set key value) (codes "ok") new
  no_version : {state : State} {key value : List ℕ} (version_key : MarkerValueVersion)
      → key ≡ key_name (Version version_key)
      → SaysNoVersion value → RequestStep state (set key value) (codes "error version") state
  -- the key is judged before the value
  no_key : {state : State} {key value : List ℕ} → IsNoKey key
      → RequestStep state (set key value) (codes "error key") state
  -- the machine answers
  is_run : {old new : State} {request : Machine.Request} (answer : Answer)
      → MachineStep old request answer new → RequestStep old (run request) (reply_text answer) new
  is_run_with_names : {old new : State} {command : NamesCommand} {cell : ℕ}
      {words names : List (List ℕ)} (answer : Answer) → Names words names
      → MachineStep old (names_request command cell old.values names) answer new
      → RequestStep old (with_names command cell words) (reply_text answer) new
  is_run_with_range : {old new : State} {command : RangeCommand} {cell : ℕ}
      {lower upper : Bound (List ℕ)} {from until : Bound Parts} (answer : Answer)
      → SaysBound lower from → SaysBound upper until
      → MachineStep old (range_request command cell from until) answer new
      → RequestStep old (with_range command cell lower upper) (reply_text answer) new
  -- names and bounds are judged before the cell
  no_name : {state : State} {command : NamesCommand} {cell : ℕ} {words : List (List ℕ)}
      → HasNoNames words
      → RequestStep state (with_names command cell words) (codes "error name") state
  no_bound : {state : State} {command : RangeCommand} {cell : ℕ} {lower upper : Bound (List ℕ)}
      → SaysNoBound lower ⊎ SaysNoBound upper
      → RequestStep state (with_range command cell lower upper) (codes "error version") state

-- From the state old the line may be answered by this reply, and the state is new then.
pub data LineStep : State → List ℕ → List ℕ → State → Type 0 where
  no_text : {state : State} {line : List ℕ} → (IsUtf8 line → ⊥)
      → LineStep state line (codes "error utf8") state
  no_command : {state : State} {line : List ℕ} → IsUtf8 line → AsksNothing line
      → LineStep state line (codes "error command") state
  asked : {old new : State} {line reply : List ℕ} (request : Request) → IsUtf8 line
      → Asks line request → RequestStep old request reply new → LineStep old line reply new
