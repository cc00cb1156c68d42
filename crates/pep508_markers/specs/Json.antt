-- Markers as strings of JSON. (RFC 8259.)
use Rattle.std.specs.Prelude.{◌≡◌, ◌⊎◌, ⊤, ℕ, Bool, List, [], ◌∷◌, MatchOption, Option, Some, String, codes, string_bytes}
use Rattle.serde_json.specs.Data.{string}
use Rattle.serde_json.specs.Read.{read}
use Rattle.serde_json.specs.Written.{compact_text}
use Rattle.refusal.specs.declared.Refusal.{Refusal}
use Rattle.refusal.specs.declared.Refusal.TheVariants.{OutOfMemory, SegmentAtEnd, Fault}
use Rattle.pep508_errors.specs.declared.error.Pep508Error.{Pep508Error}
use Rattle.pep508_errors.specs.declared.warning.MarkerWarningKind.{MarkerWarningKind}
use Rattle.marker_environment.specs.Valuation.{Valuation}
use Rattle.marker_parts.specs.Error.{IsErrorOf, IsMessage}
use Rattle.marker_graph.specs.declared.tree.MarkerTree.{MarkerTree}
use Rattle.marker_graph.specs.declared.tree.TheConstants.MarkerTree.{TRUE}
use Rattle.marker_graph.specs.Contents.{Contents, truth}
use Rattle.marker_grammar.specs.Refused.{IsMarker, IsNoMarker}
use Rattle.marker_view.specs.Text.{TellsText}
use Rattle.pep508_markers.specs.Text.{HoldsTreeOf, TextOverflows}

-- the JSON is a string with this text
abbrev pub IsStringOf : List ℕ → List ℕ → Type 0
IsStringOf json text = read json ≡ Some (string text)

-- it is not a string
abbrev pub IsNoString : List ℕ → Type 0
IsNoString json = (text : List ℕ) → ¬ IsStringOf json text

-- the text of the string, or nothing if the JSON is not one
abbrev pub TellsString : {A : Type 0} → List ℕ → Option (String A) → Type 0
TellsString json found =
    MatchOption found (IsNoString json) (λ text. IsStringOf json (string_bytes text))

-- how a text is written as a string
abbrev pub string_of : List ℕ → List ℕ
string_of text = compact_text (string text)

-- the JSON is a string with a text of the marker of this truth
pub record IsJsonOf (f : Valuation → Bool) (json : List ℕ) : Type 0 where
  pub text : List ℕ
  pub written : json ≡ string_of text
  pub read_back : IsStringOf json text
  pub tells : TellsText f (Some text)

-- the JSON is a string with a text of the tree
abbrev pub IsJsonOfTree : {A : Type 0} → Contents → MarkerTree → String A → Type 0
IsJsonOfTree c t json = IsJsonOf (truth c t) (string_bytes json)

-- the tree is that of a string's text
abbrev pub IsTreeOfJson : Contents → List ℕ → MarkerTree → Type 0
IsTreeOfJson c json t =
    (text : List ℕ) × (kinds : List MarkerWarningKind) × IsStringOf json text
    × HoldsTreeOf c text t kinds

-- the length of the span of the fault: 1 for empty JSON
abbrev pub span_of : List ℕ → ℕ
span_of [] = 1
span_of (c ∷ json) = 0

module _ {T E : Type 0} where
  -- the error of JSON that is not a string
  pub record TellsNoString (json : List ℕ) (error : Pep508Error T E) : Type 0 where
    pub none : IsNoString json
    pub input : string_bytes error.input ≡ json
    pub message : IsMessage error.message (codes "Expected a JSON string")
    pub start : error.start ≡ 0
    pub len : error.len ≡ span_of json

  -- memory ran out, or there is no string
  abbrev pub IsUnread : List ℕ → Refusal (Pep508Error T E) → Type 0
  IsUnread json OutOfMemory = ⊤
  IsUnread json SegmentAtEnd = ⊥
  IsUnread json (Fault error) = TellsNoString json error

  -- the fault is that of a string's text
  abbrev pub IsTextError : List ℕ → Pep508Error T E → Type 0
  IsTextError json error =
      (text : List ℕ) × IsStringOf json text × IsNoMarker text × IsErrorOf IsMarker text error

  -- why there is no tree of JSON: memory ran out, it is not a string, or its text is refused
  abbrev pub IsJsonRefusal : List ℕ → Refusal (Pep508Error T E) → Type 0
  IsJsonRefusal json OutOfMemory = ⊤
  IsJsonRefusal json SegmentAtEnd = (text : List ℕ) × IsStringOf json text × TextOverflows text
  IsJsonRefusal json (Fault error) = TellsNoString json error ⊎ IsTextError json error

-- why a marker is not written
abbrev pub IsUnwritten : {E : Type 0} → MarkerTree → Refusal E → Type 0
IsUnwritten t OutOfMemory = ⊤
IsUnwritten t SegmentAtEnd = ⊥
IsUnwritten t (Fault e) = t ≡ TRUE
