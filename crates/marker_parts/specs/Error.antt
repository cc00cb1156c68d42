-- The error of an invalid text: a message, its place, and the text.
use Rattle.std.specs.Prelude.{◌≡◌, ℕ, ◌-◌, List, length, string_bytes, ⊤}
use Rattle.refusal.specs.declared.Refusal.{Refusal}
use Rattle.refusal.specs.declared.Refusal.TheVariants as refusals
use Rattle.pep508_errors.specs.declared.error.Pep508Error.{Pep508Error}
use Rattle.pep508_errors.specs.declared.error.Pep508ErrorSource.{Pep508ErrorSource}
use Rattle.pep508_errors.specs.declared.error.Pep508ErrorSource.TheVariants as sources
use Rattle.marker_words.specs.declared.fault.Fault.{Fault}
use Rattle.pep508_text.specs.Suffix.{span_len}
use Rattle.marker_words.specs.Fault.{NoneOpen, IsMarkerFault, message_of}
use Rattle.marker_parts.specs.declared.comparison.ComparisonError.{ComparisonError}
use Rattle.marker_parts.specs.declared.comparison.ComparisonError.TheVariants as errors
use Rattle.marker_parts.specs.Whole.{IsNoComparison}

module _ {T E : Type 0} where
  -- the message is this one, and no fault of a URL
  abbrev pub IsMessage : Pep508ErrorSource T E → List ℕ → Type 0
  IsMessage (sources.String message) said = string_bytes message ≡ said
  IsMessage (sources.UrlError fault) said = ⊥
  IsMessage (sources.UnsupportedRequirement message) said = ⊥

  -- this fault, with its message and its place, and the text
  pub record Tells (text : List ℕ) (fault : Fault) (error : Pep508Error T E) : Type 0 where
    pub input : string_bytes error.input ≡ text
    pub message : IsMessage error.message (message_of fault.kind fault.place.piece.now)
    pub start : error.start ≡ length text - fault.place.left
    pub len : error.len ≡ span_len fault.place

  -- memory ran out, or this is the error of the fault
  abbrev pub Becomes : List ℕ → ComparisonError → Refusal (Pep508Error T E) → Type 0
  Becomes text error refusals.OutOfMemory = ⊤
  Becomes text error refusals.SegmentAtEnd = ⊥
  Becomes text errors.OutOfMemory (refusals.Fault error) = ⊥
  Becomes text (errors.Fault fault) (refusals.Fault error) = Tells text fault error

  -- one of the messages of markers, which is true of the text at its place
  pub record IsErrorOf (Open : List ℕ → Type 0) (text : List ℕ) (error : Pep508Error T E) :
      Type 0 where
    pub input : string_bytes error.input ≡ text
    pub said : List ℕ
    pub message : IsMessage error.message said
    pub place : IsMarkerFault Open text error.start error.len said

  -- why no comparison is parsed: memory ran out, or the text is not one and the error says so
  abbrev pub IsRefusal : List ℕ → Refusal (Pep508Error T E) → Type 0
  IsRefusal text refusals.OutOfMemory = ⊤
  IsRefusal text refusals.SegmentAtEnd = ⊥
  IsRefusal text (refusals.Fault error) = IsNoComparison text × IsErrorOf NoneOpen text error
