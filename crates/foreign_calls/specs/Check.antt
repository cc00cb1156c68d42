-- Whether a text is a requirement, and what is wrong with another.
use Rattle.std.specs.Prelude.{◌≡◌, ◌≢◌, ℕ, List, Bool, Option, Some, None, string_bytes}
use Rattle.pep508_errors.specs.declared.error.Pep508ErrorSource.{Pep508ErrorSource}
use Rattle.pep508_errors.specs.declared.error.Pep508ErrorSource.TheVariants as sources
use Rattle.pep508_urls.specs.declared.error.VerbatimUrlError.{VerbatimUrlError}
use Rattle.pep508_urls.specs.Message.{fault_text}
use Rattle.pep508_urls.specs.Verbatim.{Verbatim}
use Rattle.marker_environment.specs.Valuation.{Valuation}
use Rattle.foreign_calls.specs.declared.answer.Answer.{Answer}
use Rattle.foreign_calls.specs.declared.answer.Answer.TheVariants.{Done, Invalid, BufferTooSmall, NumberTooLarge}
use Rattle.foreign_calls.specs.declared.check.Fault.{Fault}
use Rattle.foreign_calls.specs.declared.check.Span.{Span}
use Rattle.foreign_calls.specs.Reading.{Error, IsErrorIn, Overflows, Says, Wanted}

-- the text is a requirement, and no comparison of its marker raises the largest number
pub record IsRequirement (folder text : List ℕ) : Type 0 where
  pub name : List ℕ
  pub extras : List (List ℕ)
  pub wanted : Wanted
  pub truth : Valuation → Bool
  pub says : Says folder text name extras wanted truth

-- the bytes say what is wrong
abbrev pub IsMessage : Pep508ErrorSource Verbatim VerbatimUrlError → List ℕ → Type 0
IsMessage (sources.String message) bytes = bytes ≡ string_bytes message
IsMessage (sources.UrlError fault) bytes = bytes ≡ fault_text fault
IsMessage (sources.UnsupportedRequirement message) bytes = bytes ≡ string_bytes message

-- the place and the message are those of the error
pub record IsToldBy (error : Error) (span : Span) (bytes : List ℕ) : Type 0 where
  pub start : span.start ≡ error.start
  pub length : span.length ≡ error.len
  pub message : IsMessage error.message bytes

-- the text is an invalid requirement for this reason
pub record IsFault (folder text : List ℕ) (span : Span) (bytes : List ℕ) : Type 0 where
  pub error : Error
  pub is : IsErrorIn folder text error
  pub told : IsToldBy error span bytes

-- the place and the message stay as they were, and the message needs no room
pub record TellsNothing (span told : Span) (message written : List ℕ) (needed : ℕ) : Type 0 where
  pub span_kept : told ≡ span
  pub kept : written ≡ message
  pub none : needed ≡ 0

-- it is a requirement if there is no fault, and otherwise invalid for that
abbrev pub HasFault : List ℕ → List ℕ → Option Fault → Type 0
HasFault folder text None = IsRequirement folder text
HasFault folder text (Some fault) =
    IsFault folder text fault.span (string_bytes fault.message)

-- why it is not known whether the text is a requirement
pub record IsCheckRefusal (folder text : List ℕ) (answer : Answer) : Type 0 where
  pub not_done : answer ≢ Done
  pub not_invalid : answer ≢ Invalid
  pub not_small : answer ≢ BufferTooSmall
  pub too_large : answer ≡ NumberTooLarge → Overflows folder text
