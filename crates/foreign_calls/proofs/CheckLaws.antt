-- What a check says of a text.
use Rattle.std.proofs.Common.{◌≡◌, ℕ, List, inl, inr}
use Rattle.std.specs.Prelude.{◌⊎◌, Some, IfSome}
use Rattle.refusal.specs.declared.Refusal.TheVariants as refusals
use Rattle.pep508_errors.specs.declared.error.Pep508ErrorSource.{Pep508ErrorSource}
use Rattle.pep508_errors.specs.declared.error.Pep508ErrorSource.TheVariants as sources
use Rattle.pep508_errors.specs.Error.{source_text}
use Rattle.pep508_urls.specs.declared.error.VerbatimUrlError.{VerbatimUrlError}
use Rattle.pep508_urls.specs.Message.{fault_text}
use Rattle.pep508_urls.specs.Verbatim.{Verbatim}
use Rattle.marker_graph.specs.Contents.{Contents, truth}
use Rattle.pep508_requirements.specs.declared.requirement.Requirement.{Requirement}
use Rattle.foreign_calls.specs.Buffer.{Fits, IsTooSmall, WritesIfRoom}
use Rattle.foreign_calls.specs.declared.answer.Answer.{Answer}
use Rattle.foreign_calls.specs.declared.answer.Answer.TheVariants.{Done, BufferTooSmall}
use Rattle.foreign_calls.specs.declared.check.Span.{Span}
use Rattle.foreign_calls.specs.Check.{IsRequirement, IsMessage, IsToldBy, IsFault}
use Rattle.foreign_calls.specs.Reading.{Error, IsReadFrom, IsRefused, Overflows}

-- what an error prints is its message
pub said : (source : Pep508ErrorSource Verbatim VerbatimUrlError) (bytes : List ℕ)
    → IfSome (source_text (λ fault. Some (fault_text fault)) source) (λ text. bytes ≡ text) → IsMessage source bytes
said (sources.String message) bytes is = is
said (sources.UrlError fault) bytes is = is
said (sources.UnsupportedRequirement message) bytes is = is

pub valid : {c : Contents} {folder text : List ℕ} {r : Requirement Verbatim VerbatimUrlError} → IsReadFrom c folder text r → IsRequirement folder text
valid {c = c} {r = r} p = record { name = r.name; extras = r.extras.items; wanted = r.version_or_url; truth = truth c r.marker; says = p.says }

pub fault : {folder text bytes : List ℕ} {error : Error} {span : Span} → IsRefused folder text (refusals.Fault error) → IsToldBy error span bytes → IsFault folder text span bytes
fault {error = error} p told = record { error = error; is = record { surroundings = p.surroundings; are_in = p.are_in; is = p.is }; told = told }

pub too_large : {folder text : List ℕ} → IsRefused folder text refusals.SegmentAtEnd → Overflows folder text
too_large p = record { surroundings = p.surroundings; are_in = p.are_in; is = p.is }

-- a message that is handed over, if there is room for it
pub told : {folder text bytes old new : List ℕ} {span : Span} {needed : ℕ} {answer : Answer} → IsFault folder text span bytes
    → (answer ≡ Done → Fits bytes old new needed) → (answer ≡ BufferTooSmall → IsTooSmall bytes old new needed) → (answer ≡ Done) ⊎ (answer ≡ BufferTooSmall)
    → WritesIfRoom (IsFault folder text span) old new needed
told {bytes = bytes} p fits small (inl is) = (bytes, p, inl (fits is))
told {bytes = bytes} p fits small (inr is) = (bytes, p, inr (small is))

pub ruleset checked = (valid, fault, too_large)
