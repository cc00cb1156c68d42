-- Texts that are refused, and their errors.
use Rattle.std.proofs.Common.{◌≡◌, ℕ, ◌-◌, List, length, sym, subst}
use Rattle.refusal.specs.declared.Refusal.{Refusal}
use Rattle.refusal.specs.declared.Refusal.TheVariants as refusals
use Rattle.pep508_errors.specs.declared.error.Pep508Error.{Pep508Error}
use Rattle.marker_words.specs.declared.fault.Fault.{Fault}
use Rattle.marker_words.specs.Fault.{message_of, IsMarkerFault}
use Rattle.pep508_text.specs.Suffix.{IsSuffix, span_len}
use Rattle.marker_words.proofs.FaultLaws.{fault_of_suffix, fault_told}
use Rattle.marker_parts.specs.declared.comparison.ComparisonError.{ComparisonError}
use Rattle.marker_parts.specs.declared.comparison.ComparisonError.TheVariants as errors
use Rattle.marker_parts.specs.Error.{Becomes}
use Rattle.marker_parts.proofs.WholeLaws.{told_fault}
use Rattle.marker_grammar.specs.Refused.{IsMarker, IsTextFault}
use Rattle.marker_grammar.specs.Refused as texts
use Rattle.pep508_markers.specs.Text.{IsRefusalIn}

-- an invalid marker at the end of a text is refused
pub refused_behind : {T E : Type 0} (text marker : List ℕ) (error : ComparisonError) (refusal : Refusal (Pep508Error T E)) → IsSuffix text marker → texts.IsRefusal marker error → Becomes text error refusal → IsRefusalIn text marker refusal
refused_behind text marker error refusals.OutOfMemory suffix unread told = tt
refused_behind text marker error refusals.SegmentAtEnd suffix unread told = absurd told
refused_behind text marker errors.OutOfMemory (refusals.Fault e) suffix unread told = absurd told
refused_behind text marker (errors.Fault fault) (refusals.Fault e) suffix unread told = (unread.1, told_fault (fault_of_suffix suffix unread.0) told)

-- a fault of a text, in a reply
pub told_reply : (text : List ℕ) (fault : Fault) (start len : ℕ) (message : List ℕ) → IsTextFault text fault → start ≡ length text - fault.place.left → len ≡ span_len fault.place → message ≡ message_of fault.kind fault.place.piece.now → IsMarkerFault IsMarker text start len message
told_reply text fault start len message at start_is len_is said =
    subst (λ (n : ℕ). IsMarkerFault IsMarker text n len message) (sym start_is)
    (subst (λ (n : ℕ). IsMarkerFault IsMarker text (length text - fault.place.left) n message) (sym len_is)
    (subst (λ (m : List ℕ). IsMarkerFault IsMarker text (length text - fault.place.left) (span_len fault.place) m) (sym said) (fault_told text fault at)))
