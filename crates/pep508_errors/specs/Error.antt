-- The text of a fault.
use Rattle.std.specs.Prelude.{ℕ, List, Option, Some, string_bytes}
use Rattle.std.specs.Option.{option_map}
use Rattle.pep508_errors.specs.declared.error.Pep508Error.{Pep508Error}
use Rattle.pep508_errors.specs.declared.error.Pep508ErrorSource.{Pep508ErrorSource}
use Rattle.pep508_errors.specs.declared.error.Pep508ErrorSource.TheVariants as sources
use Rattle.pep508_errors.specs.Underline.{shown}

-- what is said of a fault, as far as it is known: `fault_text` is what the faults of URLs print
abbrev pub source_text : {T E : Type 0}
    → (E → Option (List ℕ)) → Pep508ErrorSource T E → Option (List ℕ)
source_text fault_text (sources.String message) = Some (string_bytes message)
source_text fault_text (sources.UrlError fault) = fault_text fault
source_text fault_text (sources.UnsupportedRequirement message) = Some (string_bytes message)

-- the three lines of a fault
abbrev pub error_text : {T E : Type 0} → (E → Option (List ℕ)) → Pep508Error T E → Option (List ℕ)
error_text fault_text error =
    option_map (λ message. shown message (string_bytes error.input) error.start error.len)
    (source_text fault_text error.message)
