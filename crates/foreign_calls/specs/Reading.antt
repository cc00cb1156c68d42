-- What a text says as a requirement for another language: no variable is known, and relative paths
-- start from the folder of the options.
use Rattle.std.specs.Prelude.{◌≡◌, ◌≢◌, ℕ, List, Bool, Option}
use Rattle.refusal.specs.declared.Refusal.{Refusal}
use Rattle.pep508_errors.specs.declared.error.Pep508Error.{Pep508Error}
use Rattle.pep508_errors.specs.declared.surroundings.Surroundings.{Surroundings}
use Rattle.pep508_errors.specs.declared.warning.MarkerWarningKind.{MarkerWarningKind}
use Rattle.pep508_urls.specs.declared.error.VerbatimUrlError.{VerbatimUrlError}
use Rattle.pep508_urls.specs.Fault.{tells_size, TextMayOverflow}
use Rattle.pep508_urls.specs.Meaning.{IsVerbatim}
use Rattle.pep508_urls.specs.Variables.{value_of}
use Rattle.pep508_urls.specs.Verbatim.{Verbatim}
use Rattle.marker_environment.specs.Valuation.{Valuation}
use Rattle.marker_parts.specs.Expression.{Overflows as RaisesLargest}
use Rattle.marker_graph.specs.Contents.{Contents, truth}
use Rattle.marker_grammar.specs.Formula.{Formula}
use Rattle.marker_grammar.specs.Formula as formulas
use Rattle.marker_grammar.specs.HasTest as tests
use Rattle.pep508_requirements.specs.declared.requirement.Requirement.{Requirement}
use Rattle.pep508_requirements.specs.declared.version_or_url.VersionOrUrl.{VersionOrUrl}
use Rattle.pep508_requirements.specs.Refused.{IsErrorOf, IsRefusalIn}
use Rattle.pep508_requirements.specs.Requirement.{IsRequirement, RequirementOverflows, urls_in}
use Rattle.foreign_calls.specs.Options.{AreIn}
use Rattle.foreign_calls.specs.declared.answer.Answer.{Answer}
use Rattle.foreign_calls.specs.declared.answer.Answer.TheVariants.{Done, Invalid, BufferTooSmall, NumberTooLarge}

-- what a requirement wants: specifiers, a URL or neither
abbrev pub Wanted : Type 0
Wanted = Option (VersionOrUrl Verbatim VerbatimUrlError)

abbrev pub Error : Type 0
Error = Pep508Error Verbatim VerbatimUrlError

-- the text is a requirement with these parts and a marker of this truth, and no comparison of the
-- marker raises the largest number
pub record Says (folder text name : List ℕ) (extras : List (List ℕ)) (wanted : Wanted)
    (f : Valuation → Bool) : Type 0 where
  pub surroundings : Surroundings
  pub are_in : AreIn folder surroundings
  pub formula : Option Formula
  pub kinds : List MarkerWarningKind
  pub requirement : IsRequirement (urls_in IsVerbatim surroundings) text name extras wanted
      formula kinds
  pub no_overflow : ¬ tests.Says RaisesLargest formula
  pub means : (v : Valuation) → f v ≡ formulas.truth formula v

-- the requirement is that of the text
pub record IsReadFrom (c : Contents) (folder text : List ℕ)
    (r : Requirement Verbatim VerbatimUrlError) : Type 0 where
  pub says : Says folder text r.name r.extras.items r.version_or_url (truth c r.marker)

-- the error is that of the text
pub record IsErrorIn (folder text : List ℕ) (error : Error) : Type 0 where
  pub surroundings : Surroundings
  pub are_in : AreIn folder surroundings
  pub is : IsErrorOf (urls_in IsVerbatim surroundings) tells_size
      (λ piece. TextMayOverflow piece surroundings) (value_of surroundings) text error

-- the text is an invalid requirement, unless its URL is too large
pub record IsNoRequirement (folder text : List ℕ) : Type 0 where
  pub error : Error
  pub is : IsErrorIn folder text error

-- the text is a requirement, and a comparison of its marker would raise the largest number
pub record Overflows (folder text : List ℕ) : Type 0 where
  pub surroundings : Surroundings
  pub are_in : AreIn folder surroundings
  pub is : RequirementOverflows VerbatimUrlError (urls_in IsVerbatim surroundings) text

-- why there is no requirement of the text
pub record IsRefused (folder text : List ℕ) (refusal : Refusal Error) : Type 0 where
  pub surroundings : Surroundings
  pub are_in : AreIn folder surroundings
  pub is : IsRefusalIn IsVerbatim tells_size TextMayOverflow surroundings text refusal

-- the answer to a text that is refused
pub record IsRequirementRefusal (folder text : List ℕ) (answer : Answer) : Type 0 where
  pub not_done : answer ≢ Done
  pub not_small : answer ≢ BufferTooSmall
  pub invalid : answer ≡ Invalid → IsNoRequirement folder text
  pub too_large : answer ≡ NumberTooLarge → Overflows folder text
