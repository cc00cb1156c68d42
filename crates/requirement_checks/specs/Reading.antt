-- What the library's readers make of the text of a requirement, over any type of URLs.
use Rattle.std.specs.Prelude.{◌≡◌, ◌⊎◌, ⊤, ℕ, Bool, true, false, List, Option, None, Some, map, String}
use Rattle.std.specs.declared.alloc.Global.{Global}
use Rattle.refusal.specs.declared.Refusal.{Refusal}
use Rattle.refusal.specs.declared.Refusal.TheVariants as refusals
use Rattle.pep508_errors.specs.declared.error.Pep508Error.{Pep508Error}
use Rattle.pep508_errors.specs.declared.error.Pep508ErrorSource.{Pep508ErrorSource}
use Rattle.pep508_errors.specs.declared.error.Pep508ErrorSource.TheVariants as sources
use Rattle.pep508_errors.specs.declared.surroundings.Surroundings.{Surroundings}
use Rattle.pep508_errors.specs.declared.warning.MarkerWarningKind.{MarkerWarningKind}
use Rattle.marker_graph.specs.Contents.{Contents}
use Rattle.pep508_requirements.specs.Requirement.{IsReadAs, urls_in}
use Rattle.pep508_requirements.specs.Unnamed.{IsUnnamedReadAs, IsUnnamedRefusalIn}
use Rattle.pep508_requirements.specs.Refused.{IsRefusalIn}
use Rattle.requirement_checks.specs.declared.reading.Form.{Form}
use Rattle.requirement_checks.specs.declared.reading.Form.TheVariants as forms
use Rattle.requirement_checks.specs.declared.reading.Reading.{Reading}
use Rattle.requirement_checks.specs.declared.reading.Reading.TheVariants.{Named, Unnamed, Invalid, NumberTooLarge}

-- the kinds of warnings
abbrev pub kinds_of : List (MarkerWarningKind × String Global) → List MarkerWarningKind
kinds_of warnings = map (λ warning. warning.0) warnings

-- the fault is a path, a URL or an archive without a name
abbrev pub is_unsupported : {T E : Type 0} → Pep508ErrorSource T E → Bool
is_unsupported (sources.String message) = false
is_unsupported (sources.UrlError fault) = false
is_unsupported (sources.UnsupportedRequirement message) = true

-- the text is refused as one without a name
abbrev pub needs_name : {T E : Type 0} → Reading T E → Bool
needs_name (Named r warnings) = false
needs_name (Unnamed r warnings) = false
needs_name (Invalid error) = is_unsupported error.message
needs_name NumberTooLarge = false

module _ {T E : Type 0} (names : List ℕ → Surroundings → T → Type 0) (tells_size : E → Bool)
    (may_overflow : List ℕ → Surroundings → Type 0) (given_text : T → Option (List ℕ))
    (surroundings : Surroundings) where
  -- the reader of requirements with a name refuses the text so
  abbrev pub IsRefused : List ℕ → Refusal (Pep508Error T E) → Type 0
  IsRefused = IsRefusalIn names tells_size may_overflow surroundings

  -- the reader of requirements without a name refuses it so
  abbrev pub IsUnnamedRefused : List ℕ → Refusal (Pep508Error T E) → Type 0
  IsUnnamedRefused = IsUnnamedRefusalIn names tells_size may_overflow surroundings

  -- this is what the reader of requirements with a name makes of the text
  abbrev pub IsNamedReading : Contents → List ℕ → Reading T E → Type 0
  IsNamedReading c text (Named r warnings) = IsReadAs (urls_in names surroundings) c text
      r.name r.extras.items r.version_or_url r.marker (kinds_of warnings.items)
  IsNamedReading c text (Unnamed r warnings) = ⊥
  IsNamedReading c text (Invalid error) = IsRefused text (refusals.Fault error)
  IsNamedReading c text NumberTooLarge = IsRefused text refusals.SegmentAtEnd

  -- this is what the reader of requirements without a name makes of it
  abbrev pub IsUnnamedReading : Contents → List ℕ → Reading T E → Type 0
  IsUnnamedReading c text (Named r warnings) = ⊥
  IsUnnamedReading c text (Unnamed r warnings) = IsUnnamedReadAs (urls_in names surroundings)
      given_text c text r.url r.extras.items r.marker (kinds_of warnings.items)
  IsUnnamedReading c text (Invalid error) = IsUnnamedRefused text (refusals.Fault error)
  IsUnnamedReading c text NumberTooLarge = IsUnnamedRefused text refusals.SegmentAtEnd

  -- the text is refused as a path, a URL or an archive without a name
  pub record NeedsName (text : List ℕ) : Type 0 where
    pub error : Pep508Error T E
    pub refused : IsRefused text (refusals.Fault error)
    pub unsupported : is_unsupported error.message ≡ true

  -- The result of parsing the text: as a requirement with a name, or if that is the fault, as one
  -- without.
  abbrev pub IsReading : Contents → List ℕ → Reading T E → Type 0
  IsReading c text reading = (IsNamedReading c text reading × (needs_name reading ≡ false))
      ⊎ (NeedsName text × IsUnnamedReading c text reading)

  -- this is what they make of a text of this form
  abbrev pub IsRead : Form → Contents → List ℕ → Reading T E → Type 0
  IsRead forms.Any c text reading = IsReading c text reading
  IsRead forms.Named c text reading = IsNamedReading c text reading
  IsRead forms.Unnamed c text reading = IsUnnamedReading c text reading

  -- the same, if the interner may have had no room for the marker
  abbrev pub ReadsWithin : Form → Contents → List ℕ → Option (Reading T E) → Type 0
  ReadsWithin form c text None = ⊤
  ReadsWithin form c text (Some reading) = IsRead form c text reading
