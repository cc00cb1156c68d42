-- Requirements as whole values: the texts that they are parsed from, and their own.
use Rattle.std.specs.Prelude.{◌≡◌, ℕ, List, Option, None}
use Rattle.pep508_errors.specs.declared.surroundings.Surroundings.{Surroundings}
use Rattle.pep508_errors.specs.declared.warning.MarkerWarningKind.{MarkerWarningKind}
use Rattle.marker_graph.specs.Contents.{Contents, IsHeld, truth}
use Rattle.pep508_errors.specs.Kinds.{Adds}
use Rattle.pep508_markers.specs.Json.{IsStringOf}
use Rattle.pep508_requirements.specs.Requirement.{IsReadAs, urls_in}
use Rattle.pep508_requirements.specs.Text.{IsPlainlyAsked, IsPrintedTruth, IsTextOf, ReadsBack, WithText, requirement_text, unnamed_text}
use Rattle.pep508_requirements.specs.Unnamed.{IsUnnamedReadAs}
use Rattle.pep508_requirements.specs.declared.requirement.Requirement.{Requirement}
use Rattle.pep508_requirements.specs.declared.unnamed.UnnamedRequirement.{UnnamedRequirement}
use Rattle.pep508_requirements.specs.declared.unnamed_view.UnnamedRequirementView.{UnnamedRequirementView}
use Rattle.pep508_requirements.specs.declared.view.RequirementView.{RequirementView}

module _ {T E : Type 0} where
  -- The text is parsed as the requirement, with warnings of these kinds. The interner has its
  -- marker, and where it comes from is not known.
  pub record ReadAs (names : List ℕ → Surroundings → T → Type 0) (surroundings : Surroundings)
      (c : Contents) (text : List ℕ) (r : Requirement T E) (kinds : List MarkerWarningKind)
      : Type 0 where
    pub read : IsReadAs (urls_in names surroundings) c text r.name r.extras.items
        r.version_or_url r.marker kinds
    pub held : IsHeld c r.marker
    pub unknown : r.origin ≡ None

  -- the same with some warnings
  abbrev pub IsParsed : (List ℕ → Surroundings → T → Type 0) → Surroundings → Contents → List ℕ
      → Requirement T E → Type 0
  IsParsed names surroundings c text r =
      (kinds : List MarkerWarningKind) × ReadAs names surroundings c text r kinds

  -- the text of a JSON string is parsed as the requirement
  abbrev pub IsParsedJson : (List ℕ → Surroundings → T → Type 0) → Surroundings → Contents
      → List ℕ → Requirement T E → Type 0
  IsParsedJson names surroundings c json r =
      (text : List ℕ) × IsStringOf json text × IsParsed names surroundings c text r

  -- the text is one of the requirement; `url_text` is what URLs print
  abbrev pub Prints : (T → Option (List ℕ)) → Contents → Requirement T E → List ℕ → Type 0
  Prints url_text c r text = IsTextOf (truth c r.marker)
      (requirement_text url_text r.name r.extras.items r.version_or_url) text

  -- the text parses back to the requirement, in any surroundings
  abbrev pub ParsesBack : (List ℕ → Surroundings → T → Type 0) → Contents → Requirement T E
      → List ℕ → Type 0
  ParsesBack names c r text =
      ReadsBack names c text r.name r.extras.items r.version_or_url r.marker

  -- this is true if the requirement has neither a URL nor an empty list of specifiers, and its
  -- marker is true everywhere, or readable and true somewhere
  abbrev pub IfReadable : Contents → Requirement T E → Type 0 → Type 0
  IfReadable c r P = IsPlainlyAsked r.version_or_url → IsPrintedTruth (truth c r.marker) → P

  -- this is true of a text of the requirement
  abbrev pub WithRequirementText : (T → Option (List ℕ)) → RequirementView T E
      → (Option (List ℕ) → Type 0) → Type 0
  WithRequirementText url_text view P = WithText (truth view.marker.interner.now view.marker.tree)
      (requirement_text url_text view.name.now view.extras.now view.version_or_url.now) P

module _ {U E : Type 0} where
  -- the same of a requirement without a name
  pub record IsParsedUnnamed (names : List ℕ → Surroundings → U → Type 0)
      (surroundings : Surroundings) (given_text : U → Option (List ℕ)) (c : Contents)
      (text : List ℕ) (r : UnnamedRequirement U E) (kinds : List MarkerWarningKind)
      : Type 0 where
    pub read : IsUnnamedReadAs (urls_in names surroundings) given_text c text r.url
        r.extras.items r.marker kinds
    pub held : IsHeld c r.marker
    pub unknown : r.origin ≡ None

  -- the text is one of the requirement without a name
  abbrev pub PrintsUnnamed : (U → Option (List ℕ)) → Contents → UnnamedRequirement U E → List ℕ
      → Type 0
  PrintsUnnamed url_text c r text =
      IsTextOf (truth c r.marker) (unnamed_text (url_text r.url) r.extras.items) text

  -- this is true of a text of the requirement without a name
  abbrev pub WithUnnamedText : (U → Option (List ℕ)) → UnnamedRequirementView U E
      → (Option (List ℕ) → Type 0) → Type 0
  WithUnnamedText url_text view P = WithText (truth view.marker.interner.now view.marker.tree)
      (unnamed_text (url_text view.url.now) view.extras.now) P

-- a reporter that was told of these kinds before, and of those now, was told of some kinds between,
-- of which this is true
abbrev pub WithAdded : Option (List MarkerWarningKind) → Option (List MarkerWarningKind)
    → (List MarkerWarningKind → Type 0) → Type 0
WithAdded old new P = (kinds : List MarkerWarningKind) × P kinds × Adds old new kinds
