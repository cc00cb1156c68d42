-- What a reporter was told while a requirement was parsed.
use Rattle.std.specs.Prelude.{ℕ, List, Option, Result}
use Rattle.refusal.specs.declared.Refusal.{Refusal}
use Rattle.pep508_errors.specs.declared.error.Pep508Error.{Pep508Error}
use Rattle.pep508_errors.specs.declared.surroundings.Surroundings.{Surroundings}
use Rattle.pep508_errors.specs.declared.warning.MarkerWarningKind.{MarkerWarningKind}
use Rattle.marker_graph.specs.Contents.{Contents}
use Rattle.pep508_markers.specs.Text.{TellsReporter}
use Rattle.pep508_requirements.specs.Requirement.{IsMarkedBy, urls_in}
use Rattle.pep508_requirements.specs.Unnamed.{IsUnnamedMarkedBy}
use Rattle.pep508_requirements.specs.Whole.{IsParsedUnnamed, ReadAs, WithAdded}
use Rattle.pep508_requirements.specs.declared.requirement.Requirement.{Requirement}
use Rattle.pep508_requirements.specs.declared.unnamed.UnnamedRequirement.{UnnamedRequirement}

abbrev Kinds : Type 0
Kinds = List MarkerWarningKind

-- over the kinds that were reported, and a reporter before and after
module _ {R T E : Type 0} (reported : R → Option Kinds) (old new : R) where
  -- the text is read as the requirement, and the kinds of its warnings were reported
  abbrev pub ReportsRead : (List ℕ → Surroundings → T → Type 0) → Surroundings → Contents → List ℕ
      → Requirement T E → Type 0
  ReportsRead names surroundings c text r =
      WithAdded (reported old) (reported new) (ReadAs names surroundings c text r)

  -- the same of a requirement without a name
  abbrev pub ReportsUnnamed : (List ℕ → Surroundings → T → Type 0) → Surroundings
      → (T → Option (List ℕ)) → Contents → List ℕ → UnnamedRequirement T E → Type 0
  ReportsUnnamed names surroundings given_text c text r = WithAdded (reported old) (reported new)
      (IsParsedUnnamed names surroundings given_text c text r)

-- over whether a reporter can report
module _ {R T E A : Type 0} (can_report : R → Type 0) (reported : R → Option Kinds) (old new : R)
  where
    -- what a reporter was told if the text was refused as a requirement
    abbrev pub TellsOfRead : (List ℕ → Surroundings → T → Type 0) → Surroundings → List ℕ
        → Result A (Refusal (Pep508Error T E)) → Type 0
    TellsOfRead names surroundings =
        TellsReporter can_report reported old new (IsMarkedBy E (urls_in names surroundings))

    -- the same of a requirement without a name
    abbrev pub TellsOfUnnamed : (List ℕ → Surroundings → T → Type 0) → Surroundings → List ℕ
        → Result A (Refusal (Pep508Error T E)) → Type 0
    TellsOfUnnamed names surroundings =
        TellsReporter can_report reported old new (IsUnnamedMarkedBy (urls_in names surroundings))
