-- How the metadata of a package is checked: field by field and in their order, by a checker who
-- says what a requirement is checked as, and what is found in version specifiers.
use Rattle.std.specs.Prelude.{◌≡◌, ◌⊎◌, ℕ, Bool, List, [], ◌∷◌, map, Option, is_some}
use Rattle.metadata_files.specs.Headers.{entry_of, AreHeaders}
use Rattle.metadata_files.specs.Lines.{folded_lines}
use Rattle.metadata_files.specs.declared.field.Field.{Field}
use Rattle.metadata_files.specs.declared.field.FieldKind.{FieldKind}
use Rattle.metadata_files.specs.declared.field.FieldKind.TheVariants as kinds
use Rattle.pep508_names.specs.Name.{IsName}
use Rattle.requirement_lines.specs.Character.{Character, characters}
use Rattle.requirement_lines.specs.Pieces.{characters_of}
use Rattle.requirement_findings.specs.declared.finding.CheckedText.{CheckedText}
use Rattle.requirement_findings.specs.declared.finding.Finding.{Finding}
use Rattle.requirement_findings.specs.declared.metadata.CheckedField.{CheckedField}
use Rattle.requirement_findings.specs.declared.metadata.CheckedMetadata.{CheckedMetadata}
use Rattle.requirement_findings.specs.declared.name.FindingName.{FindingName}
use Rattle.requirement_findings.specs.declared.name.FindingName.TheVariants.{InvalidName, RepeatedExtra, RepeatedField}

-- there is one finding, of this name
abbrev pub IsOnly : FindingName → List Finding → Type 0
IsOnly name findings = map (λ (finding : Finding). finding.name) findings ≡ name ∷ []

-- an invalid name is a finding
abbrev pub FindsInName : List ℕ → List Finding → Type 0
FindsInName text findings =
    ((findings ≡ []) × IsName text) ⊎ (IsOnly InvalidName findings × ¬ IsName text)

-- so is the name of an extra that is there already
abbrev pub FindsInExtra : List ℕ → List Finding → Type 0
FindsInExtra text findings = FindsInName text findings ⊎ IsOnly RepeatedExtra findings

module _ {State : Type 0} (Text : State → List Character → CheckedText → State → Type 0)
    (Finds : List Character → List Finding → Type 0) where
  -- In the state `old` a field of this kind is checked so, and the state is `new` then. A second
  -- name of the package is only reported, and so are second versions of Python.
  abbrev pub ChecksKind : FieldKind → Field → State → CheckedText → State → Type 0
  ChecksKind kinds.RequiresDist field old checked new =
      Text old (characters_of field.value) checked new
  ChecksKind kinds.RequiresPython field old checked new = (new ≡ old)
      × (Finds (characters_of field.value) checked.findings.items
      ⊎ IsOnly RepeatedField checked.findings.items)
  ChecksKind kinds.Name field old checked new = (new ≡ old)
      × (FindsInName field.value.text.now checked.findings.items
      ⊎ IsOnly RepeatedField checked.findings.items)
  ChecksKind kinds.ProvidesExtra field old checked new =
      (new ≡ old) × FindsInExtra field.value.text.now checked.findings.items
  ChecksKind kinds.Other field old checked new = (new ≡ old) × (checked.findings.items ≡ [])

  abbrev pub ChecksField : Field → State → CheckedText → State → Type 0
  ChecksField field = ChecksKind field.kind field

  -- from the state `old` the fields are checked so, none left out and none invented, and the state
  -- is `new` then
  pub data ChecksFields : State → List Field → List CheckedField → State → Type 0 where
    none : {state : State} → ChecksFields state [] [] state
    more : {old middle new : State} {first : CheckedField} {fields : List Field}
        {others : List CheckedField}
        → ChecksField first.field old first.checked middle → ChecksFields middle fields others new
        → ChecksFields old (first.field ∷ fields) (first ∷ others) new

  -- the fields of the headers of the file are checked, and a line that ends them is a finding
  pub record ChecksMetadata (file : List ℕ) (old : State) (checked : CheckedMetadata) (new : State)
      : Type 0 where
    pub fields : List Field
    pub last : Option (List Character)
    pub headers : AreHeaders (folded_lines (characters file)) (map entry_of fields) last
    pub each : ChecksFields old fields checked.fields.items new
    pub stray : is_some checked.stray ≡ is_some last
