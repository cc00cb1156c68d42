-- Fields that were checked, and fields that are left.
use Rattle.std.proofs.Common.{◌≡◌, ℕ, ◌+◌, ◌<◌, ◌≤◌, length, get_or, drop, List, [], ◌∷◌, ◌++◌, refl, sym, ap, ◌∙◌, subst, append_assoc}
use Rattle.std.specs.Prelude.{Option, None, Some, is_some}
use Rattle.std.specs.Option.{option_map}
use Rattle.std.proofs.lemmas.List.{append-nil, at_drop_all, drop_more}
use Rattle.metadata_files.specs.declared.field.Field.{Field}
use Rattle.requirement_lines.specs.Character.{Character}
use Rattle.requirement_findings.specs.Metadata.{ChecksField, ChecksFields, none, more}
use Rattle.requirement_findings.specs.declared.finding.CheckedText.{CheckedText}
use Rattle.requirement_findings.specs.declared.finding.Finding.{Finding}
use Rattle.requirement_findings.specs.declared.metadata.CheckedField.{CheckedField}

module _ {State : Type 0} (Text : State → List Character → CheckedText → State → Type 0)
    (Finds : List Character → List Finding → Type 0) where
  -- what the fields that are left are checked as follows what was checked
  pub record CheckingFields (first now : State) (fields left : List Field) (checked : List CheckedField) : Type 0 where
    pub goes_on : (others : List CheckedField) (last : State) → ChecksFields Text Finds now left others last → ChecksFields Text Finds first fields (checked ++ others) last

  pub fields_more : {first now next : State} {fields left after : List Field} {checked new : List CheckedField} (one : CheckedField)
      → CheckingFields first now fields left checked → left ≡ one.field ∷ after → ChecksField Text Finds one.field now one.checked next → new ≡ checked ++ (one ∷ []) → CheckingFields first next fields after new
  fields_more {first} {now} {next} {fields} {left} {after} {checked} {new} one before begins checks new_is = record {
    goes_on = λ others last rest.
        let all : ChecksFields Text Finds now left (one ∷ others) last = subst (λ (x : List Field). ChecksFields Text Finds now x (one ∷ others) last) (sym begins) (more checks rest) in
        subst (λ (x : List CheckedField). ChecksFields Text Finds first fields x last) (sym (append_assoc checked (one ∷ []) others) ∙ ap (λ (x : List CheckedField). x ++ others) (sym new_is)) (before.goes_on (one ∷ others) last all);
  }

  pub fields_ended : {first now : State} {fields left : List Field} {checked : List CheckedField} → CheckingFields first now fields left checked → left ≡ [] → ChecksFields Text Finds first fields checked now
  fields_ended {first} {now} {fields} {left} {checked} before ended =
      subst (λ (x : List CheckedField). ChecksFields Text Finds first fields x now) (append-nil checked) (before.goes_on [] now (subst (λ (x : List Field). ChecksFields Text Finds now x [] now) (sym ended) none))

-- a list without its first ones
pub fields_begin : (fields : List Field) (index : ℕ) (field : Field) → index < length fields → get_or fields index field ≡ field → drop index fields ≡ field ∷ drop (index + 1) fields
fields_begin fields index field lt is = drop_more fields index field lt ∙ ap (λ (x : Field). x ∷ drop (index + 1) fields) is

pub fields_none_left : (fields : List Field) (index : ℕ) → length fields ≤ index → drop index fields ≡ []
fields_none_left fields index le = at_drop_all (λ (x : List Field). x) fields index le

pub is_some-map : {A B : Type 0} (f : A → B) (o : Option A) → is_some o ≡ is_some (option_map f o)
is_some-map f None = refl
is_some-map f (Some x) = refl
