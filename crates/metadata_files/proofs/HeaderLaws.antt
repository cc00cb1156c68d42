-- Headers that were read, and lines that are left.
use Rattle.std.proofs.Common.{◌≡◌, List, [], ◌∷◌, ◌++◌, sym, ap, ◌∙◌, subst, append_assoc}
use Rattle.std.specs.Prelude.{map, Option, None, Some, true, false}
use Rattle.std.proofs.lemmas.List.{append-nil, map-append}
use Rattle.requirement_lines.specs.Character.{Character}
use Rattle.requirement_lines.specs.Reports.{text_of}
use Rattle.metadata_files.specs.Fields.{IsKind}
use Rattle.metadata_files.specs.Headers.{after_name, is_empty, name_of, trimmed, Entry, entry_of, AreHeaders, ended, empty, stray, header}
use Rattle.metadata_files.specs.declared.field.Field.{Field}

-- the entries of the lines that are left follow those that were read
pub record Reading (lines left : List (List Character)) (read : List Entry) : Type 0 where
  pub goes_on : (others : List Entry) (last : Option (List Character)) → AreHeaders left others last → AreHeaders lines (read ++ others) last

-- one more header
pub reading_more : {lines left after : List (List Character)} {line text : List Character} (fields new : List Field) (field : Field)
    → Reading lines left (map entry_of fields) → left ≡ line ∷ after → after_name line ≡ Some text
    → IsKind (text_of (name_of line)) field.kind → entry_of field ≡ record { kind = field.kind; name = name_of line; value = trimmed text }
    → new ≡ fields ++ (field ∷ []) → Reading lines after (map entry_of new)
reading_more {lines} {left} {after} {line} {text} fields new field before first follows kind is new_is = record {
  goes_on = λ others last are.
      let one : AreHeaders (line ∷ after) (entry_of field ∷ others) last = subst (λ (e : Entry). AreHeaders (line ∷ after) (e ∷ others) last) (sym is) (header follows kind are) in
      let all : map entry_of fields ++ (entry_of field ∷ others) ≡ map entry_of new ++ others = sym (append_assoc (map entry_of fields) (entry_of field ∷ []) others) ∙ ap (λ (x : List Entry). x ++ others) (sym (map-append entry_of fields (field ∷ [])) ∙ ap (map entry_of) (sym new_is)) in
      subst (λ (x : List Entry). AreHeaders lines x last) all (before.goes_on (entry_of field ∷ others) last (subst (λ x. AreHeaders x (entry_of field ∷ others) last) (sym first) one));
}

finished : {lines left : List (List Character)} {read : List Entry} {last : Option (List Character)} → Reading lines left read → AreHeaders left [] last → AreHeaders lines read last
finished {lines} {left} {read} {last} r are = subst (λ (x : List Entry). AreHeaders lines x last) (append-nil read) (r.goes_on [] last are)

pub reading_ended : {lines left : List (List Character)} {read : List Entry} → Reading lines left read → left ≡ [] → AreHeaders lines read None
reading_ended r none = finished r (subst (λ x. AreHeaders x [] None) (sym none) ended)

pub reading_empty : {lines left after : List (List Character)} {line : List Character} {read : List Entry} → Reading lines left read → left ≡ line ∷ after → is_empty line ≡ true → AreHeaders lines read None
reading_empty r first none = finished r (subst (λ x. AreHeaders x [] None) (sym first) (empty none))

pub reading_stray : {lines left after : List (List Character)} {line : List Character} {read : List Entry} → Reading lines left read → left ≡ line ∷ after → is_empty line ≡ false → after_name line ≡ None → AreHeaders lines read (Some line)
reading_stray {line = line} r first some none = finished r (subst (λ x. AreHeaders x [] (Some line)) (sym first) (stray some none))
