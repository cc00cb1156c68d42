-- Requirements in a text, and the edits of lines one after another.
use Rattle.std.proofs.Common.{◌≡◌, ℕ, ◌-◌, List, [], ◌∷◌, ◌++◌, length, sym, ap, ◌∙◌, subst, append_assoc, arith, length-append}
use Rattle.std.proofs.lemmas.List.{append-nil}
use Rattle.std.specs.Prelude.{Option}
use Rattle.pep508_text.specs.Suffix.{IsSuffix}
use Rattle.requirement_lines.specs.Character.{Character, characters}
use Rattle.requirement_lines.specs.Logical.{logical_lines}
use Rattle.formatting_commands.specs.Finding.{EditsLine, EditsLines, none, more}
use Rattle.formatting_commands.specs.declared.applying.Edit.{Edit}

-- a part of the front of a text
pub part_of_text : (text block rest front part back : List ℕ) → text ≡ block ++ rest → block ≡ front ++ (part ++ back) → text ≡ front ++ (part ++ (back ++ rest))
part_of_text text block rest front part back whole parts =
    whole ∙ ap (λ (x : List ℕ). x ++ rest) parts ∙ append_assoc front (part ++ back) rest ∙ ap (λ (x : List ℕ). front ++ x) (append_assoc part back rest)

-- how many bytes follow a front of the text, and the part after it
pub left_after_front : (text front rest : List ℕ) → text ≡ front ++ rest → length text - length front ≡ length rest
left_after_front text front rest e = omega (arith, ap length e, length-append front rest)

pub left_after_part : (text front part rest : List ℕ) → text ≡ front ++ (part ++ rest) → length text - length front - length part ≡ length rest
left_after_part text front part rest e = omega (arith, ap length e, length-append front (part ++ rest), length-append part rest)

module _ {State : Type 0} (Answers : State → List ℕ → Option (List ℕ) → State → Type 0) (size : ℕ) where
  -- what is edited in the lines that are left follows what was edited
  pub record Editing (first now : State) (text left : List ℕ) (done : List Edit) : Type 0 where
    pub goes_on : (edits : List Edit) (last : State) → EditsLines Answers size now left edits last → EditsLines Answers size first text (done ++ edits) last

  pub editing_more : {first now next : State} {text left after : List ℕ} {done new : List Edit} (line : List Character) (one : List Edit)
      → Editing first now text left done → IsSuffix left after → logical_lines (characters left) ≡ line ∷ logical_lines (characters after)
      → EditsLine Answers size line left after now one next → new ≡ done ++ one → Editing first next text after new
  editing_more {first} {now} {next} {text} {left} {after} {done} {new} line one e suffix lines edits new_is = record {
    goes_on = λ others last rest.
        subst (λ (x : List Edit). EditsLines Answers size first text x last) (sym (append_assoc done one others) ∙ ap (λ (x : List Edit). x ++ others) (sym new_is))
        (e.goes_on (one ++ others) last (more suffix lines edits rest));
  }

  pub editing_ended : {first now : State} {text left : List ℕ} {done : List Edit} → Editing first now text left done → logical_lines (characters left) ≡ [] → EditsLines Answers size first text done now
  editing_ended {first} {now} {text} {left} {done} e ended =
      subst (λ (x : List Edit). EditsLines Answers size first text x now) (append-nil done) (e.goes_on [] now (none ended))
