-- Lines that were checked, and lines that are left.
use Rattle.std.proofs.Common.{◌≡◌, List, [], ◌∷◌, ◌++◌, sym, ap, ◌∙◌, subst, append_assoc}
use Rattle.std.proofs.lemmas.List.{append-nil}
use Rattle.requirement_lines.specs.Character.{Character}
use Rattle.requirement_findings.specs.Checks.{ChecksAll, none, more}
use Rattle.requirement_findings.specs.declared.finding.CheckedLine.{CheckedLine}

module _ {State : Type 0} (Checks : State → List Character → CheckedLine → State → Type 0) where
  -- what the lines that are left are checked as follows what was checked
  pub record Checking (first now : State) (lines left : List (List Character)) (checked : List CheckedLine) : Type 0 where
    pub goes_on : (others : List CheckedLine) (last : State) → ChecksAll Checks now left others last → ChecksAll Checks first lines (checked ++ others) last

  pub checking_none : (state : State) (lines : List (List Character)) → Checking state state lines lines []
  checking_none state lines = record { goes_on = λ others last checks. checks }

  pub checking_more : {first now next : State} {lines left : List (List Character)} {checked new : List CheckedLine} (line : List Character) (one : CheckedLine)
      → Checking first now lines (line ∷ left) checked → Checks now line one next → new ≡ checked ++ (one ∷ []) → Checking first next lines left new
  checking_more {first} {now} {next} {lines} {left} {checked} {new} line one before checks new_is = record {
    goes_on = λ others last rest.
        subst (λ (x : List CheckedLine). ChecksAll Checks first lines x last) (sym (append_assoc checked (one ∷ []) others) ∙ ap (λ (x : List CheckedLine). x ++ others) (sym new_is)) (before.goes_on (one ∷ others) last (more checks rest));
  }

  pub checking_ended : {first now : State} {lines left : List (List Character)} {checked : List CheckedLine} → Checking first now lines left checked → left ≡ [] → ChecksAll Checks first lines checked now
  checking_ended {first} {now} {lines} {left} {checked} before ended =
      subst (λ (x : List CheckedLine). ChecksAll Checks first lines x now) (append-nil checked) (before.goes_on [] now (subst (λ x. ChecksAll Checks now x [] now) (sym ended) none))
