-- How the lines of a file are checked: one by one and in their order, by a checker who says what a
-- line is checked as.
use Rattle.std.specs.Prelude.{ℕ, List, [], ◌∷◌, String, Vec}
use Rattle.std.specs.BTreeMap.{BTreeMap}
use Rattle.std.specs.declared.alloc.Global.{Global}
use Rattle.requirement_lines.specs.Character.{Character}
use Rattle.requirement_lines.specs.Variables.{value_of, replaced_lines}
use Rattle.requirement_findings.specs.declared.finding.CheckedLine.{CheckedLine}

module _ {State : Type 0} (Checks : State → List Character → CheckedLine → State → Type 0) where
  -- from the state `old` the lines are checked so, none left out and none invented, and the state
  -- is `new` then
  pub data ChecksAll : State → List (List Character) → List CheckedLine → State → Type 0 where
    none : {state : State} → ChecksAll state [] [] state
    more : {old middle new : State} {line : List Character} {lines : List (List Character)}
        {first : CheckedLine} {others : List CheckedLine}
        → Checks old line first middle → ChecksAll middle lines others new
        → ChecksAll old (line ∷ lines) (first ∷ others) new

  -- the same of the lines of a file, with the values of a table in place of variables
  abbrev pub ChecksFile : {A : Type 0} → State → State → BTreeMap (String A) (String A) → List ℕ
      → Vec CheckedLine Global → Type 0
  ChecksFile old new variables file checked =
      ChecksAll old (replaced_lines (value_of variables) file) checked.items new
