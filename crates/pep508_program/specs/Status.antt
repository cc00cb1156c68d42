-- What the status of a command depends on.
use Rattle.std.specs.Prelude.{◌≡◌, ◌<◌, ◌≤◌, ◌⊎◌, ◌↔◌, Bool, IsTrue}
use Rattle.pep508_program.specs.declared.totals.Tally.{Tally}
use Rattle.pep508_program.specs.declared.totals.Ending.{Ending}
use Rattle.pep508_program.specs.declared.totals.Finish.{Finish}
use Rattle.pep508_program.specs.declared.totals.Ending.TheVariants.{OutOfMemory, WriteFailed}

-- a file could not be read, memory ran out, or the output could not be written
abbrev pub HasFailed : Tally → Ending → Type 0
HasFailed tally ending =
    (0 < tally.failures) ⊎ ((ending ≡ OutOfMemory) ⊎ (ending ≡ WriteFailed))

-- nothing failed, and there are errors, or warnings that count as such
abbrev pub HasFindings : Tally → Ending → Bool → Type 0
HasFindings tally ending is_strict = (¬ (HasFailed tally ending))
    × ((0 < tally.errors) ⊎ (IsTrue is_strict × (0 < tally.warnings)))

-- the status is 2 if the command failed, 1 if there are findings, and else 0
pub record IsFinished (is_strict : Bool) (finish : Finish) : Type 0 where
  pub failed : (finish.status ≡ 2) ↔ HasFailed finish.tally finish.ending
  pub found : (finish.status ≡ 1) ↔ HasFindings finish.tally finish.ending is_strict
  pub at_most_two : finish.status ≤ 2
