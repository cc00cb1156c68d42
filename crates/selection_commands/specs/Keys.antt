-- Keys on which a truth depends in a target.
use Rattle.std.specs.Prelude.{Bool, All, List}
use Rattle.marker_environment.specs.Valuation.{Valuation}
use Rattle.marker_parts.specs.Expression.{Test}
use Rattle.marker_walks.specs.declared.keys.EnvironmentKey.{EnvironmentKey}
use Rattle.marker_answers.specs.Evaluation.{DependsUnder}
use Rattle.marker_answers.specs.Known.{IsFact}
use Rattle.selection_commands.specs.declared.target.Target.{Target}

-- the truth depends on each of the keys where some comparisons hold, which do in the target
abbrev pub AreOpen : Target → (Valuation → Bool) → List EnvironmentKey → Type 0
AreOpen target f keys = (tests : List Test)
    × All (IsFact target.known target.extras.items) tests × All (DependsUnder tests f) keys
