-- The kinds of the warnings that a reporter has taken, in order; None if it does not show them, and
-- then nothing is promised of them.
use Rattle.std.specs.Prelude.{◌≡◌, List, ◌++◌, Option, Some, IfSome}
use Rattle.pep508_errors.specs.declared.warning.MarkerWarningKind.{MarkerWarningKind}

-- these kinds were appended
abbrev pub Adds :
    Option (List MarkerWarningKind) → Option (List MarkerWarningKind)
    → List MarkerWarningKind → Type 0
Adds before after kinds = IfSome before (λ told. after ≡ Some (told ++ kinds))

-- the kinds are the same
abbrev pub Keeps : Option (List MarkerWarningKind) → Option (List MarkerWarningKind) → Type 0
Keeps before after = IfSome before (λ told. after ≡ Some told)
