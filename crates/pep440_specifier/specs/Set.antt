-- Sets of specifiers (PEP 440, "Version specifiers"; their order is this project's own).
use Rattle.std.specs.Prelude.{ℕ, Bool, List, [], ◌∷◌, ◌++◌, codes}
use Rattle.std.specs.List.{All, flat_map}
use Rattle.std.specs.List.Sorted.{IsSortedBy}
use Rattle.std.specs.Ordering.{is_lt}
use Rattle.pep440_version.specs.Order.{version_cmp}
use Rattle.pep440_specifier.specs.Specifier.{IsWellFormed, Specifier}
use Rattle.pep440_specifier.specs.Text.{specifier_text}

-- the version of the first is lower
abbrev pub is_lower : Specifier → Specifier → Bool
is_lower a b = is_lt (version_cmp a.version b.version)

-- what each set keeps: it is sorted by version, and each specifier is well formed
pub record IsSet (set : List Specifier) : Type 0 where
  pub sorted : IsSortedBy is_lower set
  pub each : All IsWellFormed set

-- specifiers, each after a comma and a space
abbrev pub later_specifier : Specifier → List ℕ
later_specifier s = codes ", " ++ specifier_text s

abbrev pub later_text : List Specifier → List ℕ
later_text set = flat_map later_specifier set

-- specifiers with a comma and a space between each two
abbrev pub set_text : List Specifier → List ℕ
set_text [] = []
set_text (s ∷ others) = specifier_text s ++ later_text others
