-- How many looks a walk may take.
use Rattle.std.specs.Prelude.{◌≡◌, ◌+◌, ℕ, None, Some}
use Rattle.marker_walks.specs.declared.looks.Looks.{Looks}

-- it may take as many as it needs
abbrev pub AreUnbounded : Looks → Type 0
AreUnbounded looks = looks.left ≡ None

-- if the looks are limited, they are split into those set aside and those that are left
abbrev pub IsSplit : Looks → Looks → Looks → Type 0
IsSplit looks aside left = (n : ℕ) → looks.left ≡ Some n → (k m : ℕ) × (aside.left ≡ Some k)
    × (left.left ≡ Some m) × (k + m ≡ n)
