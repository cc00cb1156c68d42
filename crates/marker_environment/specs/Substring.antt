-- Parts of a text.
use Rattle.std.specs.Prelude.{ℕ, Bool, true, false, ◌&&◌, ◌||◌, ◌==◌, List, [], ◌∷◌}

abbrev pub begins_with : List ℕ → List ℕ → Bool
begins_with [] text = true
begins_with (c ∷ front) [] = false
begins_with (c ∷ front) (d ∷ text) = c == d && begins_with front text

-- whether the first text is a substring of the second
abbrev pub is_part_of : List ℕ → List ℕ → Bool
is_part_of part [] = begins_with part []
is_part_of part (c ∷ text) = begins_with part (c ∷ text) || is_part_of part text
