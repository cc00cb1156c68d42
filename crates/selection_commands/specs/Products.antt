-- Pairs of the values of two lists.
use Rattle.std.specs.Prelude.{List, map}
use Rattle.std.specs.List.{flat_map}

-- the value with each value of the list
abbrev pub pairs_with : {A B : Type 0} → A → List B → List (A × B)
pairs_with one second = map (λ other. (one, other)) second

-- each value of the first list with each of the second one
abbrev pub pairs_of : {A B : Type 0} → List A → List B → List (A × B)
pairs_of first second = flat_map (λ one. pairs_with one second) first
