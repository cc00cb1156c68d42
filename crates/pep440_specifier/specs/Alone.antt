-- Whether a version has only an epoch and a release, as a test.
use Rattle.std.specs.Prelude.{◌&&◌, Bool, true, false, List, [], ◌∷◌, Option, None, Some}
use Rattle.pep440_version.specs.Parts.{Parts}

abbrev pub is_none : {T : Type 0} → Option T → Bool
is_none None = true
is_none (Some x) = false

abbrev pub is_empty : {T : Type 0} → List T → Bool
is_empty [] = true
is_empty (x ∷ xs) = false

abbrev pub is_alone : Parts → Bool
is_alone v = is_none v.pre && (is_none v.post && (is_none v.dev && is_empty v.locals))
