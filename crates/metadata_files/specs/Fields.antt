-- The kinds of fields, by their names, in which case does not matter.
use Rattle.std.specs.Prelude.{◌≡◌, ◌≢◌, ℕ, List, codes, map}
use Rattle.std.specs.Char.{to_ascii_lowercase}
use Rattle.metadata_files.specs.declared.field.FieldKind.{FieldKind}
use Rattle.metadata_files.specs.declared.field.FieldKind.TheVariants.{Name, RequiresPython, RequiresDist, ProvidesExtra, Other}

abbrev pub lowercase : List ℕ → List ℕ
lowercase name = map to_ascii_lowercase name

-- a field of this name is of this kind
abbrev pub IsKind : List ℕ → FieldKind → Type 0
IsKind name Name = lowercase name ≡ codes "name"
IsKind name RequiresPython = lowercase name ≡ codes "requires-python"
IsKind name RequiresDist = lowercase name ≡ codes "requires-dist"
IsKind name ProvidesExtra = lowercase name ≡ codes "provides-extra"
IsKind name Other = (lowercase name ≢ codes "name") × (lowercase name ≢ codes "requires-python")
    × (lowercase name ≢ codes "requires-dist") × (lowercase name ≢ codes "provides-extra")
