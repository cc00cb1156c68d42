-- The kind of a file, by its name.
use Rattle.std.specs.Prelude.{ℕ, List, codes, bytes_eq, ◌||◌, if◌then◌else◌}
use Rattle.pep508_program.specs.declared.kinds.FileKind.{FileKind}
use Rattle.pep508_program.specs.declared.kinds.FileKind.TheVariants.{Requirements, Metadata, Project}

abbrev pub kind_of : List ℕ → FileKind
kind_of name =
    if bytes_eq name (codes "METADATA") || bytes_eq name (codes "PKG-INFO") then Metadata
    else if bytes_eq name (codes "pyproject.toml") then Project
    else Requirements
