-- Where a requirement comes from.
use Rattle.std.specs.Prelude.{ℕ, List, codes, string_bytes}
use Rattle.pep508_requirements.specs.declared.origin.RequirementOrigin.{RequirementOrigin}
use Rattle.pep508_requirements.specs.declared.origin.RequirementOrigin.TheVariants.{File, Project, Workspace}

-- the path of its file
abbrev pub path_of : RequirementOrigin → List ℕ
path_of (File path) = string_bytes path
path_of (Project path name) = string_bytes path
path_of Workspace = codes "(workspace)"
