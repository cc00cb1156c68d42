-- What the options of a caller say.
use Rattle.std.specs.Prelude.{◌≡◌, ℕ, List, [], ◌∷◌, Option, Some, None}
use Rattle.std.specs.Option.{option_map}
use Rattle.std.specs.BTreeMap.{IsEmpty}
use Rattle.pep508_errors.specs.declared.surroundings.Surroundings.{Surroundings}
use Rattle.foreign_calls.specs.declared.options.Options.{Options}

-- the text of the folder, which is empty without options
abbrev pub folder_of : List Options → List ℕ
folder_of [] = []
folder_of (options ∷ others) = options.working_folder.now

-- the folder that relative paths start from
abbrev pub working_folder : List ℕ → Option (List ℕ)
working_folder [] = None
working_folder (c ∷ path) = Some (c ∷ path)

-- no variable is known, `PROJECT_ROOT` stands for the folder, and relative paths start from it
pub record AreIn (folder : List ℕ) (s : Surroundings) : Type 0 where
  pub variables : IsEmpty s.vars.now
  pub project : s.project_root.now ≡ folder
  pub working : option_map (λ path. path.now) s.working_dir ≡ working_folder folder
