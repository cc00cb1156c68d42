-- Requirements of a file in their normal texts.
use Rattle.std.specs.Prelude.{◌≡◌, ℕ, List, [], Option, Some, option_copied, IfSome}
use Rattle.pep508_errors.specs.declared.surroundings.Surroundings.{Surroundings}
use Rattle.formatting_commands.specs.Finding.{EditsFile}
use Rattle.formatting_commands.specs.declared.applying.Edit.{Edit}
use Rattle.formatting_commands.specs.Same.{IsSameText}
use Rattle.formatting_commands.specs.declared.formatting.Formatted.{Formatted}
use Rattle.formatting_commands.specs.declared.formatting.FormatSettings.{FormatSettings}
use Rattle.formatting_commands.specs.declared.formatter.Formatter.{Formatter}

-- no variable has a value, and paths start from the folder
pub record StartsFrom (folder : List ℕ) (surroundings : Surroundings) : Type 0 where
  pub no_variables : surroundings.vars.now.entries ≡ []
  pub root : surroundings.project_root.now ≡ folder
  pub start : option_copied surroundings.working_dir ≡ Some folder

-- there the texts are the same requirement
pub record IsSameFrom (folder old new : List ℕ) : Type 0 where
  pub surroundings : Surroundings
  pub starts : StartsFrom folder surroundings
  pub same : IsSameText surroundings old new

-- A formatter has no answer for a requirement, or a text of the same one. It does not change.
pub record IsAnswer (old : Formatter) (text : List ℕ) (answer : Option (List ℕ))
    (new : Formatter) : Type 0 where
  pub same : IfSome answer (IsSameFrom old.settings.folder.now text)
  pub unchanged : new ≡ old

-- Edits of a file, one by one and in the order of its lines: each puts another text of the same
-- requirement in place of one.
pub record Formats (settings : FormatSettings) (file : List ℕ) (edits : List Edit) : Type 0 where
  pub formatter : Formatter
  pub last : Formatter
  pub settings_are : formatter.settings ≡ settings
  pub edited : EditsFile IsAnswer file formatter edits last

-- the same of what a file was formatted to
abbrev pub IsFormatted : FormatSettings → List ℕ → Formatted → Type 0
IsFormatted settings file done = Formats settings file done.edits.items
