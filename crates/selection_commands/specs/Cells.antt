-- The cells of a table.
use Rattle.std.specs.Prelude.{ℕ, List, [], ◌∷◌, ◌++◌, map, Option, None, Some, option_copied, String, codes, string_bytes}
use Rattle.std.specs.Borrow.{Bor}
use Rattle.std.specs.declared.alloc.Global.{Global}
use Rattle.selection_commands.specs.Truth.{cell_text}
use Rattle.selection_commands.specs.declared.columns.Column.{Column}
use Rattle.selection_commands.specs.declared.tabulator.Row.{Row}

abbrev pub title_with : Option (List ℕ) → Option (List ℕ) → List ℕ
title_with None None = []
title_with None (Some platform) = platform
title_with (Some python) None = python
title_with (Some python) (Some platform) = python ++ (codes " " ++ platform)

-- the title of a column, such as `3.12 linux`
abbrev pub title_of : Column → List ℕ
title_of column = title_with (option_copied column.python) (option_copied column.platform)

-- the texts of strings, and of borrowed ones
abbrev pub texts_in : List (String Global) → List (List ℕ)
texts_in strings = map string_bytes strings

abbrev pub shown_in : List (Bor (List ℕ)) → List (List ℕ)
shown_in texts = map (λ text. text.now) texts

-- the cells of a row: the requirement, and then `yes`, `no` or `?` for each environment
abbrev pub cells_of : Row → List (List ℕ)
cells_of row = string_bytes row.requirement ∷ map cell_text row.truths.items

-- the cells of a table: the titles, and a row for each requirement
abbrev pub cells_in : List (List ℕ) → List Row → List (List (List ℕ))
cells_in titles rows = (codes "requirement" ∷ titles) ∷ map cells_of rows
