-- A table as text in columns and as comma-separated values.
use Rattle.std.specs.Prelude.{◌≡◌, ℕ, ◌-◌, max, false, List, [], ◌∷◌, ◌++◌, map, replicate, drop, slice_index, Option, Some, codes, chars, string_bytes, Vec}
use Rattle.std.specs.Borrow.{Bor}
use Rattle.std.specs.List.{flat_map, fold}
use Rattle.std.specs.declared.alloc.Global.{Global}
use Rattle.csv.specs.Writing.{default_writer, fields_written, has_written, row_text, text_written, writer_setup}
use Rattle.csv.specs.declared.writer.Writer.{Writer}
use Rattle.unicode_width.specs.Width.{str_width}
use Rattle.selection_commands.specs.Cells.{cells_in, shown_in, title_of}
use Rattle.selection_commands.specs.Objects.{objects}
use Rattle.selection_commands.specs.declared.arguments.TableFormat.{TableFormat}
use Rattle.selection_commands.specs.declared.arguments.TableFormat.TheVariants.{Text, Json, Csv}
use Rattle.selection_commands.specs.declared.columns.Column.{Column}
use Rattle.selection_commands.specs.declared.tabulator.Row.{Row}

-- how many columns of a terminal a text takes
abbrev pub width_of : List ℕ → ℕ
width_of text = str_width false (chars text)

-- the first column is as wide as its title and the requirements
abbrev pub first_width : List Row → ℕ
first_width rows = fold (λ width row. max width (width_of (string_bytes row.requirement)))
    (width_of (codes "requirement")) rows

-- each other column is as wide as its title and `yes`
abbrev pub widths_under : List (List ℕ) → List Row → List ℕ
widths_under titles rows = first_width rows ∷ map (λ title. max (width_of title) 3) titles

-- a cell, spaces up to the width of its column, and two more
abbrev pub padded : List ℕ → ℕ → List ℕ
padded cell width = cell ++ replicate (width - width_of cell) 32 ++ codes "  "

-- cells in columns of these widths; nothing follows the last one
abbrev pub line_of : List (List ℕ) → List ℕ → List ℕ
line_of [] widths = []
line_of (cell ∷ []) widths = cell
line_of (cell ∷ next ∷ more) widths =
    padded cell (slice_index widths 0) ++ line_of (next ∷ more) (drop 1 widths)

abbrev pub full_line : List (List ℕ) → List ℕ → List ℕ
full_line cells widths = line_of cells widths ++ codes "\n"

-- the table in columns
abbrev pub aligned : List (List ℕ) → List Row → List ℕ
aligned titles rows =
    flat_map (λ cells. full_line cells (widths_under titles rows)) (cells_in titles rows)

-- the table as comma-separated values, a record for each row
abbrev pub comma_separated : List (List ℕ) → List Row → List ℕ
comma_separated titles rows = flat_map (row_text default_writer) (cells_in titles rows)

-- the text is that of the table
abbrev pub IsTableText : TableFormat → List Column → List Row → List ℕ → Type 0
IsTableText Text columns rows text = text ≡ aligned (map title_of columns) rows
IsTableText Csv columns rows text = text ≡ comma_separated (map title_of columns) rows
IsTableText Json columns rows text = text ≡ objects columns rows

-- The writer has written this, whole records with nothing after them.
pub record HasRecords {W : Type 0} (contents : W → Option (List ℕ)) (writer : Writer W)
    (text : List ℕ) : Type 0 where
  pub setup : writer_setup writer ≡ default_writer
  pub fields : fields_written writer ≡ 0
  pub wrote : has_written writer ≡ false
  pub bytes : text_written contents writer ≡ Some text

-- a record with these fields is written after the others
abbrev pub AddsRecord : {W : Type 0} → (W → Option (List ℕ)) → List (List ℕ) → Writer W → Writer W
    → Type 0
AddsRecord contents fields old new = (text : List ℕ) → HasRecords contents old text
    → HasRecords contents new (text ++ row_text default_writer fields)

-- the same of a list of bytes
abbrev pub AddsRow : List (Bor (List ℕ)) → Writer (Vec ℕ Global) → Writer (Vec ℕ Global) → Type 0
AddsRow cells = AddsRecord (λ out. Some out.items) (shown_in cells)
