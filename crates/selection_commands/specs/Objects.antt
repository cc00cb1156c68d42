-- A table as JSON: an object for each row.
use Rattle.std.specs.Prelude.{ℕ, true, false, List, ◌++◌, map, Option, None, Some, option_copied, option_map, codes, string_bytes}
use Rattle.std.specs.List.{flat_map, zip}
use Rattle.serde_json.specs.Data.{Data, null, boolean, string, array, object, no_members, member}
use Rattle.serde_json.specs.View.{items_of}
use Rattle.serde_json.specs.Written.{compact_text}
use Rattle.selection_commands.specs.declared.truth.Truth.{Truth}
use Rattle.selection_commands.specs.declared.truth.Truth.TheVariants.{Yes, No, Open}
use Rattle.selection_commands.specs.declared.columns.Column.{Column}
use Rattle.selection_commands.specs.declared.tabulator.Row.{Row}

-- a text as JSON, or `null`
abbrev pub text_or_null : Option (List ℕ) → Data
text_or_null None = null
text_or_null (Some text) = string text

-- a truth as JSON: `null` if it is open
abbrev pub truth_data : Truth → Data
truth_data Yes = boolean true
truth_data No = boolean false
truth_data Open = null

-- the object of a cell
abbrev pub cell_object : Column → Truth → Data
cell_object column truth = object
    (member (codes "platform") (text_or_null (option_copied column.platform))
    (member (codes "python") (text_or_null (option_copied column.python))
    (member (codes "value") (truth_data truth) no_members)))

-- the objects of the cells of a row
abbrev pub cell_objects : List Column → List Truth → Data
cell_objects columns truths =
    array (items_of (map (λ cell. cell_object cell.0 cell.1) (zip columns truths)))

-- the object of a row
abbrev pub row_object : List Column → Row → Data
row_object columns row = object
    (member (codes "environments") (cell_objects columns row.truths.items)
    (member (codes "marker") (text_or_null (option_map string_bytes row.marker))
    (member (codes "name") (text_or_null (option_map string_bytes row.name))
    (member (codes "requirement") (string (string_bytes row.requirement)) no_members))))

-- the table as an object of JSON for each row
abbrev pub objects : List Column → List Row → List ℕ
objects columns rows = flat_map (λ row. compact_text (row_object columns row) ++ codes "\n") rows
