-- Tables as JSON, cell by cell.
use Rattle.std.proofs.Common.{◌≡◌, ℕ, ◌+◌, ◌<◌, min, false, List, [], ◌∷◌, ◌++◌, Option, None, Some, length, take, get_or, map, codes, string_bytes, refl, sym, ap, ◌∙◌, append_assoc, arith}
use Rattle.std.specs.List.{flat_map, zip}
use Rattle.std.specs.Prelude.{option_copied, option_map}
use Rattle.std.proofs.Common.{length-append}
use Rattle.std.proofs.lemmas.List.{flat_map_more, map-append, map_more, take_all, take_more}
use Rattle.std.proofs.lemmas.Slice.Zip.{get_or-zip, length-zip}
use Rattle.serde_json.specs.Data.{Data, array}
use Rattle.serde_json.specs.View.{items_of, view}
use Rattle.serde_json.specs.Written.{compact_text, has_float, items_have_float}
use Rattle.serde_json.specs.declared.value.Value.{Value}
use Rattle.selection_commands.specs.declared.truth.Truth.{Truth}
use Rattle.selection_commands.specs.declared.truth.Truth.TheVariants as truths
use Rattle.selection_commands.specs.Objects.{cell_object, cell_objects, objects, row_object, text_or_null, truth_data}
use Rattle.selection_commands.specs.declared.columns.Column.{Column}
use Rattle.selection_commands.specs.declared.tabulator.Row.{Row}

abbrev pub object_of : Column × Truth → Data
object_of cell = cell_object cell.0 cell.1

-- one more cell
pub objects_more : {Y : Type 0} (columns : List Column) (truths : List Truth) (yielded : List Y) (y : Y) (column : Column) (truth : Truth) (value : Value) (old new : List Value)
    → length yielded < length columns → length yielded < length truths
    → column ≡ get_or columns (length yielded) column → truth ≡ get_or truths (length yielded) truth
    → view value ≡ cell_object column truth → new ≡ old ++ (value ∷ [])
    → map view old ≡ map object_of (take (length yielded) (zip columns truths))
    → map view new ≡ map object_of (take (length (yielded ++ (y ∷ []))) (zip columns truths))
objects_more columns truths yielded y column truth value old new within within_truths is_column is_truth is adds was =
    let i = length yielded in
    let fits : i < length (zip columns truths) = omega (arith, length-zip columns truths) in
    let cell : get_or (zip columns truths) i (column, truth) ≡ (column, truth) =
    get_or-zip columns truths i (column, truth) within within_truths
    ∙ ap (λ (c : Column). (c, get_or truths i truth)) (sym is_column) ∙ ap (λ (t : Truth). (column, t)) (sym is_truth) in
    ap (map view) adds ∙ map-append view old (value ∷ [])
    ∙ ap (λ (x : List Data). x ++ (view value ∷ [])) was
    ∙ ap (λ (x : Data). map object_of (take i (zip columns truths)) ++ (x ∷ [])) (is ∙ ap object_of (sym cell))
    ∙ sym (map_more object_of (zip columns truths) i (column, truth) fits)
    ∙ ap (λ (n : ℕ). map object_of (take n (zip columns truths))) (sym (length-append yielded (y ∷ [])))

-- no value of a row is a float
no_text : (o : Option (List ℕ)) → has_float (text_or_null o) ≡ false
no_text None = refl
no_text (Some text) = refl

no_truth : (t : Truth) → has_float (truth_data t) ≡ false
no_truth truths.Yes = refl
no_truth truths.No = refl
no_truth truths.Open = refl

no_cell : (column : Column) (truth : Truth) → has_float (cell_object column truth) ≡ false
no_cell column truth =
    rw (no_text (option_copied column.platform), no_text (option_copied column.python), no_truth truth) refl

no_cells : (cells : List (Column × Truth)) → items_have_float (items_of (map object_of cells)) ≡ false
no_cells [] = refl
no_cells (cell ∷ cells) = rw (no_cell cell.0 cell.1) (no_cells cells)

pub no_row : (columns : List Column) (row : Row) → has_float (row_object columns row) ≡ false
no_row columns row =
    rw (no_cells (zip columns row.truths.items), no_text (option_map string_bytes row.marker), no_text (option_map string_bytes row.name)) refl

-- one more row
pub lines_more : (columns : List Column) (rows : List Row) (i : ℕ) (row : Row) (value : Value) (text old middle new : List ℕ)
    → i < length rows → row ≡ get_or rows i row → view value ≡ row_object columns row
    → (has_float (view value) ≡ false → text ≡ compact_text (view value))
    → old ≡ objects columns (take i rows) → middle ≡ old ++ text → new ≡ middle ++ codes "\n"
    → new ≡ objects columns (take (i + 1) rows)
lines_more columns rows i row value text old middle new within is is_value written was adds ends =
    let line : Row → List ℕ = λ (r : Row). compact_text (row_object columns r) ++ codes "\n" in
    let said : text ≡ compact_text (row_object columns row) =
    written (ap has_float is_value ∙ no_row columns row) ∙ ap compact_text is_value in
    ends ∙ ap (λ (x : List ℕ). x ++ codes "\n") adds
    ∙ append_assoc old text (codes "\n")
    ∙ ap (λ (x : List ℕ). x ++ (text ++ codes "\n")) was
    ∙ ap (λ (x : List ℕ). objects columns (take i rows) ++ (x ++ codes "\n")) said
    ∙ ap (λ (r : Row). objects columns (take i rows) ++ line r) is
    ∙ flat_map_more line [] (take i rows) (get_or rows i row)
    ∙ ap (flat_map line) (sym (take_more rows i row within))

-- all cells
pub objects_all : (columns : List Column) (truths : List Truth) (values : List Value) (n : ℕ)
    → n ≡ min (length columns) (length truths) → map view values ≡ map object_of (take n (zip columns truths))
    → array (items_of (map view values)) ≡ cell_objects columns truths
objects_all columns truths values n size was =
    let all : take n (zip columns truths) ≡ zip columns truths = take_all n (zip columns truths) (omega (arith, length-zip columns truths)) in
    ap (λ (x : List Data). array (items_of x)) (was ∙ ap (map object_of) all)
