-- Entries of lists and tables, item by item.
use Rattle.std.proofs.Common.{◌≡◌, ℕ, ◌+◌, ◌<◌, List, [], ◌∷◌, ◌++◌, length, get_or, drop, refl, ◌∙◌, append_assoc, arith}
use Rattle.std.specs.Prelude.{Option, Some, None, option_and_then, codes}
use Rattle.std.proofs.lemmas.Bool.{ne_eqb}
use Rattle.toml.specs.declared.value.Value.{Value}
use Rattle.toml.specs.Data.{Data, Members, get_member, as_str}
use Rattle.toml.specs.View.{view, items_view, members_view}
use Rattle.toml.proofs.Views.{Entry, items_view-drop}
use Rattle.project_files.specs.declared.key.Section.{Section}
use Rattle.project_files.specs.Entries.{EntryOf, entry}
use Rattle.project_files.specs.Tables.{key_count, included, item_of, item_entries, dynamic_entry, dynamic_fault, dynamic_faults}

pub key_count-view : (es : List Entry) → key_count (members_view es) ≡ length es
key_count-view [] = refl
key_count-view (e ∷ es) = grind (arith, key_count-view es)

-- a table with one key, and one with another number of keys
pub included_from : (es : List Entry) (n : ℕ) (d : Option Data) → n ≡ length es → n ≡ 1 → get_member (codes "include-group") (members_view es) ≡ d → option_and_then as_str d ≡ included (members_view es)
included_from es n d counted one found = rw (key_count-view es, ← counted, one, found)

pub not_included : (es : List Entry) (n : ℕ) → n ≡ length es → (n ≡ 1 → ⊥) → None ≡ included (members_view es)
not_included es n counted other = rw (key_count-view es, ← counted, ne_eqb n 1 other)

pub add_fault : (project : Members) (i : ℕ) (vs : List Value) (d : Value) (done all : List EntryOf) → i < length vs
    → done ++ dynamic_faults project i (items_view (drop i vs)) ≡ all
    → (done ++ dynamic_entry i (dynamic_fault project (view (get_or vs i d)))) ++ dynamic_faults project (i + 1) (items_view (drop (i + 1) vs)) ≡ all
add_fault project i vs d done all within so_far =
    append_assoc done _ _ ∙ rw (items_view-drop vs i d within) at so_far
