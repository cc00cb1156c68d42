use Rattle.std.proofs.Common.{◌≡◌, ◌∙◌, length, map, rules}
use Rattle.std.specs.Slice.Iter.{iter_rest}
use Rattle.std.specs.Iterator.Adapters.{zip_first, zip_second}
use Rattle.std.proofs.lemmas.Slice.Zip.{zip_turn, zip_end}
use Rattle.serde_json.specs.Data.{array}
use Rattle.serde_json.specs.View.{items_of, view}
use Rattle.serde_json.specs.declared.value.Value.{the_lemmas}
use Rattle.serde_json.specs.declared.value.Value.TheVariants.{Array}
use Rattle.selection_commands.proofs.JsonLaws.{objects_more, objects_all}
use Rattle.selection_commands.proofs.tables.cell_objects.Goals as goal

pub loop-column-preserved : goal.loop-column-preserved
loop-column-preserved c =
    let start = c.into_iter-column-iterator.result in
    let first : iter_rest (zip_first start) ≡ c.args.columns.now = search rules in
    let second : iter_rest (zip_second start) ≡ c.args.truths.now = search rules in
    let turn = zip_turn c.args.columns.now c.args.truths.now c.loop-column.yielded start c.loop-column.column-iterator c.next.new.self c.next.result
    first second c.loop-column.yielded_by (c.in-Some.column, c.in-Some.truth) c.in-Some.is c.next.ensures.steps in
    objects_more c.args.columns.now c.args.truths.now c.loop-column.yielded (c.in-Some.column, c.in-Some.truth) c.in-Some.column.now c.in-Some.truth.now
    c.in_ok-cell_object.field-0 c.loop-column.cells.items c.push.new.self.items
    turn.0 turn.1 (turn.2 c.in-Some.column.now) (turn.3 c.in-Some.truth.now) c.in_ok-cell_object.ensures c.in_ok-push.ensures.items c.loop-column.invariant

pub returns : goal.returns
returns c =
    let start = c.into_iter-column-iterator.result in
    let first : iter_rest (zip_first start) ≡ c.args.columns.now = search rules in
    let second : iter_rest (zip_second start) ≡ c.args.truths.now = search rules in
    let done = zip_end c.args.columns.now c.args.truths.now c.loop-column.yielded start c.loop-column.column-iterator c.next.new.self c.next.result
    first second c.loop-column.yielded_by c.in-None.is c.next.ensures.steps in
    let is : view (Array c.loop-column.cells) ≡ array (items_of (map view c.loop-column.cells.items)) = search (rules, the_lemmas) in
    is ∙ objects_all c.args.columns.now c.args.truths.now c.loop-column.cells.items (length c.loop-column.yielded) done c.loop-column.invariant
