use Rattle.std.proofs.Common.{length, refl}
use Rattle.std.proofs.lemmas.Option.{slice_get_read}
use Rattle.marker_graph.specs.Contents.{truth}
use Rattle.selection_commands.specs.Truth.{IsTruth}
use Rattle.selection_commands.proofs.TruthLaws.{if_some, rows_none, rows_more}
use Rattle.selection_commands.proofs.truth.truths_in.Goals as goal

pub loop-index-init : goal.loop-index-init
loop-index-init c = rows_none (truth c.args.interner.now c.args.marker) c.args.targets.now c.new-truths.result.items c.new-truths.ensures.items

pub loop-index-preserved : goal.loop-index-preserved
loop-index-preserved c =
    rows_more (truth c.args.interner.now c.args.marker) c.args.targets.now c.loop-index.index c.loop-index.truths.items c.push.new.self.items c.index-targets-index.result c.in-Some.truth
    (slice_get_read c.args.targets.now (length c.args.targets.now) c.loop-index.index c.index-targets-index.result refl c.loop-index-test.true c.index-targets-index.is)
    (if_some c.in_ok-truth.field-0 c.in-Some.truth c.in-Some.is (IsTruth c.index-targets-index.result (truth c.args.interner.now c.args.marker)) c.in_ok-truth.ensures)
    c.in_ok-push.ensures.items c.loop-index.invariant
