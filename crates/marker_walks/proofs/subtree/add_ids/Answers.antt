use Rattle.std.proofs.Common.{◌<◌, length, arith}
use Rattle.std.proofs.lemmas.Option.{slice_get-get_or}
use Rattle.marker_walks.proofs.GrowthLaws.{grows}
use Rattle.marker_walks.proofs.WalkLaws.{adds_none, adds_one}
use Rattle.marker_walks.proofs.subtree.add_ids.Goals as goal

pub loop-index-init : goal.loop-index-init
loop-index-init c = adds_none _ _ _

pub loop-index-preserved : goal.loop-index-preserved
loop-index-preserved c =
    let lt : c.loop-index.index < length c.args.children.now = omega arith in
    adds_one c.args.parent c.args.children.now c.loop-index.index c.args.found.now.keys c.loop-index.found.keys c.insert.new.self.keys c.negate.result _ c.negate.ensures
    (slice_get-get_or c.args.children.now c.loop-index.index _ lt)
    (grows c.loop-index.found.keys c.insert.new.self.keys c.negate.result c.in_ok-insert.ensures.keys) c.loop-index.invariant
