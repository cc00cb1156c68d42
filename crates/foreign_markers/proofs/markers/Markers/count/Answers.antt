use Rattle.std.proofs.Common.{◌∙◌}
use Rattle.foreign_markers.proofs.NumberLaws.{count_is}
use Rattle.foreign_markers.proofs.markers.Markers.count.Goals as goal

pub returns : goal.returns
returns c = let self = c.args.self.now in count_is self.interner self.trees.items (c.len.ensures ∙ self.trees.ok.0)
