use Rattle.std.proofs.Common.{inl}
use Rattle.marker_graph.specs.Contents.{truth}
use Rattle.foreign_markers.specs.Interner.{state_of}
use Rattle.foreign_markers.proofs.NumberLaws.{adds_not, limited_one, on_err, on_ok}
use Rattle.foreign_markers.proofs.markers.Markers.not.Goals as goal

pub returns-clause-added : goal.returns-clause-added
returns-clause-added c =
    let self = c.args.self.now in
    on_ok c.add_known.result (λ number p. adds_not self.interner self.trees.items c.args.number c.in-Some.tree c.negate.result c.in-Some.ensures.found c.negate.ensures.means p) c.add_known.ensures.added

pub returns-clause-refused : goal.returns-clause-refused
returns-clause-refused c =
    let self = c.args.self.now in
    on_err c.add_known.result (λ answer e. limited_one (state_of self) c.args.number answer (truth self.interner c.in-Some.tree) c.in-Some.ensures.found (inl e)) c.add_known.ensures.refused
