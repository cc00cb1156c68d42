use Rattle.std.proofs.Common.{inl}
use Rattle.marker_graph.specs.Contents.{truth}
use Rattle.foreign_markers.specs.Interner.{state_of}
use Rattle.foreign_markers.proofs.NumberLaws.{adds_and, limited_two, on_err, on_ok, truths_then}
use Rattle.foreign_markers.proofs.markers.Markers.and.Goals as goal

pub returns-in-Ok-clause-added : goal.returns-in-Ok-clause-added
returns-in-Ok-clause-added c =
    let self = c.args.self.now in
    on_ok c.add.result (λ number p. adds_and self.interner c.and.new.interner self.trees.items c.args.a c.args.b c.in-Some.left c.in-Some.right c.and.new.self c.and.ensures.kept self.held
    c.in-Some.ensures.first c.in-Some.ensures.second c.in-Some.ensures.held.0 c.in-Some.ensures.held.1 c.in-Ok.ensures.means p) c.add.ensures.added

pub returns-in-Ok-clause-refused : goal.returns-in-Ok-clause-refused
returns-in-Ok-clause-refused c =
    let self = c.args.self.now in
    on_err c.add.result (λ answer e. limited_two (state_of self) c.args.a c.args.b answer (truth self.interner c.in-Some.left) (truth self.interner c.in-Some.right)
    c.in-Some.ensures.first c.in-Some.ensures.second (inl e)) c.add.ensures.refused

pub returns-in-Ok-clause-kept : goal.returns-in-Ok-clause-kept
returns-in-Ok-clause-kept c =
    let self = c.args.self.now in
    on_err c.add.result (λ answer e. truths_then self.interner c.and.new.interner self.trees.items c.and.ensures.kept self.held e) c.add.ensures.kept

pub returns-in-Err-clause-refused : goal.returns-in-Err-clause-refused
returns-in-Err-clause-refused c =
    let self = c.args.self.now in
    limited_two (state_of self) c.args.a c.args.b c.undo.result (truth self.interner c.in-Some.left) (truth self.interner c.in-Some.right)
    c.in-Some.ensures.first c.in-Some.ensures.second c.undo.ensures.refused

pub returns-in-Err-clause-kept : goal.returns-in-Err-clause-kept
returns-in-Err-clause-kept c =
    let self = c.args.self.now in
    truths_then self.interner c.and.new.interner self.trees.items c.and.ensures.kept self.held c.undo.ensures.kept
