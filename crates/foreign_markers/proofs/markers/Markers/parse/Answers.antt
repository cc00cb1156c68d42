use Rattle.std.proofs.Common.{List, ℕ, subst}
use Rattle.foreign_calls.specs.Marker.{IsTreeFor}
use Rattle.foreign_markers.proofs.NumberLaws.{adds_text, on_err, on_ok, truths_then}
use Rattle.foreign_markers.proofs.markers.Markers.parse.Goals as goal

pub returns-in-Ok-clause-added : goal.returns-in-Ok-clause-added
returns-in-Ok-clause-added c =
    let self = c.args.self.now in
    on_ok c.add.result (λ number p. adds_text self.interner c.parse_marker.new.interner self.trees.items c.in-Ok.tree c.parse_marker.ensures.kept self.held
    (subst (λ (text : List ℕ). IsTreeFor c.parse_marker.new.interner text c.in-Ok.tree) c.in_ok-text.ensures.same c.in-Ok.ensures.tree) p) c.add.ensures.added

pub returns-in-Ok-clause-kept : goal.returns-in-Ok-clause-kept
returns-in-Ok-clause-kept c =
    let self = c.args.self.now in
    on_err c.add.result (λ answer e. truths_then self.interner c.parse_marker.new.interner self.trees.items c.parse_marker.ensures.kept self.held e) c.add.ensures.kept
