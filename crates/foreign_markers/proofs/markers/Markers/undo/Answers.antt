use Rattle.std.proofs.Common.{refl}
use Rattle.foreign_markers.proofs.NumberLaws.{still_held, truths_back}
use Rattle.foreign_markers.proofs.markers.Markers.undo.Goals as goal

pub returns-clause-kept : goal.returns-clause-kept
returns-clause-kept c =
    let self = c.args.self.now in
    truths_back self.interner c.give_back.new.interner self.trees.items c.args.before refl c.give_back.ensures.held c.give_back.ensures.kept self.held c.requires

pub invariant_of-self : goal.invariant_of-self
invariant_of-self c =
    let self = c.args.self.now in
    record { held = still_held self.interner c.give_back.new.interner self.trees.items c.args.before refl c.give_back.ensures.held self.held c.requires; grown = self.grown }
