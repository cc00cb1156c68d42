use Rattle.std.proofs.Common.{◌∙◌, [], ◌∷◌, ◌++◌, List, ap, length, subst}
use Rattle.marker_graph.specs.declared.tree.MarkerTree.{MarkerTree}
use Rattle.foreign_markers.specs.declared.markers.Growth.{Growth}
use Rattle.foreign_markers.specs.Held.{MayHaveMore}
use Rattle.foreign_markers.proofs.NumberLaws.{grown_more, grown_same, held_more, still_held, truths_back}
use Rattle.foreign_markers.proofs.markers.Markers.add.Goals as goal

pub invariant_of-self : goal.invariant_of-self
invariant_of-self c =
    let self = c.args.self.now in
    record {
      held = still_held self.interner c.give_back.new.interner self.trees.items c.args.before c.make_rooms.ensures.kept.0 c.give_back.ensures.held self.held c.requires.before;
      grown = grown_same self.trees.items self.growths.items c.make_rooms.ensures.kept.0 c.make_rooms.ensures.kept.1 self.grown;
    }

pub returns-in_default-clause-kept : goal.returns-in_default-clause-kept
returns-in_default-clause-kept c =
    let self = c.args.self.now in
    truths_back self.interner c.give_back.new.interner self.trees.items c.args.before c.make_rooms.ensures.kept.0 c.give_back.ensures.held c.give_back.ensures.kept self.held c.requires.before

pub invariant_of-self-2 : goal.invariant_of-self-2
invariant_of-self-2 c =
    let self = c.args.self.now in
    let put = c.push_reserved.ensures.items ∙ ap (λ (ts : List MarkerTree). ts ++ (c.args.tree ∷ [])) c.make_rooms.ensures.kept.0 in
    let growth : Growth = record { number = c.len-number.result; before = c.args.before } in
    let number = c.len-number.ensures ∙ c.make_rooms.new.trees.ok.0 ∙ ap length c.make_rooms.ensures.kept.0 in
    record {
      held = held_more self.interner self.trees.items c.args.tree put self.held c.requires.held;
      grown = grown_more self.trees.items self.growths.items c.args.tree growth put (subst (λ (gs : List Growth). MayHaveMore growth gs c.note.new.growths.items) c.make_rooms.ensures.kept.1 c.note.ensures) number c.requires.before self.grown;
    }
