use Rattle.std.proofs.Common.{subst, sym}
use Rattle.marker_conjunctions.specs.Contents.{contents}
use Rattle.marker_graph.specs.Contents.{Contents}
use Rattle.marker_graph.specs.Texts.{IsMarkerOfText}
use Rattle.marker_graph.proofs.TextLaws.{one_text_more}
use Rattle.marker_graph.proofs.interner.Interner.remember_text.Goals as goal

pub invariant_of-self : goal.invariant_of-self
invariant_of-self c =
    let held : Contents = contents c.self.inside.nodes c.self.inside.conjunctions in
    one_text_more held c.self.inside.texts c.add.new.self c.args.text.now c.args.tree c.self.invariant (subst (λ (x : Contents). IsMarkerOfText x c.args.text.now c.args.tree) (sym c.self.view_is) c.requires) c.add.ensures
