use Rattle.std.proofs.Common.{subst}
use Rattle.marker_graph.specs.Contents.{Contents}
use Rattle.marker_graph.specs.Texts.{IsMarkerOfText}
use Rattle.marker_graph.proofs.interner.Interner.known_text.Goals as goal

pub returns : goal.returns
returns c = subst (λ (x : Contents). IsMarkerOfText x c.args.text.now (record { id = c.in_ok-id.id })) c.self.view_is (c.self.invariant.texts c.args.text.now c.in_ok-id.id c.in_ok-id.ensures)
