use Rattle.marker_nodes.proofs.PairLaws.{versions_given, texts_given}
use Rattle.marker_nodes.proofs.SideLaws.{version_clones}
use Rattle.marker_nodes.proofs.side.Sides.with_children.Goals as goal

pub pairs_with_values-requires-clause-clones : goal.pairs_with_values-requires-clause-clones
pairs_with_values-requires-clause-clones c = version_clones

pub returns-in_ok-edges-in-Version-clause-value : goal.returns-in_ok-edges-in-Version-clause-value
returns-in_ok-edges-in-Version-clause-value c =
    versions_given c.args.self.now c.args.children.now c.requires.count c.in-Version.variable c.in-Version.left c.in-Version.right c.in-Version.is c.in_ok-edges-in-Version.edges c.in_ok-edges-in-Version.ensures.value

pub returns-in_ok-edges-in-Text-clause-value : goal.returns-in_ok-edges-in-Text-clause-value
returns-in_ok-edges-in-Text-clause-value c =
    texts_given c.args.self.now c.args.children.now c.requires.count c.in-Text.variable c.in-Text.left c.in-Text.right c.in-Text.is c.in_ok-edges-in-Text.edges c.in_ok-edges-in-Text.ensures.value
