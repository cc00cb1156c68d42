use Rattle.std.proofs.Common.{Some, sym, ap, ◌∙◌}
use Rattle.std.specs.Option.{option_copied}
use Rattle.std.proofs.lemmas.Bool.{both_ways}
use Rattle.marker_nodes.specs.Branches.{has_trimmed_cuts}
use Rattle.marker_graph.specs.Tree.{node_of}
use Rattle.marker_graph.proofs.BoundLaws.{trimmed_edges}
use Rattle.marker_graph.proofs.KindLaws.{edges_of_kind, other_constant, store_seen, string_edges_mean, truth_shown, version_edges_mean}
use Rattle.marker_graph.proofs.tree.MarkerTree.kind.Goals as goal

pub returns-else-is_true-clause-shows : goal.returns-else-is_true-clause-shows
returns-else-is_true-clause-shows c =
    other_constant c.args.interner.now c.args.self c.requires (ap (λ d. node_of d c.args.self) (sym c.interner.view_is) ∙ sym c.node.ensures.node ∙ ap option_copied c.in-None.is) (λ e. both_ways _ c.if-is_true.false (c.is_true.ensures.1 e))

pub returns-in-Some-Version-clause-edges : goal.returns-in-Some-Version-clause-edges
returns-in-Some-Version-clause-edges c =
    version_edges_mean c.args.interner.now (store_seen c.args.interner.now _ c.interner.view_is c.interner.invariant.kept.nodes) c.args.self c.requires c.in-Some-Version.variable c.in-Some-Version.cuts
    (ap (λ d. node_of d c.args.self) (sym c.interner.view_is) ∙ sym c.node.ensures.node ∙ ap option_copied c.in-Some-Version.is ∙ ap Some c.in-Some-Version.field-0-is)

pub returns-in-Some-Text-clause-edges : goal.returns-in-Some-Text-clause-edges
returns-in-Some-Text-clause-edges c =
    string_edges_mean c.args.interner.now (store_seen c.args.interner.now _ c.interner.view_is c.interner.invariant.kept.nodes) c.args.self c.requires c.in-Some-Text.variable c.in-Some-Text.cuts
    (ap (λ d. node_of d c.args.self) (sym c.interner.view_is) ∙ sym c.node.ensures.node ∙ ap option_copied c.in-Some-Text.is ∙ ap Some c.in-Some-Text.field-0-is)

pub returns-in-Some-Truth-clause-edges : goal.returns-in-Some-Truth-clause-edges
returns-in-Some-Truth-clause-edges c =
    edges_of_kind c.args.interner.now (store_seen c.args.interner.now _ c.interner.view_is c.interner.invariant.kept.nodes) c.args.self c.requires c.truth_kind.result
    (truth_shown c.args.interner.now c.args.self c.in-Some-Truth.variable c.in-Some-Truth.high c.in-Some-Truth.low c.child.result c.child-in-Some-Truth.result c.truth_kind.result
    (ap (λ d. node_of d c.args.self) (sym c.interner.view_is) ∙ sym c.node.ensures.node ∙ ap option_copied c.in-Some-Truth.is ∙ ap Some c.in-Some-Truth.field-0-is)
    c.child.ensures c.child-in-Some-Truth.ensures c.truth_kind.ensures)

pub returns-in-Some-Version-clause-trimmed : goal.returns-in-Some-Version-clause-trimmed
returns-in-Some-Version-clause-trimmed c = trimmed_edges c.args.self c.in-Some-Version.cuts (sym (ap has_trimmed_cuts c.in-Some-Version.field-0-is) ∙ c.in-Some-Version.ensures.trimmed)
