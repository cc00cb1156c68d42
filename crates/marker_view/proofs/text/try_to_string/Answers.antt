use Rattle.std.proofs.Common.{ap, ◌++◌, ◌∙◌}
use Rattle.std.proofs.lemmas.Bool.{both_ways}
use Rattle.marker_terms.specs.Clauses.{clauses_of}
use Rattle.marker_nodes.proofs.Firsts.{false_is, true_is}
use Rattle.marker_graph.proofs.TreeLaws.{satisfied_tree}
use Rattle.marker_grammar.specs.Text.{clauses_text}
use Rattle.marker_grammar.proofs.ClauseLaws.{read_back}
use Rattle.marker_view.proofs.ReadableLaws.{readable_bounds, readable_marker}
use Rattle.marker_view.proofs.TellLaws.{true_has_no_text, falsehood_is_told, other_is_told}
use Rattle.marker_view.proofs.text.try_to_string.Goals as goal

pub returns-then-is_true : goal.returns-then-is_true
returns-then-is_true c =
    let rules = c.keeps_the_rules.ensures.nodes in
    true_has_no_text c.args.interner.now rules c.args.tree c.requires (λ v. true_is c.args.interner.now.nodes v) (c.is_true.ensures.0 c.if-is_true.true)

pub returns-then-is_false : goal.returns-then-is_false
returns-then-is_false c =
    let rules = c.keeps_the_rules.ensures.nodes in
    falsehood_is_told c.args.interner.now rules c.args.tree c.requires (satisfied_tree c.args.interner.now rules) (λ v. false_is c.args.interner.now.nodes v) (c.is_false.ensures.0 c.if-is_false.true) _ c.in_ok-nowhere.ensures.ok

pub returns : goal.returns
returns c =
    let rules = c.keeps_the_rules.ensures.nodes in
    let clauses = clauses_of c.in_ok-clauses.clauses.items in
    other_is_told c.args.interner.now rules c.args.tree c.requires (satisfied_tree c.args.interner.now rules)
    (λ e. both_ways _ c.if-is_true.false (c.is_true.ensures.1 e)) (λ e. both_ways _ c.if-is_false.false (c.is_false.ensures.1 e)) clauses c.in_ok-clauses.ensures (read_back clauses)
    (readable_marker c.args.interner.now rules c.args.tree c.requires) (readable_bounds c.args.interner.now rules c.args.tree c.requires) _
    (c.in_ok-write.ensures.bytes ∙ ap (λ bs. bs ++ clauses_text (clauses_of c.deref.result.now)) c.in_ok-text.ensures.bytes ∙ ap (λ xs. clauses_text (clauses_of xs)) c.deref.ensures.value)
