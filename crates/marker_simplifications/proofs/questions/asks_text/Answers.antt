use Rattle.std.proofs.Common.{not, string_bytes}
use Rattle.std.specs.Prelude.{Ok}
use Rattle.version_ranges.specs.Cuts.{value_by}
use Rattle.version_ranges.specs.Ranges.{contains_by}
use Rattle.marker_nodes.specs.Variable.{of_text}
use Rattle.marker_words.specs.Compare.{text_cmp}
use Rattle.marker_simplifications.proofs.TruthLaws.{decided_children, decided_truth, negated_truth, text_exchanged}
use Rattle.marker_simplifications.proofs.questions.asks_text.Goals as goal

pub place_joined-requires-clause-children : goal.place_joined-requires-clause-children
place_joined-requires-clause-children c =
    let x = c.args.variable in
    decided_children _ (of_text x) (λ v. not (contains_by string_bytes text_cmp c.args.range (v.text x))) (λ v. value_by string_bytes text_cmp c.in_ok-edges.edges (v.text x))
    (λ v. text_exchanged c.in_ok-edges.edges c.args.range.cuts c.in_ok-edges.ensures.value (v.text x))

pub returns-clause-asks : goal.returns-clause-asks
returns-clause-asks c =
    let x = c.args.variable in
    let nodes = c.place_joined.new.self in
    rw c.not.ensures (negated_truth nodes c.in_ok-negation.negation (λ v. contains_by string_bytes text_cmp c.args.range (v.text x))
    (decided_truth nodes (of_text x) (λ v. not (contains_by string_bytes text_cmp c.args.range (v.text x))) (λ v. value_by string_bytes text_cmp c.in_ok-edges.edges (v.text x))
    (λ v. text_exchanged c.in_ok-edges.edges c.args.range.cuts c.in_ok-edges.ensures.value (v.text x)) (Ok c.in_ok-negation.negation) c.in_ok-negation.ensures.id))
