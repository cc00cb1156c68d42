use Rattle.std.proofs.Common.{not, ◌∙◌}
use Rattle.std.specs.Prelude.{Ok}
use Rattle.version_ranges.specs.Cuts.{value_of}
use Rattle.version_ranges.specs.Ranges.{contains_point}
use Rattle.pep440_version.specs.Order.{version_cmp}
use Rattle.pep440_rs.specs.Intervals.{HasTrimmedBounds, is_trimmed}
use Rattle.marker_diagrams.proofs.IdLaws.{same_id_is}
use Rattle.marker_nodes.specs.Variable.{of_version}
use Rattle.marker_simplifications.proofs.TruthLaws.{decided_children, decided_truth, exchanged, negated_truth}
use Rattle.marker_simplifications.proofs.questions.asks_version.Goals as goal

pub place_joined-requires-clause-children : goal.place_joined-requires-clause-children
place_joined-requires-clause-children c =
    let x = c.args.variable in
    decided_children _ (of_version x) (λ v. contains_point version_cmp c.args.range (v.version x)) (λ v. value_of version_cmp c.in_ok-edges.edges (v.version x)) (λ v. same_id_is _ _ (c.in_ok-edges.ensures.value (v.version x)))

pub returns-in-Some-Unbounded-default-clause-asks : goal.returns-in-Some-Unbounded-default-clause-asks
returns-in-Some-Unbounded-default-clause-asks c =
    let x = c.args.variable in
    decided_truth c.place_joined.new.self (of_version x) (λ v. contains_point version_cmp c.args.range (v.version x)) (λ v. value_of version_cmp c.in_ok-edges.edges (v.version x))
    (λ v. same_id_is _ _ (c.in_ok-edges.ensures.value (v.version x))) c.place_joined.result c.place_joined.ensures.id

pub place_joined-requires-2-clause-children : goal.place_joined-requires-2-clause-children
place_joined-requires-2-clause-children c =
    let x = c.args.variable in
    decided_children _ (of_version x) (λ v. not (contains_point version_cmp c.args.range (v.version x))) (λ v. value_of version_cmp c.in_ok-edges-2.edges (v.version x))
    (λ v. same_id_is _ _ (c.in_ok-edges-2.ensures.value (v.version x)) ∙ exchanged (contains_point version_cmp c.args.range (v.version x)))

pub returns-clause-asks : goal.returns-clause-asks
returns-clause-asks c =
    let x = c.args.variable in
    let nodes = c.place_joined-2.new.self in
    rw c.not.ensures (negated_truth nodes c.in_ok-negation.negation (λ v. contains_point version_cmp c.args.range (v.version x))
    (decided_truth nodes (of_version x) (λ v. not (contains_point version_cmp c.args.range (v.version x))) (λ v. value_of version_cmp c.in_ok-edges-2.edges (v.version x))
    (λ v. same_id_is _ _ (c.in_ok-edges-2.ensures.value (v.version x)) ∙ exchanged (contains_point version_cmp c.args.range (v.version x))) (Ok c.in_ok-negation.negation) c.in_ok-negation.ensures.id))

pub place_joined-requires-clause-trimmed : goal.place_joined-requires-clause-trimmed
unfolding HasTrimmedBounds
place_joined-requires-clause-trimmed c = c.in_ok-edges.ensures.bounds is_trimmed c.requires

pub place_joined-requires-2-clause-trimmed : goal.place_joined-requires-2-clause-trimmed
unfolding HasTrimmedBounds
place_joined-requires-2-clause-trimmed c = c.in_ok-edges-2.ensures.bounds is_trimmed c.requires
