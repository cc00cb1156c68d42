use Rattle.std.proofs.Common.{◌≡◌, true, not, refl, ap, sym, ◌∙◌}
use Rattle.std.specs.declared.ops.Bound.TheVariants.{Unbounded}
use Rattle.version_ranges.specs.Bounds.{all_cuts}
use Rattle.pep440_version.specs.Order.{version_cmp}
use Rattle.pep440_rs.specs.Bounds.{is_release, is_within, IsAtRelease}
use Rattle.pep440_rs.proofs.Equals.{release-means}
use Rattle.marker_environment.specs.Valuation.{Valuation}
use Rattle.marker_terms.specs.Clauses.{term_holds}
use Rattle.marker_terms.proofs.SetLaws.{at_release, none_left}
use Rattle.marker_terms.proofs.PlainLaws.{found_has}
use Rattle.marker_graph.specs.Edges.{version_edge, version_edges_left}
use Rattle.marker_graph.specs.Kind.{version_edges}
use Rattle.marker_view.specs.declared.branch.Branch.{Branch}
use Rattle.marker_view.proofs.EdgeLaws.{around_false, around_one, edges_pass, second_passes, same_tree, three_edges}
use Rattle.marker_view.proofs.branch.version_around.Goals as goal

pub returns-then-is_false-clause-follow : goal.returns-then-is_false-clause-follow
returns-then-is_false-clause-follow c =
    let first = version_edge (c.in-Some.field-0-0, c.in-Some.field-0-1, c.in-Some.around) in
    let second = version_edge (c.in-Some-next.lower, c.in-Some-next.upper, c.in-Some-next.child) in
    let third = version_edge (c.in-Some-next-2.field-0-0, c.in-Some-next-2.field-0-1, c.in-Some-next-2.last) in
    let three = three_edges (version_edges c.args.view) _ _ _ _ first second third (sym c.edges-edges.ensures) c.in-Some.ensures.steps c.in-Some-next.ensures.steps c.in-Some-next-2.ensures.steps
    (none_left version_edge c.next-4.result (version_edges_left c.next-3.new.self) (version_edges_left c.next-4.new.self) (sym c.is_some.ensures ∙ c.if-is_some.false) c.next-4.ensures.steps) in
    around_false version_cmp (λ v. v.version c.args.view.variable) (all_cuts is_release c.args.view.cuts.now ≡ true) (version_edges c.args.view) first second third three
    (same_tree c.in-Some.around c.in-Some-next-2.last c.ne.result c.ne.ensures c.if-ne.false)
    c.in_ok-branches.branches.items c.push.new.self.items c.in_ok-outer.outer c.in-Some-2.term c.in_ok-branches.ensures.items c.in_ok-push.ensures.items c.in_ok-outer.ensures
    (λ r v.
    let q = second_passes is_release (version_edges c.args.view) first second third three (edges_pass is_release c.args.view.tree Unbounded c.args.view.cuts.now.first c.args.view.cuts.now.rest.items refl r) in
    found_has (λ t. IsAtRelease c.in-Some-next.lower → IsAtRelease c.in-Some-next.upper → (v : Valuation) → term_holds t v ≡ not (is_within c.in-Some-next.lower c.in-Some-next.upper (v.version c.variable.result)))
    c.in_ok-term.field-0 c.in-Some-2.term c.in-Some-2.is c.in_ok-term.ensures.means (at_release release-means c.in-Some-next.lower q.0) (at_release release-means c.in-Some-next.upper q.1) v
    ∙ ap (λ x. not (is_within c.in-Some-next.lower c.in-Some-next.upper (v.version x))) c.variable.ensures)
    (c.is_false.ensures.0 c.if-is_false.true)

pub returns-clause-follow : goal.returns-clause-follow
returns-clause-follow c =
    let first = version_edge (c.in-Some.field-0-0, c.in-Some.field-0-1, c.in-Some.around) in
    let second = version_edge (c.in-Some-next.lower, c.in-Some-next.upper, c.in-Some-next.child) in
    let third = version_edge (c.in-Some-next-2.field-0-0, c.in-Some-next-2.field-0-1, c.in-Some-next-2.last) in
    let three = three_edges (version_edges c.args.view) _ _ _ _ first second third (sym c.edges-edges.ensures) c.in-Some.ensures.steps c.in-Some-next.ensures.steps c.in-Some-next-2.ensures.steps
    (none_left version_edge c.next-4.result (version_edges_left c.next-3.new.self) (version_edges_left c.next-4.new.self) (sym c.is_some.ensures ∙ c.if-is_some.false) c.next-4.ensures.steps) in
    let b : Branch = record { clauses = c.in_ok-clauses.clauses; child = c.in-Some-next.child } in
    around_one version_cmp (λ v. v.version c.args.view.variable) (all_cuts is_release c.args.view.cuts.now ≡ true) (version_edges c.args.view) first second third three
    (same_tree c.in-Some.around c.in-Some-next-2.last c.ne.result c.ne.ensures c.if-ne.false)
    c.in_ok-branches.branches.items c.push.new.self.items c.in_ok-outer.outer c.in-Some-2.term c.in_ok-branches.ensures.items c.in_ok-push.ensures.items c.in_ok-outer.ensures
    (λ r v.
    let q = second_passes is_release (version_edges c.args.view) first second third three (edges_pass is_release c.args.view.tree Unbounded c.args.view.cuts.now.first c.args.view.cuts.now.rest.items refl r) in
    found_has (λ t. IsAtRelease c.in-Some-next.lower → IsAtRelease c.in-Some-next.upper → (v : Valuation) → term_holds t v ≡ not (is_within c.in-Some-next.lower c.in-Some-next.upper (v.version c.variable.result)))
    c.in_ok-term.field-0 c.in-Some-2.term c.in-Some-2.is c.in_ok-term.ensures.means (at_release release-means c.in-Some-next.lower q.0) (at_release release-means c.in-Some-next.upper q.1) v
    ∙ ap (λ x. not (is_within c.in-Some-next.lower c.in-Some-next.upper (v.version x))) c.variable.ensures)
    c.push-2.new.self.items b c.in_ok-push-2.ensures.items refl
    (λ r v.
    let q = second_passes is_release (version_edges c.args.view) first second third three (edges_pass is_release c.args.view.tree Unbounded c.args.view.cuts.now.first c.args.view.cuts.now.rest.items refl r) in
    c.in_ok-clauses.ensures.means v ∙ c.in_ok-terms.ensures.means (at_release release-means c.in-Some-next.lower q.0) (at_release release-means c.in-Some-next.upper q.1) v
    ∙ ap (λ x. is_within c.in-Some-next.lower c.in-Some-next.upper (v.version x)) c.variable-2.ensures)
