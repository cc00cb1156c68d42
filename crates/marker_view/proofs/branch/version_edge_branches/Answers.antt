use Rattle.std.proofs.Common.{◌≡◌, true, refl, ap, subst, sym, ◌∙◌}
use Rattle.std.specs.List.{list_all}
use Rattle.std.specs.declared.ops.Bound.TheVariants.{Unbounded}
use Rattle.std.proofs.lemmas.Bool.{and_parts}
use Rattle.version_ranges.specs.Bounds.{all_cuts, passes_at}
use Rattle.pep440_version.specs.Order.{version_cmp}
use Rattle.pep440_rs.specs.Bounds.{is_release, is_within}
use Rattle.pep440_rs.proofs.Equals.{release-means}
use Rattle.marker_terms.specs.Clauses.{clauses_of}
use Rattle.marker_terms.specs.Plain.{HavePrintableTerms}
use Rattle.marker_terms.proofs.PlainLaws.{each_pushed}
use Rattle.marker_terms.proofs.SetLaws.{at_release, both_of}
use Rattle.marker_graph.specs.Edges.{version_edge, version_edges_left}
use Rattle.marker_graph.specs.Kind.{version_edges}
use Rattle.marker_view.specs.declared.branch.Branch.{Branch}
use Rattle.marker_view.specs.Branch.{HavePrintableBranches}
use Rattle.marker_view.proofs.EdgeLaws.{all_passed, edge_passes, edge_skipped, edge_taken, edges_pass, none_passed}
use Rattle.marker_view.proofs.branch.version_edge_branches.Goals as goal

pub loop-edge-init : goal.loop-edge-init
loop-edge-init c =
    let e : version_edges_left c.into_iter-edge-iterator.result ≡ version_edges c.args.view = ap version_edges_left c.into_iter-edge-iterator.ensures.into_iter_gives ∙ c.edges-edge-items.ensures in
    record {
      passed = none_passed version_cmp (λ v. v.version c.args.view.variable) (all_cuts is_release c.args.view.cuts.now ≡ true) (version_edges c.args.view) (version_edges_left c.into_iter-edge-iterator.result) c.new-branches.result.items e c.new-branches.ensures.items;
      releases = λ h. ap (list_all (edge_passes is_release)) e ∙ edges_pass is_release c.args.view.tree Unbounded c.args.view.cuts.now.first c.args.view.cuts.now.rest.items refl h;
      printable = subst HavePrintableBranches (sym c.new-branches.ensures.items) tt;
    }

pub loop-edge-preserved : goal.loop-edge-preserved
loop-edge-preserved c =
    let b : Branch = record { clauses = c.in_ok-clauses.clauses; child = c.in-Some.edge.2 } in
    record {
      passed = edge_taken version_cmp (λ v. v.version c.args.view.variable) (all_cuts is_release c.args.view.cuts.now ≡ true) (version_edges c.args.view)
          (version_edges_left c.loop-edge.edge-iterator) (version_edges_left c.next.new.self) c.loop-edge.branches.items c.push.new.self.items (version_edge c.in-Some.edge) b c.in-Some.ensures.steps c.in_ok-push.ensures.items refl
          (λ r v.
          let q = and_parts (passes_at is_release (version_edge c.in-Some.edge).lower) (passes_at is_release (version_edge c.in-Some.edge).upper)
          (both_of (edge_passes is_release) (version_edges_left c.loop-edge.edge-iterator) (version_edges_left c.next.new.self) (version_edge c.in-Some.edge) c.in-Some.ensures.steps (c.loop-edge.invariant.releases r)).0 in
          c.in_ok-clauses.ensures.means v ∙ c.in_ok-terms.ensures.means (at_release release-means c.in-Some.edge.0 q.0) (at_release release-means c.in-Some.edge.1 q.1) v
          ∙ ap (λ x. is_within c.in-Some.edge.0 c.in-Some.edge.1 (v.version x)) c.variable.ensures)
          c.loop-edge.invariant.passed;
      releases = λ r. (both_of (edge_passes is_release) (version_edges_left c.loop-edge.edge-iterator) (version_edges_left c.next.new.self) (version_edge c.in-Some.edge) c.in-Some.ensures.steps (c.loop-edge.invariant.releases r)).1;
      printable = each_pushed (λ (x : Branch). HavePrintableTerms (clauses_of x.clauses.items)) c.loop-edge.branches.items c.push.new.self.items b c.in_ok-push.ensures.items c.loop-edge.invariant.printable (c.in_ok-clauses.ensures.printable c.in_ok-terms.ensures.printable);
    }

pub loop-edge-preserved-then-is_false : goal.loop-edge-preserved-then-is_false
loop-edge-preserved-then-is_false c = record {
  passed = edge_skipped version_cmp (λ v. v.version c.args.view.variable) (all_cuts is_release c.args.view.cuts.now ≡ true) (version_edges c.args.view)
      (version_edges_left c.loop-edge.edge-iterator) (version_edges_left c.next.new.self) c.loop-edge.branches.items (version_edge c.in-Some.edge) c.in-Some.ensures.steps (c.is_false.ensures.0 c.if-is_false.true) c.loop-edge.invariant.passed;
  releases = λ r. (both_of (edge_passes is_release) (version_edges_left c.loop-edge.edge-iterator) (version_edges_left c.next.new.self) (version_edge c.in-Some.edge) c.in-Some.ensures.steps (c.loop-edge.invariant.releases r)).1;
  printable = c.loop-edge.invariant.printable;
}

pub returns-clause-follow : goal.returns-clause-follow
returns-clause-follow c =
    all_passed version_cmp (λ v. v.version c.args.view.variable) (all_cuts is_release c.args.view.cuts.now ≡ true) (version_edges c.args.view) (version_edges_left c.loop-edge.edge-iterator) c.loop-edge.branches.items c.in-None.ensures.steps.0 c.loop-edge.invariant.passed
