use Rattle.std.proofs.Common.{◌≡◌, refl, ap, subst, sym, ◌∙◌}
use Rattle.std.specs.Prelude.{⊤}
use Rattle.std.specs.List.{list_all}
use Rattle.std.specs.declared.ops.Bound.TheVariants.{Unbounded}
use Rattle.std.proofs.lemmas.Bool.{and_parts}
use Rattle.version_ranges.specs.Bounds.{passes_at}
use Rattle.version_ranges.specs.Parts.{is_in}
use Rattle.marker_words.specs.Compare.{text_cmp}
use Rattle.marker_words.specs.Key.{variable_of}
use Rattle.marker_terms.specs.Clauses.{clauses_of}
use Rattle.marker_terms.specs.Plain.{HavePrintableTerms, is_plain}
use Rattle.marker_terms.proofs.PlainLaws.{each_pushed}
use Rattle.marker_terms.proofs.SetLaws.{both_of}
use Rattle.marker_terms.proofs.TextLaws.{interval_is, text_bound_is}
use Rattle.marker_graph.specs.Edges.{string_edge, string_edges_left}
use Rattle.marker_graph.specs.Kind.{string_edges}
use Rattle.marker_view.specs.declared.branch.Branch.{Branch}
use Rattle.marker_view.specs.Branch.{HavePrintableBranches}
use Rattle.marker_view.proofs.BranchLaws.{modern_is}
use Rattle.marker_view.proofs.EdgeLaws.{all_passed, edge_passes, edge_skipped, edge_taken, none_passed, text_edges_pass}
use Rattle.marker_view.proofs.branch.text_edge_branches.Goals as goal

pub loop-edge-init : goal.loop-edge-init
loop-edge-init c =
    let e : string_edges_left c.into_iter-edge-iterator.result ≡ string_edges c.args.view = ap string_edges_left c.into_iter-edge-iterator.ensures.into_iter_gives ∙ c.children-edge-items.ensures in
    record {
      passed = none_passed text_cmp (λ v. v.text c.args.view.variable) ⊤ (string_edges c.args.view) (string_edges_left c.into_iter-edge-iterator.result) c.new-branches.result.items e c.new-branches.ensures.items;
      plain = λ h. ap (list_all (edge_passes is_plain)) e ∙ text_edges_pass is_plain c.args.view.tree Unbounded c.args.view.cuts.now.first c.args.view.cuts.now.rest.items refl h;
      printable = λ h. subst HavePrintableBranches (sym c.new-branches.ensures.items) tt;
    }

pub loop-edge-preserved : goal.loop-edge-preserved
loop-edge-preserved c =
    let b : Branch = record { clauses = c.in_ok-clauses.clauses; child = c.in-Some.edge.2 } in
    record {
      passed = edge_taken text_cmp (λ v. v.text c.args.view.variable) ⊤ (string_edges c.args.view)
          (string_edges_left c.loop-edge.edge-iterator) (string_edges_left c.next.new.self) c.loop-edge.branches.items c.push.new.self.items (string_edge c.in-Some.edge) b c.in-Some.ensures.steps c.in_ok-push.ensures.items refl
          (λ r v.
          c.in_ok-clauses.ensures.means v ∙ c.in_ok-terms.ensures.means v ∙ sym (interval_is c.in-Some.edge.0 c.in-Some.edge.1 (v.text (variable_of c.key.result)))
          ∙ ap (λ k. is_in text_cmp (string_edge c.in-Some.edge) (v.text (variable_of k))) c.key.ensures ∙ ap (λ x. is_in text_cmp (string_edge c.in-Some.edge) (v.text x)) (modern_is c.args.view.variable))
          c.loop-edge.invariant.passed;
      plain = λ h. (both_of (edge_passes is_plain) (string_edges_left c.loop-edge.edge-iterator) (string_edges_left c.next.new.self) (string_edge c.in-Some.edge) c.in-Some.ensures.steps (c.loop-edge.invariant.plain h)).1;
      printable = λ h.
          let q = and_parts (passes_at is_plain (string_edge c.in-Some.edge).lower) (passes_at is_plain (string_edge c.in-Some.edge).upper)
          (both_of (edge_passes is_plain) (string_edges_left c.loop-edge.edge-iterator) (string_edges_left c.next.new.self) (string_edge c.in-Some.edge) c.in-Some.ensures.steps (c.loop-edge.invariant.plain h)).0 in
          each_pushed (λ (x : Branch). HavePrintableTerms (clauses_of x.clauses.items)) c.loop-edge.branches.items c.push.new.self.items b c.in_ok-push.ensures.items (c.loop-edge.invariant.printable h)
          (c.in_ok-clauses.ensures.printable (c.in_ok-terms.ensures.printable (sym (ap (passes_at is_plain) (text_bound_is c.in-Some.edge.0)) ∙ q.0) (sym (ap (passes_at is_plain) (text_bound_is c.in-Some.edge.1)) ∙ q.1)));
    }

pub loop-edge-preserved-then-is_false : goal.loop-edge-preserved-then-is_false
loop-edge-preserved-then-is_false c = record {
  passed = edge_skipped text_cmp (λ v. v.text c.args.view.variable) ⊤ (string_edges c.args.view)
      (string_edges_left c.loop-edge.edge-iterator) (string_edges_left c.next.new.self) c.loop-edge.branches.items (string_edge c.in-Some.edge) c.in-Some.ensures.steps (c.is_false.ensures.0 c.if-is_false.true) c.loop-edge.invariant.passed;
  plain = λ h. (both_of (edge_passes is_plain) (string_edges_left c.loop-edge.edge-iterator) (string_edges_left c.next.new.self) (string_edge c.in-Some.edge) c.in-Some.ensures.steps (c.loop-edge.invariant.plain h)).1;
  printable = c.loop-edge.invariant.printable;
}

pub returns-clause-follow : goal.returns-clause-follow
returns-clause-follow c =
    all_passed text_cmp (λ v. v.text c.args.view.variable) ⊤ (string_edges c.args.view) (string_edges_left c.loop-edge.edge-iterator) c.loop-edge.branches.items c.in-None.ensures.steps.0 c.loop-edge.invariant.passed
