use Rattle.std.proofs.Common.{◌≡◌, ◌&&◌, true, string_bytes, ap, subst, sym, ◌∙◌}
use Rattle.std.specs.Prelude.{⊤}
use Rattle.std.specs.List.{list_all, list_any}
use Rattle.std.specs.String.{string_cmp}
use Rattle.std.proofs.lemmas.List.{take_all}
use Rattle.version_ranges.specs.Bounds.{all_bounds, all_cuts}
use Rattle.version_ranges.specs.Cuts.{value_by}
use Rattle.version_ranges.specs.Gather.{IsGathered}
use Rattle.version_ranges.specs.Ranges.{contains_by}
use Rattle.marker_words.specs.Compare.{text_cmp}
use Rattle.marker_words.specs.Key.{variable_of}
use Rattle.marker_terms.specs.Clauses.{clauses_of}
use Rattle.marker_terms.specs.Plain.{is_plain, HavePrintableTerms}
use Rattle.marker_terms.proofs.ListLaws.{all_get}
use Rattle.marker_terms.proofs.PlainLaws.{each_pushed, plain_clones}
use Rattle.marker_diagrams.specs.Id.{same_id}
use Rattle.marker_graph.specs.Edges.{child_of}
use Rattle.marker_view.specs.declared.branch.Branch.{Branch}
use Rattle.marker_view.specs.Branch.{reaches, LeadTo}
use Rattle.marker_view.proofs.BranchLaws.{each_more, skipped, modern_is, text_lead}
use Rattle.marker_view.proofs.JoinLaws.{any_more, any_skipped}
use Rattle.marker_view.proofs.branch.text_branches.Goals as goal

pub loop-child-preserved : goal.loop-child-preserved
loop-child-preserved c =
    let b : Branch = record { clauses = c.in_ok-clauses.clauses; child = c.subtree-child.result } in (
      each_more c.deref-child-items.result.now (λ q. child_of c.args.view.tree q.0.now) c.loop-child.branches.items c.push.new.self.items b c.loop-child.child-index c.loop-child-item.result c.in_ok-push.ensures.items
          c.loop-child-test.true c.loop-child-item.is c.subtree-child.ensures c.loop-child.invariant.0,
      λ v test z.
          any_more (λ b. reaches v test b) (λ q. contains_by string_bytes text_cmp q.1 (v.text c.args.view.variable) && test (child_of c.args.view.tree q.0.now)) c.loop-child.branches.items c.push.new.self.items b
          c.deref-child-items.result.now c.loop-child.child-index c.loop-child-item.result c.in_ok-push.ensures.items c.loop-child-test.true c.loop-child-item.is
          (ap (λ x. x && test c.subtree-child.result) (c.in_ok-clauses.ensures.means v ∙ ap (λ k. contains_by string_bytes text_cmp c.loop-child-item.result.1 (v.text (variable_of k))) c.key.ensures
          ∙ ap (λ x. contains_by string_bytes text_cmp c.loop-child-item.result.1 (v.text x)) (modern_is c.args.view.variable))
          ∙ ap (λ s. contains_by string_bytes text_cmp c.loop-child-item.result.1 (v.text c.args.view.variable) && test s) c.subtree-child.ensures)
          (c.loop-child.invariant.1 v test z),
      λ h.
          let cuts = subst (λ cuts. all_cuts (λ t. is_plain (string_bytes t)) cuts ≡ true) (sym c.cuts-cuts.ensures) h in
          let all = subst (λ xs. list_all (λ q. all_bounds (λ t. is_plain (string_bytes t)) q.1) xs ≡ true) (sym c.deref-child-items.ensures.value) (c.in_ok-joined.ensures.bounds (λ t. is_plain (string_bytes t)) plain_clones cuts) in
          let here = ap (λ q. all_bounds (λ t. is_plain (string_bytes t)) q.1) c.loop-child-item.is ∙ all_get (λ q. all_bounds (λ t. is_plain (string_bytes t)) q.1) c.deref-child-items.result.now c.loop-child.child-index c.loop-child-item.result all c.loop-child-test.true in
          each_pushed (λ (x : Branch). HavePrintableTerms (clauses_of x.clauses.items)) c.loop-child.branches.items c.push.new.self.items b c.in_ok-push.ensures.items (c.loop-child.invariant.2 h) (c.in_ok-clauses.ensures.printable here),
    )

pub loop-child-preserved-then-is_false : goal.loop-child-preserved-then-is_false
loop-child-preserved-then-is_false c = (
  c.loop-child.invariant.0,
  λ v test z.
      any_skipped (λ q. contains_by string_bytes text_cmp q.1 (v.text c.args.view.variable) && test (child_of c.args.view.tree q.0.now)) (list_any (λ b. reaches v test b) c.loop-child.branches.items)
      c.deref-child-items.result.now c.loop-child.child-index c.loop-child-item.result c.loop-child-test.true c.loop-child-item.is
      (skipped (contains_by string_bytes text_cmp c.loop-child-item.result.1 (v.text c.args.view.variable)) test (child_of c.args.view.tree c.loop-child-item.result.0.now) (sym c.subtree-child.ensures ∙ c.is_false.ensures.0 c.if-is_false.true) z) (c.loop-child.invariant.1 v test z),
  c.loop-child.invariant.2,
)

pub returns-clause-lead : goal.returns-clause-lead
returns-clause-lead c =
    let all = take_all c.loop-child.child-index c.deref-child-items.result.now c.loop-child-test.false in
    subst (λ cuts. LeadTo ⊤ (λ v. child_of c.args.view.tree (value_by string_bytes text_cmp cuts (v.text c.args.view.variable))) c.loop-child.branches.items) c.cuts-cuts.ensures
    (text_lead c.args.view.tree c.loop-child.branches.items c.args.view.variable c.cuts-cuts.result.now c.deref-child-items.result.now
    (subst (λ xs. IsGathered string_cmp same_id c.cuts-cuts.result.now xs) (sym c.deref-child-items.ensures.value) c.in_ok-joined.ensures.gathered)
    c.pieces_have_the_values_of_points.ensures.inhabited c.loop-child.invariant.0
    (λ v test z. c.loop-child.invariant.1 v test z
    ∙ ap (list_any (λ q. contains_by string_bytes text_cmp q.1 (v.text c.args.view.variable) && test (child_of c.args.view.tree q.0.now))) all))

pub returns-clause-printable : goal.returns-clause-printable
returns-clause-printable c = c.loop-child.invariant.2
