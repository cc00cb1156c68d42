use Rattle.std.proofs.Common.{◌≡◌, ◌&&◌, ◌||◌, ◌++◌, take, [], refl, ap, subst, sym, ◌∙◌}
use Rattle.std.specs.List.{AllByRecursion, list_any}
use Rattle.std.specs.Vec.Iter.{into_iter_items}
use Rattle.std.proofs.lemmas.Bool.{both_ways}
use Rattle.std.proofs.lemmas.List.{take_at}
use Rattle.std.proofs.lemmas.List.Folds.{list_all-append}
use Rattle.marker_terms.specs.Clauses.{clause_holds, clauses_hold, clauses_of, term_holds}
use Rattle.marker_terms.specs.Plain.{AllPrintable, HavePrintableTerms}
use Rattle.marker_graph.specs.Contents.{truth}
use Rattle.marker_view.specs.Branch.{reaches, HavePrintableBranches, IsBelow}
use Rattle.marker_view.proofs.WalkLaws.{and_end, branch_taken, each_branch, each_joined, none_taken, nothing_to_come, readable_below, releases_below, true_truth, way_taken}
use Rattle.marker_view.proofs.walk.+collect.Goals as goal

pub returns-then-is_true-clause-means : goal.returns-then-is_true-clause-means
returns-then-is_true-clause-means t c h v =
    let path = c.deref.result.now in
    let before = clauses_hold (clauses_of c.args.clauses.now.items) v in
    c.in_ok-add_clause.ensures.means v ∙ ap (λ ts. before || clause_holds (path ++ ts) v) c.new-none.ensures.items
    ∙ ap (λ b. before || b) (list_all-append (λ x. term_holds x v) path [] ∙ and_end (clause_holds path v)) ∙ ap (λ ps. before || clause_holds ps v) c.deref.ensures.value
    ∙ ap (λ b. before || b) (sym (and_end (clause_holds c.args.path.now.items v)) ∙ ap (λ b. clause_holds c.args.path.now.items v && b) (sym (true_truth c.args.interner.now c.args.tree v (c.is_true.ensures.0 c.if-is_true.true))))

pub loop-branch-init : goal.loop-branch-init
loop-branch-init t c =
    let items = c.into_iter-branch-iterator.ensures.into_iter_gives.0 in
    record {
      path = refl;
      below = subst (AllByRecursion (λ b. IsBelow c.args.interner.now c.args.tree b.child)) (sym items) (each_branch (λ b. IsBelow c.args.interner.now c.args.tree b.child) c.in_ok-found.found.items c.in_ok-found.ensures.each);
      ready = λ r. subst HavePrintableBranches (sym items) (c.in_ok-found.ensures.printable r);
      means = λ h v.
          ap (λ bs. clauses_hold (clauses_of c.args.clauses.now.items) v || (clause_holds c.args.path.now.items v && list_any (λ b. reaches v (λ s. truth c.args.interner.now s v) b) bs)) items
          ∙ ap (λ b. clauses_hold (clauses_of c.args.clauses.now.items) v || (clause_holds c.args.path.now.items v && b)) (c.in_ok-found.ensures.mean h (λ e. both_ways _ c.if-is_true.false (c.is_true.ensures.1 e)) v);
      printable = λ r p h. h;
    }

pub loop-way-preserved : goal.loop-way-preserved
loop-way-preserved t c = record {
  path = whole;
  means = λ h v. way_taken _ (clauses_hold (clauses_of c.loop-way.clauses.items) v) (clauses_hold (clauses_of c.collect.new.clauses.items) v) (clause_holds c.loop-branch.path.items v) (clause_holds c.in-Some-way.way.items v)
      (clauses_hold (clauses_of (into_iter_items c.next-in-loop-way.new.self)) v) (truth c.args.interner.now c.in-Some.branch.child v)
      (c.in_ok-collect.ensures.means h v ∙ ap (λ b. clauses_hold (clauses_of c.loop-way.clauses.items) v || (b && truth c.args.interner.now c.in-Some.branch.child v)) (ap (λ ps. clause_holds ps v) longer ∙ list_all-append (λ x. term_holds x v) c.loop-branch.path.items c.in-Some-way.way.items))
      (ap (λ ws. clauses_hold (clauses_of c.loop-way.clauses.items) v || (clause_holds c.loop-branch.path.items v && (clauses_hold (clauses_of ws) v && truth c.args.interner.now c.in-Some.branch.child v))) (sym c.in-Some-way.ensures.steps.0) ∙ c.loop-way.invariant.means h v);
  ready = λ a. (subst (λ ws. HavePrintableTerms (clauses_of ws)) c.in-Some-way.ensures.steps.0 (c.loop-way.invariant.ready a)).1;
  printable = λ r a p h.
      let here = (subst (λ ws. HavePrintableTerms (clauses_of ws)) c.in-Some-way.ensures.steps.0 (c.loop-way.invariant.ready a)).0 in
      c.in_ok-collect.ensures.printable r (subst AllPrintable (sym longer) (each_joined c.loop-branch.path.items c.in-Some-way.way.items p here)) (c.loop-way.invariant.printable r a p h);
}
  where
    longer : c.append.new.self.items ≡ c.loop-branch.path.items ++ c.in-Some-way.way.items
    longer = c.in_ok-append.ensures.items ∙ ap (λ ps. ps ++ c.in-Some-way.way.items) c.loop-way.invariant.path

    whole : c.truncate.new.self.items ≡ c.loop-branch.path.items
    whole =
        c.truncate.ensures.items ∙ ap (take c.len-len.result) (c.in_ok-collect.ensures.path ∙ c.in_ok-append.ensures.items)
        ∙ take_at c.loop-way.path.items c.in-Some-way.way.items c.len-len.result (sym (c.len-len.ensures ∙ c.loop-way.path.ok.0)) ∙ c.loop-way.invariant.path

pub loop-way-preserved-then-is_true-2 : goal.loop-way-preserved-then-is_true-2
loop-way-preserved-then-is_true-2 t c = record {
  path = c.loop-way.invariant.path;
  means = λ h v.
      let before = clauses_hold (clauses_of c.loop-way.clauses.items) v in
      let here = clause_holds c.loop-branch.path.items v && clause_holds c.in-Some-way.way.items v in
      way_taken _ before (clauses_hold (clauses_of c.add_clause-then-is_true-2.new.clauses.items) v) (clause_holds c.loop-branch.path.items v) (clause_holds c.in-Some-way.way.items v)
      (clauses_hold (clauses_of (into_iter_items c.next-in-loop-way.new.self)) v) (truth c.args.interner.now c.in-Some.branch.child v)
      (c.in_ok-add_clause-2.ensures.means v
      ∙ ap (λ b. before || b) (ap (λ ps. clause_holds (ps ++ c.in-Some-way.way.items) v) at_path ∙ list_all-append (λ x. term_holds x v) c.loop-branch.path.items c.in-Some-way.way.items
      ∙ sym (and_end here) ∙ ap (λ b. here && b) (sym (true_truth c.args.interner.now c.in-Some.branch.child v (c.is_true-in-loop-way.ensures.0 c.if-is_true-2.true)))))
      (ap (λ ws. before || (clause_holds c.loop-branch.path.items v && (clauses_hold (clauses_of ws) v && truth c.args.interner.now c.in-Some.branch.child v))) (sym c.in-Some-way.ensures.steps.0) ∙ c.loop-way.invariant.means h v);
  ready = λ a. (subst (λ ws. HavePrintableTerms (clauses_of ws)) c.in-Some-way.ensures.steps.0 (c.loop-way.invariant.ready a)).1;
  printable = λ r a p h.
      let here = (subst (λ ws. HavePrintableTerms (clauses_of ws)) c.in-Some-way.ensures.steps.0 (c.loop-way.invariant.ready a)).0 in
      c.in_ok-add_clause-2.ensures.printable (subst AllPrintable (sym at_path) p) here (c.loop-way.invariant.printable r a p h);
}
  where
    at_path : c.deref-then-is_true-2.result.now ≡ c.loop-branch.path.items
    at_path = c.deref-then-is_true-2.ensures.value ∙ c.loop-way.invariant.path

pub loop-branch-preserved : goal.loop-branch-preserved
loop-branch-preserved t c =
    let below = subst (AllByRecursion (λ b. IsBelow c.args.interner.now c.args.tree b.child)) c.in-Some.ensures.steps.0 c.loop-branch.invariant.below in
    let ways = c.into_iter-way-iterator.ensures.into_iter_gives.0 in
    record {
      path = c.loop-way.invariant.path ∙ c.loop-branch.invariant.path;
      below = below.1;
      ready = λ r. (subst HavePrintableBranches c.in-Some.ensures.steps.0 (c.loop-branch.invariant.ready r)).1;
      means = λ h v. branch_taken _ (clauses_hold (clauses_of c.loop-branch.clauses.items) v) (clauses_hold (clauses_of c.loop-way.clauses.items) v) (clause_holds c.args.path.now.items v)
          (reaches v (λ s. truth c.args.interner.now s v) c.in-Some.branch) (list_any (λ b. reaches v (λ s. truth c.args.interner.now s v) b) (into_iter_items c.next.new.self))
          (none_taken (clause_holds c.loop-branch.path.items v) (truth c.args.interner.now c.in-Some.branch.child v) (clauses_hold (clauses_of c.loop-way.clauses.items) v)
          ∙ ap (λ ws. clauses_hold (clauses_of c.loop-way.clauses.items) v || (clause_holds c.loop-branch.path.items v && (clauses_hold (clauses_of ws) v && truth c.args.interner.now c.in-Some.branch.child v))) (sym (nothing_to_come c.loop-way.way-iterator c.in-None-way.ensures.steps.0))
          ∙ c.loop-way.invariant.means (releases_below c.args.interner.now c.args.tree c.in-Some.branch.child below.0.1 h) v
          ∙ ap (λ ws. clauses_hold (clauses_of c.loop-branch.clauses.items) v || (clause_holds c.loop-branch.path.items v && (clauses_hold (clauses_of ws) v && truth c.args.interner.now c.in-Some.branch.child v))) ways
          ∙ ap (λ ps. clauses_hold (clauses_of c.loop-branch.clauses.items) v || (clause_holds ps v && (clauses_hold (clauses_of c.in-Some.branch.clauses.items) v && truth c.args.interner.now c.in-Some.branch.child v))) c.loop-branch.invariant.path)
          (ap (λ bs. clauses_hold (clauses_of c.loop-branch.clauses.items) v || (clause_holds c.args.path.now.items v && list_any (λ b. reaches v (λ s. truth c.args.interner.now s v) b) bs)) (sym c.in-Some.ensures.steps.0) ∙ c.loop-branch.invariant.means h v);
      printable = λ r p h.
          let here = (subst HavePrintableBranches c.in-Some.ensures.steps.0 (c.loop-branch.invariant.ready r)).0 in
          c.loop-way.invariant.printable (readable_below c.args.interner.now c.args.tree c.in-Some.branch.child below.0.1 r) (subst (λ ws. HavePrintableTerms (clauses_of ws)) (sym ways) here)
          (subst AllPrintable (sym c.loop-branch.invariant.path) p) (c.loop-branch.invariant.printable r p h);
    }
