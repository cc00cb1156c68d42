use Rattle.std.proofs.Common.{◌≡◌, ◌&&◌, ◌||◌}
use Rattle.std.specs.List.{AllByRecursion, list_any}
use Rattle.std.specs.Vec.Iter.{into_iter_items}
use Rattle.marker_environment.specs.Valuation.{Valuation}
use Rattle.marker_diagrams.specs.Id.{place_of}
use Rattle.marker_terms.specs.Clauses.{clause_holds, clauses_hold, clauses_of}
use Rattle.marker_terms.specs.Plain.{AllPrintable, HavePrintableTerms}
use Rattle.marker_graph.specs.Contents.{truth}
use Rattle.marker_view.specs.Branch.{reaches, HasReleases, HavePrintableBranches, IsBelow}
use Rattle.marker_view.specs.PlainNodes.{IsReadable}
use Rattle.marker_view.proofs.walk.+collect.Given as goal

abbrev pub decreases-collect : goal.decreases-collect
decreases-collect l = place_of l.tree.id

abbrev pub invariant-loop-branch : goal.invariant-loop-branch
invariant-loop-branch l = record {
  path : l.path.items ≡ l.initial.path.items;
  below : AllByRecursion (λ b. IsBelow l.interner l.fn.tree b.child) (into_iter_items l.branch-iterator);
  ready : IsReadable l.interner l.fn.tree → HavePrintableBranches (into_iter_items l.branch-iterator);
  means : HasReleases l.interner l.fn.tree → (v : Valuation)
      → (clauses_hold (clauses_of l.clauses.items) v || (clause_holds l.initial.path.items v && list_any (λ b. reaches v (λ s. truth l.interner s v) b) (into_iter_items l.branch-iterator)))
      ≡ (clauses_hold (clauses_of l.initial.clauses.items) v || (clause_holds l.initial.path.items v && truth l.interner l.fn.tree v));
  printable : IsReadable l.interner l.fn.tree → AllPrintable l.initial.path.items → HavePrintableTerms (clauses_of l.initial.clauses.items) → HavePrintableTerms (clauses_of l.clauses.items);
}

abbrev pub invariant-loop-way : goal.invariant-loop-way
invariant-loop-way l = record {
  path : l.path.items ≡ l.initial.path.items;
  means : HasReleases l.interner l.child → (v : Valuation)
      → (clauses_hold (clauses_of l.clauses.items) v || (clause_holds l.initial.path.items v && (clauses_hold (clauses_of (into_iter_items l.way-iterator)) v && truth l.interner l.child v)))
      ≡ (clauses_hold (clauses_of l.initial.clauses.items) v || (clause_holds l.initial.path.items v && (clauses_hold (clauses_of (into_iter_items l.initial.way-iterator)) v && truth l.interner l.child v)));
  ready : HavePrintableTerms (clauses_of (into_iter_items l.initial.way-iterator)) → HavePrintableTerms (clauses_of (into_iter_items l.way-iterator));
  printable : IsReadable l.interner l.child → HavePrintableTerms (clauses_of (into_iter_items l.initial.way-iterator)) → AllPrintable l.initial.path.items → HavePrintableTerms (clauses_of l.initial.clauses.items) → HavePrintableTerms (clauses_of l.clauses.items);
}
