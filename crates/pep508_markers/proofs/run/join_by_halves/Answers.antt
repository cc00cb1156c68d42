use Rattle.std.proofs.Common.{◌≡◌, [], ◌∷◌, List, refl, sym, ap, ◌∙◌, arith}
use Rattle.std.proofs.lemmas.List.{nil_from_length}
use Rattle.marker_graph.specs.declared.tree.MarkerTree.{MarkerTree}
use Rattle.pep508_markers.specs.Trees.{truth_under}
use Rattle.pep508_markers.proofs.TreeLaws.{kept_on, queue_held, queue_joined, truth_of_one}
use Rattle.pep508_markers.proofs.run.join_by_halves.Goals as goal

pub loop-right-preserved : goal.loop-right-preserved
loop-right-preserved c = record {
  kept = kept_on c.args.interner.now c.loop-right.interner c.join_two.new.interner c.loop-right.invariant.kept c.join_two.ensures.kept.kept;
  counts = omega (arith, c.loop-right.invariant.counts, c.join_two.ensures.kept.counts);
  held = queue_held c.loop-right.interner c.join_two.new.interner c.args.connective (c.loop-right.left ∷ c.loop-right.trees.items) c.loop-right.trees.items c.pop_front.new.self.items (c.in_ok-left.left ∷ c.rotate.new.trees.items)
      c.loop-right.left c.in-Some.right c.in_ok-tree.tree c.join_two.ensures.kept.kept refl c.in-Some.ensures.items c.in_ok-left.ensures c.loop-right.invariant.held c.in_ok-tree.ensures.held;
  means = λ v. queue_joined c.loop-right.interner c.join_two.new.interner c.args.connective (c.loop-right.left ∷ c.loop-right.trees.items) c.loop-right.trees.items c.pop_front.new.self.items (c.in_ok-left.left ∷ c.rotate.new.trees.items)
      c.loop-right.left c.in-Some.right c.in_ok-tree.tree c.join_two.ensures.kept.kept refl c.in-Some.ensures.items c.in_ok-left.ensures c.loop-right.invariant.held c.in_ok-tree.ensures.means v ∙ c.loop-right.invariant.means v;
}

pub returns-clause-means : goal.returns-clause-means
returns-clause-means c = λ v.
    let none : c.loop-right.trees.items ≡ [] = nil_from_length _ (sym c.loop-right.trees.ok.0 ∙ c.in_default.ensures.cases.0) in
    sym (truth_of_one c.loop-right.interner c.args.connective c.loop-right.left v)
    ∙ sym (ap (λ (x : List MarkerTree). truth_under c.loop-right.interner c.args.connective (c.loop-right.left ∷ x) v) none)
    ∙ c.loop-right.invariant.means v
