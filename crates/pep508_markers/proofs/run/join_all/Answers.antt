use Rattle.std.proofs.Common.{List, length, sym, ap, ◌∙◌, subst, arith}
use Rattle.std.proofs.lemmas.List.Sorted.{length_permutation}
use Rattle.marker_graph.specs.declared.tree.MarkerTree.{MarkerTree}
use Rattle.pep508_markers.specs.Trees.{truth_under, AreHeld}
use Rattle.pep508_markers.proofs.TreeLaws.{kept_on}
use Rattle.pep508_markers.proofs.OrderLaws.{moved_held, moved_truth, both_held, both_mean}
use Rattle.pep508_markers.proofs.run.join_all.Goals as goal

pub unreachable-requires : goal.unreachable-requires
unreachable-requires c =
    omega (arith, length_permutation _ _ c.sort.ensures, ap length c.in_ok-push_front.ensures.items, c.sort.new.trees.ok.0, c.in_default.ensures.cases.0)

pub join_alike-requires : goal.join_alike-requires
join_alike-requires c =
    subst (AreHeld c.args.interner.now) c.in-Some.ensures.items
    (moved_held c.args.interner.now _ _ c.sort.ensures (subst (AreHeld c.args.interner.now) (sym c.in_ok-push_front.ensures.items) c.requires))

pub loop-next-init : goal.loop-next-init
loop-next-init c = record {
  kept = c.join_alike.ensures.kept.kept;
  counts = c.join_alike.ensures.kept.counts;
  held = c.in_ok-joined.ensures.held;
  means = λ v.
      c.in_ok-joined.ensures.means v
      ∙ ap (λ (xs : List MarkerTree). truth_under c.args.interner.now c.args.run.connective xs v) (sym c.in-Some.ensures.items)
      ∙ moved_truth c.args.interner.now c.args.run.connective _ _ c.sort.ensures v
      ∙ ap (λ (xs : List MarkerTree). truth_under c.args.interner.now c.args.run.connective xs v) c.in_ok-push_front.ensures.items;
}

pub loop-next-preserved : goal.loop-next-preserved
loop-next-preserved c =
    let alike = c.join_alike-in-Some-pop_front in
    record {
      kept = kept_on c.args.interner.now alike.new.interner c.join_two.new.interner (kept_on c.args.interner.now c.loop-next.interner alike.new.interner c.loop-next.invariant.kept alike.ensures.kept.kept) c.join_two.ensures.kept.kept;
      counts = omega (arith, c.loop-next.invariant.counts, alike.ensures.kept.counts, c.join_two.ensures.kept.counts);
      held = both_held c.args.run.connective c.loop-next.interner alike.new.interner c.join_two.new.interner c.loop-next.joined c.in-Some-pop_front.next c.in_ok-tree.tree c.in_ok-joined-2.joined
          c.loop-next.trees.items c.pop_front-in-loop-next.new.self.items alike.new.trees.items c.in-Some-pop_front.ensures.items alike.ensures.kept.kept c.join_two.ensures.kept.kept c.loop-next.invariant.held
          c.in_ok-tree.ensures.held c.in_ok-joined-2.ensures.held;
      means = λ v.
          both_mean c.args.run.connective c.loop-next.interner alike.new.interner c.join_two.new.interner c.loop-next.joined c.in-Some-pop_front.next c.in_ok-tree.tree c.in_ok-joined-2.joined
          c.loop-next.trees.items c.pop_front-in-loop-next.new.self.items alike.new.trees.items c.in-Some-pop_front.ensures.items alike.ensures.kept.kept c.join_two.ensures.kept.kept c.loop-next.invariant.held
          c.in_ok-tree.ensures.held c.in_ok-tree.ensures.means c.in_ok-joined-2.ensures.means v
          ∙ c.loop-next.invariant.means v;
    }
