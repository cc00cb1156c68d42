use Rattle.std.proofs.Common.{rules, sym, ap, ◌∙◌, arith}
use Rattle.marker_nodes.proofs.SideLaws.{signed_branches, signed_first}
use Rattle.marker_walks.specs.Disjoint.{IsLastOf}
use Rattle.marker_walks.proofs.Disjoints.{walks, on_left, on_right, on_shared, on_told, on_next, on_end, last_apart, on_none}
use Rattle.marker_walks.proofs.disjoint.+apart.Goals as goal

pub all_but_last-loop-left-init : goal.all_but_last-loop-left-init
all_but_last-loop-left-init g t c = record {
  memory = record { unbounded = search rules; apart = c.requires.memory.apart };
  walk = rw c.into_iter-left-iterator.ensures.into_iter_gives (walks c.args.nodes.now c.requires.ids.rules c.args.a c.args.b c.requires.ids.left c.requires.ids.right c.side_by_side.result
      (signed_first c.args.nodes.now _ c.args.a c.args.b _ _ c.negate-unsigned_a.ensures c.negate-unsigned_b.ensures c.side_by_side.ensures.first)
      (λ v. signed_branches c.args.nodes.now _ c.args.a c.args.b _ _ c.negate-unsigned_a.ensures c.negate-unsigned_b.ensures v _ (c.side_by_side.ensures.children v)) _ c.pairs-left-items.ensures.value c.pairs-left-items.ensures.inhabited c.requires.nodes.0);
}

pub all_but_last-loop-left-preserved-in-Some-true : goal.all_but_last-loop-left-preserved-in-Some-true
all_but_last-loop-left-preserved-in-Some-true g t c = record {
  memory = c.loop-left.invariant.memory;
  walk = on_told c.args.nodes.now c.requires.ids.rules c.args.a c.args.b c.requires.ids.left c.requires.ids.right _ _ _ _ c.in-Some.ensures.steps c.loop-left.invariant.walk _ _ c.negate-left.ensures c.negate-right.ensures _
      (c.in-Some-true.ensures.answer c.args.nodes.now c.requires.ids.rules (on_left c.args.nodes.now c.requires.ids.rules c.args.a c.args.b c.requires.ids.left c.requires.ids.right _ _ _ _ c.in-Some.ensures.steps c.loop-left.invariant.walk _ _ c.negate-left.ensures c.negate-right.ensures)
      (on_right c.args.nodes.now c.requires.ids.rules c.args.a c.args.b c.requires.ids.left c.requires.ids.right _ _ _ _ c.in-Some.ensures.steps c.loop-left.invariant.walk _ _ c.negate-left.ensures c.negate-right.ensures) c.loop-left.invariant.memory.apart) c.in-Some-true.field-0-test;
}

pub all_but_last-returns-in-Some-false-clause-rest : goal.all_but_last-returns-in-Some-false-clause-rest
all_but_last-returns-in-Some-false-clause-rest g t c =
    on_shared c.args.nodes.now c.requires.ids.rules c.args.a c.args.b c.requires.ids.left c.requires.ids.right _ _ _ _ c.in-Some.ensures.steps c.loop-left.invariant.walk _ _ c.negate-left.ensures c.negate-right.ensures _
    (c.in-Some-false.ensures.answer c.args.nodes.now c.requires.ids.rules (on_left c.args.nodes.now c.requires.ids.rules c.args.a c.args.b c.requires.ids.left c.requires.ids.right _ _ _ _ c.in-Some.ensures.steps c.loop-left.invariant.walk _ _ c.negate-left.ensures c.negate-right.ensures)
    (on_right c.args.nodes.now c.requires.ids.rules c.args.a c.args.b c.requires.ids.left c.requires.ids.right _ _ _ _ c.in-Some.ensures.steps c.loop-left.invariant.walk _ _ c.negate-left.ensures c.negate-right.ensures) c.loop-left.invariant.memory.apart) c.in-Some-false.field-0-test

pub all_but_last-loop-left-preserved : goal.all_but_last-loop-left-preserved
all_but_last-loop-left-preserved g t c = record {
  memory = record { unbounded = search rules; apart = c.are_apart.ensures.kept.apart };
  walk = on_next c.args.nodes.now c.requires.ids.rules c.args.a c.args.b c.requires.ids.left c.requires.ids.right _ _ _ _ c.in-Some.ensures.steps c.loop-left.invariant.walk _ _ c.negate-left.ensures c.negate-right.ensures _
      c.in_ok-are_apart-in-None-recall.ensures.answer c.if-not-branch.false;
}

pub all_but_last-returns-clause-rest : goal.all_but_last-returns-clause-rest
all_but_last-returns-clause-rest g t c = record {
  tells = on_end c.args.nodes.now c.requires.ids.rules c.args.a c.args.b c.requires.ids.left c.requires.ids.right _ _ c.in-None.ensures.steps.0 c.loop-left.invariant.walk;
  below = c.loop-left.invariant.walk.below;
  left_held = c.loop-left.invariant.walk.left_held;
  right_held = c.loop-left.invariant.walk.right_held;
}

pub remember_way-loop-left-preserved : goal.remember_way-loop-left-preserved
remember_way-loop-left-preserved g t c =
    let last : IsLastOf c.args.nodes.now c.loop-left.pair.0 c.loop-left.pair.1 c.in-Some-Last.left c.in-Some-Last.right = search rules in
    let apart = last_apart c.args.nodes.now _ _ _ _ c.loop-left.invariant.disjoint last in
    record {
      memory = record {
        unbounded = λ u. ap (λ looks. looks.left) c.remember-in-loop-left.ensures.looks ∙ c.all_but_last.ensures.kept.unbounded (c.loop-left.invariant.memory.unbounded u);
        apart = c.remember-in-loop-left.ensures.apart c.args.nodes.now apart c.all_but_last.ensures.kept.apart;
      };
      ids = record { rules = c.requires.ids.rules; left = last.left_held; right = last.right_held };
      nodes = on_none c.recall.result _ c.recall.ensures.nodes (sym c.if-is_some.ensures);
      below = omega (arith, last.below, c.loop-left.invariant.below);
      disjoint = apart;
    }
