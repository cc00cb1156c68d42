use Rattle.marker_nodes.specs.Node.{child_at}
use Rattle.marker_nodes.specs.Sides.{count, pair_at, piece, variable}
use Rattle.marker_nodes.proofs.SideLaws.{signed_branches, signed_first}
use Rattle.marker_conjunctions.proofs.StepLaws.{walk_from, walk_known, walk_open, walk_count, walk_ands, choice_joins, is_same, is_other}
use Rattle.marker_conjunctions.proofs.conjunctions.Conjunctions.look.Goals as goal

pub loop-left-init : goal.loop-left-init
loop-left-init c =
    let s = c.side_by_side.result in
    rw (c.into_iter-left-iterator.ensures.into_iter_gives, c.new-children.ensures.items)
    (walk_from c.args.nodes.now c.args.self.now.memo.entries c.args.a c.args.b (variable s) (pair_at s) (piece s) (count s) (λ v. signed_branches c.args.nodes.now _ c.args.a c.args.b _ _ c.negate-unsigned_a.ensures c.negate-unsigned_b.ensures v _ (c.side_by_side.ensures.children v)) c.args.pending.now.items _ c.requires.held.left c.requires.held.right
    c.pairs-left-items.ensures.count c.pairs-left-items.ensures.value c.pairs-left-items.ensures.inhabited)

pub loop-left-preserved-in-Continue-1 : goal.loop-left-preserved-in-Continue-1
loop-left-preserved-in-Continue-1 c =
    let s = c.side_by_side.result in
    walk_known c.args.nodes.now c.args.self.now.memo.entries c.args.a c.args.b (variable s) (pair_at s) (piece s) (count s) (signed_first c.args.nodes.now _ c.args.a c.args.b _ _ c.negate-unsigned_a.ensures c.negate-unsigned_b.ensures c.side_by_side.ensures.first) c.requires.held.rules.nodes c.requires.held.left c.requires.held.right
    c.args.pending.now.items c.loop-left.pending.items _ _ c.loop-left.next c.loop-left.children.items _ c.in-Some.ensures.steps c.loop-left.invariant
    c.negate-left.result c.negate-right.result c.negate-left.ensures c.negate-right.ensures
    c.in-Some-look_up.child c.push.new.self.items c.in_ok-push-in-Some-look_up.ensures.ok (c.in-Some-look_up.ensures.and c.args.nodes.now c.requires.held.rules)

pub loop-left-preserved : goal.loop-left-preserved
loop-left-preserved c =
    let s = c.side_by_side.result in
    walk_open c.args.nodes.now c.args.self.now.memo.entries c.args.a c.args.b (variable s) (pair_at s) (piece s) (count s) (signed_first c.args.nodes.now _ c.args.a c.args.b _ _ c.negate-unsigned_a.ensures c.negate-unsigned_b.ensures c.side_by_side.ensures.first) c.requires.held.rules.nodes c.requires.held.left c.requires.held.right
    c.args.pending.now.items c.loop-left.pending.items _ _ c.loop-left.next c.loop-left.children.items _ c.in-Some.ensures.steps c.loop-left.invariant
    c.negate-left.result c.negate-right.result c.negate-left.ensures c.negate-right.ensures
    c.push-in-None-look_up.new.self.items c.in_ok-push-in-None-look_up.ensures.items c.in-None-look_up.ensures.unsettled

pub choice-requires-clause-count : goal.choice-requires-clause-count
choice-requires-clause-count c =
    let s = c.side_by_side.result in
    walk_count c.args.nodes.now c.args.self.now.memo.entries c.args.a c.args.b (variable s) (pair_at s) (piece s) (count s) (λ v. signed_branches c.args.nodes.now _ c.args.a c.args.b _ _ c.negate-unsigned_a.ensures c.negate-unsigned_b.ensures v _ (c.side_by_side.ensures.children v))
    c.args.pending.now.items c.loop-left.pending.items _ c.loop-left.next c.loop-left.children.items c.in-None.ensures.steps.0 c.loop-left.invariant
    (is_same c.loop-left.next c.args.a c.args.b c.ne.result c.ne.ensures c.if-ne.false)

pub returns-then-ne-clause-step : goal.returns-then-ne-clause-step
returns-then-ne-clause-step c = c.loop-left.invariant.wanted (is_other c.loop-left.next c.args.a c.args.b c.ne.result c.ne.ensures c.if-ne.true)

pub returns-clause-step : goal.returns-clause-step
returns-clause-step c =
    let s = c.side_by_side.result in
    choice_joins c.args.nodes.now c.args.a c.args.b (variable s) (λ v. child_at c.loop-left.children.items (piece s v)) c.in_ok-choice.choice (signed_first c.args.nodes.now _ c.args.a c.args.b _ _ c.negate-unsigned_a.ensures c.negate-unsigned_b.ensures c.side_by_side.ensures.first)
    (walk_ands c.args.nodes.now c.args.self.now.memo.entries c.args.a c.args.b (variable s) (pair_at s) (piece s) (count s) (λ v. signed_branches c.args.nodes.now _ c.args.a c.args.b _ _ c.negate-unsigned_a.ensures c.negate-unsigned_b.ensures v _ (c.side_by_side.ensures.children v))
    c.args.pending.now.items c.loop-left.pending.items _ c.loop-left.next c.loop-left.children.items c.in-None.ensures.steps.0 c.loop-left.invariant
    (is_same c.loop-left.next c.args.a c.args.b c.ne.result c.ne.ensures c.if-ne.false))
    c.in_ok-choice.ensures.variable c.in_ok-choice.ensures.child
