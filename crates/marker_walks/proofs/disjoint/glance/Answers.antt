use Rattle.marker_nodes.proofs.SideLaws.{signed_branches, signed_first}
use Rattle.marker_walks.proofs.Disjoints.{tells_no, walks, on_left, on_right, on_shared, on_told, on_all}
use Rattle.marker_walks.proofs.disjoint.glance.Goals as goal

pub returns-in-Some : goal.returns-in-Some
returns-in-Some c = c.in-Some.ensures.answer c.args.nodes.now c.requires.rules c.requires.a c.requires.b

pub loop-left-init : goal.loop-left-init
loop-left-init c = rw c.into_iter-left-iterator.ensures.into_iter_gives (walks c.args.nodes.now c.requires.rules c.args.a c.args.b c.requires.a c.requires.b c.side_by_side.result
    (signed_first c.args.nodes.now _ c.args.a c.args.b _ _ c.negate-unsigned_a.ensures c.negate-unsigned_b.ensures c.side_by_side.ensures.first)
    (λ v. signed_branches c.args.nodes.now _ c.args.a c.args.b _ _ c.negate-unsigned_a.ensures c.negate-unsigned_b.ensures v _ (c.side_by_side.ensures.children v)) _ c.pairs-left-items.ensures.value c.pairs-left-items.ensures.inhabited
    (c.in_default.ensures.nodes).0)

pub returns-then-not-is_apart : goal.returns-then-not-is_apart
returns-then-not-is_apart c =
    let nodes = c.args.nodes.now in
    let left = on_left nodes c.requires.rules c.args.a c.args.b c.requires.a c.requires.b _ _ _ _ c.in-Some-2.ensures.steps c.loop-left.invariant _ _ c.negate-left.ensures c.negate-right.ensures in
    let right = on_right nodes c.requires.rules c.args.a c.args.b c.requires.a c.requires.b _ _ _ _ c.in-Some-2.ensures.steps c.loop-left.invariant _ _ c.negate-left.ensures c.negate-right.ensures in
    tells_no nodes c.args.a c.args.b
    (on_shared nodes c.requires.rules c.args.a c.args.b c.requires.a c.requires.b _ _ _ _ c.in-Some-2.ensures.steps c.loop-left.invariant _ _ c.negate-left.ensures c.negate-right.ensures _
    (c.in_ok-is_apart.ensures.answer nodes c.requires.rules left right) c.if-not-is_apart.true)

pub loop-left-preserved : goal.loop-left-preserved
loop-left-preserved c =
    let nodes = c.args.nodes.now in
    let left = on_left nodes c.requires.rules c.args.a c.args.b c.requires.a c.requires.b _ _ _ _ c.in-Some-2.ensures.steps c.loop-left.invariant _ _ c.negate-left.ensures c.negate-right.ensures in
    let right = on_right nodes c.requires.rules c.args.a c.args.b c.requires.a c.requires.b _ _ _ _ c.in-Some-2.ensures.steps c.loop-left.invariant _ _ c.negate-left.ensures c.negate-right.ensures in
    on_told nodes c.requires.rules c.args.a c.args.b c.requires.a c.requires.b _ _ _ _ c.in-Some-2.ensures.steps c.loop-left.invariant _ _ c.negate-left.ensures c.negate-right.ensures _
    (c.in_ok-is_apart.ensures.answer nodes c.requires.rules left right) c.if-not-is_apart.false

pub returns : goal.returns
returns c = on_all c.args.nodes.now c.requires.rules c.args.a c.args.b c.requires.a c.requires.b _ c.in-None.ensures.steps.0 c.loop-left.invariant
