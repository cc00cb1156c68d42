use Rattle.std.proofs.Common.{arith}
use Rattle.marker_simplifications.specs.ValueSet.{contains}
use Rattle.pep508_markers.specs.Trees.{joins, truth_under}
use Rattle.pep508_markers.proofs.SetLaws.{found_same, halves_held, halves_truth}
use Rattle.pep508_markers.proofs.sets.+joined_set.Goals as goal

pub joined_set-requires : goal.joined_set-requires
joined_set-requires t c =
    let halves = c.split_at.ensures in (
      omega (arith, c.decreases, halves.front_len, halves.back_len, c.if-middle-eq0.false),
      (halves_held c.args.interner.now c.args.connective c.args.trees.now c.split_at.result.0.now c.split_at.result.1.now _ halves.front halves.back c.requires).0,
    )

pub joined_set-requires-2 : goal.joined_set-requires-2
joined_set-requires-2 t c =
    let halves = c.split_at.ensures in (
      omega (arith, c.decreases, halves.front_len, halves.back_len, c.if-middle-eq0.false),
      (halves_held c.args.interner.now c.args.connective c.args.trees.now c.split_at.result.0.now c.split_at.result.1.now _ halves.front halves.back c.requires).1,
    )

pub returns : goal.returns
returns t c =
    let halves = c.split_at.ensures in
    let front = rw c.in-Some-2.is at c.in_ok-left.ensures in
    let back = rw c.in-Some-3.is at c.in_ok-right.ensures in
    found_same c.join_two_sets.result (λ v. joins c.args.connective (contains c.in-Some-2.left v) (contains c.in-Some-3.right v)) (truth_under c.args.interner.now c.args.connective c.args.trees.now)
    (halves_truth c.args.interner.now c.args.connective c.args.trees.now c.split_at.result.0.now c.split_at.result.1.now _ halves.front halves.back (contains c.in-Some-2.left) (contains c.in-Some-3.right) front back)
    c.join_two_sets.ensures
