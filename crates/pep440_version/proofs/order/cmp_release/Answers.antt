use Rattle.std.proofs.Common.{◌≡◌, ◌≤◌, ◌∙◌, sym, arith, rules, length, get_or}
use Rattle.pep440_version.proofs.Padded.{padded-end, padded-step, then_equal, then_other}
use Rattle.pep440_version.proofs.order.cmp_release.Goals as goal

pub returns-then-ne : goal.returns-then-ne
returns-then-ne c =
    let x : c.unwrap_or-x.result ≡ get_or c.args.a.now c.numbers.i 0 = search rules in
    let y : c.unwrap_or-y.result ≡ get_or c.args.b.now c.numbers.i 0 = search rules in
    let step = c.numbers.invariant ∙ padded-step c.args.a.now c.args.b.now c.numbers.i in
    sym (rw (← x, ← y, ← c.cmp-ordering.ensures, then_other _ _ (sym c.if-ne.true ∙ c.ne.ensures)) at step)

pub numbers-preserved : goal.numbers-preserved
numbers-preserved c =
    let x : c.unwrap_or-x.result ≡ get_or c.args.a.now c.numbers.i 0 = search rules in
    let y : c.unwrap_or-y.result ≡ get_or c.args.b.now c.numbers.i 0 = search rules in
    let step = c.numbers.invariant ∙ padded-step c.args.a.now c.args.b.now c.numbers.i in
    rw (← x, ← y, ← c.cmp-ordering.ensures, then_equal _ _ (sym c.if-ne.false ∙ c.ne.ensures)) at step

pub returns : goal.returns
returns c =
    let a : length c.args.a.now ≤ c.numbers.i = omega arith in
    let b : length c.args.b.now ≤ c.numbers.i = omega arith in
    sym (c.numbers.invariant ∙ padded-end _ _ _ a b)
