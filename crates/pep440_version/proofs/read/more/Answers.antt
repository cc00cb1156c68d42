use Rattle.std.proofs.Common.{◌≡◌, ◌-◌, ◌+◌, suc, length, sym, arith, append-nil, append_assoc}
use Rattle.pep440_version.proofs.Readers.{more-next, more-stop, more-zero}
use Rattle.pep440_version.proofs.read.more.Goals as goal

pub returns-in_default-clause-numbers : goal.returns-in_default-clause-numbers
returns-in_default-clause-numbers c =
    let stop = more-stop (length c.args.text.now - c.numbers.step) c.numbers.rest.now (sym c.in_default.ensures) in
    rw (stop, append-nil) at c.numbers.invariant.0

pub returns-in_default-clause-rest : goal.returns-in_default-clause-rest
returns-in_default-clause-rest c =
    let stop = more-stop (length c.args.text.now - c.numbers.step) c.numbers.rest.now (sym c.in_default.ensures) in
    rw stop at c.numbers.invariant.1

pub numbers-preserved : goal.numbers-preserved
numbers-preserved c =
    let k : length c.args.text.now - c.numbers.step ≡ suc (length c.args.text.now - (c.numbers.step + 1)) = omega arith in
    let next = more-next (length c.args.text.now - (c.numbers.step + 1)) c.numbers.rest.now c.in-Some.number c.in-Some.after.now (sym c.in-Some.ensures) in
    let first = rw (k, next) at c.numbers.invariant.0 in
    let second = rw (k, next) at c.numbers.invariant.1 in
    (rw (c.in_ok-push.ensures.ok, append_assoc) first, second)

pub returns-clause-numbers : goal.returns-clause-numbers
returns-clause-numbers c =
    let k : length c.args.text.now - c.numbers.step ≡ 0 = omega arith in
    rw (k, more-zero c.numbers.rest.now, append-nil) at c.numbers.invariant.0

pub returns-clause-rest : goal.returns-clause-rest
returns-clause-rest c =
    let k : length c.args.text.now - c.numbers.step ≡ 0 = omega arith in
    rw (k, more-zero c.numbers.rest.now) at c.numbers.invariant.1
