use Rattle.std.proofs.Common.{◌∙◌, sym, arith, rules}
use Rattle.pep440_version.proofs.Padded.{significant-drop, significant-none, significant-stop}
use Rattle.pep440_version.proofs.order.significant.Goals as goal
use Rattle.pep440_version.proofs.order.significant.Goals.{then-zeros-test+else-release-len-eq0, else-zeros-test}

pub zeros-preserved : goal.zeros-preserved
zeros-preserved c = (omega arith, significant-drop c.args.release.now c.zeros.len (omega arith) (omega arith) (search rules) ∙ c.zeros.invariant.1)

pub returns-clause-value : goal.returns-clause-value
returns-clause-value c = elim c.zeros-test.branch [
  | then-zeros-test+else-release-len-eq0 w ↦ sym (significant-stop c.args.release.now c.zeros.len w.zeros-test.true c.zeros.invariant.0 w.if-release-len-eq0.false) ∙ c.zeros.invariant.1
  | else-zeros-test w ↦ sym (significant-none c.args.release.now c.zeros.len w.zeros-test.false) ∙ c.zeros.invariant.1
]
