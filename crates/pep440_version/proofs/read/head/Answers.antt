use Rattle.pep440_version.proofs.Heads.{head-absent, head-epoch, head-numbers, head-plain, head-unreleased}
use Rattle.pep440_version.proofs.read.head.Goals as goal

pub returns-in_default-clause-value : goal.returns-in_default-clause-value
returns-in_default-clause-value c = head-absent c.args.text.now c.in_default.ensures

pub returns-in_default-strip-clause-value : goal.returns-in_default-strip-clause-value
returns-in_default-strip-clause-value c =
    head-plain c.args.text.now _ _ _ _ c.in-Some.ensures c.in_default-strip.ensures c.in_ok-release.ensures

pub returns-in_default-strip-clause-numbers : goal.returns-in_default-strip-clause-numbers
returns-in_default-strip-clause-numbers c =
    head-numbers c.args.text.now _ _ _ (head-plain c.args.text.now _ _ _ _ c.in-Some.ensures c.in_default-strip.ensures c.in_ok-release.ensures)

pub returns-in_default-number-clause-value : goal.returns-in_default-number-clause-value
returns-in_default-number-clause-value c =
    head-unreleased c.args.text.now _ _ _ c.in-Some.ensures c.in-Some-strip.ensures c.in_default-number.ensures

pub returns-clause-value : goal.returns-clause-value
returns-clause-value c =
    head-epoch c.args.text.now _ _ _ _ _ _ _ c.in-Some.ensures c.in-Some-strip.ensures c.in-Some-number.ensures c.in_ok-release-2.ensures

pub returns-clause-numbers : goal.returns-clause-numbers
returns-clause-numbers c =
    let read = head-epoch c.args.text.now _ _ _ _ _ _ _ c.in-Some.ensures c.in-Some-strip.ensures c.in-Some-number.ensures c.in_ok-release-2.ensures in
    head-numbers c.args.text.now _ _ _ read
