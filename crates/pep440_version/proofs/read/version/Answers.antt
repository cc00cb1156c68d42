use Rattle.std.proofs.Common.{sym}
use Rattle.pep440_version.proofs.Cases.{version-none, version-some}
use Rattle.pep440_version.proofs.read.version.Goals as goal

pub returns-in-Some : goal.returns-in-Some
returns-in-Some c =
    let head = rw c.in-Some.is at c.in_ok-epoch.ensures.value in
    rw (version-some c.args.text.now c.after_mark.result.now _ _ _ c.after_mark.ensures head) c.version_from.ensures

pub returns-in-None : goal.returns-in-None
returns-in-None c =
    let head = rw c.in-None.is at c.in_ok-epoch.ensures.value in
    sym (version-none c.args.text.now c.after_mark.result.now c.after_mark.ensures head)
