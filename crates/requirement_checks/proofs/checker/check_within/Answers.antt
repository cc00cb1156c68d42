use Rattle.std.proofs.Common.{refl}
use Rattle.std.proofs.lemmas.Result.{on_ok_weaker}
use Rattle.requirement_checks.specs.Findings.{names_told}
use Rattle.requirement_checks.specs.Lines.{IsJudgedIn}
use Rattle.requirement_checks.proofs.LineLaws.{adds_all}
use Rattle.requirement_checks.proofs.checker.check_within.Goals as goal

pub returns : goal.returns
returns c =
    let job = c.args.job in
    on_ok_weaker c.add_others.result
    (adds_all (IsJudgedIn c.args.surroundings.now job.form job.text.now) (names_told c.in_ok-read.read) job.line.now.faults.items
    c.args.findings.now.items c.judge.new.findings.items c.add_others.new.findings.items
    (record { contents = c.judge.new.interner; reading = c.in_ok-read.read; read = c.in_ok-read.ensures.read; told = refl })
    c.in_ok-read.ensures.told)
    c.add_others.ensures
