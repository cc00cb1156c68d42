use Rattle.std.proofs.Common.{rules, ◌≡◌, IfErr, Some, true, false}
use Rattle.pep440_specifier.specs.Fault.{IsFault}
use Rattle.pep440_specifier.specs.Operator.{starred}
use Rattle.pep440_specifier.proofs.Faults.{why_starred}
use Rattle.pep440_specifier.proofs.specifier.VersionSpecifier.from_pattern.Goals as goal

pub returns-in-Some-clause-why : goal.returns-in-Some-clause-why
returns-in-Some-clause-why c =
    let same : starred c.args.operator ≡ Some c.in-Some.operator = search rules in
    let star : c.args.pattern.wildcard ≡ true = search rules in
    let why : IfErr c.from_version-in-Some.result (λ e. IsFault e.fault c.in-Some.operator c.args.pattern.version false) = search rules in
    rw star (why_starred c.from_version-in-Some.result _ _ c.args.pattern.version same why)
