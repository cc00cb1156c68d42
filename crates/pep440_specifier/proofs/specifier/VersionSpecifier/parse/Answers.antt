use Rattle.std.proofs.Common.{rules}
use Rattle.std.specs.Str.{trim}
use Rattle.pep440_version.specs.Grammar.{IsPatternText}
use Rattle.pep440_specifier.specs.Grammar.{IsOperatorBefore, specifier}
use Rattle.pep440_specifier.specs.Specifier.{Makes}
use Rattle.pep440_specifier.proofs.specifier.VersionSpecifier.parse.Goals as goal

pub returns-in-Ok-from_pattern-clause-found : goal.returns-in-Ok-from_pattern-clause-found
returns-in-Ok-from_pattern-clause-found c =
    let before : IsOperatorBefore (trim c.args.text.now) c.in-Some.operator c.in-Some.rest.now = search rules in
    let pattern : IsPatternText c.in-Some.rest.now c.in-Ok.pattern.version c.in-Ok.pattern.wildcard = search rules in
    let makes : Makes c.in-Some.operator c.in-Ok.pattern.version c.in-Ok.pattern.wildcard c.in-Ok-from_pattern.specifier = search rules in
    specifier before pattern makes
