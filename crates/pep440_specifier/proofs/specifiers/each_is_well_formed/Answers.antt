use Rattle.std.proofs.Common.{subst}
use Rattle.std.proofs.lemmas.List.{take_all}
use Rattle.std.proofs.lemmas.List.Elements.{All-more}
use Rattle.std.specs.List.{All}
use Rattle.pep440_specifier.specs.Specifier.{IsWellFormed}
use Rattle.pep440_specifier.proofs.specifiers.each_is_well_formed.Goals as goal

pub loop-specifier-preserved : goal.loop-specifier-preserved
loop-specifier-preserved c =
    All-more IsWellFormed c.args.specifiers.now c.loop-specifier.specifier-index c.specifier-item.result c.loop-specifier-test.true c.loop-specifier.invariant
    (subst IsWellFormed c.specifier-item.is c.specifiers_are_well_formed.ensures)

pub returns : goal.returns
returns c = subst (All IsWellFormed) (take_all c.loop-specifier.specifier-index c.args.specifiers.now c.loop-specifier-test.false) c.loop-specifier.invariant
