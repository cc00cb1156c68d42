use Rattle.std.proofs.Common.{take}
use Rattle.std.specs.List.{All}
use Rattle.pep440_specifier.specs.Specifier.{IsWellFormed}
use Rattle.pep440_specifier.proofs.specifiers.each_is_well_formed.Given as goal

abbrev pub invariant-loop-specifier : goal.invariant-loop-specifier
invariant-loop-specifier l = All IsWellFormed (take l.specifier-index l.specifiers)
