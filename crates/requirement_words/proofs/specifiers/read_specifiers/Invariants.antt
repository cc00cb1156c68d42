use Rattle.std.proofs.Common.{length}
use Rattle.requirement_words.proofs.SpecifierLaws.{Going}
use Rattle.requirement_words.proofs.specifiers.read_specifiers.Given as goal

abbrev pub invariant-loop-specifier : goal.invariant-loop-specifier
invariant-loop-specifier l = Going l.end l.text l.left l.specifiers.items

abbrev pub decreases-loop-specifier : goal.decreases-loop-specifier
decreases-loop-specifier l = length l.left
