-- The pairs with the first values are there.
use Rattle.std.proofs.Common.{◌≡◌, ◌++◌, take}
use Rattle.selection_commands.specs.Products.{pairs_with}
use Rattle.selection_commands.proofs.products.add_pairs.Given as goal

abbrev pub invariant-loop-other : goal.invariant-loop-other
invariant-loop-other g l = l.pairs.items ≡ l.initial.pairs.items ++ pairs_with l.one (take l.other-index l.second)
