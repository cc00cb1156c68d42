-- The pairs of the first values are there.
use Rattle.std.proofs.Common.{◌≡◌, take}
use Rattle.selection_commands.specs.Products.{pairs_of}
use Rattle.selection_commands.proofs.products.product.Given as goal

abbrev pub invariant-loop-one : goal.invariant-loop-one
invariant-loop-one g l = l.pairs.items ≡ pairs_of (take l.one-index l.first) l.second
