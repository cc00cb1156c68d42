use Rattle.std.proofs.Common.{length}
use Rattle.requirement_words.proofs.ExtrasLaws.{Going}
use Rattle.requirement_words.proofs.extras.read_extras.Given as goal

abbrev pub invariant-loop-found : goal.invariant-loop-found
invariant-loop-found l = Going l.text l.inside l.left l.names.items

abbrev pub decreases-loop-found : goal.decreases-loop-found
decreases-loop-found l = length l.left
