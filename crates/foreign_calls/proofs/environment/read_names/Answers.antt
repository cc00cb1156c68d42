use Rattle.foreign_calls.specs.Environment.{Names, no_more}
use Rattle.std.proofs.Common.{subst, sym, [], List, ℕ}
use Rattle.foreign_calls.proofs.MarkerLaws.{names_more}
use Rattle.foreign_calls.proofs.environment.read_names.Goals as goal

pub loop-word-init : goal.loop-word-init
loop-word-init c = subst (λ (x : List (List ℕ)). Names [] x) (sym c.new-names.ensures.items) no_more

pub loop-word-preserved : goal.loop-word-preserved
loop-word-preserved c = names_more c.args.words.now c.loop-word.word-index _ c.loop-word-test.true c.loop-word.invariant c.in_ok-name.ensures.read c.in-Ok.ensures.items
