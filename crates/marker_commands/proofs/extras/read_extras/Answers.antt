use Rattle.marker_commands.specs.Extras.{Names, no_more}
use Rattle.std.proofs.Common.{subst, sym, [], List, ℕ}
use Rattle.marker_commands.proofs.NameLaws.{names_more}
use Rattle.marker_commands.proofs.extras.read_extras.Goals as goal

pub loop-word-init : goal.loop-word-init
loop-word-init c = subst (λ (x : List (List ℕ)). Names [] x) (sym c.new-names.ensures.items) no_more

pub loop-word-preserved : goal.loop-word-preserved
loop-word-preserved c = names_more c.args.words.now c.loop-word.word-index _ c.loop-word-test.true c.loop-word.invariant c.in_ok-name.ensures.read c.in_ok-push.ensures.items
