use Rattle.std.proofs.Common.{length}
use Rattle.pep508_text.specs.Run.{run_of, after_run}
use Rattle.pep508_text.proofs.Splits.{Passed}
use Rattle.pep508_text.proofs.fronts.split_decoded_run.Given as goal

abbrev pub invariant-loop-c : goal.invariant-loop-c
invariant-loop-c l = Passed (run_of l.class) (after_run l.class) l.text l.rest

abbrev pub decreases-loop-c : goal.decreases-loop-c
decreases-loop-c l = length l.rest
