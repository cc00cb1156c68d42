use Rattle.std.proofs.Common.{length, drop, ◌-◌, ◌≤◌}
use Rattle.pep508_text.specs.Run.{run_of, after_run}
use Rattle.pep508_text.proofs.Splits.{Passed}
use Rattle.pep508_text.proofs.fronts.split_run.Given as goal

abbrev pub invariant-bytes : goal.invariant-bytes
invariant-bytes l = (l.len ≤ length l.text) × Passed (run_of l.class) (after_run l.class) l.text (drop l.len l.text)

abbrev pub decreases-bytes : goal.decreases-bytes
decreases-bytes l = length l.bytes - l.len
