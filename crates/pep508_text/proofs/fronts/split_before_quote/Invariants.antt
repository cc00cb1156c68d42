use Rattle.std.proofs.Common.{length, drop, ◌-◌, ◌≤◌}
use Rattle.pep508_text.specs.Run.{run_of, after_run}
use Rattle.pep508_text.specs.declared.classes.Class.TheVariants.{NotQuote}
use Rattle.pep508_text.proofs.Splits.{Passed}
use Rattle.pep508_text.proofs.fronts.split_before_quote.Given as goal

abbrev pub invariant-bytes : goal.invariant-bytes
invariant-bytes l = (l.len ≤ length l.text) × Passed (run_of (NotQuote l.quote)) (after_run (NotQuote l.quote)) l.text (drop l.len l.text)

abbrev pub decreases-bytes : goal.decreases-bytes
decreases-bytes l = length l.bytes - l.len
