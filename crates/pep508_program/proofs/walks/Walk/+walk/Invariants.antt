use Rattle.std.proofs.Common.{◌+◌, ◌*◌, length}
use denote.Text.{Utf8}
use denote.Shadow.{shadow}
use Rattle.pep508_program.specs.Reporting.{Grows}
use Rattle.pep508_program.proofs.walks.Walk.+walk.Given as goal

abbrev pub decreases-walk_file : goal.decreases-walk_file
decreases-walk_file g l = 2 * l.depth + 1

abbrev pub decreases-follow : goal.decreases-follow
decreases-follow g l = 2 * l.depth

abbrev pub invariant-walk_file-loop-line : goal.invariant-walk_file-loop-line
invariant-walk_file-loop-line g l =
    shadow (Utf8 l.rest) × Grows l.fn.self.report.tally l.self.report.tally

abbrev pub decreases-walk_file-loop-line : goal.decreases-walk_file-loop-line
decreases-walk_file-loop-line g l = length l.rest
