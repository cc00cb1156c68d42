use Rattle.std.proofs.Common.{◌≡◌, ◌++◌, take}
use Rattle.std.specs.Prelude.{map}
use Rattle.requirement_options.specs.Line.{lost_at}
use Rattle.requirement_options.proofs.line.add_lost.Given as goal

abbrev pub invariant-loop-index : goal.invariant-loop-index
invariant-loop-index l = l.faults.items ≡ l.fn.faults.items ++ map lost_at (take l.index l.lost)
