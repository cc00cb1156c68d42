use Rattle.std.proofs.Common.{◌≡◌, length}
use Rattle.version_ranges.specs.Parts.{parts_left}
use Rattle.version_ranges.specs.Intervals.{intervals_among}
use Rattle.version_ranges.proofs.intervals.IntervalsIterator.next.Given as goal

abbrev pub invariant-loop-piece : goal.invariant-loop-piece
invariant-loop-piece g l = intervals_among (parts_left l.self.pieces) ≡ intervals_among (parts_left l.fn.self.pieces)

abbrev pub decreases-loop-piece : goal.decreases-loop-piece
decreases-loop-piece g l = length (parts_left l.self.pieces)
