use Rattle.std.proofs.Common.{map, take}
use Rattle.std.specs.Fmt.{HasWritten, IsPlainFormatter}
use Rattle.pep440_version.specs.Text.{dotted_segments}
use Rattle.pep440_version.specs.View.{segment_of}
use Rattle.pep440_version.proofs.display.write_segments.Given as goal

abbrev pub invariant-loop-segment : goal.invariant-loop-segment
invariant-loop-segment g l =
    IsPlainFormatter l.initial.f → HasWritten g.W.Write.write_str_gives l.initial.f (dotted_segments (map segment_of (take l.segment-index l.segments))) l.f
