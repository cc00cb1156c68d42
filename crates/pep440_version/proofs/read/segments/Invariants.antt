use Rattle.std.proofs.Common.{◌≡◌, ◌-◌, length, map}
use Rattle.pep440_version.specs.Reading.{segments_at}
use Rattle.pep440_version.specs.View.{segment_of}
use Rattle.pep440_version.proofs.Readers.{prepend_all}
use Rattle.pep440_version.proofs.read.segments.Given as goal

abbrev pub invariant-segments : goal.invariant-segments
invariant-segments l = segments_at (length l.text) l.text ≡ prepend_all (map segment_of l.segments.items) (segments_at (length l.text - l.step) l.rest)
