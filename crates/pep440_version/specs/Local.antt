-- The text and the hash of the local part of a version.
use Rattle.std.specs.Prelude.{ℕ, List, map}
use Rattle.std.specs.Hash as fed
use Rattle.std.specs.Hash.{HashWrites}
use Rattle.pep440_version.specs.declared.version.LocalSegment.{LocalSegment}
use Rattle.pep440_version.specs.HashInput.{segment_writes}
use Rattle.pep440_version.specs.Text as texts
use Rattle.pep440_version.specs.View.{segment_of}

-- the segments, each after a dot
abbrev pub after_dots : List LocalSegment → List ℕ
after_dots segments = texts.dotted_segments (map segment_of segments)

-- `+` and the segments, or nothing without any
abbrev pub local_part : List LocalSegment → List ℕ
local_part segments = texts.local_text (map segment_of segments)

-- what a hasher is fed
abbrev pub local_writes : List LocalSegment → HashWrites
local_writes segments = fed.slice segment_writes (map segment_of segments)
