-- What a contract sees of a version.
use Rattle.std.specs.Prelude.{map, string_bytes, ◌≡◌, List}
use Rattle.pep440_version.specs.declared.version.LocalSegment.{LocalSegment}
use Rattle.pep440_version.specs.declared.version.LocalSegment.TheVariants.{String, Number}
use Rattle.pep440_version.specs.declared.version.Version.TheInside.{Inside}
use Rattle.pep440_version.specs.Parts.{Parts, Segment, word, number}

abbrev pub segment_of : LocalSegment → Segment
segment_of (String s) = word (string_bytes s)
segment_of (Number n) = number n

abbrev pub parts_of : Inside → Parts
parts_of v = record {
  epoch = v.epoch;
  release = v.release.items;
  pre = v.pre;
  post = v.post;
  dev = v.dev;
  locals = map segment_of v.local.items;
}

-- two lists have the same segments
abbrev pub HaveSameSegments : List LocalSegment → List LocalSegment → Type 0
HaveSameSegments copy locals = map segment_of copy ≡ map segment_of locals
