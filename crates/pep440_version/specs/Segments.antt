-- The segments of a local part, which are behind a box.
use Rattle.std.specs.Prelude.{List, [], Option, None, Some, Box, Vec}
use Rattle.std.specs.declared.alloc.Global.{Global}
use Rattle.pep440_version.specs.declared.version.LocalSegment.{LocalSegment}
use Rattle.pep440_version.specs.declared.local.Local.TheInside.{Inside}

pub record Segments : Type 0 where
  pub items : List LocalSegment

abbrev pub boxed_items : Option (Box (Vec LocalSegment Global) Global) → List LocalSegment
boxed_items None = []
boxed_items (Some segments) = segments.value.items

abbrev pub segments_in : Inside → Segments
segments_in local = record { items = boxed_items local.segments }
