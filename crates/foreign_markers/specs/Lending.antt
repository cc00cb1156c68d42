-- What a handle lends.
use Rattle.std.specs.Prelude.{Option, Some}
use Rattle.std.specs.Borrow.{LendsIf, MutBor, Fml}
use Rattle.foreign_markers.specs.declared.handle.Handle.{Handle}
use Rattle.foreign_markers.specs.declared.markers.Markers.{Markers}
use Rattle.foreign_markers.specs.contracts.handle.Handle as handle
use Rattle.foreign_markers.specs.contracts.markers.Markers as markers

-- an open handle with other markers
abbrev pub with_markers : Handle → Markers → Handle
with_markers h m = record { is_open = h.is_open; at = h.at; value = Some m }

-- the handle ends with the last markers behind the reference, or as it was if there is none
abbrev pub LendsMarkers : MutBor Handle → Option (MutBor Markers) → Fml
LendsMarkers h m = LendsIf handle.the_row markers.the_row h m (with_markers h.now) h.now
