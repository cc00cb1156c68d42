use Rattle.pep440_rs.specs.Intervals.{HasTrimmedBounds}
use Rattle.marker_simplifications.proofs.value_set.ValueSet.place.Goals as goal

pub asks_version-requires : goal.asks_version-requires
unfolding HasTrimmedBounds
asks_version-requires c = c.in-Versions.set.trimmed
