use Rattle.std.proofs.Common.{length, IsUtf8}
use Rattle.std.specs.Str.{chars}
use Rattle.marker_parts.proofs.VersionListLaws.{HasRead}
use Rattle.marker_parts.proofs.version_comparison.version_list.Given as goal

abbrev pub invariant-entries : goal.invariant-entries
invariant-entries l = record { utf8 : IsUtf8 l.rest; read : HasRead (chars l.text) (chars l.rest) l.versions.items }

abbrev pub decreases-entries : goal.decreases-entries
decreases-entries l = length l.rest
