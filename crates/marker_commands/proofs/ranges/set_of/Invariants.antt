use Rattle.std.proofs.Common.{take}
use Rattle.version_ranges.specs.Ranges.{IsSet}
use Rattle.pep440_version.specs.Order.{version_cmp}
use Rattle.pep440_rs.specs.Bounds.{is_in_all}
use Rattle.marker_commands.proofs.ranges.set_of.Given as goal

abbrev pub invariant-loop-specifier : goal.invariant-loop-specifier
invariant-loop-specifier l = IsSet version_cmp l.set (is_in_all (take l.specifier-index l.specifiers))
