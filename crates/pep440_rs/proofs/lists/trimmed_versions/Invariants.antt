use Rattle.std.proofs.Common.{◌≡◌, map, take}
use Rattle.version_ranges.specs.Point.{Point}
use Rattle.pep440_version.specs.Order.{trimmed_parts}
use Rattle.pep440_version.specs.Parts.{Parts}
use Rattle.pep440_rs.specs.Lists.{is_listed}
use Rattle.pep440_rs.proofs.lists.trimmed_versions.Given as goal

abbrev pub invariant-loop-version : goal.invariant-loop-version
invariant-loop-version l = record {
  value : l.trimmed.items ≡ map trimmed_parts (take l.version-index l.versions);
  same : (p : Point Parts) → is_listed l.trimmed.items p ≡ is_listed (take l.version-index l.versions) p;
}
