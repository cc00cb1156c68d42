use Rattle.pep440_rs.proofs.Between.{version_clones}
use Rattle.marker_commands.proofs.ranges.matching.Goals as goal

pub intersection-requires : goal.intersection-requires
intersection-requires c = record {
  clones = version_clones;
}
