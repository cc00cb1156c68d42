use Rattle.pep440_rs.proofs.Between.{version_clones}
use Rattle.marker_terms.proofs.version_set.version_clauses.Goals as goal

pub complement-requires : goal.complement-requires
complement-requires c = record {
  clones = version_clones;
}
