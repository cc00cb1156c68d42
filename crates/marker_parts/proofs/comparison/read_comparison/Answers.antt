use Rattle.marker_parts.proofs.ComparisonLaws.{reads_comparison}
use Rattle.marker_parts.proofs.comparison.read_comparison.Goals as goal

pub returns-clause-found : goal.returns-clause-found
returns-clause-found c = reads_comparison c.in_ok-outcome.outcome c.in_ok-comparison.ensures.found c.in_ok-outcome.ensures c.in_ok-append.ensures.items
