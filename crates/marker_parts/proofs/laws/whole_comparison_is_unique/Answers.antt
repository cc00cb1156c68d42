use Rattle.marker_parts.proofs.ComparisonLaws.{compared_same}
use Rattle.marker_parts.proofs.laws.whole_comparison_is_unique.Goals as goal

pub returns : goal.returns
returns c = λ text m n first second. (compared_same first.compared second.compared).1
