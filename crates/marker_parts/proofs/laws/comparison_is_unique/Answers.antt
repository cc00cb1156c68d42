use Rattle.marker_parts.proofs.ComparisonLaws.{compared_same}
use Rattle.marker_parts.proofs.laws.comparison_is_unique.Goals as goal

pub returns : goal.returns
returns c i o p m n first second = compared_same first second
