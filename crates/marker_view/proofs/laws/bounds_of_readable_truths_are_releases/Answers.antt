use Rattle.marker_view.proofs.ReadableLaws.{readable_bounds}
use Rattle.marker_view.proofs.laws.bounds_of_readable_truths_are_releases.Goals as goal

pub returns : goal.returns
returns c = readable_bounds
