use Rattle.marker_view.proofs.ReadableLaws.{readable_marker}
use Rattle.marker_view.proofs.laws.readable_truths_have_readable_markers.Goals as goal

pub returns : goal.returns
returns c = readable_marker
