use Rattle.pep508_text.proofs.SuffixLaws.{suffix_self}
use Rattle.pep508_markers.proofs.marker_text.MarkerTreeMarkerText.parse_reporter.Goals as goal

pub parse_behind-requires-clause-suffix : goal.parse_behind-requires-clause-suffix
parse_behind-requires-clause-suffix g c = suffix_self _ c.utf8.text
