use Rattle.pep508_text.proofs.SuffixLaws.{suffix_self}
use Rattle.pep508_markers.proofs.marker_text.MarkerTreeMarkerText.parse_str.Goals as goal

pub read_behind-requires : goal.read_behind-requires
read_behind-requires g c = suffix_self _ c.utf8.text
