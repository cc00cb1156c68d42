use Rattle.pep508_markers.proofs.JsonLaws.{refused_json}
use Rattle.pep508_markers.proofs.marker_text.MarkerTreeMarkerText.from_json.Goals as goal

pub returns-in-Some-clause-refused : goal.returns-in-Some-clause-refused
returns-in-Some-clause-refused g c =
    let is = rw c.in-Some.is at c.in_ok-text.ensures in
    refused_json c.args.json.now _ is c.deref.result.now c.parse_str.result c.deref.ensures c.parse_str.ensures.refused
