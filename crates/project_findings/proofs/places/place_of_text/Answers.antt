use Rattle.std.proofs.Common.{Some}
use Rattle.project_findings.proofs.places.place_of_text.Goals as goal

pub returns : goal.returns
returns c = c.near.ensures (Some c.args.text.now)
