use Rattle.project_files.specs.Found.{entry_in}
use Rattle.project_findings.specs.Places.{string_of}
use Rattle.project_findings.proofs.places.place_at.Goals as goal

pub returns-in-None : goal.returns-in-None
returns-in-None c = c.near.ensures (string_of (entry_in c.args.entry.now))

pub returns-in-Wrong : goal.returns-in-Wrong
returns-in-Wrong c = c.near-in-Wrong.ensures (string_of (entry_in c.args.entry.now))
