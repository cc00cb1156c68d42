use Rattle.marker_commands.proofs.SimplifyingLaws.{line}
use Rattle.marker_commands.proofs.simplifying.simplify_marker.Goals as goal

pub returns-in-Ok : goal.returns-in-Ok
returns-in-Ok c = line c.args.text.now c.args.simplification c.words.result.now c.in-Ok.answer c.with_line.result c.in-Ok.ensures.simplified c.words.ensures c.with_line.ensures.answer
