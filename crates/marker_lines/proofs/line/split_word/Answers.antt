use Rattle.marker_lines.proofs.WordLaws.{split_at_space}
use Rattle.marker_lines.proofs.line.split_word.Goals as goal

pub returns : goal.returns
returns c = split_at_space c.args.text.now _ c.split_once.ensures.cases
