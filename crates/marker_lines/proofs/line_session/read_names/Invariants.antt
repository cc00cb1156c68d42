use Rattle.std.proofs.Common.{take}
use Rattle.marker_lines.specs.LineView.{texts_of}
use Rattle.marker_lines.specs.LineStep.{Names}
use Rattle.marker_lines.proofs.line_session.read_names.Given as goal

abbrev pub invariant-loop-word : goal.invariant-loop-word
invariant-loop-word l = Names (texts_of (take l.word-index l.words)) l.names.items
