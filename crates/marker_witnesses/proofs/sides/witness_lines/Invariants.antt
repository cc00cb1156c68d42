-- The lines so far.
use Rattle.std.proofs.Common.{◌≡◌, take, string_bytes}
use Rattle.marker_witnesses.specs.Sides.{lines_text}
use Rattle.marker_witnesses.proofs.sides.witness_lines.Given as goal

abbrev pub invariant-loop-witness : goal.invariant-loop-witness
invariant-loop-witness l = string_bytes l.lines ≡ lines_text (take l.witness-index l.shown)
