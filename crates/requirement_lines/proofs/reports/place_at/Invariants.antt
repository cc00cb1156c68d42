use Rattle.std.proofs.Common.{◌≡◌, drop}
use Rattle.requirement_lines.specs.Pieces.{line_of}
use Rattle.requirement_lines.specs.Reports as spec
use Rattle.requirement_lines.specs.declared.places.Source.TheVariants.{File}
use Rattle.requirement_lines.proofs.reports.place_at.Given as goal

abbrev pub invariant-loop-index : goal.invariant-loop-index
invariant-loop-index l = spec.place_at (record { to_end = 0; source = File }) (line_of l.pieces) l.at ≡ spec.place_at l.end (line_of (drop l.index l.pieces)) l.skipped
