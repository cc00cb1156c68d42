use Rattle.std.proofs.Common.{◌≡◌, drop}
use Rattle.requirement_lines.specs.Pieces.{line_of}
use Rattle.requirement_lines.specs.Rest.{rest_of}
use Rattle.requirement_lines.proofs.rest.next_character.Given as goal

abbrev pub invariant-loop-index : goal.invariant-loop-index
invariant-loop-index l = rest_of l.line l.rest ≡ line_of (drop l.index l.line)
