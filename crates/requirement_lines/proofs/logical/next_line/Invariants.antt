use Rattle.std.proofs.Common.{◌≡◌, ◌≤◌, length}
use Rattle.pep508_text.specs.Suffix.{IsSuffix}
use Rattle.requirement_lines.specs.Character.{characters}
use Rattle.requirement_lines.specs.Logical.{logical_lines}
use Rattle.requirement_lines.proofs.logical.next_line.Given as goal

abbrev pub invariant-loop-rest : goal.invariant-loop-rest
invariant-loop-rest l = record {
  lines : logical_lines (characters l.fn.text) ≡ logical_lines (characters l.rest);
  within : length l.rest ≤ length l.fn.text;
  suffix : IsSuffix l.fn.text l.rest;
}

abbrev pub decreases-loop-rest : goal.decreases-loop-rest
decreases-loop-rest l = length l.rest
