use Rattle.std.proofs.Common.{length, IsUtf8, false}
use Rattle.std.specs.Prelude.{map}
use Rattle.requirement_lines.specs.Character.{characters}
use Rattle.requirement_lines.specs.Logical.{logical_lines}
use Rattle.requirement_lines.specs.Variables.{value_of, replaced, replaced_lines}
use Rattle.requirement_findings.proofs.CheckLaws.{Checking}
use Rattle.requirement_findings.proofs.file.check_file.Given as goal

abbrev pub invariant-loop-lines : goal.invariant-loop-lines
invariant-loop-lines g l = record {
  checked : Checking g.C.CheckLines.checks l.fn.checker l.checker (replaced_lines (value_of l.variables) l.fn.file) (map (replaced (value_of l.variables) false) (logical_lines (characters l.rest))) l.lines.items;
  utf8 : IsUtf8 l.rest;
}

abbrev pub decreases-loop-lines : goal.decreases-loop-lines
decreases-loop-lines g l = length l.rest
