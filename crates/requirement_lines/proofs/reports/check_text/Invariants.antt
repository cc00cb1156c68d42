use Rattle.std.proofs.Common.{length, IsUtf8, false}
use Rattle.std.specs.Prelude.{map}
use Rattle.requirement_lines.specs.Character.{characters}
use Rattle.requirement_lines.specs.Logical.{logical_lines}
use Rattle.requirement_lines.specs.Variables.{value_of, replaced, replaced_lines}
use Rattle.requirement_lines.specs.Reports.{report_of}
use Rattle.requirement_lines.proofs.ReportLaws.{Reporting}
use Rattle.requirement_lines.proofs.reports.check_text.Given as goal

abbrev pub invariant-loop-reports : goal.invariant-loop-reports
invariant-loop-reports g l = record {
  told : Reporting g.J.Judge.finds l.fn.judge l.judge (replaced_lines (value_of l.variables) l.fn.text) (map (replaced (value_of l.variables) false) (logical_lines (characters l.rest))) (map report_of l.reports.items);
  utf8 : IsUtf8 l.rest;
}

abbrev pub decreases-loop-reports : goal.decreases-loop-reports
decreases-loop-reports g l = length l.rest
