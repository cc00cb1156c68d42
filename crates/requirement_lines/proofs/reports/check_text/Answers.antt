use Rattle.std.proofs.Common.{◌≡◌, ◌++◌, false, sym, ap, ◌∙◌, subst}
use Rattle.std.specs.Prelude.{map}
use Rattle.std.specs.Option.{option_map, option_to_list}
use Rattle.std.proofs.lemmas.List.{append-nil}
use Rattle.requirement_lines.specs.Pieces.{line_of}
use Rattle.requirement_lines.specs.Variables.{value_of, replaced, replaced_lines}
use Rattle.requirement_lines.specs.Reports.{report_of, ReportsLine}
use Rattle.requirement_lines.proofs.ReportLaws.{Reporting, reports_pushed, reporting_more, reporting_ended}
use Rattle.requirement_lines.proofs.reports.check_text.Goals as goal
use Rattle.requirement_lines.proofs.reports.check_text.Goals.{in-Some-2+in_ok-push, in_default-2}

pub loop-reports-preserved : goal.loop-reports-preserved
loop-reports-preserved g c =
    let value = value_of c.args.variables.now in
    let first = ap (map (replaced value false)) (rw c.in-Some.is at c.in_ok-line.ensures.line) in
    let end = rw c.in-Some.is at c.in_ok-line.ensures.suffix in
    let report = c.in_ok-report.field-0 in
    let line : line_of c.as_slice-in-Some.result.now ≡ replaced value false (line_of c.in-Some.line.items) =
    ap line_of c.as_slice-in-Some.ensures.value ∙ c.in_ok-replaced.ensures ∙ ap (λ x. replaced value false (line_of x)) c.as_slice.ensures.value in
    let finds = subst (λ x. ReportsLine g.J.Judge.finds c.loop-reports.judge x (option_map report_of report) c.check_line.new.judge) line c.in_ok-report.ensures.reported in
    let pushed : c.match-branch-5.reports.items ≡ c.loop-reports.reports.items ++ option_to_list report = elim c.match-branch-5.branch [
      | in-Some-2+in_ok-push w ↦ ap (λ x. x.items) w.reports-is ∙ w.in_ok-push.ensures.items ∙ ap (λ x. c.loop-reports.reports.items ++ option_to_list x) (sym w.in-Some-2.is)
      | in_default-2 w ↦ ap (λ x. x.items) w.reports-is ∙ sym (append-nil c.loop-reports.reports.items) ∙ ap (λ x. c.loop-reports.reports.items ++ option_to_list x) (sym w.in_default-2.is)
    ] in
    record {
      told = reporting_more g.J.Judge.finds (replaced value false (line_of c.in-Some.line.items)) (option_map report_of report)
          (subst (λ x. Reporting g.J.Judge.finds c.args.judge.now c.loop-reports.judge (replaced_lines value c.args.text.now) x (map report_of c.loop-reports.reports.items)) first c.loop-reports.invariant.told)
          finds (reports_pushed c.loop-reports.reports.items c.match-branch-5.reports.items report pushed);
      utf8 = end.utf8;
    }

pub returns : goal.returns
returns g c =
    let none = ap (map (replaced (value_of c.args.variables.now) false)) (rw c.in_default.is at c.in_ok-line.ensures.line) in
    reporting_ended g.J.Judge.finds c.loop-reports.invariant.told none
