use Rattle.std.proofs.Common.{◌≡◌, sym, ap, ◌∙◌, refl, length, rules}
use Rattle.requirement_lines.specs.Pieces.{line_of}
use Rattle.requirement_lines.specs.Reports.{text_of}
use Rattle.requirement_lines.proofs.ReportLaws.{text_of-none}
use Rattle.requirement_lines.proofs.reports.check_line.Goals as goal

pub returns-then-is_empty-clause-reported : goal.returns-then-is_empty-clause-reported
returns-then-is_empty-clause-reported g c =
    let zero : length c.as_str-text.result.now ≡ 0 = search rules in
    let text : c.as_str-text.result.now ≡ text_of (line_of c.as_slice.result.now) = c.as_str-text.ensures.value ∙ c.in_ok-owned.ensures in
    (sym c.in_ok-requirement.ensures ∙ ap line_of (sym c.as_slice.ensures.value) ∙ text_of-none (line_of c.as_slice.result.now) (ap length (sym text) ∙ zero), refl)
