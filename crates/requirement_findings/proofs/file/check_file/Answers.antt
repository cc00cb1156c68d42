use Rattle.std.proofs.Common.{◌≡◌, false, ap, ◌∙◌, subst}
use Rattle.std.specs.Prelude.{map}
use Rattle.requirement_lines.specs.Pieces.{line_of}
use Rattle.requirement_lines.specs.Variables.{value_of, replaced, replaced_lines}
use Rattle.requirement_findings.proofs.CheckLaws.{Checking, checking_more, checking_ended}
use Rattle.requirement_findings.proofs.file.check_file.Goals as goal

pub loop-lines-preserved : goal.loop-lines-preserved
loop-lines-preserved g c =
    let checks = g.C.CheckLines.checks in
    let value = value_of c.args.variables.now in
    let all = replaced_lines value c.args.file.now in
    let first = ap (map (replaced value false)) (rw c.in-Some.is at c.in_ok-line.ensures.line) in
    let end = rw c.in-Some.is at c.in_ok-line.ensures.suffix in
    let line : line_of c.as_slice-in-Some.result.now ≡ replaced value false (line_of c.in-Some.line.items) =
    ap line_of c.as_slice-in-Some.ensures.value ∙ c.in_ok-replaced.ensures ∙ ap (λ x. replaced value false (line_of x)) c.as_slice.ensures.value in
    let before = subst (λ x. Checking checks c.args.checker.now c.loop-lines.checker all x c.loop-lines.lines.items) first c.loop-lines.invariant.checked in
    let one = subst (λ x. checks c.loop-lines.checker x c.in_ok-checked.checked c.check_line.new.self) line c.in_ok-checked.ensures in
    record {
      checked = checking_more checks (replaced value false (line_of c.in-Some.line.items)) c.in_ok-checked.checked before one c.in_ok-push.ensures.items;
      utf8 = end.utf8;
    }

pub returns : goal.returns
returns g c =
    let none = ap (map (replaced (value_of c.args.variables.now) false)) (rw c.in_default.is at c.in_ok-line.ensures.line) in
    checking_ended g.C.CheckLines.checks c.loop-lines.invariant.checked none
