use Rattle.std.proofs.Common.{refl, rules}
use Rattle.std.proofs.lemmas.Result.{on_ok_weaker}
use Rattle.marker_lines.specs.LineView.{request_of}
use Rattle.marker_lines.specs.LineStep.{asked, no_text, no_command}
use Rattle.marker_lines.proofs.SessionLaws.{ok_is_no_err}
use Rattle.marker_lines.proofs.line_session.LineSessionAnswer.answer.Goals as goal

pub returns-in-Ok : goal.returns-in-Ok
returns-in-Ok c =
    on_ok_weaker c.run.result (λ w. (w.0, asked (request_of c.in-Ok.command) (c.in-Ok.ensures.utf8 ok_is_no_err) c.in-Ok.ensures.asks w.1, w.2)) c.run.ensures

pub returns-in-Err-NotUtf8 : goal.returns-in-Err-NotUtf8
returns-in-Err-NotUtf8 c =
    let no = rw c.in-Err-NotUtf8.field-0-is at c.in-Err-NotUtf8.ensures.not_utf8 in
    on_ok_weaker c.put.result (λ w. (_, no_text (no refl), w)) c.put.ensures

pub returns-in-Err-Malformed : goal.returns-in-Err-Malformed
returns-in-Err-Malformed c =
    let text = rw c.in-Err-Malformed.field-0-is at c.in-Err-Malformed.ensures.utf8 in
    let no = rw c.in-Err-Malformed.field-0-is at c.in-Err-Malformed.ensures.malformed in
    on_ok_weaker c.put-in-Err-Malformed.result (λ w. (_, no_command (text (λ e. search rules)) (no refl), w)) c.put-in-Err-Malformed.ensures
