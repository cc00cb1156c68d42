use Rattle.std.proofs.Common.{inl, inr, refl, ◌∙◌}
use Rattle.std.proofs.lemmas.Result.{on_ok_weaker}
use Rattle.pep508_markers.specs.Session.{answer_of}
use Rattle.marker_lines.specs.Word.{range_request}
use Rattle.marker_lines.specs.LineStep.{is_run_with_range, no_bound}
use Rattle.marker_lines.proofs.SessionLaws.{asked_as}
use Rattle.marker_lines.proofs.line_session.LineSession.run_with_range.Goals as goal

pub returns-in_default : goal.returns-in_default
returns-in_default c =
    let none = rw c.in_default.is at c.in_ok-lower.ensures in
    on_ok_weaker c.put.result (λ w. (_, no_bound (inl none), w)) c.put.ensures

pub returns-in_default-2 : goal.returns-in_default-2
returns-in_default-2 c =
    let none = rw c.in_default-2.is at c.in_ok-upper.ensures in
    on_ok_weaker c.put-in_default-2.result (λ w. (_, no_bound (inr none), w)) c.put-in_default-2.ensures

pub returns : goal.returns
returns c =
    let low = rw c.in-Some.is at c.in_ok-lower.ensures in
    let high = rw c.in-Some-2.is at c.in_ok-upper.ensures in
    let request = c.on-command.ensures ∙ (λ i. range_request c.args.command c.args.cell (c.as_ref.ensures i) (c.as_ref-2.ensures i)) in
    on_ok_weaker c.put_reply.result (λ w. (_, is_run_with_range (answer_of c.execute-reply.result) low high (asked_as request c.execute-reply.ensures.answers refl), w)) c.put_reply.ensures
