use Rattle.std.proofs.Common.{refl, ap, ◌∙◌}
use Rattle.std.proofs.lemmas.Result.{on_ok_weaker}
use Rattle.marker_environment.specs.Environment.{values_of}
use Rattle.pep508_markers.specs.Session.{answer_of}
use Rattle.marker_lines.specs.Word.{names_request}
use Rattle.marker_lines.specs.LineStep.{is_run_with_names, no_name}
use Rattle.marker_lines.proofs.SessionLaws.{asked_as}
use Rattle.marker_lines.proofs.line_session.LineSession.run_with_names.Goals as goal

pub returns-in_default : goal.returns-in_default
returns-in_default c =
    let none = rw c.in_default.is at c.in_ok-extras.ensures in
    on_ok_weaker c.put.result (λ w. (_, no_name none, w)) c.put.ensures

pub returns : goal.returns
returns c =
    let names = rw c.in-Some.is at c.in_ok-extras.ensures in
    let request = c.on-command.ensures ∙ ap (names_request c.args.command c.args.cell (values_of c.args.self.now.environment)) c.deref.ensures.value in
    on_ok_weaker c.put_reply.result (λ w. (_, is_run_with_names (answer_of c.execute-reply.result) names (asked_as request c.execute-reply.ensures.answers refl), w)) c.put_reply.ensures
