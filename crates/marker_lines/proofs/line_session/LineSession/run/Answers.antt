use Rattle.std.proofs.Common.{refl, ap, sym, ◌∙◌}
use Rattle.std.proofs.lemmas.Result.{on_ok_weaker}
use Rattle.pep508_markers.specs.Session.{answer_of}
use Rattle.marker_lines.specs.Line.{with_names}
use Rattle.marker_lines.specs.LineView.{texts_of, request_of}
use Rattle.marker_lines.specs.LineStep.{is_run}
use Rattle.marker_lines.proofs.SessionLaws.{for_request, asked_as}
use Rattle.marker_lines.proofs.line_session.LineSession.run.Goals as goal

pub returns-in-Set : goal.returns-in-Set
returns-in-Set c =
    on_ok_weaker c.set.result (λ w. (w.0, for_request (ap request_of c.in-Set.is) w.1, w.2)) c.set.ensures

pub returns-in-Run : goal.returns-in-Run
returns-in-Run c =
    on_ok_weaker c.put_reply.result (λ w. (_, for_request (ap request_of c.in-Run.is) (is_run (answer_of c.execute-reply.result) (asked_as refl c.execute-reply.ensures.answers refl)), w)) c.put_reply.ensures

pub returns-in-WithNames : goal.returns-in-WithNames
returns-in-WithNames c =
    on_ok_weaker c.run_with_names.result (λ w. (w.0, for_request (ap request_of c.in-WithNames.is ∙ ap (λ x. with_names c.in-WithNames.command c.in-WithNames.cell (texts_of x)) (sym c.deref.ensures.value)) w.1, w.2)) c.run_with_names.ensures

pub returns-in-WithRange : goal.returns-in-WithRange
returns-in-WithRange c =
    on_ok_weaker c.run_with_range.result (λ w. (w.0, for_request (ap request_of c.in-WithRange.is) w.1, w.2)) c.run_with_range.ensures
