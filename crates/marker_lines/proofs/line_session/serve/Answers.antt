use Rattle.std.proofs.lemmas.Result.{on_ok_weaker, on_err_weaker}
use Rattle.marker_lines.specs.SessionView.{state_of}
use Rattle.marker_lines.proofs.SessionLaws.{each_answered, whole_answered, first_answered, nothing_served}
use Rattle.marker_lines.proofs.line_session.serve.Goals as goal

pub returns-in_default-clause-err : goal.returns-in_default-clause-err
returns-in_default-clause-err g c = nothing_served _ _

pub returns-clause-ok : goal.returns-clause-ok
returns-clause-ok g c =
    on_ok_weaker c.serve_lines.result (λ w. (state_of c.serve_lines.new.answerer, (w.0, w.1, w.2, w.3, each_answered c.in-Ok.ensures w.4))) c.serve_lines.ensures.ok

pub returns-clause-input : goal.returns-clause-input
returns-clause-input g c = λ failed.
    let w = c.serve_lines.ensures.input failed in
    (state_of c.serve_lines.new.answerer, (w.0, w.1, w.2, w.3, whole_answered c.in-Ok.ensures w.4))

pub returns-clause-err : goal.returns-clause-err
returns-clause-err g c =
    on_err_weaker c.serve_lines.result (λ w. (w.0, w.1, w.2, w.3, first_answered c.in-Ok.ensures w.4)) c.serve_lines.ensures.err
