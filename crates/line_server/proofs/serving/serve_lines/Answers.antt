use Rattle.std.proofs.Common.{◌≡◌, ◌≢◌, [], sym, ap, ◌∙◌, refl, rules, subst, length, arith}
use Rattle.std.proofs.lemmas.Result.{err_from_is_err_and, on_ok_weaker, on_err_weaker}
use Rattle.std.proofs.lemmas.List.{nil_from_length}
use Rattle.std.proofs.lemmas.List.Elements.{All-nil}
use Rattle.line_server.specs.Serving.{Serves}
use Rattle.line_server.proofs.PortLaws.{Appends-nil, Consumes-nil, Consumes-kept}
use Rattle.line_server.proofs.ServingLaws.{serves_none}
use Rattle.line_server.proofs.ServeLaws.{read_end, from_empty, served_more, broken_here, whole_here, broken_read, broken_write, broken_last, finished_ended, finished_unended}
use Rattle.line_server.proofs.serving.serve_lines.Goals as goal

pub loop-count-init : goal.loop-count-init
loop-count-init g c = record {
  served = ([], [], Consumes-nil _, Appends-nil _, subst (λ x. Serves g.A.Answer.step c.args.answerer.now [] [] [] c.args.answerer.now x) (sym c.new-held.ensures.items) (serves_none g.A.Answer.step c.args.answerer.now [] (All-nil (λ b. b ≢ 10))));
  emptied = c.new-replies.ensures.items;
  room = refl;
  input_sound = refl;
  output_sound = refl;
}

pub returns-in_default-clause-err : goal.returns-in_default-clause-err
returns-in_default-clause-err g c =
    let i = c.loop-count.invariant.served in
    broken_here g.A.Answer.step (g.R.Source.remaining c.args.source.now) _ (g.W.Sink.contents c.args.sink.now) _
    (i.0, i.1, Consumes-kept _ (g.R.Source.remaining c.loop-count.source) _ i.0 i.2 c.in_default.ensures.bytes, i.3, i.4)

pub returns-in_default-take_bytes-clause-err : goal.returns-in_default-take_bytes-clause-err
returns-in_default-take_bytes-clause-err g c =
    broken_read g.A.Answer.step (g.R.Source.remaining c.args.source.now) (g.R.Source.remaining c.loop-count.source) _ (g.W.Sink.contents c.args.sink.now) _ _ c.loop-count.invariant.served c.in-Ok.ensures.bytes.0

pub loop-count-preserved : goal.loop-count-preserved
loop-count-preserved g c =
    let i = c.loop-count.invariant in
    let s = c.in-Ok-take_bytes.ensures in
    record {
      served = served_more g.A.Answer.step (g.R.Source.remaining c.args.source.now) (g.R.Source.remaining c.loop-count.source) _ (g.W.Sink.contents c.args.sink.now) (g.W.Sink.contents c.loop-count.sink) _ _ i.served c.in-Ok.ensures.bytes.0 s.1 (from_empty s.2 i.emptied) c.in_ok-hand_over.ensures.all;
      emptied = c.in_ok-hand_over.ensures.emptied;
      room = c.read.auto.buffer ∙ i.room;
      input_sound = c.in-Ok.ensures.sound ∙ i.input_sound;
      output_sound = c.in_ok-hand_over.ensures.sound ∙ i.output_sound;
    }

pub returns-in_err-hand_over-clause-err : goal.returns-in_err-hand_over-clause-err
returns-in_err-hand_over-clause-err g c =
    let p = err_from_is_err_and c.from_residual.result c.from_residual.ensures.1 in
    let i = c.loop-count.invariant in
    let s = c.in-Ok-take_bytes.ensures in
    rw p.1 (broken_write g.A.Answer.step (g.R.Source.remaining c.args.source.now) (g.R.Source.remaining c.loop-count.source) _ (g.W.Sink.contents c.args.sink.now) (g.W.Sink.contents c.loop-count.sink) _ _ i.served c.in-Ok.ensures.bytes.0 s.1 (from_empty s.2 i.emptied) c.in_err-hand_over.ensures.beginning)

pub returns-then-is_empty-clause-ok : goal.returns-then-is_empty-clause-ok
returns-then-is_empty-clause-ok g c =
    let i = c.loop-count.invariant in
    let s = i.served in
    let ended = read_end _ (g.R.Source.remaining c.loop-count.source) _ s.0 c.read.new.buffer c.in-Ok.count s.2 c.in-Ok.ensures.bytes.0 c.if-count-eq0.true in
    let none : length c.as_slice-last.result.now ≡ 0 = search rules in
    finished_ended g.A.Answer.step (g.R.Source.remaining c.args.source.now) _ (g.W.Sink.contents c.args.sink.now) _ (s.0, s.1, ended, s.3, s.4) (sym c.as_slice-last.ensures.value ∙ nil_from_length _ none)

pub returns-then-is_empty-clause-at_end : goal.returns-then-is_empty-clause-at_end
returns-then-is_empty-clause-at_end g c =
    c.in-Ok.ensures.bytes.1 c.if-count-eq0.true (omega (arith, c.read.auto.buffer, c.loop-count.invariant.room))

pub returns-in_default-answer_line-clause-err : goal.returns-in_default-answer_line-clause-err
returns-in_default-answer_line-clause-err g c =
    let s = c.loop-count.invariant.served in
    let ended = read_end _ (g.R.Source.remaining c.loop-count.source) _ s.0 c.read.new.buffer c.in-Ok.count s.2 c.in-Ok.ensures.bytes.0 c.if-count-eq0.true in
    broken_here g.A.Answer.step (g.R.Source.remaining c.args.source.now) _ (g.W.Sink.contents c.args.sink.now) _ (s.0, s.1, ended, s.3, s.4)

pub returns-clause-ok : goal.returns-clause-ok
returns-clause-ok g c =
    let i = c.loop-count.invariant in
    let s = i.served in
    let a = c.in-Ok-answer_line.ensures in
    let ended = read_end _ (g.R.Source.remaining c.loop-count.source) _ s.0 c.read.new.buffer c.in-Ok.count s.2 c.in-Ok.ensures.bytes.0 c.if-count-eq0.true in
    let step = subst (λ x. g.A.Answer.step c.loop-count.answerer x a.0 c.answer_line.new.answerer) c.as_slice-last.ensures.value a.1 in
    let told = from_empty a.2 i.emptied in
    let some : length c.as_slice-last.result.now ≢ 0 = search rules in
    on_ok_weaker c.hand_over-2.result
    (λ wrote. finished_unended g.A.Answer.step (g.R.Source.remaining c.args.source.now) _ (g.W.Sink.contents c.args.sink.now) (g.W.Sink.contents c.loop-count.sink) _ (s.0, s.1, ended, s.3, s.4) (λ e. some (ap length (c.as_slice-last.ensures.value ∙ e))) step told wrote)
    c.hand_over-2.ensures.all

pub returns-clause-at_end : goal.returns-clause-at_end
returns-clause-at_end g c =
    let now = c.in-Ok.ensures.bytes.1 c.if-count-eq0.true (omega (arith, c.read.auto.buffer, c.loop-count.invariant.room)) in
    on_ok_weaker c.hand_over-2.result (λ _. now) c.hand_over-2.ensures.all

pub returns-in_default-clause-input : goal.returns-in_default-clause-input
returns-in_default-clause-input g c = λ _.
    let i = c.loop-count.invariant.served in
    whole_here g.A.Answer.step (g.R.Source.remaining c.args.source.now) _ (g.W.Sink.contents c.args.sink.now) _
    (i.0, i.1, Consumes-kept _ (g.R.Source.remaining c.loop-count.source) _ i.0 i.2 c.in_default.ensures.bytes, i.3, i.4)

pub returns-clause-err : goal.returns-clause-err
returns-clause-err g c =
    let i = c.loop-count.invariant in
    let s = i.served in
    let a = c.in-Ok-answer_line.ensures in
    let ended = read_end _ (g.R.Source.remaining c.loop-count.source) _ s.0 c.read.new.buffer c.in-Ok.count s.2 c.in-Ok.ensures.bytes.0 c.if-count-eq0.true in
    let step = subst (λ x. g.A.Answer.step c.loop-count.answerer x a.0 c.answer_line.new.answerer) c.as_slice-last.ensures.value a.1 in
    let told = from_empty a.2 i.emptied in
    let some : length c.as_slice-last.result.now ≢ 0 = search rules in
    on_err_weaker c.hand_over-2.result
    (λ wrote. broken_last g.A.Answer.step (g.R.Source.remaining c.args.source.now) _ (g.W.Sink.contents c.args.sink.now) (g.W.Sink.contents c.loop-count.sink) _ (s.0, s.1, ended, s.3, s.4) (c.in-Ok.ensures.bytes.1 c.if-count-eq0.true (omega (arith, c.read.auto.buffer, i.room))) (λ e. some (ap length (c.as_slice-last.ensures.value ∙ e))) step told wrote)
    c.hand_over-2.ensures.beginning
