use Rattle.std.proofs.Common.{◌∙◌}
use Rattle.std.proofs.lemmas.List.{take_rest}
use Rattle.std.proofs.lemmas.Result.{err_from_is_err_and}
use Rattle.line_server.proofs.PortLaws.{written_more, written_beginning}
use Rattle.line_server.proofs.sink.write_all.Goals as goal

pub returns-in_err-count-clause-beginning : goal.returns-in_err-count-clause-beginning
returns-in_err-count-clause-beginning g c =
    let p = err_from_is_err_and c.from_residual.result c.from_residual.ensures.1 in
    let i = c.loop-rest.invariant.written in
    rw p.1 (written_beginning i.0 c.loop-rest.rest.now (g.W.Sink.contents c.args.sink.now) (g.W.Sink.contents c.loop-rest.sink) _ i.1 i.2 c.in_err-count.ensures.beginning)

pub loop-rest-preserved : goal.loop-rest-preserved
loop-rest-preserved g c =
    let i = c.loop-rest.invariant in
    record {
      written = written_more i.written.0 c.loop-rest.rest.now c.in_ok-count.count (g.W.Sink.contents c.args.sink.now) (g.W.Sink.contents c.loop-rest.sink) _ i.written.1 i.written.2 c.in_ok-count.ensures.taken (take_rest c.loop-rest.rest.now c.in_ok-count.count);
      sound = c.in_ok-count.ensures.sound ∙ i.sound;
    }
