use Rattle.std.proofs.Common.{subst, sym}
use Rattle.line_server.specs.Ports.{AppendsBeginning}
use Rattle.line_server.proofs.PortLaws.{beginning_taken}
use Rattle.line_server.proofs.sink.OutputSink.write.Goals as goal

pub returns-in-Err-clause-beginning : goal.returns-in-Err-clause-beginning
returns-in-Err-clause-beginning g c =
    subst (λ x. AppendsBeginning (g.W.Write.contents c.args.self.now.writer) (g.W.Write.contents x) c.args.bytes.now) (sym c.fail-in-Err.ensures.writer)
    (beginning_taken (g.W.Write.contents c.args.self.now.writer) (g.W.Write.contents c.write.new.self) _ c.args.bytes.now c.in-Ok.count c.in-Ok.ensures.bytes c.flush.ensures.bytes)
