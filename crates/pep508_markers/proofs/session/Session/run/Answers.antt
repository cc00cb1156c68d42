use Rattle.std.proofs.Common.{◌≡◌, ◌++◌, ◌∷◌, [], List, arith, is_ok, ap, sym, subst}
use Rattle.std.specs.Prelude.{map}
use Rattle.std.proofs.ResultArms.{chosen}
use Rattle.pep508_markers.specs.declared.session.Reply.{Reply}
use Rattle.pep508_markers.specs.Machine.{Run, done}
use Rattle.pep508_markers.specs.Session.{cells_of, answer_of}
use Rattle.pep508_markers.proofs.SessionLaws.{run_on}
use Rattle.pep508_markers.proofs.session.Session.run.Goals as goal

pub loop-command-init : goal.loop-command-init
loop-command-init c = record {
  room = omega (arith, c.in_ok-replies.ensures.capacity);
  count = omega (arith, c.in_ok-replies.ensures.len);
  run = subst (λ (x : List Reply). Run (cells_of c.args.self.now) [] (map answer_of x) (cells_of c.args.self.now)) (sym c.in_ok-replies.ensures.items) done;
}

pub loop-command-preserved : goal.loop-command-preserved
loop-command-preserved c =
    let pushed : c.push.new.self.items ≡ c.loop-command.replies.items ++ (c.execute-reply.result ∷ []) = chosen _ _ _ _ c.push.ensures.items (ap is_ok c.unwrap.ensures) in
    record {
      room = omega (arith, c.push.ensures.capacity, c.loop-command.invariant.room);
      count = omega (arith, chosen _ _ _ _ c.push.ensures.len (ap is_ok c.unwrap.ensures), c.loop-command.invariant.count);
      run = run_on _ _ _ c.args.commands.now c.loop-command.command-index c.command-item.result c.loop-command.replies.items _ c.execute-reply.result c.loop-command-test.true c.command-item.is c.loop-command.invariant.run c.execute-reply.ensures.answers pushed;
    }
