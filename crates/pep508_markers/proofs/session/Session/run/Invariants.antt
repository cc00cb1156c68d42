use Rattle.std.proofs.Common.{◌≡◌, ◌≤◌, length, take, vec_len}
use Rattle.std.specs.Prelude.{map, vec_capacity}
use Rattle.pep508_markers.specs.Machine.{Run}
use Rattle.pep508_markers.specs.Session.{cells_of, request_of, answer_of}
use Rattle.pep508_markers.proofs.session.Session.run.Given as goal

abbrev pub invariant-loop-command : goal.invariant-loop-command
invariant-loop-command l = record {
  room : length l.commands ≤ vec_capacity l.replies;
  count : vec_len l.replies ≡ l.command-index;
  run : Run (cells_of l.fn.self) (map request_of (take l.command-index l.commands)) (map answer_of l.replies.items) (cells_of l.self);
}
