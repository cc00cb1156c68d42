use Rattle.std.proofs.Common.{◌≡◌, ◌++◌, length, List, ℕ}
use Rattle.line_server.specs.Serving.{Serves}
use Rattle.line_server.proofs.serving.take_bytes.Given as goal

abbrev pub invariant-loop-end : goal.invariant-loop-end
invariant-loop-end g l =
    (front : List ℕ) × (output : List ℕ) × (l.bytes ≡ front ++ l.rest)
    × Serves g.A.Answer.step l.fn.answerer l.fn.held.items front output l.answerer l.held.items × (l.replies.items ≡ l.fn.replies.items ++ output)

abbrev pub decreases-loop-end : goal.decreases-loop-end
decreases-loop-end g l = length l.rest
