use Rattle.std.proofs.Common.{◌≡◌, ◌++◌, take}
use Rattle.std.specs.List.{flat_map}
use Rattle.marker_lines.specs.Reply.{kind_text}
use Rattle.marker_lines.proofs.reply.put_kinds.Given as goal

abbrev pub invariant-loop-kind : goal.invariant-loop-kind
invariant-loop-kind l = l.replies.items ≡ l.fn.replies.items ++ flat_map kind_text (take l.kind-index l.kinds)
