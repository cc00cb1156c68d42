use Rattle.std.proofs.Common.{◌≡◌, ◌++◌, take, string_bytes}
use Rattle.marker_commands.specs.Evaluating.{names_of}
use Rattle.marker_commands.proofs.evaluating.add_names.Given as goal

abbrev pub invariant-loop-key : goal.invariant-loop-key
invariant-loop-key l = string_bytes l.messages ≡ string_bytes l.initial.messages ++ names_of (take l.key-index l.keys)
