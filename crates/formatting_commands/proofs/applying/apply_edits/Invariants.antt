use Rattle.std.proofs.Common.{◌≤◌, length, drop}
use Rattle.formatting_commands.proofs.ApplyingLaws.{Making}
use Rattle.formatting_commands.proofs.applying.apply_edits.Given as goal

abbrev pub invariant-loop-edit : goal.invariant-loop-edit
invariant-loop-edit l = record {
  within : l.at ≤ length l.bytes;
  making : Making l.bytes l.edits (drop l.at l.bytes) (drop l.edit-index l.edits) l.new.items;
}
