use Rattle.std.proofs.Common.{◌≡◌, ◌-◌, ◌≤◌, drop, reverse}
use Rattle.marker_nodes.specs.Table.{HasRoom}
use Rattle.marker_nodes.proofs.table.NodeTable.truncate.Given as goal

abbrev pub invariant-loop : goal.invariant-loop
invariant-loop l = record {
  room : HasRoom (reverse l.self-inside.nodes.keys) l.self-inside.pieces l.self-inside.room;
  left : reverse l.self-inside.nodes.keys ≡ drop (l.counter - l.len) (reverse l.initial.self-inside.nodes.keys);
  still : l.end ≤ l.len → l.counter ≡ l.len;
}
