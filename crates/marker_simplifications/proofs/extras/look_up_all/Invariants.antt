use Rattle.std.proofs.Common.{◌≡◌, length}
use Rattle.marker_simplifications.specs.Granting.{AreFoundAs}
use Rattle.marker_simplifications.proofs.extras.look_up_all.Given as goal

abbrev pub invariant-loop-i : goal.invariant-loop-i
invariant-loop-i l = record {
  len : length l.children.items ≡ l.i;
  done : AreFoundAs l.known.entries l.ids l.children.items;
}
