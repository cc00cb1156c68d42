use Rattle.std.specs.Fn.{FnReturnsAt}
use Rattle.marker_simplifications.proofs.Grants.{truth_touched}
use Rattle.marker_simplifications.proofs.extras.granted_child.Goals as goal

pub returns-then-is_granted-clause-touched : goal.returns-then-is_granted-clause-touched
returns-then-is_granted-clause-touched g c = truth_touched (FnReturnsAt g.F.Fn c.args.is_extra.now) c.args.node.now _ _ _ c.in-Truth.is c.is_granted.result c.is_granted.ensures c.if-is_granted.true
