use Rattle.std.proofs.Common.{◌≡◌, drop, find}
use Rattle.requirement_options.specs.Kinds.{is_named}
use Rattle.requirement_options.proofs.naming.exact.Given as goal

abbrev pub invariant-loop-index : goal.invariant-loop-index
invariant-loop-index l = find (λ kind. is_named kind l.name) l.kinds ≡ find (λ kind. is_named kind l.name) (drop l.index l.kinds)
