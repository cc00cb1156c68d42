use Rattle.std.proofs.Common.{◌≡◌, drop, filter, fold}
use Rattle.requirement_options.specs.Kinds.{also, begins_with}
use Rattle.requirement_options.specs.declared.naming.Naming.TheVariants.{Unknown}
use Rattle.requirement_options.proofs.naming.abbreviated.Given as goal

abbrev pub invariant-loop-index : goal.invariant-loop-index
invariant-loop-index l = fold also Unknown (filter (λ kind. begins_with kind l.name) l.kinds) ≡ fold also l.found (filter (λ kind. begins_with kind l.name) (drop l.index l.kinds))
