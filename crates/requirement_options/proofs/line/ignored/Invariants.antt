use Rattle.std.proofs.Common.{◌≡◌, ◌++◌, drop, false}
use Rattle.std.specs.Prelude.{map}
use Rattle.requirement_options.specs.Found.{setting_in}
use Rattle.requirement_options.specs.Line as spec
use Rattle.requirement_options.proofs.line.ignored.Given as goal

abbrev pub invariant-loop-index : goal.invariant-loop-index
invariant-loop-index l = spec.ignored l.line false (map setting_in l.options) ≡ l.faults.items ++ spec.ignored l.line l.taken (map setting_in (drop l.index l.options))
