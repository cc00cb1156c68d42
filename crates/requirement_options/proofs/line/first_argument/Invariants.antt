use Rattle.std.proofs.Common.{◌≡◌, drop}
use Rattle.std.specs.Prelude.{map}
use Rattle.requirement_options.specs.Found.{setting_in}
use Rattle.requirement_options.specs.Line as spec
use Rattle.requirement_options.proofs.line.first_argument.Given as goal

abbrev pub invariant-loop-index : goal.invariant-loop-index
invariant-loop-index l = spec.first_argument l.line (map setting_in l.options) ≡ spec.first_argument l.line (map setting_in (drop l.index l.options))
