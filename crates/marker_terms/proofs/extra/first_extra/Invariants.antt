use Rattle.std.proofs.Common.{◌≡◌, drop}
use Rattle.marker_terms.specs.Extra.{first_extra}
use Rattle.marker_terms.proofs.extra.first_extra.Given as goal

abbrev pub invariant-loop-term : goal.invariant-loop-term
invariant-loop-term l = first_extra l.clause ≡ first_extra (drop l.term-index l.clause)
