use Rattle.std.proofs.Common.{take}
use Rattle.marker_parts.specs.Expression.{extra_of}
use Rattle.marker_terms.proofs.ExtraLaws.{EachHas}
use Rattle.marker_terms.proofs.extra.common_extra.Given as goal

abbrev pub invariant-loop-other : goal.invariant-loop-other
invariant-loop-other l = EachHas (extra_of l.extra) (take l.other-index l.others)
