use Rattle.std.proofs.Common.{◌∙◌}
use Rattle.pep440_version.proofs.Segments.{slice_cmp-segments}
use Rattle.pep440_version.proofs.order.cmp_locals.Goals as goal

pub returns : goal.returns
returns c = c.cmp.ensures ∙ slice_cmp-segments c.args.a.now c.args.b.now
