use Rattle.std.proofs.Common.{map}
use Rattle.pep440_version.specs.OrderLaws.{same_locals}
use Rattle.pep440_version.specs.View.{segment_of}
use Rattle.pep440_version.proofs.order.has_same_locals.Goals as goal

pub returns : goal.returns
returns c = rw (c.is_eq.ensures, c.cmp_locals.ensures) (same_locals (map segment_of c.args.a.now) (map segment_of c.args.b.now))
