use Rattle.version_ranges.proofs.AlikeLaws.{point_near}
use Rattle.version_ranges.proofs.laws.point_before_is_alike.Goals as goal

pub returns : goal.returns
returns g c = point_near g.T.Ord.cmp g.met.T.Ord.total
