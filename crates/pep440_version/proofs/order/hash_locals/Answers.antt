use Rattle.std.specs.Hash.{fed_along}
use Rattle.pep440_version.proofs.Segments.{slice-segments}
use Rattle.pep440_version.proofs.order.hash_locals.Goals as goal

pub returns : goal.returns
returns g c = fed_along g.H.Hasher.write _ _ (slice-segments c.args.locals.now) c.hash.ensures
