use Rattle.pep440_version.proofs.Valid.{release-valid}
use Rattle.pep440_version.proofs.read.released.Goals as goal

pub invariant_of-result : goal.invariant_of-result
invariant_of-result c = rw c.new.ensures (release-valid c.args.epoch c.args.release.items c.ranges.epoch.fits c.requires)
