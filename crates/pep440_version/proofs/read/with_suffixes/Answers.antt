use Rattle.std.proofs.Common.{rules}
use Rattle.pep440_version.proofs.Valid.{suffixes-valid}
use Rattle.pep440_version.proofs.read.with_suffixes.Goals as goal

pub invariant_of-result : goal.invariant_of-result
invariant_of-result c = suffixes-valid c.args.epoch c.args.release.items c.args.text.now _ c.ranges.epoch.fits c.requires (search rules)
