use Rattle.std.proofs.Common.{refl}
use Rattle.std.specs.declared.ops.Bound.TheVariants.{Unbounded}
use Rattle.version_ranges.proofs.BoundLaws.{held_passes}
use Rattle.version_ranges.proofs.IntervalLaws.{are_intervals, intervals_apart}
use Rattle.version_ranges.proofs.ranges.Ranges.iter.Goals as goal

pub returns-clause-intervals : goal.returns-clause-intervals
returns-clause-intervals g c = are_intervals g.met.T.Ord.total c.args.self.now c.args.self.now.cuts.ascending

pub returns-clause-apart : goal.returns-clause-apart
returns-clause-apart g c = intervals_apart g.met.T.Ord.total c.args.self.now c.args.self.now.cuts.ascending c.args.self.now.merged

pub returns-clause-bounds : goal.returns-clause-bounds
returns-clause-bounds g c = λ test h. held_passes test Unbounded c.args.self.now.cuts.first c.args.self.now.cuts.rest.items refl h
