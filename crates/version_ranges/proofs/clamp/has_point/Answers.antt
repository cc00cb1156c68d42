use Rattle.std.proofs.Common.{sym, ◌∙◌}
use Rattle.version_ranges.specs.Clamp.{bound_of}
use Rattle.version_ranges.proofs.ClampLaws.{point_found, no_point}
use Rattle.version_ranges.proofs.clamp.has_point.Goals as goal

pub returns-clause-some : goal.returns-clause-some
returns-clause-some g c = λ e. point_found g.T.Ord.cmp g.met.T.Ord.total (bound_of c.args.lower) (bound_of c.args.upper) (sym c.begins_within.ensures ∙ e)

pub returns-clause-none : goal.returns-clause-none
returns-clause-none g c = λ e. no_point g.T.Ord.cmp g.met.T.Ord.total (bound_of c.args.lower) (bound_of c.args.upper) (sym c.begins_within.ensures ∙ e)
