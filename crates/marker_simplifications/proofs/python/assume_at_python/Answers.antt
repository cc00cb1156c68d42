use Rattle.std.proofs.Common.{sym, subst}
use Rattle.version_ranges.specs.Clamp.{bound_of}
use Rattle.pep440_rs.specs.Intervals.{is_trimmed}
use Rattle.pep440_rs.proofs.Trimmed.{clones-keep}
use Rattle.marker_simplifications.specs.Simplified.{IsAssumed}
use Rattle.marker_nodes.proofs.SideLaws.{version_clones}
use Rattle.marker_simplifications.proofs.Assumptions.{later_python, assumed_itself, clamped_children, clamped_is}
use Rattle.marker_simplifications.proofs.python.assume_at_python.Goals as goal

pub returns-in_default-clause-assumed : goal.returns-in_default-clause-assumed
returns-in_default-clause-assumed c =
    assumed_itself c.args.nodes.now c.requires.rules (bound_of c.args.lower) (bound_of c.args.upper) c.requires.point.0 c.requires.point.1 c.args.id c.requires.after.0
    (λ n e. later_python n (c.requires.after.1 n e) (c.in_default.ensures.other n e))

pub clamp-requires-clause-clones : goal.clamp-requires-clause-clones
clamp-requires-clause-clones c = version_clones

pub place_node-requires-clause-children : goal.place_node-requires-clause-children
place_node-requires-clause-children c =
    clamped_children c.args.nodes.now c.requires.rules (bound_of c.args.lower) (bound_of c.args.upper) c.requires.point.0 c.requires.point.1 c.args.id c.requires.after.0
    c.in-Some.edges.now c.in_ok-edges.edges c.in-Some.ensures.found c.in_ok-edges.ensures.clamped

pub place_node-requires-clause-trimmed : goal.place_node-requires-clause-trimmed
place_node-requires-clause-trimmed c = c.in_ok-edges.ensures.bounds is_trimmed (clones-keep is_trimmed) c.in-Some.ensures.bounds

pub returns-clause-assumed : goal.returns-clause-assumed
returns-clause-assumed c =
    subst (IsAssumed c.place_node.new.self (bound_of c.args.lower) (bound_of c.args.upper) c.args.id) (sym c.negate.ensures)
    (clamped_is c.args.nodes.now c.requires.rules (bound_of c.args.lower) (bound_of c.args.upper) c.requires.point.0 c.requires.point.1 c.args.id c.requires.after.0
    c.in-Some.edges.now c.in_ok-edges.edges c.in-Some.ensures.found c.in_ok-edges.ensures.clamped c.place_node.new.self c.in_ok-placed.ensures.kept.nodes c.in_ok-placed.placed c.in_ok-placed.ensures.id)
