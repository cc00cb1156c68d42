use Rattle.std.proofs.Common.{sym, ap, ◌∙◌, subst, length}
use Rattle.version_ranges.specs.Cuts.{piece_of}
use Rattle.version_ranges.specs.Clamp.{bound_of}
use Rattle.pep440_version.specs.Order.{version_cmp}
use Rattle.pep440_rs.specs.Intervals.{is_trimmed}
use Rattle.pep440_rs.proofs.Trimmed.{clones-keep}
use Rattle.marker_words.specs.declared.key.VersionVariable.TheVariants.{ImplementationVersion}
use Rattle.marker_nodes.specs.Node.{child_at}
use Rattle.marker_nodes.proofs.NodeLaws.{at_version}
use Rattle.marker_simplifications.specs.Simplified.{AreAssumed, IsAssumed}
use Rattle.marker_simplifications.proofs.Assumptions.{later_first, children_later, made_at, made_children, made_is}
use Rattle.marker_simplifications.proofs.python.assume_python_range.Goals as goal

pub assume_at_python-requires-clause-after : goal.assume_at_python-requires-clause-after
assume_at_python-requires-clause-after c = (c.requires.held, λ n e. later_first n (c.in_default.ensures.other n e))

pub assume_all-requires-clause-children : goal.assume_all-requires-clause-children
assume_all-requires-clause-children c =
    children_later c.args.nodes.now c.requires.rules c.args.id c.requires.held c.in-Some.edges.now c.in_ok-edges.edges c.in-Some.ensures.found c.in_ok-edges.ensures.cases.1
    c.in_ok-children.children.items c.deref.result.now c.deref.ensures (λ j w e. let q = c.in_ok-children.ensures.inhabited j w e in (q.0.version ImplementationVersion, q.1))

pub place-requires-clause-children : goal.place-requires-clause-children
place-requires-clause-children c =
    let lower = bound_of c.args.lower in
    let upper = bound_of c.args.upper in
    let mid = c.assume_all.new.nodes in
    let made = c.in_ok-children-2.children.items in
    made_children c.args.nodes.now c.requires.rules lower upper c.requires.point.0 c.requires.point.1 c.args.id c.requires.held c.in-Some.edges.now c.in-Some.ensures.found mid c.in_ok-children-2.ensures.kept
    (λ q. child_at made (piece_of version_cmp c.in_ok-edges.edges q))
    (made_at mid lower upper c.in-Some.edges.now c.in_ok-edges.edges c.in_ok-children.children.items made c.in_ok-edges.ensures.cases.1 (λ q. c.in_ok-children.ensures.value (at_version q))
    (c.in_ok-children-2.ensures.assumed.count ∙ ap length c.deref.ensures) (subst (λ l. AreAssumed mid lower upper l made) c.deref.ensures c.in_ok-children-2.ensures.assumed.assumed))

pub returns-clause-assumed : goal.returns-clause-assumed
returns-clause-assumed c =
    let lower = bound_of c.args.lower in
    let upper = bound_of c.args.upper in
    let mid = c.assume_all.new.nodes in
    let made = c.in_ok-children-2.children.items in
    subst (IsAssumed c.place.new.self lower upper c.args.id) (sym c.negate.ensures)
    (made_is c.args.nodes.now c.requires.rules lower upper c.requires.point.0 c.requires.point.1 c.args.id c.requires.held c.in-Some.edges.now c.in-Some.ensures.found mid c.in_ok-children-2.ensures.kept
    (λ q. child_at made (piece_of version_cmp c.in_ok-edges.edges q))
    (made_at mid lower upper c.in-Some.edges.now c.in_ok-edges.edges c.in_ok-children.children.items made c.in_ok-edges.ensures.cases.1 (λ q. c.in_ok-children.ensures.value (at_version q))
    (c.in_ok-children-2.ensures.assumed.count ∙ ap length c.deref.ensures) (subst (λ l. AreAssumed mid lower upper l made) c.deref.ensures c.in_ok-children-2.ensures.assumed.assumed))
    c.place.new.self c.in_ok-placed.ensures.kept.nodes c.in_ok-placed.placed c.in_ok-placed.ensures.id)

pub place-requires-clause-trimmed : goal.place-requires-clause-trimmed
place-requires-clause-trimmed c = c.in_ok-edges.ensures.cases.2 is_trimmed (clones-keep is_trimmed) c.in-Some.ensures.bounds
