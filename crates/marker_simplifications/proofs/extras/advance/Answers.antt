use Rattle.std.proofs.Common.{Some, Ok, refl, sym, ap, ◌∙◌, subst}
use Rattle.std.specs.Fn.{FnReturnsAt}
use Rattle.std.specs.Prelude.{All, slice_get}
use Rattle.std.proofs.lemmas.Bool.{false≢true}
use Rattle.std.proofs.lemmas.List.Elements.{All-nil, All-pop}
use Rattle.marker_diagrams.proofs.NodeLaws.{keeps_itself}
use Rattle.marker_nodes.specs.Branches.{piece, value_at, variable}
use Rattle.marker_nodes.specs.Node.{markers}
use Rattle.marker_simplifications.specs.Granting.{IsNext, IsWanted}
use Rattle.marker_simplifications.proofs.Grants.{granted_itself, granted_unchanged, are_under, listed_children, listed_placed, touched_below, touched_granted, has_clone, clone_untouched}
use Rattle.marker_simplifications.proofs.GrantSteps.{found_granted, each_granted, wanted_below, settled_values, nil_by}
use Rattle.marker_simplifications.proofs.extras.advance.Goals.{in-Some-look_up, in-None}
use Rattle.marker_simplifications.proofs.extras.advance.Goals as goal

pub returns-in_default-clause-next : goal.returns-in_default-clause-next
returns-in_default-clause-next g c = granted_itself (FnReturnsAt g.F.Fn c.args.is_extra.now) c.args.nodes.now c.args.id c.requires.plain.within c.in_default.ensures.node

pub returns-in-Some-granted_child-clause-next : goal.returns-in-Some-granted_child-clause-next
returns-in-Some-granted_child-clause-next g c =
    let below = touched_below c.args.nodes.now c.requires.known.rules c.args.id c.requires.plain.within c.requires.plain.sign c.in-Some.node.now c.in-Some.ensures.node (FnReturnsAt g.F.Fn c.args.is_extra.now) c.in-Some-granted_child.high c.in-Some-granted_child.ensures.touched in
    elim c.match-look_up.branch [
      | in-Some-look_up w ↦ subst (IsNext c.args.nodes.now (FnReturnsAt g.F.Fn c.args.is_extra.now) c.args.known.now.entries c.args.id) (sym w.result-is)
          (touched_granted c.args.nodes.now c.requires.known.rules c.args.id c.requires.plain.within c.requires.plain.sign c.in-Some.node.now c.in-Some.ensures.node (FnReturnsAt g.F.Fn c.args.is_extra.now) c.in-Some-granted_child.high c.in-Some-granted_child.ensures.touched c.args.nodes.now (keeps_itself markers c.args.nodes.now) (Ok w.in-Some-look_up.made)
          (found_granted (FnReturnsAt g.F.Fn c.args.is_extra.now) c.args.nodes.now c.args.known.now.entries c.in-Some-granted_child.high w.in-Some-look_up.made c.requires.known.known below.1 w.in-Some-look_up.ensures.granted))
      | in-None w ↦ subst (IsNext c.args.nodes.now (FnReturnsAt g.F.Fn c.args.is_extra.now) c.args.known.now.entries c.args.id) (sym w.result-is) (
        wanted_below c.args.known.now.entries c.args.id c.in-Some-granted_child.high w.negate.result below.0 w.negate.ensures w.in-None.ensures.unknown,
        subst (All (IsWanted c.args.known.now.entries c.args.id)) (sym w.new.ensures.items) (All-nil (IsWanted c.args.known.now.entries c.args.id)),
      )
    ]

pub returns-in-Some-pop-clause-next : goal.returns-in-Some-pop-clause-next
returns-in-Some-pop-clause-next g c =
    let under = are_under c.args.nodes.now c.requires.known.rules c.args.id c.requires.plain.within c.requires.plain.sign (variable c.in-Some.node.now) (value_at c.in-Some.node.now) (has_clone c.args.nodes.now c.requires.known.rules c.args.id c.requires.plain.within c.requires.plain.sign c.in-Some.node.now c.in-Some.ensures.node c.in-Some.node.now (refl, λ v. refl)) c.in_ok-ids.ids.items c.deref.result.now c.deref.ensures c.in_ok-ids.ensures.inhabited in
    let r = All-pop (IsWanted c.args.known.now.entries c.args.id) c.in_ok-wanted.wanted.items c.pop.new.self.items (Some c.in-Some-pop.last) c.in-Some-pop.ensures.items (c.in_ok-wanted.ensures.wanted c.args.nodes.now c.args.id under) in
    (r.1, r.0)

pub returns-then-are_unchanged-clause-next : goal.returns-then-are_unchanged-clause-next
returns-then-are_unchanged-clause-next g c =
    let nodes = c.args.nodes.now in
    let has = has_clone nodes c.requires.known.rules c.args.id c.requires.plain.within c.requires.plain.sign c.in-Some.node.now c.in-Some.ensures.node c.in-Some.node.now (refl, λ v. refl) in
    let under = are_under nodes c.requires.known.rules c.args.id c.requires.plain.within c.requires.plain.sign (variable c.in-Some.node.now) (value_at c.in-Some.node.now) has c.in_ok-ids.ids.items c.deref-2.result.now c.deref-2.ensures c.in_ok-ids.ensures.inhabited in
    let each = each_granted (FnReturnsAt g.F.Fn c.args.is_extra.now) nodes c.args.known.now.entries c.deref-2.result.now c.deref-2.result.now c.requires.known.known (λ i t e. (under i t e).0) (c.if-are_unchanged.ensures refl) in
    granted_unchanged nodes c.requires.known.rules c.args.id c.requires.plain.within c.requires.plain.sign (variable c.in-Some.node.now) (value_at c.in-Some.node.now) has (FnReturnsAt g.F.Fn c.args.is_extra.now)
    (λ v.
    let child = value_at c.in-Some.node.now v in
    let listed = ap (λ xs. slice_get xs (piece c.in-Some.node.now v)) c.deref-2.ensures ∙ c.in_ok-ids.ensures.value v in
    each (piece c.in-Some.node.now v) child child listed listed)
    c.in_default-granted_child.ensures.untouched

pub look_up_all-requires : goal.look_up_all-requires
look_up_all-requires g c = record {
  settled = settled_values c.args.known.now.entries c.in_ok-ids.ids.items c.deref.result.now c.in_ok-values.values.items c.deref-3.result.now c.deref.ensures c.deref-3.ensures c.in-Some.node.now c.in_ok-branches.branches
      (let e = c.in_ok-branches.ensures.cases in e.1) c.in_ok-ids.ensures.value c.in_ok-values.ensures.inhabited (c.in_ok-wanted.ensures.none (nil_by c.in_ok-wanted.wanted.items (λ l. let v = c.in_default-pop.ensures.variant in false≢true (v.1 l))));
}

pub place-requires-clause-children : goal.place-requires-clause-children
place-requires-clause-children g c =
    listed_children c.args.nodes.now c.requires.known.rules c.args.id c.requires.plain.within c.requires.plain.sign (variable c.in_ok-branches.branches) (value_at c.in_ok-branches.branches) (has_clone c.args.nodes.now c.requires.known.rules c.args.id c.requires.plain.within c.requires.plain.sign c.in-Some.node.now c.in-Some.ensures.node c.in_ok-branches.branches (let e = c.in_ok-branches.ensures.cases in (e.0, e.1))) (FnReturnsAt g.F.Fn c.args.is_extra.now) c.args.nodes.now (keeps_itself markers c.args.nodes.now) c.in_ok-values.values.items c.deref-3.result.now c.in_ok-children.children.items c.deref-3.ensures c.in_ok-children.ensures.count (each_granted (FnReturnsAt g.F.Fn c.args.is_extra.now) c.args.nodes.now c.args.known.now.entries c.deref-3.result.now c.in_ok-children.children.items c.requires.known.known (λ i t e. (are_under c.args.nodes.now c.requires.known.rules c.args.id c.requires.plain.within c.requires.plain.sign (variable c.in_ok-branches.branches) (value_at c.in_ok-branches.branches) (has_clone c.args.nodes.now c.requires.known.rules c.args.id c.requires.plain.within c.requires.plain.sign c.in-Some.node.now c.in-Some.ensures.node c.in_ok-branches.branches (let e = c.in_ok-branches.ensures.cases in (e.0, e.1))) c.in_ok-values.values.items c.deref-3.result.now c.deref-3.ensures c.in_ok-values.ensures.inhabited i t e).0) c.in_ok-children.ensures.granted) (piece c.in_ok-branches.branches) c.in_ok-values.ensures.value

pub returns-clause-next : goal.returns-clause-next
returns-clause-next g c =
    listed_placed c.args.nodes.now c.requires.known.rules c.args.id c.requires.plain.within c.requires.plain.sign (variable c.in_ok-branches.branches) (value_at c.in_ok-branches.branches) (has_clone c.args.nodes.now c.requires.known.rules c.args.id c.requires.plain.within c.requires.plain.sign c.in-Some.node.now c.in-Some.ensures.node c.in_ok-branches.branches (let e = c.in_ok-branches.ensures.cases in (e.0, e.1))) (FnReturnsAt g.F.Fn c.args.is_extra.now) c.args.nodes.now (keeps_itself markers c.args.nodes.now) c.in_ok-values.values.items c.deref-3.result.now c.in_ok-children.children.items c.deref-3.ensures c.in_ok-children.ensures.count (each_granted (FnReturnsAt g.F.Fn c.args.is_extra.now) c.args.nodes.now c.args.known.now.entries c.deref-3.result.now c.in_ok-children.children.items c.requires.known.known (λ i t e. (are_under c.args.nodes.now c.requires.known.rules c.args.id c.requires.plain.within c.requires.plain.sign (variable c.in_ok-branches.branches) (value_at c.in_ok-branches.branches) (has_clone c.args.nodes.now c.requires.known.rules c.args.id c.requires.plain.within c.requires.plain.sign c.in-Some.node.now c.in-Some.ensures.node c.in_ok-branches.branches (let e = c.in_ok-branches.ensures.cases in (e.0, e.1))) c.in_ok-values.values.items c.deref-3.result.now c.deref-3.ensures c.in_ok-values.ensures.inhabited i t e).0) c.in_ok-children.ensures.granted) (piece c.in_ok-branches.branches) c.in_ok-values.ensures.value
    c.place.new.self c.in_ok-made.ensures.kept.nodes (clone_untouched c.args.nodes.now c.requires.known.rules c.args.id c.requires.plain.within c.requires.plain.sign c.in-Some.node.now c.in-Some.ensures.node c.in_ok-branches.branches (let e = c.in_ok-branches.ensures.cases in (e.0, e.1)) (FnReturnsAt g.F.Fn c.args.is_extra.now) c.in_default-granted_child.ensures.untouched)
    (Ok c.in_ok-made.made) c.in_ok-made.ensures.id

pub place-requires-clause-trimmed : goal.place-requires-clause-trimmed
place-requires-clause-trimmed g c = let e = c.in_ok-branches.ensures.cases in e.2 c.in-Some.ensures.trimmed
