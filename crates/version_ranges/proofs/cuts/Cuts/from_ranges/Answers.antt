use Rattle.std.proofs.Common.{sym, ap, ◌∙◌}
use Rattle.std.proofs.lemmas.List.{nil_from_length}
use Rattle.std.specs.Vec.Iter.{into_iter_items}
use Rattle.version_ranges.proofs.BoundLaws.{passes, passes_first, passes_more}
use Rattle.version_ranges.proofs.PointLaws.{cut_total}
use Rattle.version_ranges.proofs.Picks.{picks_init, picks_step, picks_end, picks_ascends, picks_merged, point_pick, clone_picked, either_value}
use Rattle.version_ranges.specs.Ranges.{contains_point}
use Rattle.version_ranges.proofs.cuts.Cuts.from_ranges.Goals as goal

pub returns-then-eq-clause-value : goal.returns-then-eq-clause-value
returns-then-eq-clause-value g c = λ p. either_value g.met.V.Eq.laws c.args.inside c.args.outside _ (contains_point g.T.Ord.cmp c.args.ranges p) (c.constant.ensures.value p) (sym c.eq.ensures ∙ c.if-eq.true)

pub loop-cut-init : goal.loop-cut-init
loop-cut-init g c = record {
  alike = picks_init c.args.inside c.args.outside g.met.V.Eq.laws (cut_total g.met.T.Ord.total) _ _ _ c.in_ok-rest.ensures.items c.into_iter-steps.ensures.rest;
  bounds = λ test h. (ap (passes (λ d. test d.value)) c.in_ok-rest.ensures.items, ap (passes (λ d. test d.value)) c.into_iter-steps.ensures.rest ∙ h);
}

pub loop-cut-preserved : goal.loop-cut-preserved
loop-cut-preserved g c = record {
  alike = picks_step c.args.inside c.args.outside g.met.V.Eq.laws (cut_total g.met.T.Ord.total) c.loop-cut.rest.items c.push.new.self.items (into_iter_items c.loop-cut.steps) (into_iter_items c.next.new.self) c.args.ranges.cuts.rest.items
      _ _ c.in_ok-value.value c.loop-cut.invariant.alike c.in-Some.ensures.items c.in_ok-push.ensures.items
      (clone_picked g.met.V.Eq.laws _ _ _ c.either-in-Some.ensures (c.requires.value_clones _ _ c.in_ok-value.ensures.cases));
  bounds = λ test h.
      let old = c.loop-cut.invariant.bounds test h in
      let first = passes_first (λ d. test d.value) _ _ _ c.in-Some.ensures.items old.1 in
      (passes_more (λ d. test d.value) _ _ _ c.in_ok-push.ensures.items old.0 first.0, first.1);
}

pub invariant_of-result : goal.invariant_of-result
invariant_of-result g c =
    let o = cut_total g.met.T.Ord.total in
    let f = c.args.ranges.cuts in
    let none = nil_from_length _ (sym c.loop-cut.steps.rest.ok.0 ∙ c.in_default.ensures.cases.0) in
    let end = picks_end c.args.inside c.args.outside g.met.V.Eq.laws o c.loop-cut.rest.items (into_iter_items c.loop-cut.steps) f.rest.items c.loop-cut.invariant.alike none in
    record { ascending = picks_ascends c.args.inside c.args.outside g.met.V.Eq.laws o c.loop-cut.rest.items f.rest.items end f.ascending }

pub returns-clause-value : goal.returns-clause-value
returns-clause-value g c =
    let o = cut_total g.met.T.Ord.total in
    let f = c.args.ranges.cuts in
    let none = nil_from_length _ (sym c.loop-cut.steps.rest.ok.0 ∙ c.in_default.ensures.cases.0) in
    let end = picks_end c.args.inside c.args.outside g.met.V.Eq.laws o c.loop-cut.rest.items (into_iter_items c.loop-cut.steps) f.rest.items c.loop-cut.invariant.alike none in
    point_pick g.met.T.Ord.total g.met.V.Eq.laws c.args.inside c.args.outside c.in_ok-first.first f.first c.loop-cut.rest.items f.rest.items
    (clone_picked g.met.V.Eq.laws _ _ _ c.either.ensures (c.requires.value_clones _ _ c.in_ok-first.ensures.cases)) end

pub returns-clause-merged : goal.returns-clause-merged
returns-clause-merged g c =
    let o = cut_total g.met.T.Ord.total in
    let f = c.args.ranges.cuts in
    let none = nil_from_length _ (sym c.loop-cut.steps.rest.ok.0 ∙ c.in_default.ensures.cases.0) in
    let end = picks_end c.args.inside c.args.outside g.met.V.Eq.laws o c.loop-cut.rest.items (into_iter_items c.loop-cut.steps) f.rest.items c.loop-cut.invariant.alike none in
    picks_merged c.args.inside c.args.outside g.met.V.Eq.laws o c.in_ok-first.first f.first c.loop-cut.rest.items f.rest.items
    (clone_picked g.met.V.Eq.laws _ _ _ c.either.ensures (c.requires.value_clones _ _ c.in_ok-first.ensures.cases)) (sym c.eq.ensures ∙ c.if-eq.false) end c.args.ranges.merged

pub returns-clause-bounds : goal.returns-clause-bounds
returns-clause-bounds g c = λ test h. (c.loop-cut.invariant.bounds test h).0
