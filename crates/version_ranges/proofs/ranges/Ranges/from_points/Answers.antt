use Rattle.std.proofs.Common.{refl, sym, ap, ◌∙◌}
use Rattle.std.specs.List.{list_all}
use Rattle.std.proofs.lemmas.Bool.{and_parts}
use Rattle.version_ranges.proofs.BoundLaws.{passes, passes_more, permuted_passes, dedup_passes}
use Rattle.std.proofs.lemmas.List.{nil_from_length}
use Rattle.std.proofs.lemmas.List.Filters.{dedup_is}
use Rattle.version_ranges.proofs.PointLaws.{clone_tied}
use Rattle.version_ranges.proofs.SpotLaws.{low_cut, spots_init, spots_step, made_merged, made_ascends, made_value}
use Rattle.version_ranges.proofs.ranges.Ranges.from_points.Goals as goal

pub loop-point-init : goal.loop-point-init
loop-point-init g c = record {
  alike = spots_init g.met.T.Ord.total _ _ _ c.in_ok-rest.ensures.items refl;
  bounds = λ test k h. (ap (passes (λ d. test d.value)) c.in_ok-rest.ensures.items, h);
}

pub loop-point-preserved : goal.loop-point-preserved
loop-point-preserved g c = record {
  alike = spots_step g.met.T.Ord.total _ _ _ _ c.in-Some.point _ _ _ c.loop-point.invariant.alike c.in-Some.ensures.items c.in_ok-push.ensures.items c.in_ok-push-2.ensures.items
      (clone_tied g.met.T.Ord.total g.T.PartialEq.eq g.met.T.Ord.matches_eq (low_cut c.in-Some.point) (low_cut c.in_ok-value.value) (c.requires.clones _ _ c.in_ok-value.ensures.cases) refl);
  bounds = λ test k h.
      let old = c.loop-point.invariant.bounds test k h in
      let next = and_parts _ _ (ap (list_all test) (sym c.in-Some.ensures.items) ∙ old.1) in
      (passes_more (λ d. test d.value) _ _ _ c.in_ok-push-2.ensures.items (passes_more (λ d. test d.value) _ _ _ c.in_ok-push.ensures.items old.0 (k _ _ c.in_ok-value.ensures.cases next.0)) next.0, next.1);
}

pub invariant_of-result : goal.invariant_of-result
invariant_of-result g c =
    let none = nil_from_length _ (sym c.loop-point.points.rest.ok.0 ∙ c.in_default.ensures.cases.0) in
    record {
      ascending = made_ascends g.met.T.Ord.total c.loop-point.rest.items _ _ c.loop-point.invariant.alike none g.T.PartialEq.eq g.met.T.Ord.matches_eq _
          (c.into_iter-points.ensures.rest ∙ dedup_is g.T.PartialEq.eq _ _ c.dedup.ensures.filtered) c.in_ok-sort.ensures.sorted;
    }

pub invariant_of-result-2 : goal.invariant_of-result-2
invariant_of-result-2 g c =
    record { merged = made_merged g.met.T.Ord.total c.loop-point.rest.items _ _ c.loop-point.invariant.alike (nil_from_length _ (sym c.loop-point.points.rest.ok.0 ∙ c.in_default.ensures.cases.0)) }

pub returns-clause-set : goal.returns-clause-set
returns-clause-set g c =
    let none = nil_from_length _ (sym c.loop-point.points.rest.ok.0 ∙ c.in_default.ensures.cases.0) in
    made_value g.met.T.Ord.total c.loop-point.rest.items _ _ c.loop-point.invariant.alike none g.T.PartialEq.eq g.met.T.Ord.matches_eq _
    (c.into_iter-points.ensures.rest ∙ dedup_is g.T.PartialEq.eq _ _ c.dedup.ensures.filtered) c.in_ok-sort.ensures.sorted _ c.in_ok-sort.ensures.permutation

pub returns-clause-bounds : goal.returns-clause-bounds
returns-clause-bounds g c = λ test k h.
    (c.loop-point.invariant.bounds test k (ap (list_all test) (c.into_iter-points.ensures.rest ∙ dedup_is g.T.PartialEq.eq _ _ c.dedup.ensures.filtered)
    ∙ dedup_passes test g.T.PartialEq.eq _ (permuted_passes test _ _ c.in_ok-sort.ensures.permutation h))).0
