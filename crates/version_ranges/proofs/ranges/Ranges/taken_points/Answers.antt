use Rattle.std.proofs.Common.{ap, sym, ◌∙◌}
use Rattle.std.proofs.lemmas.Bool.{and_parts, not-true}
use Rattle.version_ranges.specs.Cut.{cut_cmp}
use Rattle.version_ranges.specs.Taken.{takes}
use Rattle.version_ranges.proofs.BoundLaws.{passes, passes_more, overlay_passes}
use Rattle.version_ranges.proofs.Combines.{combine_init, combine_keep, combine_end, combined_ascends, combined_merged, combined_value}
use Rattle.version_ranges.proofs.PointLaws.{cut_total, clone_tied}
use Rattle.version_ranges.proofs.ranges.Ranges.taken_points.Goals as goal

pub loop-cut-init : goal.loop-cut-init
loop-cut-init g c = record {
  combined = combine_init (cut_total g.met.T.Ord.total) (takes c.args.taken) _ _ _ _ _ _ _ _ c.in_ok-rest.ensures.items c.deref.ensures.value c.deref-2.ensures.value;
  bounds = λ test k h m. (
    ap (passes (λ d. test d.value)) c.in_ok-rest.ensures.items,
    overlay_passes (λ d. test d.value) (cut_cmp g.T.Ord.cmp) _ _ _ _ (ap (passes (λ d. test d.value)) c.deref.ensures.value ∙ h) (ap (passes (λ d. test d.value)) c.deref-2.ensures.value ∙ m),
  );
}

pub loop-cut-preserved-then-next-inside : goal.loop-cut-preserved-then-next-inside
loop-cut-preserved-then-next-inside g c = record {
  combined = combine_keep (cut_total g.met.T.Ord.total) (takes c.args.taken) _ _ _ _ _ _ _ _ _ _ _ c.loop-cut.invariant.combined c.in-Some.ensures.next c.takes-next.ensures
      (not-true _ c.if-next-inside.true) c.in_ok-push.ensures.items
      (clone_tied g.met.T.Ord.total g.T.PartialEq.eq g.met.T.Ord.matches_eq c.in-Some.cut.now c.in_ok-clone.field-0 (c.requires.clones _ _ c.in_ok-clone.ensures.cases.0) c.in_ok-clone.ensures.cases.1);
  bounds = λ test k h m.
      let old = c.loop-cut.invariant.bounds test k h m in
      let next = and_parts _ _ (ap (passes (λ d. test d.value)) (sym c.in-Some.ensures.next) ∙ old.1) in
      (passes_more (λ d. test d.value) _ _ _ c.in_ok-push.ensures.items old.0 (k _ _ c.in_ok-clone.ensures.cases.0 next.0), next.1);
}

pub invariant_of-result : goal.invariant_of-result
invariant_of-result g c =
    let o = cut_total g.met.T.Ord.total in
    let end = combine_end o (takes c.args.taken) _ _ _ _ _ c.loop-cut.invariant.combined c.in_default.ensures.end in
    record { ascending = combined_ascends o (takes c.args.taken) _ _ _ _ _ _ c.takes-first.ensures end c.args.self.now.cuts.ascending c.args.other.now.cuts.ascending }

pub invariant_of-result-2 : goal.invariant_of-result-2
invariant_of-result-2 g c =
    let o = cut_total g.met.T.Ord.total in
    let end = combine_end o (takes c.args.taken) _ _ _ _ _ c.loop-cut.invariant.combined c.in_default.ensures.end in
    record { merged = combined_merged o (takes c.args.taken) _ _ _ _ _ _ c.takes-first.ensures end c.args.self.now.cuts.ascending c.args.other.now.cuts.ascending }

pub returns-clause-set : goal.returns-clause-set
returns-clause-set g c =
    let end = combine_end (cut_total g.met.T.Ord.total) (takes c.args.taken) _ _ _ _ _ c.loop-cut.invariant.combined c.in_default.ensures.end in
    combined_value g.met.T.Ord.total (takes c.args.taken) _ _ _ _ _ _ c.takes-first.ensures end c.args.self.now.cuts.ascending c.args.other.now.cuts.ascending
