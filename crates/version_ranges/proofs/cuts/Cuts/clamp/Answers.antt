use Rattle.std.proofs.Common.{refl, ap, ◌∙◌, rules}
use Rattle.version_ranges.specs.Clamp.{bound_of}
use Rattle.version_ranges.proofs.BoundLaws.{passes, passes_at_place, passes_more}
use Rattle.version_ranges.proofs.PointLaws.{clone_tied}
use Rattle.version_ranges.proofs.Picks.{clone_picked, drop_past}
use Rattle.version_ranges.proofs.ClampLaws.{begin_place, end_place, begin_test, end_test, clamps_init, clamps_passed, clamps_left, clamps_kept, clamps_ascend, clamps_is}
use Rattle.version_ranges.proofs.cuts.Cuts.clamp.Goals as goal
use Rattle.version_ranges.proofs.cuts.Cuts.clamp.Goals.{then-not-is_after_begin, else-not-is_after_begin+then-is_before_end+in_ok-cut+in_ok-value+in_ok-push, else-not-is_after_begin+else-is_before_end}

pub loop-step-init : goal.loop-step-init
loop-step-init g c = record {
  clamps = clamps_init g.met.T.Ord.total g.met.V.Eq.laws (begin_place g.T.Ord.cmp (bound_of c.args.lower)) (end_place g.T.Ord.cmp (bound_of c.args.upper)) c.args.self.now.first c.args.self.now.rest.items
      c.args.self.now.first c.in_ok-rest.rest.items c.deref-steps.result.now refl c.in_ok-rest.ensures.items c.deref-steps.ensures.value;
  bounds = λ test k h. ap (passes (λ d. test d.value)) c.in_ok-rest.ensures.items;
}

pub loop-step-preserved : goal.loop-step-preserved
loop-step-preserved g c = record {
  clamps =
      let low = begin_place g.T.Ord.cmp (bound_of c.args.lower) in
      let high = end_place g.T.Ord.cmp (bound_of c.args.upper) in
      let after = begin_test g.T.Ord.cmp (bound_of c.args.lower) c.step-item.result.0 c.is_after_begin.result c.is_after_begin.ensures in
      elim c.if-not-is_after_begin.branch [
        | then-not-is_after_begin w ↦ clamps_passed g.met.T.Ord.total g.met.V.Eq.laws low high c.args.self.now.first c.args.self.now.rest.items c.loop-step.rest.items c.deref-steps.result.now c.loop-step.step-index c.loop-step.first.now c.loop-step.invariant.clamps
            c.step-item.result c.loop-step-test.true c.step-item.is c.is_after_begin.result after (search rules) c.if-not-is_after_begin.first.now c.if-not-is_after_begin.rest.items (ap (λ r. r.now) w.first-is) (ap (λ v. v.items) w.rest-is)
        | else-not-is_after_begin+then-is_before_end+in_ok-cut+in_ok-value+in_ok-push w ↦ clamps_kept g.met.T.Ord.total g.met.V.Eq.laws low high c.args.self.now.first c.args.self.now.rest.items c.loop-step.rest.items c.deref-steps.result.now c.loop-step.step-index c.loop-step.first.now c.loop-step.invariant.clamps
            c.step-item.result c.loop-step-test.true c.step-item.is c.is_after_begin.result after (search rules) w.is_before_end.result (end_test g.T.Ord.cmp (bound_of c.args.upper) c.step-item.result.0 w.is_before_end.result w.is_before_end.ensures) (search rules)
            c.if-not-is_after_begin.first.now c.if-not-is_after_begin.rest.items w.in_ok-cut.cut w.in_ok-value.value (ap (λ r. r.now) w.first-is) (ap (λ v. v.items) w.rest-is ∙ w.in_ok-push.ensures.items)
            (clone_tied g.met.T.Ord.total g.T.PartialEq.eq g.met.T.Ord.matches_eq c.step-item.result.0 w.in_ok-cut.cut (c.requires.clones _ _ w.in_ok-cut.ensures.cases.0) w.in_ok-cut.ensures.cases.1)
            (clone_picked g.met.V.Eq.laws c.step-item.result.1 w.in_ok-value.value c.step-item.result.1 refl (c.requires.value_clones _ _ w.in_ok-value.ensures.cases))
        | else-not-is_after_begin+else-is_before_end w ↦ clamps_left g.met.T.Ord.total g.met.V.Eq.laws low high c.args.self.now.first c.args.self.now.rest.items c.loop-step.rest.items c.deref-steps.result.now c.loop-step.step-index c.loop-step.first.now c.loop-step.invariant.clamps
            c.step-item.result c.loop-step-test.true c.step-item.is c.is_after_begin.result after (search rules) w.is_before_end.result (end_test g.T.Ord.cmp (bound_of c.args.upper) c.step-item.result.0 w.is_before_end.result w.is_before_end.ensures) (search rules)
            c.if-not-is_after_begin.first.now c.if-not-is_after_begin.rest.items (ap (λ r. r.now) w.first-is) (ap (λ v. v.items) w.rest-is)
      ];
  bounds = λ test k h.
      let old = c.loop-step.invariant.bounds test k h in
      let here = passes_at_place (λ s. test s.0.value) c.deref-steps.result.now c.loop-step.step-index c.step-item.result c.loop-step-test.true c.step-item.is (ap (passes (λ d. test d.value)) c.deref-steps.ensures.value ∙ h) in
      elim c.if-not-is_after_begin.branch [
        | then-not-is_after_begin w ↦ ap (λ v. passes (λ d. test d.value) v.items) w.rest-is ∙ old
        | else-not-is_after_begin+then-is_before_end+in_ok-cut+in_ok-value+in_ok-push w ↦ passes_more (λ d. test d.value) _ _ _ (ap (λ v. v.items) w.rest-is ∙ w.in_ok-push.ensures.items) old (k _ _ w.in_ok-cut.ensures.cases.0 here)
        | else-not-is_after_begin+else-is_before_end w ↦ ap (λ v. passes (λ d. test d.value) v.items) w.rest-is ∙ old
      ];
}

pub invariant_of-result : goal.invariant_of-result
invariant_of-result g c = record {
  ascending = clamps_ascend g.met.T.Ord.total g.met.V.Eq.laws (begin_place g.T.Ord.cmp (bound_of c.args.lower)) (end_place g.T.Ord.cmp (bound_of c.args.upper)) c.args.self.now.first c.args.self.now.rest.items
      c.loop-step.rest.items c.deref-steps.result.now c.loop-step.step-index c.loop-step.first.now c.loop-step.invariant.clamps (drop_past _ _ c.loop-step-test.false) c.args.self.now.ascending;
}

pub returns-clause-clamped : goal.returns-clause-clamped
returns-clause-clamped g c =
    clamps_is g.met.T.Ord.total g.met.V.Eq.laws (bound_of c.args.lower) (bound_of c.args.upper) c.args.self.now.first c.args.self.now.rest.items c.args.self.now.ascending c.requires.point
    c.loop-step.rest.items c.deref-steps.result.now c.loop-step.step-index c.loop-step.first.now c.in_ok-first.first c.loop-step.invariant.clamps (drop_past _ _ c.loop-step-test.false)
    (clone_picked g.met.V.Eq.laws c.loop-step.first.now c.in_ok-first.first c.loop-step.first.now refl (c.requires.value_clones _ _ c.in_ok-first.ensures.cases))

pub returns-clause-bounds : goal.returns-clause-bounds
returns-clause-bounds g c = c.loop-step.invariant.bounds
