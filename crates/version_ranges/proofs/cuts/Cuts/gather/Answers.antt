use Rattle.std.proofs.Common.{arith, ap, refl, rules, ◌∙◌}
use Rattle.std.specs.List.{list_all}
use Rattle.std.proofs.lemmas.Option.{slice_get_within}
use Rattle.version_ranges.specs.Bounds.{all_bounds}
use Rattle.version_ranges.proofs.BoundLaws.{joined_passes, passes, passes_at_place}
use Rattle.version_ranges.proofs.Collected.{kept_place, kept_past, kept_step, gathered}
use Rattle.version_ranges.proofs.cuts.Cuts.gather.Goals as goal

pub place_of-requires-in-loop-step : goal.place_of-requires-in-loop-step
place_of-requires-in-loop-step g c = c.loop-step.invariant.kept.0

pub pass-requires-clause-from : goal.pass-requires-clause-from
pass-requires-clause-from g c =
    let p = kept_place g.T.Ord.cmp g.V.PartialEq.eq g.met.T.Ord.total g.met.V.Eq.laws c.args.self.now.first c.args.self.now.rest.items c.deref-step-items.result.now c.deref-step-items.ensures.value c.args.self.now.ascending
    c.loop-step.step-index c.step-item.result c.loop-step-test.true c.step-item.is c.constant-in-loop-step.result c.constant-in-loop-step.ensures.first c.constant-in-loop-step.ensures.rest _ c.loop-step.places.keys
    c.loop-step.pairs.items c.place_of-in-loop-step.new.pairs.items c.loop-step.current c.loop-step.invariant.kept c.in_ok-place.ensures.pairs refl in
    omega (arith, slice_get_within c.place_of-in-loop-step.new.pairs.items c.loop-step.current p.0 p.1, c.place_of-in-loop-step.new.pairs.ok.0)

pub pass-requires-clause-to : goal.pass-requires-clause-to
pass-requires-clause-to g c = omega (arith, slice_get_within c.place_of-in-loop-step.new.pairs.items c.in_ok-place.place c.in_ok-place.ensures.found.0 c.in_ok-place.ensures.found.1, c.place_of-in-loop-step.new.pairs.ok.0)

pub pass-requires-clause-past : goal.pass-requires-clause-past
pass-requires-clause-past g c =
    kept_past g.T.Ord.cmp g.V.PartialEq.eq g.met.T.Ord.total g.met.V.Eq.laws c.args.self.now.first c.args.self.now.rest.items c.deref-step-items.result.now c.deref-step-items.ensures.value c.args.self.now.ascending
    c.loop-step.step-index c.step-item.result c.loop-step-test.true c.step-item.is c.constant-in-loop-step.result c.constant-in-loop-step.ensures.first c.constant-in-loop-step.ensures.rest _ c.loop-step.places.keys
    c.loop-step.pairs.items c.place_of-in-loop-step.new.pairs.items c.loop-step.current c.loop-step.invariant.kept c.in_ok-place.ensures.pairs refl

pub loop-step-init : goal.loop-step-init
loop-step-init g c = record {
  kept = search rules;
  bounds = λ test k h.
      joined_passes (λ q. all_bounds test q.1) _ c.new-pairs.result.items _ _ c.in_ok-current.ensures.pairs (ap (list_all (λ q. all_bounds test q.1)) c.new-pairs.ensures.items) (ap (passes (λ d. test d.value)) c.constant.ensures.rest);
}

pub loop-step-preserved : goal.loop-step-preserved
loop-step-preserved g c = record {
  kept =
      kept_step g.T.Ord.cmp g.V.PartialEq.eq g.met.T.Ord.total g.met.V.Eq.laws c.args.self.now.first c.args.self.now.rest.items c.deref-step-items.result.now c.deref-step-items.ensures.value c.args.self.now.ascending
      c.loop-step.step-index c.step-item.result c.loop-step-test.true c.step-item.is c.constant-in-loop-step.result c.constant-in-loop-step.ensures.first c.constant-in-loop-step.ensures.rest _ c.loop-step.places.keys
      c.loop-step.pairs.items c.place_of-in-loop-step.new.pairs.items c.loop-step.current c.loop-step.invariant.kept c.in_ok-place.ensures.pairs refl
      c.place_of-in-loop-step.new.places.keys c.pass.new.pairs.items c.in_ok-place.place c.in_ok-place.ensures.keys c.in_ok-place.ensures.found
      c.in_ok-pass.ensures.turned.len c.in_ok-pass.ensures.turned.each;
  bounds = λ test k h.
      let here = passes_at_place (λ s. test s.0.value) c.deref-step-items.result.now c.loop-step.step-index c.step-item.result c.loop-step-test.true c.step-item.is (ap (passes (λ d. test d.value)) c.deref-step-items.ensures.value ∙ h) in
      let joined = joined_passes (λ q. all_bounds test q.1) _ c.loop-step.pairs.items _ _ c.in_ok-place.ensures.pairs (c.loop-step.invariant.bounds test k h) (ap (passes (λ d. test d.value)) c.constant-in-loop-step.ensures.rest) in
      c.in_ok-pass.ensures.bounds test k here joined;
}

pub returns-clause-gathered : goal.returns-clause-gathered
returns-clause-gathered g c =
    gathered g.T.Ord.cmp g.V.PartialEq.eq g.met.T.Ord.total g.met.V.Eq.laws c.args.self.now c.deref-step-items.result.now c.deref-step-items.ensures.value c.args.self.now.ascending c.loop-step.step-index
    c.loop-step.places.keys c.loop-step.pairs.items c.loop-step.current c.loop-step.invariant.kept c.loop-step-test.false

pub returns-clause-bounds : goal.returns-clause-bounds
returns-clause-bounds g c = c.loop-step.invariant.bounds
