use Rattle.std.proofs.Common.{arith, ◌∙◌, ap, sym}
use Rattle.std.proofs.lemmas.Bool.{and_parts}
use Rattle.version_ranges.specs.Cut.{cut_cmp}
use Rattle.version_ranges.proofs.BoundLaws.{passes, passes_more, overlay_passes}
use Rattle.version_ranges.proofs.PointLaws.{cut_total, clone_tied}
use Rattle.version_ranges.proofs.Sides.{sides_init, sides_step, sides_end, sides_ascend, point_left, point_right}
use Rattle.version_ranges.proofs.cuts.Cuts.overlay.Goals as goal

pub loop-cut-init : goal.loop-cut-init
loop-cut-init g c = record {
  alike = sides_init g.met.V.Eq.laws g.met.W.Eq.laws (cut_total g.met.T.Ord.total) _ _ _ _ _ _ _ c.in_ok-rest.ensures.items c.deref.ensures.value c.deref-2.ensures.value;
  pieces = omega (arith, c.in_ok-rest.ensures.len, c.deref.ensures.len, c.deref-2.ensures.len);
  comparisons = omega (arith, c.deref.ensures.len, c.deref-2.ensures.len);
  bounds = λ test k h m. (
    ap (passes (λ d. test d.value)) c.in_ok-rest.ensures.items,
    overlay_passes (λ d. test d.value) (cut_cmp g.T.Ord.cmp) _ _ _ _ (ap (passes (λ d. test d.value)) c.deref.ensures.value ∙ h) (ap (passes (λ d. test d.value)) c.deref-2.ensures.value ∙ m),
  );
}

pub loop-cut-preserved : goal.loop-cut-preserved
loop-cut-preserved g c =
    let left = g.met.V.Eq.laws in
    let right = g.met.W.Eq.laws in
    record {
      alike = sides_step left right (cut_total g.met.T.Ord.total) _ _ _ _ _ _ _ _ _ c.loop-cut.invariant.alike c.in-Some.ensures.next c.in_ok-push.ensures.items
          (clone_tied g.met.T.Ord.total g.T.PartialEq.eq g.met.T.Ord.matches_eq c.in-Some.cut.now c.in_ok-clone-3.field-0 (c.requires.clones _ _ c.in_ok-clone-3.ensures.cases.0) c.in_ok-clone-3.ensures.cases.1)
          (left.symm _ _ ∙ c.requires.left_clones _ _ c.in_ok-clone-4.ensures.cases) (right.symm _ _ ∙ c.requires.right_clones _ _ c.in_ok-clone-5.ensures.cases);
      pieces = omega (arith, c.in-Some.ensures.fewer, c.in_ok-push.ensures.len);
      comparisons = omega (arith, c.in-Some.ensures.fewer, c.in-Some.ensures.comparisons);
      bounds = λ test k h m.
          let old = c.loop-cut.invariant.bounds test k h m in
          let next = and_parts _ _ (ap (passes (λ d. test d.value)) (sym c.in-Some.ensures.next) ∙ old.1) in
          (passes_more (λ d. test d.value) _ _ _ c.in_ok-push.ensures.items old.0 (k _ _ c.in_ok-clone-3.ensures.cases.0 next.0), next.1);
    }

pub invariant_of-result : goal.invariant_of-result
invariant_of-result g c =
    let o = cut_total g.met.T.Ord.total in
    let end = sides_end g.met.V.Eq.laws g.met.W.Eq.laws o _ _ _ c.loop-cut.invariant.alike c.in_default.ensures.end in
    record { ascending = sides_ascend g.met.V.Eq.laws g.met.W.Eq.laws o _ _ _ _ _ end c.args.self.now.ascending c.args.other.now.ascending }

pub returns-clause-pairs : goal.returns-clause-pairs
returns-clause-pairs g c =
    let f = c.args.self.now in
    let h = c.args.other.now in
    let end = sides_end g.met.V.Eq.laws g.met.W.Eq.laws (cut_total g.met.T.Ord.total) _ _ _ c.loop-cut.invariant.alike c.in_default.ensures.end in
    let left = c.requires.left_clones _ _ c.in_ok-clone.ensures.cases in
    let right = c.requires.right_clones _ _ c.in_ok-clone-2.ensures.cases in
    record {
      left = point_left g.met.T.Ord.total g.met.V.Eq.laws g.met.W.Eq.laws f.first h.first (c.in_ok-clone.field-0, c.in_ok-clone-2.field-0) f.rest.items h.rest.items c.loop-cut.rest.items left right end;
      right = point_right g.met.T.Ord.total g.met.V.Eq.laws g.met.W.Eq.laws f.first h.first (c.in_ok-clone.field-0, c.in_ok-clone-2.field-0) f.rest.items h.rest.items c.loop-cut.rest.items left right end;
    }

pub returns-clause-bounds : goal.returns-clause-bounds
returns-clause-bounds g c = λ test k h m. (c.loop-cut.invariant.bounds test k h m).0
