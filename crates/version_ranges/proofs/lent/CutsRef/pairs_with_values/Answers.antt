use Rattle.std.proofs.Common.{ap, refl, sym, ◌∙◌, arith}
use Rattle.std.proofs.lemmas.Bool.{and_parts, not-true, not-false}
use Rattle.version_ranges.specs.Cut.{cut_cmp}
use Rattle.version_ranges.proofs.BoundLaws.{passes, passes_more, overlay_passes}
use Rattle.version_ranges.proofs.Labels.{label_init, label_keep, label_pass, label_end, labelled_ascends, labelled_merged, labelled_value}
use Rattle.version_ranges.proofs.PointLaws.{cut_total, clone_tied}
use Rattle.version_ranges.proofs.StepLaws.{overlay_ascends}
use Rattle.version_ranges.proofs.lent.CutsRef.pairs_with_values.Goals as goal

pub loop-cut-init : goal.loop-cut-init
loop-cut-init g c =
    let len = c.in-Some.ensures.cases.1 in
    let count = c.requires.count in
    record {
      labelled = label_init (cut_total g.met.T.Ord.total) g.met.X.Eq.laws _ _ _ _ _ (omega arith) c.in_ok-rest.ensures.items refl;
      bounds = λ test k m n. (ap (passes (λ d. test d.value)) c.in_ok-rest.ensures.items, overlay_passes (λ d. test d.value) (cut_cmp g.T.Ord.cmp) _ _ _ _ m n);
    }

pub loop-cut-preserved-then-ne : goal.loop-cut-preserved-then-ne
loop-cut-preserved-then-ne g c = record {
  labelled = label_keep (cut_total g.met.T.Ord.total) g.met.X.Eq.laws _ _ _ _ _ _ _ _ _ _ _ _ c.loop-cut.invariant.labelled c.in-Some-next.ensures.next c.in-Some-split_first.ensures.cases.0 _ _
      (not-true _ (sym c.if-ne.ensures)) c.in_ok-push.ensures.items
      (clone_tied g.met.T.Ord.total g.T.PartialEq.eq g.met.T.Ord.matches_eq c.in-Some-next.cut.now c.in_ok-clone.field-0 (c.requires.clones _ _ c.in_ok-clone.ensures.cases.0) c.in_ok-clone.ensures.cases.1);
  bounds = λ test k h m.
      let old = c.loop-cut.invariant.bounds test k h m in
      let next = and_parts _ _ (ap (passes (λ d. test d.value)) (sym c.in-Some-next.ensures.next) ∙ old.1) in
      (passes_more (λ d. test d.value) _ _ _ c.in_ok-push.ensures.items old.0 (k _ _ c.in_ok-clone.ensures.cases.0 next.0), next.1);
}

pub loop-cut-preserved : goal.loop-cut-preserved
loop-cut-preserved g c = record {
  labelled = label_pass (cut_total g.met.T.Ord.total) g.met.X.Eq.laws _ _ _ _ _ _ _ _ _ _ _ _ c.loop-cut.invariant.labelled c.in-Some-next.ensures.next c.in-Some-split_first.ensures.cases.0
      (not-false _ (sym c.if-ne.ensures));
  bounds = λ test k h m.
      let old = c.loop-cut.invariant.bounds test k h m in
      (old.0, (and_parts _ _ (ap (passes (λ d. test d.value)) (sym c.in-Some-next.ensures.next) ∙ old.1)).1);
}

pub invariant_of-result : goal.invariant_of-result
invariant_of-result g c =
    let o = cut_total g.met.T.Ord.total in
    let f = c.args.self.now in
    let h = c.args.other.now in
    record {
      ascending = labelled_ascends o g.met.X.Eq.laws _ _ _ _ (label_end o g.met.X.Eq.laws _ _ _ _ _ _ _ c.loop-cut.invariant.labelled c.in_default-next.ensures.end)
          (overlay_ascends o f.first.now f.rest.now h.first.now h.rest.now _ f.ascending h.ascending);
    }

pub returns-clause-merged : goal.returns-clause-merged
returns-clause-merged g c =
    let o = cut_total g.met.T.Ord.total in
    let f = c.args.self.now in
    let h = c.args.other.now in
    labelled_merged o g.met.X.Eq.laws _ _ _ _ (label_end o g.met.X.Eq.laws _ _ _ _ _ _ _ c.loop-cut.invariant.labelled c.in_default-next.ensures.end)
    (overlay_ascends o f.first.now f.rest.now h.first.now h.rest.now _ f.ascending h.ascending)

pub returns-clause-value : goal.returns-clause-value
returns-clause-value g c =
    let o = cut_total g.met.T.Ord.total in
    let f = c.args.self.now in
    let h = c.args.other.now in
    labelled_value g.met.T.Ord.total g.met.X.Eq.laws _ _ _ _ (label_end o g.met.X.Eq.laws _ _ _ _ _ _ _ c.loop-cut.invariant.labelled c.in_default-next.ensures.end)
    (overlay_ascends o f.first.now f.rest.now h.first.now h.rest.now _ f.ascending h.ascending) _ c.in-Some.ensures.cases.0
    (let e = c.in-Some.ensures.cases.1 in let n = c.requires.count in omega arith)
