use Rattle.std.proofs.Common.{arith, length, ◌∙◌, ap, sym}
use Rattle.std.proofs.lemmas.List.{nil_from_length}
use Rattle.std.proofs.lemmas.Bool.{not-true, not-false}
use Rattle.std.specs.Prelude.{slice_get}
use Rattle.std.specs.Vec.Iter.{into_iter_items}
use Rattle.version_ranges.specs.Cut.{cut_cmp}
use Rattle.version_ranges.specs.Sweep.{merge_steps, relabel}
use Rattle.version_ranges.proofs.PointLaws.{cut_total, value_at_place, piece_at_place, place}
use Rattle.version_ranges.proofs.BoundLaws.{passes, merge_passes, relabel_passes}
use Rattle.version_ranges.proofs.Merges.{merges_then, merges_else, merges_end, merged_ascend, merged_value, merged_merge}
use Rattle.version_ranges.proofs.cuts.Cuts.with_values.Goals as goal
use Rattle.version_ranges.proofs.cuts.Cuts.with_values.Goals.{then-ne+in_ok-push, else-ne}

pub loop-cut-preserved : goal.loop-cut-preserved
loop-cut-preserved g c = elim c.if-ne.branch [
  | then-ne+in_ok-push w ↦ merges_then g.met.W.Eq.laws _ _ _ _ _ _ _ _ _ _ _ _ _ c.in-Some-next.ensures.items c.in-Some-next-2.ensures.items c.loop-cut.invariant
      (not-true _ (sym w.if-ne.ensures)) c.last_of.ensures c.deref.ensures.value (ap (λ v. v.items) w.rest-is ∙ w.in_ok-push.ensures.items)
  | else-ne w ↦ merges_else g.met.W.Eq.laws _ _ _ _ _ _ _ _ _ _ _ _ _ c.in-Some-next.ensures.items c.in-Some-next-2.ensures.items c.loop-cut.invariant
      (not-false _ (sym w.if-ne.ensures)) c.last_of.ensures c.deref.ensures.value (ap (λ v. v.items) w.rest-is)
]

pub invariant_of-result : goal.invariant_of-result
invariant_of-result g c =
    let same = g.W.PartialEq.eq in
    let e = merges_end same _ _ _ _ _ c.loop-cut.invariant.1 (nil_from_length _ (sym c.loop-cut.steps.rest.ok.0 ∙ c.in_default-next.ensures.cases.0)) ∙ ap (λ l. merge_steps same c.in-Some.first (relabel l (into_iter_items c.next.new.self))) c.into_iter-steps.ensures.rest in
    record { ascending = merged_ascend _ (cut_total g.met.T.Ord.total) g.met.W.Eq.laws _ _ _ _ e c.args.self.ascending }

pub returns-clause-value : goal.returns-clause-value
returns-clause-value g c =
    let same = g.W.PartialEq.eq in
    let cmp = g.T.Ord.cmp in
    let e = merges_end same _ _ _ _ _ c.loop-cut.invariant.1 (nil_from_length _ (sym c.loop-cut.steps.rest.ok.0 ∙ c.in_default-next.ensures.cases.0)) ∙ ap (λ l. merge_steps same c.in-Some.first (relabel l (into_iter_items c.next.new.self))) c.into_iter-steps.ensures.rest in
    let f = sym c.into_iter-values.ensures.rest ∙ c.in-Some.ensures.items in
    let value = merged_value (cut_cmp cmp) (cut_total g.met.T.Ord.total) g.met.W.Eq.laws c.in-Some.first c.loop-cut.rest.items c.args.self.rest.items (into_iter_items c.next.new.self) e c.args.self.ascending c.args.values.items f (omega (arith, ap length f, c.requires, c.args.self.rest.ok.0, c.args.values.ok.0)) in
    λ p w h. ap (λ v. same v w) (value_at_place cmp c.in-Some.first c.loop-cut.rest.items p)
    ∙ value (place p) w (ap (slice_get c.args.values.items) (sym (piece_at_place cmp c.args.self.rest.items p)) ∙ h)

pub returns-clause-merged : goal.returns-clause-merged
returns-clause-merged g c =
    let same = g.W.PartialEq.eq in
    let e = merges_end same _ _ _ _ _ c.loop-cut.invariant.1 (nil_from_length _ (sym c.loop-cut.steps.rest.ok.0 ∙ c.in_default-next.ensures.cases.0)) ∙ ap (λ l. merge_steps same c.in-Some.first (relabel l (into_iter_items c.next.new.self))) c.into_iter-steps.ensures.rest in
    merged_merge _ (cut_total g.met.T.Ord.total) g.met.W.Eq.laws _ _ _ _ e

pub returns-clause-bounds : goal.returns-clause-bounds
returns-clause-bounds g c =
    let same = g.W.PartialEq.eq in
    let e = merges_end same _ _ _ _ _ c.loop-cut.invariant.1 (nil_from_length _ (sym c.loop-cut.steps.rest.ok.0 ∙ c.in_default-next.ensures.cases.0)) ∙ ap (λ l. merge_steps same c.in-Some.first (relabel l (into_iter_items c.next.new.self))) c.into_iter-steps.ensures.rest in
    λ test h. ap (passes (λ d. test d.value)) e ∙ merge_passes (λ d. test d.value) same c.in-Some.first _ (relabel_passes (λ d. test d.value) c.args.self.rest.items (into_iter_items c.next.new.self) h)
