use Rattle.std.proofs.Common.{◌≡◌, ◌<◌, ◌+◌, ◌++◌, [], List, Some, length, take, drop, vec_len, sym, ap, subst, ◌∙◌, arith}
use Rattle.std.specs.Prelude.{Vec, slice_get}
use Rattle.marker_terms.specs.declared.numbered.NumberedTerm.{NumberedTerm}
use Rattle.marker_terms.specs.Numbered.{left_of, number_of}
use Rattle.marker_terms.specs.Reduction.{is_redundant, without_terms}
use Rattle.marker_terms.proofs.KeptLaws.{IsJudged, kept_term, dropped_term}
use Rattle.marker_terms.proofs.reduction.drop_terms.Goals as goal
use Rattle.marker_terms.proofs.reduction.drop_terms.Goals.{then-not-is_redundant, else-not-is_redundant}

pub loop-index-preserved : goal.loop-index-preserved
loop-index-preserved c =
    elim c.if-not-is_redundant.branch [
      | then-not-is_redundant w ↦ record {
        count = ap (λ (x : Vec _ _). vec_len x) w.clause-is ∙ w.swap.ensures.len ∙ c.loop-index.invariant.count;
        order = omega arith;
        judged = subst (λ k. IsJudged c.args.endings.now others left c.in_ok-near.near.items c.if-not-is_redundant.clause.items k (c.loop-index.index + 1)) (sym w.kept-is)
            (kept_term c.args.endings.now others left c.in_ok-near.near.items c.loop-index.clause.items c.if-not-is_redundant.clause.items c.loop-index.kept c.loop-index.index within c.loop-index.invariant.order
            (ap (λ (x : Vec NumberedTerm _). x.items) w.clause-is ∙ w.swap.ensures.items) (λ t e. sym w.if-not-is_redundant.true ∙ asked t e) c.loop-index.invariant.judged);
      }
      | else-not-is_redundant w ↦ record {
        count = ap (λ (x : Vec _ _). vec_len x) w.clause-is ∙ c.loop-index.invariant.count;
        order = omega arith;
        judged = subst (λ k. IsJudged c.args.endings.now others left c.in_ok-near.near.items c.if-not-is_redundant.clause.items k (c.loop-index.index + 1)) (sym w.kept-is)
            (subst (λ zs. IsJudged c.args.endings.now others left c.in_ok-near.near.items zs c.loop-index.kept (c.loop-index.index + 1)) (ap (λ (x : Vec NumberedTerm _). x.items) (sym w.clause-is))
            (dropped_term c.args.endings.now others left c.in_ok-near.near.items c.loop-index.clause.items c.loop-index.kept c.loop-index.index within
            (λ t e. sym w.if-not-is_redundant.false ∙ asked t e) c.loop-index.invariant.judged));
      }
    ]
  where
    others : List (List NumberedTerm)
    others = left_of c.args.others.now

    left : List NumberedTerm
    left = without_terms number_of (left_of c.args.others.now) [] c.args.clause.now.items

    within : c.loop-index.index < length c.loop-index.clause.items
    within = omega (arith, c.loop-index.clause.ok.0, c.loop-index.invariant.count, c.args.clause.now.ok.0)

    asked : (t : NumberedTerm) → slice_get c.loop-index.clause.items c.loop-index.index ≡ Some t → c.is_redundant.result ≡ is_redundant number_of (left_of c.args.others.now) (take c.loop-index.kept c.loop-index.clause.items ++ drop c.loop-index.index c.loop-index.clause.items) t
    asked = subst (λ zs. (t : NumberedTerm) → slice_get zs c.loop-index.index ≡ Some t → c.is_redundant.result ≡ is_redundant number_of (left_of c.args.others.now) (take c.loop-index.kept zs ++ drop c.loop-index.index zs) t) c.deref-in-loop-index-2.ensures.value c.is_redundant.ensures
