use Rattle.std.proofs.Common.{◌≡◌, Some, ap, ◌∙◌}
use Rattle.std.proofs.lemmas.Bool.{both_ways}
use Rattle.marker_parts.specs.Expression.{extra_of}
use Rattle.marker_terms.specs.Extra.{first_extra}
use Rattle.marker_terms.proofs.ExtraLaws.{common_at}
use Rattle.marker_terms.proofs.extra.common_extra.Goals as goal

pub returns-in_default-clause-none : goal.returns-in_default-clause-none
returns-in_default-clause-none c x h =
    let q = common_at x c.args.clauses.now c.in_ok-clause.others.now c.in_ok-clause.clause.now c.other-item.result c.loop-other.other-index c.in_ok-clause.ensures.cases.0 c.loop-other-test.true c.other-item.is h in
    cc (c.in_default.ensures ∙ ap first_extra c.deref-in-loop-other.ensures.value ∙ q.1)

pub returns-then-not-is_same_extra-clause-none : goal.returns-then-not-is_same_extra-clause-none
returns-then-not-is_same_extra-clause-none c x h =
    let q = common_at x c.args.clauses.now c.in_ok-clause.others.now c.in_ok-clause.clause.now c.other-item.result c.loop-other.other-index c.in_ok-clause.ensures.cases.0 c.loop-other-test.true c.other-item.is h in
    let e : Some (extra_of c.in-Some.found.now) ≡ Some x = c.in-Some.ensures ∙ ap first_extra c.deref-in-loop-other.ensures.value ∙ q.1 in
    let f : Some (extra_of c.in_ok-extra.extra.now) ≡ Some x = c.in_ok-extra.ensures ∙ ap first_extra c.deref.ensures.value ∙ q.0 in
    let g : extra_of c.in-Some.found.now ≡ extra_of c.in_ok-extra.extra.now = cc (e, f) in
    both_ways _ c.if-not-is_same_extra.true (c.is_same_extra.ensures.1 g)
