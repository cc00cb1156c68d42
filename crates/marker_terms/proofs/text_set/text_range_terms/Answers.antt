use Rattle.std.proofs.Common.{ℕ, List, ◌&&◌, string_bytes, ap, subst, sym, ◌∙◌}
use Rattle.std.specs.List.{list_all}
use Rattle.std.proofs.lemmas.Bool.{and_parts}
use Rattle.version_ranges.specs.Point.{is_in_bounds}
use Rattle.marker_words.specs.declared.operator.MarkerOperator.{MarkerOperator}
use Rattle.marker_words.specs.Bounds.{pairs_left}
use Rattle.marker_words.specs.Compare.{beside, holds_beside, satisfies_all, text_bound, text_cmp}
use Rattle.marker_words.specs.Key.{variable_of}
use Rattle.marker_parts.specs.Expression.{holds}
use Rattle.marker_terms.specs.Clauses.{clause_holds, term_holds}
use Rattle.marker_terms.specs.Plain.{is_plain, AllPrintable, IsPrintable}
use Rattle.marker_terms.proofs.PlainLaws.{compares_texts, each_pushed, is_plain_pair, pairs_plain, text_printable}
use Rattle.marker_terms.proofs.SetLaws.{all_step, all_end, both_of, terms_more}
use Rattle.marker_terms.proofs.TextLaws.{order_holds, orders, pairs_order}
use Rattle.marker_terms.proofs.text_set.text_range_terms.Goals as goal

pub loop-operator-init : goal.loop-operator-init
loop-operator-init c = record {
  means = (
    ap (λ it. list_all (λ pair. orders pair.0) (pairs_left it)) c.into_iter-operator-iterator.ensures.into_iter_gives
        ∙ ap (list_all (λ pair. orders pair.0)) c.from_bounds-operator-items.ensures.pairs ∙ pairs_order (text_bound c.args.bounds.0) (text_bound c.args.bounds.1),
    λ v. ap (λ x. clause_holds x v && satisfies_all text_cmp (pairs_left c.into_iter-operator-iterator.result) (v.text (variable_of c.args.key))) c.new-terms.ensures.items
        ∙ ap (λ it. satisfies_all text_cmp (pairs_left it) (v.text (variable_of c.args.key))) c.into_iter-operator-iterator.ensures.into_iter_gives
        ∙ c.from_bounds-operator-items.ensures.range (v.text (variable_of c.args.key)),
  );
  printable = λ h k. (
    ap (λ it. list_all is_plain_pair (pairs_left it)) c.into_iter-operator-iterator.ensures.into_iter_gives
        ∙ ap (list_all is_plain_pair) c.from_bounds-operator-items.ensures.pairs ∙ pairs_plain (text_bound c.args.bounds.0) (text_bound c.args.bounds.1) h k,
    subst AllPrintable (sym c.new-terms.ensures.items) tt,
  );
}

pub loop-operator-preserved : goal.loop-operator-preserved
loop-operator-preserved c =
    let i : MarkerOperator × List ℕ = (c.in-Some.operator, string_bytes c.in-Some.text.now) in
    let b = both_of (λ pair. orders pair.0) (pairs_left c.loop-operator.operator-iterator) (pairs_left c.next.new.self) i c.in-Some.ensures.steps c.loop-operator.invariant.means.0 in
    record {
      means = (
        b.1,
        λ v.
            all_step (λ pair. holds_beside pair.0 (beside text_cmp (v.text (variable_of c.args.key)) pair.1)) (clause_holds c.loop-operator.terms.items v) (clause_holds c.push_large.new.list.items v)
            (term_holds c.in_ok-comparison.field-0 v) (pairs_left c.loop-operator.operator-iterator) (pairs_left c.next.new.self) i
            (is_in_bounds text_cmp (text_bound c.args.bounds.0) (text_bound c.args.bounds.1) (v.text (variable_of c.args.key))) c.in-Some.ensures.steps
            (ap (λ t. holds t v) c.in_ok-comparison.ensures ∙ order_holds c.in-Some.operator b.0 c.args.key (string_bytes c.in-Some.text.now) v)
            (terms_more c.loop-operator.terms.items c.push_large.new.list.items c.in_ok-comparison.field-0 c.in_ok-push_large.ensures.items v) (c.loop-operator.invariant.means.1 v),
      );
      printable = λ h k.
          let inv = c.loop-operator.invariant.printable h k in
          let r = both_of is_plain_pair (pairs_left c.loop-operator.operator-iterator) (pairs_left c.next.new.self) i c.in-Some.ensures.steps inv.0 in
          let s = and_parts (compares_texts c.in-Some.operator) (is_plain (string_bytes c.in-Some.text.now)) r.0 in (
            r.1,
            each_pushed IsPrintable c.loop-operator.terms.items c.push_large.new.list.items c.in_ok-comparison.field-0 c.in_ok-push_large.ensures.items inv.1
                (text_printable c.in_ok-comparison.field-0 c.in-Some.operator c.args.key (string_bytes c.in-Some.text.now) c.in_ok-comparison.ensures s.0 s.1),
          );
    }

pub returns-clause-means : goal.returns-clause-means
returns-clause-means c v =
    all_end (λ pair. holds_beside pair.0 (beside text_cmp (v.text (variable_of c.args.key)) pair.1)) (clause_holds c.loop-operator.terms.items v) (pairs_left c.loop-operator.operator-iterator)
    (is_in_bounds text_cmp (text_bound c.args.bounds.0) (text_bound c.args.bounds.1) (v.text (variable_of c.args.key))) c.in-None.ensures.steps.0 (c.loop-operator.invariant.means.1 v)

pub returns-clause-printable : goal.returns-clause-printable
returns-clause-printable c h k = (c.loop-operator.invariant.printable h k).1
