use Rattle.std.proofs.Common.{◌≡◌, ◌||◌, not, string_bytes, refl, ap, subst, sym, ◌∙◌}
use Rattle.std.specs.List.{list_all, list_any}
use Rattle.std.proofs.lemmas.Bool.{and_parts}
use Rattle.version_ranges.specs.Bounds.{passes_at, passes_at_both}
use Rattle.version_ranges.specs.Intervals.{interval_of, intervals_left, intervals_of, is_within}
use Rattle.version_ranges.specs.Point.{is_in_bounds}
use Rattle.version_ranges.specs.Ranges.{contains_by}
use Rattle.marker_words.specs.declared.operator.MarkerOperator.TheVariants.{NotEqual}
use Rattle.marker_words.specs.Compare.{text_bound, text_cmp}
use Rattle.marker_words.specs.Key.{variable_of}
use Rattle.marker_parts.specs.Expression.{holds}
use Rattle.marker_terms.specs.Clauses.{clause_holds}
use Rattle.marker_terms.specs.Plain.{is_plain, AllPrintable, IsPrintable}
use Rattle.marker_terms.proofs.PlainLaws.{each_pushed, found_plain, plain_bound, text_printable}
use Rattle.marker_terms.proofs.SetLaws.{both_of, excluded_all, excludes_more, interval_end, interval_step}
use Rattle.marker_terms.proofs.TextLaws.{excluded_text, interval_bytes, interval_is, text_covers}
use Rattle.marker_terms.proofs.text_set.exclusions.Goals as goal

pub loop-bounds-init : goal.loop-bounds-init
loop-bounds-init c =
    let e : intervals_left c.into_iter-bounds-iterator.result ≡ intervals_of c.args.outside.now = ap intervals_left c.into_iter-bounds-iterator.ensures.into_iter_gives ∙ c.iter-bounds-items.ensures.items in
    record {
      means = λ v. ap (λ x. not (clause_holds x v) || list_any (λ i. is_within text_cmp (interval_bytes i) (v.text (variable_of c.args.key))) (intervals_left c.into_iter-bounds-iterator.result)) c.new-terms.ensures.items
          ∙ ap (list_any (λ i. is_within text_cmp (interval_bytes i) (v.text (variable_of c.args.key)))) e ∙ sym (text_covers c.args.outside.now c.args.outside.now.cuts.ascending (v.text (variable_of c.args.key)));
      printable = λ h. (ap (list_all (passes_at_both (λ t. is_plain (string_bytes t)))) e ∙ c.iter-bounds-items.ensures.bounds (λ t. is_plain (string_bytes t)) h, subst AllPrintable (sym c.new-terms.ensures.items) tt);
    }

pub loop-bounds-preserved : goal.loop-bounds-preserved
loop-bounds-preserved c = record {
  means = λ v. interval_step (λ i. is_within text_cmp (interval_bytes i) (v.text (variable_of c.args.key))) (not (clause_holds c.loop-bounds.terms.items v)) (not (clause_holds c.push_large.new.list.items v))
      (is_in_bounds text_cmp (text_bound c.in-Some.bounds.0) (text_bound c.in-Some.bounds.1) (v.text (variable_of c.args.key))) (intervals_left c.loop-bounds.bounds-iterator) (intervals_left c.next.new.self)
      (interval_of c.in-Some.bounds) (contains_by string_bytes text_cmp c.args.outside.now (v.text (variable_of c.args.key))) c.in-Some.ensures.steps
      (sym (interval_is c.in-Some.bounds.0 c.in-Some.bounds.1 (v.text (variable_of c.args.key))))
      (excludes_more c.loop-bounds.terms.items c.push_large.new.list.items c.in_ok-comparison.field-0 (is_in_bounds text_cmp (text_bound c.in-Some.bounds.0) (text_bound c.in-Some.bounds.1) (v.text (variable_of c.args.key))) v c.in_ok-push_large.ensures.items
      (ap (λ t. holds t v) c.in_ok-comparison.ensures
      ∙ excluded_text c.single_text.result c.in-Some-single_text.text (text_bound c.in-Some.bounds.0) (text_bound c.in-Some.bounds.1) c.in-Some-single_text.is c.single_text.ensures.single (v.text (variable_of c.args.key))))
      (c.loop-bounds.invariant.means v);
  printable = λ h.
      let inv = c.loop-bounds.invariant.printable h in
      let b = both_of (passes_at_both (λ t. is_plain (string_bytes t))) (intervals_left c.loop-bounds.bounds-iterator) (intervals_left c.next.new.self) (interval_of c.in-Some.bounds) c.in-Some.ensures.steps inv.0 in
      let r = and_parts (passes_at (λ t. is_plain (string_bytes t)) (interval_of c.in-Some.bounds).0) (passes_at (λ t. is_plain (string_bytes t)) (interval_of c.in-Some.bounds).1) b.0 in (
        b.1,
        each_pushed IsPrintable c.loop-bounds.terms.items c.push_large.new.list.items c.in_ok-comparison.field-0 c.in_ok-push_large.ensures.items inv.1
            (text_printable c.in_ok-comparison.field-0 NotEqual c.args.key (string_bytes c.in-Some-single_text.text.now) c.in_ok-comparison.ensures refl
            (found_plain c.single_text.result c.in-Some-single_text.text (text_bound c.in-Some.bounds.0) c.in-Some-single_text.is c.single_text.ensures.plain (plain_bound c.in-Some.bounds.0 r.0))),
      );
}

pub returns-clause-means : goal.returns-clause-means
returns-clause-means c v =
    excluded_all (clause_holds c.loop-bounds.terms.items v) (contains_by string_bytes text_cmp c.args.outside.now (v.text (variable_of c.args.key)))
    (interval_end (λ i. is_within text_cmp (interval_bytes i) (v.text (variable_of c.args.key))) (not (clause_holds c.loop-bounds.terms.items v)) (intervals_left c.loop-bounds.bounds-iterator)
    (contains_by string_bytes text_cmp c.args.outside.now (v.text (variable_of c.args.key))) c.in-None.ensures.steps.0 (c.loop-bounds.invariant.means v))

pub returns-clause-printable : goal.returns-clause-printable
returns-clause-printable c h = (c.loop-bounds.invariant.printable h).1
