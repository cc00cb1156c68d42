use Rattle.std.proofs.Common.{◌≡◌, ◌||◌, string_bytes, ap, subst, sym, ◌∙◌}
use Rattle.std.specs.List.{list_all, list_any}
use Rattle.std.proofs.lemmas.Bool.{and_parts}
use Rattle.version_ranges.specs.Bounds.{passes_at, passes_at_both}
use Rattle.version_ranges.specs.Intervals.{interval_of, intervals_left, intervals_of, is_within}
use Rattle.version_ranges.specs.Ranges.{contains_by}
use Rattle.marker_words.specs.Compare.{text_cmp}
use Rattle.marker_words.specs.Key.{variable_of}
use Rattle.marker_terms.specs.Clauses.{clause_holds, clauses_hold, clauses_of}
use Rattle.marker_terms.specs.Plain.{is_plain, HavePrintableTerms}
use Rattle.marker_terms.proofs.PlainLaws.{clauses_pushed, plain_bound}
use Rattle.marker_terms.proofs.SetLaws.{both_of, clauses_more, interval_end, interval_step}
use Rattle.marker_terms.proofs.TextLaws.{interval_bytes, interval_is, text_covers}
use Rattle.marker_terms.proofs.text_set.interval_clauses.Goals as goal

pub loop-bounds-init : goal.loop-bounds-init
loop-bounds-init c =
    let e : intervals_left c.into_iter-bounds-iterator.result ≡ intervals_of c.args.set.now = ap intervals_left c.into_iter-bounds-iterator.ensures.into_iter_gives ∙ c.iter-bounds-items.ensures.items in
    record {
      means = λ v. ap (λ x. clauses_hold (clauses_of x) v || list_any (λ i. is_within text_cmp (interval_bytes i) (v.text (variable_of c.args.key))) (intervals_left c.into_iter-bounds-iterator.result)) c.new-clauses.ensures.items
          ∙ ap (list_any (λ i. is_within text_cmp (interval_bytes i) (v.text (variable_of c.args.key)))) e ∙ sym (text_covers c.args.set.now c.args.set.now.cuts.ascending (v.text (variable_of c.args.key)));
      printable = λ h. (ap (list_all (passes_at_both (λ t. is_plain (string_bytes t)))) e ∙ c.iter-bounds-items.ensures.bounds (λ t. is_plain (string_bytes t)) h, subst (λ x. HavePrintableTerms (clauses_of x)) (sym c.new-clauses.ensures.items) tt);
    }

pub loop-bounds-preserved : goal.loop-bounds-preserved
loop-bounds-preserved c = record {
  means = λ v. interval_step (λ i. is_within text_cmp (interval_bytes i) (v.text (variable_of c.args.key))) (clauses_hold (clauses_of c.loop-bounds.clauses.items) v) (clauses_hold (clauses_of c.push.new.self.items) v)
      (clause_holds c.in_ok-terms.terms.items v) (intervals_left c.loop-bounds.bounds-iterator) (intervals_left c.next.new.self) (interval_of c.in-Some.bounds)
      (contains_by string_bytes text_cmp c.args.set.now (v.text (variable_of c.args.key))) c.in-Some.ensures.steps
      (c.in_ok-terms.ensures.means v ∙ sym (interval_is c.in-Some.bounds.0 c.in-Some.bounds.1 (v.text (variable_of c.args.key))))
      (clauses_more c.loop-bounds.clauses.items c.push.new.self.items c.in_ok-terms.terms c.in_ok-push.ensures.items v)
      (c.loop-bounds.invariant.means v);
  printable = λ h.
      let inv = c.loop-bounds.invariant.printable h in
      let b = both_of (passes_at_both (λ t. is_plain (string_bytes t))) (intervals_left c.loop-bounds.bounds-iterator) (intervals_left c.next.new.self) (interval_of c.in-Some.bounds) c.in-Some.ensures.steps inv.0 in
      let r = and_parts (passes_at (λ t. is_plain (string_bytes t)) (interval_of c.in-Some.bounds).0) (passes_at (λ t. is_plain (string_bytes t)) (interval_of c.in-Some.bounds).1) b.0 in (
        b.1,
        clauses_pushed c.loop-bounds.clauses.items c.push.new.self.items c.in_ok-terms.terms c.in_ok-push.ensures.items inv.1
            (c.in_ok-terms.ensures.printable (plain_bound c.in-Some.bounds.0 r.0) (plain_bound c.in-Some.bounds.1 r.1)),
      );
}

pub returns-clause-means : goal.returns-clause-means
returns-clause-means c v =
    interval_end (λ i. is_within text_cmp (interval_bytes i) (v.text (variable_of c.args.key))) (clauses_hold (clauses_of c.loop-bounds.clauses.items) v) (intervals_left c.loop-bounds.bounds-iterator)
    (contains_by string_bytes text_cmp c.args.set.now (v.text (variable_of c.args.key))) c.in-None.ensures.steps.0 (c.loop-bounds.invariant.means v)

pub returns-clause-printable : goal.returns-clause-printable
returns-clause-printable c h = (c.loop-bounds.invariant.printable h).1
