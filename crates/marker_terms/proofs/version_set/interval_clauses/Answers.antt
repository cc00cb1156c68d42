use Rattle.std.proofs.Common.{◌≡◌, ◌||◌, ap, subst, sym, ◌∙◌}
use Rattle.std.specs.List.{list_all, list_any}
use Rattle.std.proofs.lemmas.Bool.{and_parts}
use Rattle.version_ranges.specs.Bounds.{passes_at, passes_at_both}
use Rattle.version_ranges.specs.Intervals.{interval_of, intervals_left, intervals_of, is_within}
use Rattle.version_ranges.specs.Ranges.{contains_point}
use Rattle.pep440_version.specs.Order.{version_cmp}
use Rattle.pep440_rs.specs.Bounds.{is_release}
use Rattle.pep440_rs.proofs.Equals.{release-means}
use Rattle.marker_terms.specs.Clauses.{clause_holds, clauses_hold, clauses_of}
use Rattle.marker_terms.specs.Plain.{HavePrintableTerms}
use Rattle.marker_terms.proofs.PlainLaws.{clauses_pushed}
use Rattle.marker_terms.proofs.SetLaws.{at_release, both_of, clauses_more, interval_end, interval_step}
use Rattle.marker_terms.proofs.version_set.interval_clauses.Goals as goal

pub loop-bounds-init : goal.loop-bounds-init
loop-bounds-init c = record {
  means = λ h.
      let e : intervals_left c.into_iter-bounds-iterator.result ≡ intervals_of c.args.set.now = ap intervals_left c.into_iter-bounds-iterator.ensures.into_iter_gives ∙ c.iter-bounds-items.ensures.items in (
        ap (list_all (passes_at_both is_release)) e ∙ c.iter-bounds-items.ensures.bounds is_release h,
        λ v. ap (λ x. clauses_hold (clauses_of x) v || list_any (λ i. is_within version_cmp i (v.version c.args.variable)) (intervals_left c.into_iter-bounds-iterator.result)) c.new-clauses.ensures.items
            ∙ ap (list_any (λ i. is_within version_cmp i (v.version c.args.variable))) e ∙ sym (c.iter-bounds-items.ensures.intervals.covers (v.version c.args.variable)),
      );
  printable = subst (λ x. HavePrintableTerms (clauses_of x)) (sym c.new-clauses.ensures.items) tt;
}

pub loop-bounds-preserved : goal.loop-bounds-preserved
loop-bounds-preserved c = record {
  means = λ h.
      let inv = c.loop-bounds.invariant.means h in
      let b = both_of (passes_at_both is_release) (intervals_left c.loop-bounds.bounds-iterator) (intervals_left c.next.new.self) (interval_of c.in-Some.bounds) c.in-Some.ensures.steps inv.0 in
      let r = and_parts (passes_at is_release (interval_of c.in-Some.bounds).0) (passes_at is_release (interval_of c.in-Some.bounds).1) b.0 in (
        b.1,
        λ v.
            interval_step (λ i. is_within version_cmp i (v.version c.args.variable)) (clauses_hold (clauses_of c.loop-bounds.clauses.items) v) (clauses_hold (clauses_of c.push.new.self.items) v)
            (clause_holds c.in_ok-terms.terms.items v) (intervals_left c.loop-bounds.bounds-iterator) (intervals_left c.next.new.self) (interval_of c.in-Some.bounds)
            (contains_point version_cmp c.args.set.now (v.version c.args.variable)) c.in-Some.ensures.steps
            (c.in_ok-terms.ensures.means (at_release release-means c.in-Some.bounds.0 r.0) (at_release release-means c.in-Some.bounds.1 r.1) v)
            (clauses_more c.loop-bounds.clauses.items c.push.new.self.items c.in_ok-terms.terms c.in_ok-push.ensures.items v)
            (inv.1 v),
      );
  printable = clauses_pushed c.loop-bounds.clauses.items c.push.new.self.items c.in_ok-terms.terms c.in_ok-push.ensures.items c.loop-bounds.invariant.printable c.in_ok-terms.ensures.printable;
}

pub returns-clause-means : goal.returns-clause-means
returns-clause-means c h v =
    let inv = c.loop-bounds.invariant.means h in
    interval_end (λ i. is_within version_cmp i (v.version c.args.variable)) (clauses_hold (clauses_of c.loop-bounds.clauses.items) v) (intervals_left c.loop-bounds.bounds-iterator)
    (contains_point version_cmp c.args.set.now (v.version c.args.variable)) c.in-None.ensures.steps.0 (inv.1 v)
