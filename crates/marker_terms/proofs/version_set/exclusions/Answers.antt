use Rattle.std.proofs.Common.{◌≡◌, ◌||◌, not, refl, ap, subst, sym, ◌∙◌}
use Rattle.std.specs.List.{list_all, list_any}
use Rattle.std.proofs.lemmas.Bool.{and_parts}
use Rattle.version_ranges.specs.Bounds.{passes_at, passes_at_both}
use Rattle.version_ranges.specs.Intervals.{interval_of, intervals_left, intervals_of, is_within}
use Rattle.version_ranges.specs.Ranges.{contains_point}
use Rattle.pep440_version.specs.Order.{version_cmp}
use Rattle.pep440_rs.specs.Bounds.{is_release}
use Rattle.pep440_rs.proofs.Equals.{release-means}
use Rattle.marker_terms.specs.Clauses.{clause_holds}
use Rattle.marker_terms.specs.Plain.{AllPrintable, IsPrintable, IsPrintableSpecifier}
use Rattle.marker_terms.proofs.PlainLaws.{each_pushed, found_has}
use Rattle.marker_terms.proofs.SetLaws.{at_release, both_of, excluded_all, excludes_more, found_exclusion, interval_end, interval_step}
use Rattle.marker_terms.proofs.version_set.exclusions.Goals as goal

pub loop-bounds-init : goal.loop-bounds-init
loop-bounds-init c = record {
  means = λ h.
      let e : intervals_left c.into_iter-bounds-iterator.result ≡ intervals_of c.args.outside.now = ap intervals_left c.into_iter-bounds-iterator.ensures.into_iter_gives ∙ c.iter-bounds-items.ensures.items in (
        ap (list_all (passes_at_both is_release)) e ∙ c.iter-bounds-items.ensures.bounds is_release h,
        λ v. ap (λ x. not (clause_holds x v) || list_any (λ i. is_within version_cmp i (v.version c.args.variable)) (intervals_left c.into_iter-bounds-iterator.result)) c.new-terms.ensures.items
            ∙ ap (list_any (λ i. is_within version_cmp i (v.version c.args.variable))) e ∙ sym (c.iter-bounds-items.ensures.intervals.covers (v.version c.args.variable)),
      );
  printable = subst AllPrintable (sym c.new-terms.ensures.items) tt;
}

pub loop-bounds-preserved : goal.loop-bounds-preserved
loop-bounds-preserved c = record {
  means = λ h.
      let inv = c.loop-bounds.invariant.means h in
      let b = both_of (passes_at_both is_release) (intervals_left c.loop-bounds.bounds-iterator) (intervals_left c.next.new.self) (interval_of c.in-Some.bounds) c.in-Some.ensures.steps inv.0 in
      let r = and_parts (passes_at is_release (interval_of c.in-Some.bounds).0) (passes_at is_release (interval_of c.in-Some.bounds).1) b.0 in (
        b.1,
        λ v.
            interval_step (λ i. is_within version_cmp i (v.version c.args.variable)) (not (clause_holds c.loop-bounds.terms.items v)) (not (clause_holds c.push_large.new.list.items v))
            (is_within version_cmp (interval_of c.in-Some.bounds) (v.version c.args.variable)) (intervals_left c.loop-bounds.bounds-iterator) (intervals_left c.next.new.self) (interval_of c.in-Some.bounds)
            (contains_point version_cmp c.args.outside.now (v.version c.args.variable)) c.in-Some.ensures.steps refl
            (excludes_more c.loop-bounds.terms.items c.push_large.new.list.items c.comparison.result (is_within version_cmp (interval_of c.in-Some.bounds) (v.version c.args.variable)) v c.in_ok-push_large.ensures.items
            (c.comparison.ensures.means v ∙ found_exclusion c.in_ok-specifier.field-0 c.in-Some-2.specifier c.in-Some.bounds.0 c.in-Some.bounds.1 c.in-Some-2.is c.in_ok-specifier.ensures.means
            (at_release release-means c.in-Some.bounds.0 r.0) (at_release release-means c.in-Some.bounds.1 r.1) (v.version c.args.variable)))
            (inv.1 v),
      );
  printable = each_pushed IsPrintable c.loop-bounds.terms.items c.push_large.new.list.items c.comparison.result c.in_ok-push_large.ensures.items c.loop-bounds.invariant.printable
      (c.comparison.ensures.printable (found_has IsPrintableSpecifier c.in_ok-specifier.field-0 c.in-Some-2.specifier c.in-Some-2.is c.in_ok-specifier.ensures.printable));
}

pub returns-clause-means : goal.returns-clause-means
returns-clause-means c h v =
    let inv = c.loop-bounds.invariant.means h in
    excluded_all (clause_holds c.loop-bounds.terms.items v) (contains_point version_cmp c.args.outside.now (v.version c.args.variable))
    (interval_end (λ i. is_within version_cmp i (v.version c.args.variable)) (not (clause_holds c.loop-bounds.terms.items v)) (intervals_left c.loop-bounds.bounds-iterator)
    (contains_point version_cmp c.args.outside.now (v.version c.args.variable)) c.in-None.ensures.steps.0 (inv.1 v))
