use Rattle.std.proofs.Common.{◌&&◌, ap, subst, sym, ◌∙◌}
use Rattle.std.specs.List.{AllByRecursion}
use Rattle.pep440_specifier.specs.Bounds.{bound_specifiers, specifiers_left}
use Rattle.pep440_rs.specs.Bounds.{is_in_all}
use Rattle.pep440_rs.specs.Intervals.{is_in}
use Rattle.pep440_rs.proofs.Specified.{specifiers-mean}
use Rattle.marker_terms.specs.Clauses.{clause_holds, term_holds}
use Rattle.marker_terms.specs.Plain.{AllPrintable, IsPrintable, IsPrintableSpecifier}
use Rattle.marker_terms.proofs.PlainLaws.{each_parts, each_pushed}
use Rattle.marker_terms.proofs.SetLaws.{all_step, all_end, terms_more}
use Rattle.marker_terms.proofs.version_set.version_range_terms.Goals as goal

pub loop-specifier-init : goal.loop-specifier-init
loop-specifier-init c = record {
  means = λ v. ap (λ x. clause_holds x v && is_in_all (specifiers_left c.into_iter-specifier-iterator.result) (v.version c.args.variable)) c.new-terms.ensures.items
      ∙ ap (λ it. is_in_all (specifiers_left it) (v.version c.args.variable)) c.into_iter-specifier-iterator.ensures.into_iter_gives
      ∙ ap (λ l. is_in_all l (v.version c.args.variable)) c.in_ok-specifier-items.ensures;
  left = subst (AllByRecursion IsPrintableSpecifier) (sym (ap specifiers_left c.into_iter-specifier-iterator.ensures.into_iter_gives ∙ c.in_ok-specifier-items.ensures)) (c.range_specifiers_are_printable.ensures c.args.bounds.0);
  printable = subst AllPrintable (sym c.new-terms.ensures.items) tt;
}

pub loop-specifier-preserved : goal.loop-specifier-preserved
loop-specifier-preserved c =
    let q = each_parts IsPrintableSpecifier (specifiers_left c.loop-specifier.specifier-iterator) (specifiers_left c.next.new.self) c.in-Some.specifier c.in-Some.ensures.steps c.loop-specifier.invariant.left in
    record {
      means = λ v. all_step (λ s. is_in s.operator s.version.release (v.version c.args.variable)) (clause_holds c.loop-specifier.terms.items v) (clause_holds c.push_large.new.list.items v) (term_holds c.comparison.result v)
          (specifiers_left c.loop-specifier.specifier-iterator) (specifiers_left c.next.new.self) c.in-Some.specifier (is_in_all (bound_specifiers c.args.bounds.0 c.args.bounds.1) (v.version c.args.variable))
          c.in-Some.ensures.steps (c.comparison.ensures.means v) (terms_more c.loop-specifier.terms.items c.push_large.new.list.items c.comparison.result c.in_ok-push_large.ensures.items v) (c.loop-specifier.invariant.means v);
      left = q.1;
      printable = each_pushed IsPrintable c.loop-specifier.terms.items c.push_large.new.list.items c.comparison.result c.in_ok-push_large.ensures.items c.loop-specifier.invariant.printable (c.comparison.ensures.printable q.0);
    }

pub returns-clause-means : goal.returns-clause-means
returns-clause-means c a b v =
    all_end (λ s. is_in s.operator s.version.release (v.version c.args.variable)) (clause_holds c.loop-specifier.terms.items v) (specifiers_left c.loop-specifier.specifier-iterator)
    (is_in_all (bound_specifiers c.args.bounds.0 c.args.bounds.1) (v.version c.args.variable)) c.in-None.ensures.steps.0 (c.loop-specifier.invariant.means v)
    ∙ specifiers-mean (v.version c.args.variable) c.args.bounds.0 c.args.bounds.1 a b
