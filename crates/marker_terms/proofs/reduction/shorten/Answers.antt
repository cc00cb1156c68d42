use Rattle.std.proofs.Common.{[], Some, ap, subst, ◌∙◌, arith}
use Rattle.marker_terms.specs.Endings.{Lists}
use Rattle.marker_terms.specs.Numbered.{left_of, number_of}
use Rattle.marker_terms.specs.Reduction.{shortened, without_terms}
use Rattle.marker_terms.proofs.LeftLaws.{judged_back, listed_back}
use Rattle.marker_terms.proofs.reduction.shorten.Goals as goal

pub returns-clause-judged : goal.returns-clause-judged
returns-clause-judged c =
    judged_back (shortened number_of) c.args.clauses.now.items c.args.place (Some c.in-Some.clause) c.take.new.self (Some c.drop_terms.new.clause) (omega (arith, c.args.clauses.now.ok.0, c.requires.within))
    c.index_mut.result.now c.in-Some.ensures.value c.index_mut.ensures.value c.take.ensures.after
    (ap Some (c.in_ok-drop_terms.ensures ∙ ap (λ xs. without_terms number_of (left_of xs) [] c.in-Some.clause.items) c.deref.ensures.value))

pub returns-clause-listed : goal.returns-clause-listed
returns-clause-listed c =
    listed_back c.args.endings.now c.list_clause.new.endings c.in_ok-list_clause.ensures.kept c.args.clauses.now.items c.args.place c.take.new.self c.drop_terms.new.clause (omega (arith, c.args.clauses.now.ok.0, c.requires.within)) c.requires.listed
    (subst (λ xs. Lists c.list_clause.new.endings xs c.args.place) c.deref-2.ensures.value c.in_ok-list_clause.ensures.listed)
