use Rattle.std.proofs.Common.{◌≡◌, Bool, true, false, List, Some, None, sym, ap, ◌∙◌, arith}
use Rattle.std.proofs.lemmas.Bool.{cond-true, cond-false}
use Rattle.marker_terms.specs.declared.numbered.NumberedTerm.{NumberedTerm}
use Rattle.marker_terms.specs.Numbered.{left_of, number_of}
use Rattle.marker_terms.specs.Reduction.{is_spare, needed}
use Rattle.marker_terms.proofs.LeftLaws.{judged_back, judged_out, listed_back, listed_out, listed_there}
use Rattle.marker_terms.proofs.reduction.drop_spare.Goals as goal

kept : (xs ys : List (List NumberedTerm)) (c d : List NumberedTerm) (b : Bool) → b ≡ is_spare number_of xs c → xs ≡ ys → c ≡ d → b ≡ false → Some d ≡ needed number_of ys d
kept xs ys c d b e f g h = sym (cond-false (is_spare number_of ys d) None (Some d) (ap (λ zs. is_spare number_of zs d) (sym f) ∙ ap (is_spare number_of xs) (sym g) ∙ sym e ∙ h))

out : (xs ys : List (List NumberedTerm)) (c d : List NumberedTerm) (b : Bool) → b ≡ is_spare number_of xs c → xs ≡ ys → c ≡ d → b ≡ true → None ≡ needed number_of ys d
out xs ys c d b e f g h = sym (cond-true (is_spare number_of ys d) None (Some d) (ap (λ zs. is_spare number_of zs d) (sym f) ∙ ap (is_spare number_of xs) (sym g) ∙ sym e ∙ h))

pub returns-then-not-branch-clause-judged : goal.returns-then-not-branch-clause-judged
returns-then-not-branch-clause-judged c =
    judged_back (needed number_of) c.args.clauses.now.items c.args.place (Some c.in-Some.clause) c.take.new.self (Some c.in-Some.clause) (omega (arith, c.args.clauses.now.ok.0, c.requires.within))
    c.index_mut.result.now c.in-Some.ensures.value c.index_mut.ensures.value c.take.ensures.after
    (kept (left_of c.deref-2.result.now) _ c.deref.result.now c.in-Some.clause.items c.in_ok-is_spare.field-0 c.in_ok-is_spare.ensures (ap left_of c.deref-2.ensures.value) c.deref.ensures.value c.if-not-branch.true)

pub returns-then-not-branch-clause-listed : goal.returns-then-not-branch-clause-listed
returns-then-not-branch-clause-listed c =
    listed_back c.args.endings.now c.args.endings.now (λ d j h. h) c.args.clauses.now.items c.args.place c.take.new.self c.in-Some.clause (omega (arith, c.args.clauses.now.ok.0, c.requires.within)) c.requires.listed
    (listed_there c.args.endings.now c.args.clauses.now.items c.args.place c.in-Some.clause c.index_mut.result.now (omega (arith, c.args.clauses.now.ok.0, c.requires.within)) c.in-Some.ensures.value c.index_mut.ensures.value c.requires.listed)

pub returns-else-not-branch-clause-judged : goal.returns-else-not-branch-clause-judged
returns-else-not-branch-clause-judged c =
    judged_out (needed number_of) c.args.clauses.now.items c.args.place (Some c.in-Some.clause) c.take.new.self (omega (arith, c.args.clauses.now.ok.0, c.requires.within))
    c.index_mut.result.now c.in-Some.ensures.value c.index_mut.ensures.value c.take.ensures.after
    (out (left_of c.deref-2.result.now) _ c.deref.result.now c.in-Some.clause.items c.in_ok-is_spare.field-0 c.in_ok-is_spare.ensures (ap left_of c.deref-2.ensures.value) c.deref.ensures.value c.if-not-branch.false)

pub returns-else-not-branch-clause-listed : goal.returns-else-not-branch-clause-listed
returns-else-not-branch-clause-listed c =
    listed_out c.args.endings.now c.args.clauses.now.items c.args.place c.take.new.self (omega (arith, c.args.clauses.now.ok.0, c.requires.within)) c.take.ensures.after c.requires.listed
