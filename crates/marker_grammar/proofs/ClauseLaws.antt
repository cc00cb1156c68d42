-- Printed clauses parse back: the formula means what they mean, and nothing of it overflows.
use Rattle.std.proofs.Common.{◌≡◌, ◌&&◌, List, [], ◌∷◌, map, Option, Some, None, refl, ap, ◌∙◌, inl, inr, ◌⊎◌, arith}
use Rattle.std.specs.List.{AllByRecursion, list_all, list_any}
use Rattle.marker_environment.specs.Valuation.{Valuation}
use Rattle.marker_parts.specs.declared.expression.MarkerExpression.{MarkerExpression}
use Rattle.marker_parts.specs.Expression.{Test, Overflows, holds, test_of}
use Rattle.marker_grammar.specs.Formula.{Formula, and_of, or_of, of_test}
use Rattle.marker_grammar.specs.HasTest.{Says}
use Rattle.marker_grammar.specs.Meaning.{IsReadAs, clause_holds, clauses_hold}
use Rattle.marker_terms.specs.Plain.{IsPrintable, IsPrintableClause, ArePrintable}
use Rattle.marker_grammar.specs.Text.{clauses_text}
use Rattle.marker_grammar.proofs.ExpressionTerms.{printed, means, overflows}
use Rattle.marker_grammar.proofs.AndLaws.{ands, tests_of}
use Rattle.marker_grammar.proofs.OrLaws.{ors, all_tests, all_warned, NoneEmpty, ors_truth}
use Rattle.marker_grammar.proofs.ByteLaws.{terms_of, ArePrinted, IsClause, AreClauses, clauses_read}

-- ---- what it means

none_empty : (cs : List (List MarkerExpression)) → AreClauses cs → NoneEmpty (all_tests (map terms_of cs))
none_empty [] a = tt
none_empty ([] ∷ cs) a = absurd a.0
none_empty ((p ∷ ps) ∷ cs) a = none_empty cs a.1

clause_means : (v : Valuation) (ps : List MarkerExpression) → list_all (λ t. holds t v) (tests_of (terms_of ps)) ≡ clause_holds ps v
clause_means v [] = refl
clause_means v (p ∷ ps) = ap (λ b. b && list_all (λ t. holds t v) (tests_of (terms_of ps))) (means p v) ∙ ap (λ b. holds (test_of p) v && b) (clause_means v ps)

clauses_mean : (v : Valuation) (cs : List (List MarkerExpression)) → list_any (λ c. list_all (λ t. holds t v) c) (all_tests (map terms_of cs)) ≡ clauses_hold cs v
clauses_mean v [] = refl
clauses_mean v (c ∷ cs) = grind (arith, all_tests, map, terms_of, clause_means, clauses_mean v cs)

-- ---- nothing overflows

abbrev Fits : Test → Type 0
Fits t = ¬ Overflows t

neither : {A B : Type 0} → ¬ A → ¬ B → ¬ (A ⊎ B)
neither h k = λ e. elim e [ inl a ↦ h a | inr b ↦ k b ]

and_fits : (f : Option Formula) (t : Test) → ¬ Says Overflows f → Fits t → ¬ Says Overflows (and_of f (of_test (Some t)))
and_fits f t h1 h2 = grind arith

or_fits : (f g : Option Formula) → ¬ Says Overflows f → ¬ Says Overflows g → ¬ Says Overflows (or_of f g)
or_fits f g h1 h2 = grind arith

ands_fit : (ts : List Test) (f : Option Formula) → ¬ Says Overflows f → AllByRecursion Fits ts → ¬ Says Overflows (ands f ts)
ands_fit [] f h a = h
ands_fit (t ∷ ts) f h a = ands_fit ts (and_of f (of_test (Some t))) (and_fits f t h a.0) a.1

ors_fit : (cs : List (List Test)) (f : Option Formula) → ¬ Says Overflows f → AllByRecursion (AllByRecursion Fits) cs → ¬ Says Overflows (ors f cs)
ors_fit [] f h a = h
ors_fit (c ∷ cs) f h a = ors_fit cs (or_of f (ands None c)) (or_fits f (ands None c) h (ands_fit c None (λ e. e) a.0)) a.1

terms_fit : (ps : List MarkerExpression) → AllByRecursion IsPrintable ps → AllByRecursion Fits (tests_of (terms_of ps))
terms_fit [] a = tt
terms_fit (p ∷ ps) a = (λ e. a.0.fits (overflows p e), terms_fit ps a.1)

clauses_fit : (cs : List (List MarkerExpression)) → AllByRecursion IsPrintableClause cs → AllByRecursion (AllByRecursion Fits) (all_tests (map terms_of cs))
clauses_fit [] a = tt
clauses_fit (c ∷ cs) a = (terms_fit c a.0.each, clauses_fit cs a.1)

-- ---- the law

terms_printed : (ps : List MarkerExpression) → AllByRecursion IsPrintable ps → ArePrinted ps
terms_printed [] a = tt
terms_printed (p ∷ ps) a = (printed p a.0.plain, terms_printed ps a.1)

clause_printed : (c : List MarkerExpression) → IsPrintableClause c → IsClause c
clause_printed c h1 = grind (arith, terms_printed)

clauses_printed : (cs : List (List MarkerExpression)) → AllByRecursion IsPrintableClause cs → AreClauses cs
clauses_printed [] a = tt
clauses_printed (c ∷ cs) a = (clause_printed c a.0, clauses_printed cs a.1)

pub read_back : (clauses : List (List MarkerExpression)) → ArePrintable clauses → IsReadAs clauses (clauses_text clauses)
read_back [] a = absurd (a.some refl)
read_back (c ∷ cs) a =
    let all = clauses_printed (c ∷ cs) a.each in
    record {
      formula = ors None (all_tests (map terms_of (c ∷ cs)));
      kinds = all_warned [] (map terms_of (c ∷ cs));
      reads = clauses_read c cs all.0 all.1;
      means = λ v. ors_truth (tests_of (terms_of c)) (all_tests (map terms_of cs)) v (none_empty (c ∷ cs) all) ∙ clauses_mean v (c ∷ cs);
      fits = ors_fit (all_tests (map terms_of (c ∷ cs))) None (λ e. e) (clauses_fit (c ∷ cs) a.each);
    }
