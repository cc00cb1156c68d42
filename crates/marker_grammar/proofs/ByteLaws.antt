-- Printed clauses by their bytes.
use Rattle.std.proofs.Common.{◌≡◌, ℕ, List, [], ◌∷◌, ◌++◌, codes, map, None, refl, sym, ap, ◌∙◌, subst, arith}
use Rattle.std.specs.List.{AllByRecursion, flat_map}
use Rattle.std.specs.Str.{chars}
use Rattle.std.proofs.lemmas.List.{append_assoc, append-nil}
use Rattle.std.proofs.lemmas.Str.{chars-append, chars-nil}
use Rattle.pep508_text.specs.Run.{Spaces, none}
use Rattle.marker_parts.specs.declared.expression.MarkerExpression.{MarkerExpression}
use Rattle.marker_parts.specs.Print.{expression_text}
use Rattle.marker_grammar.specs.Grammar.{Reads}
use Rattle.marker_grammar.specs.Text.{clause_text, part_text, clauses_text, next_clause_text, next_term_text}
use Rattle.marker_grammar.proofs.Printed.{Term, IsPrinted, term_of}
use Rattle.marker_grammar.proofs.AndLaws.{AllRead, behind_and}
use Rattle.marker_grammar.proofs.OrLaws.{ors, IsReadClause, AreReadClauses, all_tests, part_then, behind_or, whole, all_warned, reads_or}
use Rattle.marker_grammar.proofs.SideLaws.{chars_ascii}

abbrev pub terms_of : List MarkerExpression → List Term
terms_of ps = map term_of ps

abbrev pub ArePrinted : List MarkerExpression → Type 0
ArePrinted ps = AllByRecursion IsPrinted ps

-- a clause has a term
abbrev pub IsClause : List MarkerExpression → Type 0
IsClause [] = ⊥
IsClause (p ∷ ps) = ArePrinted (p ∷ ps)

abbrev pub AreClauses : List (List MarkerExpression) → Type 0
AreClauses cs = AllByRecursion IsClause cs

-- the terms after the first, and the clauses after the first
abbrev other_terms : List MarkerExpression → List ℕ
other_terms ps = flat_map next_term_text ps

abbrev other_clauses : List (List MarkerExpression) → List ℕ
other_clauses cs = flat_map next_clause_text cs

between_and : (t : List ℕ) → chars (codes " and " ++ t) ≡ 32 ∷ 97 ∷ 110 ∷ 100 ∷ 32 ∷ chars t
between_and t = grind (arith, chars_ascii)

between_or : (t : List ℕ) → chars (codes " or " ++ t) ≡ 32 ∷ 111 ∷ 114 ∷ 32 ∷ chars t
between_or t = grind (arith, chars_ascii)

chars_and : (ps : List MarkerExpression) (o : List ℕ) → ArePrinted ps → chars (other_terms ps ++ o) ≡ behind_and (terms_of ps) (chars o)
chars_and [] o a = refl
chars_and (p ∷ ps) o a = grind (arith, append_assoc, codes, between_and, chars-append, chars_and ps o a.1)

chars_clause : (p : MarkerExpression) (ps : List MarkerExpression) (o : List ℕ) → IsPrinted p → ArePrinted ps → chars (clause_text (p ∷ ps) ++ o) ≡ chars (expression_text p) ++ behind_and (terms_of ps) (chars o)
chars_clause p ps o h1 h2 = grind (arith, append_assoc, chars-append, chars_and)

chars_part : (c : List MarkerExpression) (o : List ℕ) → IsClause c → chars (part_text c ++ o) ≡ part_then (terms_of c) (chars o)
chars_part [] o a = absurd a
chars_part (p ∷ []) o a = chars-append (expression_text p) o a.0.utf8
chars_part (p ∷ q ∷ ps) o a =
    chars_ascii 40 _ refl refl ∙ ap (λ (x : List ℕ). 40 ∷ x) (ap chars (append_assoc (clause_text (p ∷ q ∷ ps)) (codes ")") o) ∙ chars_clause p (q ∷ ps) (codes ")" ++ o) a.0 a.1
    ∙ ap (λ (x : List ℕ). chars (expression_text p) ++ behind_and (terms_of (q ∷ ps)) x) (chars_ascii 41 o refl refl))

chars_or : (cs : List (List MarkerExpression)) → AreClauses cs → chars (other_clauses cs) ≡ behind_or (map terms_of cs)
chars_or [] a = chars-nil
chars_or (c ∷ cs) a = grind (arith, append_assoc, codes, between_or, chars_part, part_then, chars_or cs a.1)

chars_whole : (c : List MarkerExpression) (cs : List (List MarkerExpression)) → IsClause c → AreClauses cs → chars (clauses_text (c ∷ cs)) ≡ whole (map terms_of (c ∷ cs))
chars_whole [] cs a b = absurd a
chars_whole (p ∷ ps) [] a b =
    ap chars (sym (append-nil (clause_text (p ∷ ps)))) ∙ chars_clause p ps [] a.0 a.1 ∙ ap (λ (x : List ℕ). chars (expression_text p) ++ behind_and (terms_of ps) x) chars-nil
chars_whole (p ∷ ps) (d ∷ cs) a b = chars_part (p ∷ ps) _ a ∙ ap (part_then (terms_of (p ∷ ps))) (chars_or (d ∷ cs) b)

all_terms : (ps : List MarkerExpression) → ArePrinted ps → AllRead (terms_of ps)
all_terms [] a = tt
all_terms (p ∷ ps) a = (a.0.reads, all_terms ps a.1)

clause_read : (c : List MarkerExpression) → IsClause c → IsReadClause (terms_of c)
clause_read c h1 = grind (arith, all_terms)

all_read : (cs : List (List MarkerExpression)) → AreClauses cs → AreReadClauses (map terms_of cs)
all_read [] a = tt
all_read (c ∷ cs) a = (clause_read c a.0, all_read cs a.1)

-- the text of clauses is read as their disjunction
pub clauses_read : (c : List MarkerExpression) (cs : List (List MarkerExpression)) → IsClause c → AreClauses cs → Reads (clauses_text (c ∷ cs)) (ors None (all_tests (map terms_of (c ∷ cs)))) (all_warned [] (map terms_of (c ∷ cs)))
clauses_read c cs a b = record {
  start = whole (map terms_of (c ∷ cs));
  end = [];
  before = subst (λ i. Spaces i (whole (map terms_of (c ∷ cs)))) (sym (chars_whole c cs a b)) none;
  body = reads_or (terms_of c) (map terms_of cs) (clause_read c a) (all_read cs b);
  after = none;
}
