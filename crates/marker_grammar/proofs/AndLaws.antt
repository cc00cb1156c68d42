-- Printed conjunctions and disjunctions, as the grammar reads them.
use Rattle.std.proofs.Common.{ℕ, List, [], ◌∷◌, ◌++◌, codes, map, Some, None, Option, refl}
use Rattle.pep508_text.specs.Run.{Run, none, more}
use Rattle.pep508_text.specs.declared.classes.Class.TheVariants.{NotSpace}
use Rattle.marker_words.specs.Lexical.{sides}
use Rattle.pep508_errors.specs.declared.warning.MarkerWarningKind.{MarkerWarningKind}
use Rattle.marker_parts.specs.Expression.{Test}
use Rattle.marker_parts.specs.Comparison.{Meaning, Compared, compared}
use Rattle.marker_grammar.specs.Formula.{Formula, and_of, of_test}
use Rattle.marker_grammar.specs.Grammar.{comparison, AndRest, no_and, one_and, And, and}
use Rattle.marker_grammar.proofs.Printed.{IsBehind, space, Term, ReadsAs}

-- the conjunction of a formula and tests
abbrev pub ands : Option Formula → List Test → Option Formula
ands f [] = f
ands f (t ∷ ts) = ands (and_of f (of_test (Some t))) ts

abbrev pub AllRead : List Term → Type 0
AllRead [] = Unit {0}
AllRead (p ∷ ps) = ReadsAs p × AllRead ps

-- ` and ` before each text, and then what follows
abbrev pub behind_and : List Term → List ℕ → List ℕ
behind_and [] o = o
behind_and (p ∷ ps) o = 32 ∷ 97 ∷ 110 ∷ 100 ∷ 32 ∷ (p.text ++ behind_and ps o)

abbrev pub tests_of : List Term → List Test
tests_of ps = map (λ p. p.test) ps

-- the kinds of warnings so far, and then those of the terms
abbrev pub warned : List MarkerWarningKind → List Term → List MarkerWarningKind
warned k [] = k
warned k (p ∷ ps) = warned (k ++ p.kinds) ps

pub spaced : {i o : List ℕ} {m : Meaning} → Compared i o m → Compared (32 ∷ i) o m
spaced (compared (sides s a b c d e) m) = compared (sides (more refl s) a b c d e) m

and_word : (o : List ℕ) → Run NotSpace (97 ∷ 110 ∷ 100 ∷ 32 ∷ o) (codes "and") (32 ∷ o)
and_word o = record { run_is = refl; rest_is = refl }

pub or_word : (o : List ℕ) → Run NotSpace (111 ∷ 114 ∷ 32 ∷ o) (codes "or") (32 ∷ o)
or_word o = record { run_is = refl; rest_is = refl }

and_behind : (ps : List Term) (o : List ℕ) → IsBehind o → IsBehind (behind_and ps o)
and_behind [] o b = b
and_behind (p ∷ ps) o b = space

and_rest : (ps : List Term) (f : Option Formula) (o : List ℕ) (k : List MarkerWarningKind) → AllRead ps → IsBehind o → AndRest f (behind_and ps o) k o (warned k ps) (ands f (tests_of ps))
and_rest [] f o k a b = no_and
and_rest (p ∷ ps) f o k a b = one_and (more refl none) (and_word (p.text ++ behind_and ps o)) (comparison (spaced (a.0.compared (behind_and ps o) (and_behind ps o b)))) (and_rest ps (and_of f (of_test (Some p.test))) o (k ++ p.kinds) a.1 b)

-- a clause
pub reads_and : (p : Term) (ps : List Term) (o : List ℕ) (k : List MarkerWarningKind) → ReadsAs p → AllRead ps → IsBehind o → And (p.text ++ behind_and ps o) k o (warned k (p ∷ ps)) (ands None (tests_of (p ∷ ps)))
reads_and p ps o k a b c = and (comparison (a.compared (behind_and ps o) (and_behind ps o c))) (and_rest ps (Some (Formula.test p.test)) o (k ++ p.kinds) b c)
