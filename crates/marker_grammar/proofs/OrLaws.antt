-- Printed clauses, as the grammar reads them, and what the formula means.
use Rattle.std.proofs.Common.{◌≡◌, ℕ, Bool, true, false, ◌&&◌, ◌||◌, List, [], ◌∷◌, ◌++◌, map, Some, None, Option, refl, ap, ◌∙◌, arith}
use Rattle.std.specs.List.{list_all, list_any}
use Rattle.pep508_text.specs.Run.{none, more}
use Rattle.marker_environment.specs.Valuation.{Valuation}
use Rattle.pep508_errors.specs.declared.warning.MarkerWarningKind.{MarkerWarningKind}
use Rattle.marker_parts.specs.Expression.{Test, holds}
use Rattle.marker_grammar.specs.Formula.{Formula, and_of, or_of, of_test, truth}
use Rattle.marker_grammar.specs.Grammar.{group, comparison, no_and, And, and, OrRest, no_or, one_or, Or, or}
use Rattle.marker_grammar.proofs.Printed.{Term, IsBehind, ends, space, closes, ReadsAs}
use Rattle.marker_grammar.proofs.AndLaws.{ands, warned, AllRead, behind_and, tests_of, spaced, or_word, reads_and}

-- the disjunction of a formula and conjunctions of tests
abbrev pub ors : Option Formula → List (List Test) → Option Formula
ors f [] = f
ors f (c ∷ cs) = ors (or_of f (ands None c)) cs

-- a clause has a term, and each of its terms is read
abbrev pub IsReadClause : List Term → Type 0
IsReadClause [] = ⊥
IsReadClause (p ∷ ps) = ReadsAs p × AllRead ps

abbrev pub AreReadClauses : List (List Term) → Type 0
AreReadClauses [] = Unit {0}
AreReadClauses (c ∷ cs) = IsReadClause c × AreReadClauses cs

abbrev pub all_tests : List (List Term) → List (List Test)
all_tests cs = map tests_of cs

-- a clause among others, and what follows
abbrev pub part_then : List Term → List ℕ → List ℕ
part_then [] o = o
part_then (p ∷ []) o = p.text ++ o
part_then (p ∷ q ∷ ps) o = 40 ∷ (p.text ++ behind_and (q ∷ ps) (41 ∷ o))

abbrev pub behind_or : List (List Term) → List ℕ
behind_or [] = []
behind_or (c ∷ cs) = 32 ∷ 111 ∷ 114 ∷ 32 ∷ part_then c (behind_or cs)

-- all clauses
abbrev pub whole : List (List Term) → List ℕ
whole [] = []
whole ([] ∷ []) = []
whole ((p ∷ ps) ∷ []) = p.text ++ behind_and ps []
whole (c ∷ d ∷ cs) = part_then c (behind_or (d ∷ cs))

-- the kinds of warnings so far, and then those of the clauses
abbrev pub all_warned : List MarkerWarningKind → List (List Term) → List MarkerWarningKind
all_warned k [] = k
all_warned k (c ∷ cs) = all_warned (warned k c) cs

or_behind : (cs : List (List Term)) → IsBehind (behind_or cs)
or_behind [] = ends
or_behind (c ∷ cs) = space

spaced_and : {i o : List ℕ} {k l : List MarkerWarningKind} {f : Option Formula} → And i k o l f → And (32 ∷ i) k o l f
spaced_and (and (group s a b) r) = and (group (more refl s) a b) r
spaced_and (and (comparison c) r) = and (comparison (spaced c)) r

reads_part : (c : List Term) (o : List ℕ) (k : List MarkerWarningKind) → IsReadClause c → IsBehind o → And (part_then c o) k o (warned k c) (ands None (tests_of c))
reads_part [] o k a b = absurd a
reads_part (p ∷ []) o k a b = reads_and p [] o k a.0 a.1 b
reads_part (p ∷ q ∷ ps) o k a b = and (group none (or (reads_and p (q ∷ ps) (41 ∷ o) k a.0 a.1 closes) no_or) none) no_and

or_rest : (cs : List (List Term)) (f : Option Formula) (k : List MarkerWarningKind) → AreReadClauses cs → OrRest f (behind_or cs) k [] (all_warned k cs) (ors f (all_tests cs))
or_rest [] f k a = no_or
or_rest (c ∷ cs) f k a = one_or (more refl none) (or_word (part_then c (behind_or cs))) (spaced_and (reads_part c (behind_or cs) k a.0 (or_behind cs))) (or_rest cs (or_of f (ands None (tests_of c))) (warned k c) a.1)

-- clauses are read as their disjunction
pub reads_or : (c : List Term) (cs : List (List Term)) → IsReadClause c → AreReadClauses cs → Or (whole (c ∷ cs)) [] [] (all_warned [] (c ∷ cs)) (ors None (all_tests (c ∷ cs)))
reads_or [] cs a b = absurd a
reads_or (p ∷ ps) [] a b = or (reads_and p ps [] [] a.0 a.1 ends) no_or
reads_or (p ∷ ps) (d ∷ cs) a b = or (reads_part (p ∷ ps) (behind_or (d ∷ cs)) [] a (or_behind (d ∷ cs))) (or_rest (d ∷ cs) (ands None (tests_of (p ∷ ps))) (warned [] (p ∷ ps)) b)

-- ---- what the formula means

and_truth : (f : Option Formula) (t : Test) (v : Valuation) → truth (and_of f (of_test (Some t))) v ≡ (truth f v && holds t v)
and_truth f t v = grind arith

and_assoc : (a b c : Bool) → ((a && b) && c) ≡ (a && (b && c))
and_assoc a b c = grind arith

or_assoc : (a b c : Bool) → ((a || b) || c) ≡ (a || (b || c))
or_assoc a b c = grind arith

and_end : (a : Bool) → a ≡ (a && true)
and_end a = grind arith

or_end : (a : Bool) → a ≡ (a || false)
or_end a = grind arith

pub ands_truth : (ts : List Test) (f : Option Formula) (v : Valuation) → truth (ands f ts) v ≡ (truth f v && list_all (λ t. holds t v) ts)
ands_truth [] f v = and_end (truth f v)
ands_truth (t ∷ ts) f v = ands_truth ts (and_of f (of_test (Some t))) v ∙ ap (λ b. b && list_all (λ u. holds u v) ts) (and_truth f t v) ∙ and_assoc (truth f v) (holds t v) (list_all (λ u. holds u v) ts)

-- a conjunction that says something
abbrev pub IsSome : Option Formula → Type 0
IsSome None = ⊥
IsSome (Some f) = Unit {0}

ands_some : (ts : List Test) (f : Option Formula) → IsSome f → IsSome (ands f ts)
ands_some [] f s = s
ands_some (t ∷ ts) None s = absurd s
ands_some (t ∷ ts) (Some f) s = ands_some ts _ tt

or_truth : (f g : Option Formula) (v : Valuation) → IsSome f → IsSome g → truth (or_of f g) v ≡ (truth f v || truth g v)
or_truth f g v h1 h2 = grind arith

or_some : (f g : Option Formula) → IsSome g → IsSome (or_of f g)
or_some f g h1 = grind arith

abbrev pub NoneEmpty : List (List Test) → Type 0
NoneEmpty [] = Unit {0}
NoneEmpty ([] ∷ cs) = ⊥
NoneEmpty ((t ∷ ts) ∷ cs) = NoneEmpty cs

ors_from : (cs : List (List Test)) (f : Option Formula) (v : Valuation) → IsSome f → NoneEmpty cs → truth (ors f cs) v ≡ (truth f v || list_any (λ c. list_all (λ t. holds t v) c) cs)
ors_from [] f v s n = or_end (truth f v)
ors_from ([] ∷ cs) f v s n = absurd n
ors_from ((t ∷ ts) ∷ cs) f v s n = grind (arith, ands, ands_some, or_some, or_truth, ands_truth, or_assoc, ors_from cs)

-- the formula is true if one of the clauses is
pub ors_truth : (c : List Test) (cs : List (List Test)) (v : Valuation) → NoneEmpty (c ∷ cs) → truth (ors None (c ∷ cs)) v ≡ list_any (λ c. list_all (λ t. holds t v) c) (c ∷ cs)
ors_truth c cs v h1 = grind (arith, ors_from, ands, ands_some, ands_truth)
