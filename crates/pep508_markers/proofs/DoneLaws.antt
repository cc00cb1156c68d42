-- The tokens whose trees are made, one after another.
use Rattle.std.proofs.Common.{◌≡◌, Bool, true, false, List, [], ◌∷◌, ◌++◌, refl, sym, ap, ◌∙◌, subst}
use Rattle.std.specs.Prelude.{map, ◌&&◌}
use Rattle.std.proofs.lemmas.List.{append-nil, append_assoc}
use Rattle.refusal.specs.declared.Refusal.{Refusal}
use Rattle.refusal.specs.declared.Refusal.TheVariants.{OutOfMemory, SegmentAtEnd, Fault}
use Rattle.marker_words.specs.declared.operator.MarkerOperator.{MarkerOperator}
use Rattle.marker_words.specs.declared.operator.MarkerOperator.TheVariants.{TildeEqual}
use Rattle.marker_parts.specs.Expression.{Test, Overflows}
use Rattle.marker_parts.specs.Expression as tests
use Rattle.marker_graph.specs.Contents.{Contents}
use Rattle.marker_graph.specs.Expression.{IsInvalid}
use Rattle.marker_graph.specs.Expression as graph
use Rattle.marker_grammar.specs.declared.formula.Token.{Token}
use Rattle.marker_grammar.specs.Formula.{Formula}
use Rattle.marker_grammar.specs.Postfix.{Symbol, stack_after, stack_from, stack_of, top_of, symbol_of, IsWhole}
use Rattle.marker_grammar.specs.Valid.{is_valid, is_valid_symbol, IsValid}
use Rattle.pep508_markers.specs.declared.run.Run.{Run}
use Rattle.pep508_markers.specs.FormulaTree.{IsRefusal}
use Rattle.marker_grammar.specs.HasTest.{Says, IsSymbol}
use Rattle.pep508_markers.specs.Trees.{RunsOf, Pushes}
use Rattle.marker_grammar.proofs.TestLaws.{SymbolsHave, none_more, said_here, none_said}

-- a test that compares no texts by `~=`
pub valid_is_made : (t : Test) → is_valid t ≡ true → ¬ IsInvalid t
valid_is_made (tests.version key specifier) valid h = h
valid_is_made (tests.version_in key versions negated) valid h = h
valid_is_made (tests.extra operator x) valid h = h
valid_is_made (tests.text key operator value) valid h = invalid_text operator valid h
  where
    invalid_text : (operator : MarkerOperator) → is_valid (tests.text key operator value) ≡ true → ¬ IsInvalid (tests.text key operator value)
    invalid_text TildeEqual valid h = absurd cc
    invalid_text operator valid h = h

-- why such a test has no tree
pub made_unless : {E : Type 0} (t : Test) (e : Refusal E) → is_valid t ≡ true → graph.IsUnmade t e → (fault : E) → e ≡ Fault fault → ⊥
made_unless t e valid unmade fault is = valid_is_made t valid (subst (graph.IsUnmade t) is unmade)

-- the first of valid tokens, and the others
first_of : (a b : Bool) → (a && b) ≡ true → a ≡ true
first_of true b p = refl
first_of false b p = absurd cc

second_of : (a b : Bool) → (a && b) ≡ true → b ≡ true
second_of true b p = p
second_of false b p = absurd cc

-- the trees are those of the symbols before the rest, none of which overflows, and the rest
-- compares no texts by `~=`
pub record IsDone (all rest : List Token) (c : Contents) (trees : List Run) : Type 0 where
  pub done : List Symbol
  pub parted : done ++ map symbol_of rest ≡ map symbol_of all
  pub stacked : RunsOf c (stack_from [] done) trees
  pub no_overflow : ¬ SymbolsHave Overflows done
  pub valid : IsValid rest

stack_more : (stack : List Formula) (xs : List Symbol) (s : Symbol) → stack_from stack (xs ++ (s ∷ [])) ≡ stack_after s (stack_from stack xs)
stack_more stack [] s = refl
stack_more stack (x ∷ xs) s = stack_more (stack_after x stack) xs s

valid_at : (before rest : List Token) (t : Token) → before ≡ t ∷ rest → IsValid before → IsValid (t ∷ rest)
valid_at before rest t next = subst IsValid next

pub next_is_valid : (all before rest : List Token) (t : Token) (c : Contents) (trees : List Run) → before ≡ t ∷ rest → IsDone all before c trees → is_valid_symbol (symbol_of t) ≡ true
next_is_valid all before rest t c trees next h = first_of _ _ (valid_at before rest t next h.valid)

pub one_done : (all before rest : List Token) (t : Token) (c d : Contents) (old new : List Run) → before ≡ t ∷ rest → IsDone all before c old →
    ¬ IsSymbol Overflows (symbol_of t) → Pushes (symbol_of t) c old d new → IsDone all rest d new
one_done all before rest t c d old new next h no_overflow trees = record {
  done = h.done ++ (symbol_of t ∷ []);
  parted = append_assoc h.done (symbol_of t ∷ []) (map symbol_of rest) ∙ ap (λ (x : List Token). h.done ++ map symbol_of x) (sym next) ∙ h.parted;
  stacked = subst (λ (x : List Formula). RunsOf d x new) (sym (stack_more [] h.done (symbol_of t))) (trees (stack_from [] h.done) h.stacked);
  no_overflow = none_more Overflows h.done (symbol_of t) h.no_overflow no_overflow;
  valid = second_of _ _ (valid_at before rest t next h.valid);
}

-- why a token has no tree is why the formula has none
pub not_done : {E : Type 0} (all before rest : List Token) (t : Token) (c : Contents) (trees : List Run) (e : Refusal E) → IsWhole all → before ≡ t ∷ rest → IsDone all before c trees →
    IsRefusal (IsSymbol Overflows (symbol_of t)) e → IsRefusal (Says Overflows (top_of (stack_of all))) e
not_done all before rest t c trees OutOfMemory whole next h refusal = _
not_done all before rest t c trees SegmentAtEnd whole next h refusal =
    said_here Overflows h.done (symbol_of t) (map symbol_of rest) all whole (ap (λ (x : List Token). h.done ++ map symbol_of x) (sym next) ∙ h.parted) refusal
not_done all before rest t c trees (Fault e) whole next h refusal = absurd refusal

-- no token is left
module _ (all rest : List Token) (c : Contents) (trees : List Run) (none : rest ≡ []) (h : IsDone all rest c trees) where
  all_done : h.done ≡ map symbol_of all
  all_done = sym (append-nil h.done) ∙ ap (λ (x : List Token). h.done ++ map symbol_of x) (sym none) ∙ h.parted

  pub whole_run : RunsOf c (stack_of all) trees
  whole_run = subst (λ (x : List Symbol). RunsOf c (stack_from [] x) trees) all_done h.stacked

  pub says_no_overflow : ¬ Says Overflows (top_of (stack_of all))
  says_no_overflow = none_said Overflows h.done all all_done h.no_overflow
