-- Symbols in postfix order lose no formula, so that a test of a kind stays one of the formula that they leave.
use Rattle.std.proofs.Common.{◌≡◌, ◌≤◌, Bool, true, List, [], ◌∷◌, ◌++◌, length, ◌⊎◌, inl, inr, sym, subst, arith}
use Rattle.std.specs.Prelude.{map, ◌&&◌}
use Rattle.marker_parts.specs.Expression.{Test}
use Rattle.marker_grammar.specs.declared.formula.Token.{Token}
use Rattle.marker_grammar.specs.Formula.{Formula}
use Rattle.marker_grammar.specs.Postfix.{Symbol, stack_after, stack_from, stack_of, top_of, symbol_of, fits, all_fit, IsWhole}
use Rattle.marker_grammar.specs.Postfix as symbols
use Rattle.marker_grammar.specs.HasTest.{HasTest, Says, IsSymbol}

first_of : (a b : Bool) → (a && b) ≡ true → a ≡ true
first_of a b h1 = grind arith

second_of : (a b : Bool) → (a && b) ≡ true → b ≡ true
second_of a b h1 = grind arith

module _ (Kind : Test → Type 0) where
  -- one of the formulas on a stack, or one of the symbols, is of the kind
  abbrev StackHas : List Formula → Type 0
  StackHas [] = ⊥
  StackHas (f ∷ stack) = HasTest Kind f ⊎ StackHas stack

  abbrev pub SymbolsHave : List Symbol → Type 0
  SymbolsHave [] = ⊥
  SymbolsHave (s ∷ symbols) = IsSymbol Kind s ⊎ SymbolsHave symbols

  -- a symbol that fits keeps the tests that are there, and its own
  stack_kept : (s : Symbol) (stack : List Formula) → fits s stack ≡ true → StackHas stack → StackHas (stack_after s stack)
  stack_kept s stack h1 h2 = grind arith

  symbol_kept : (s : Symbol) (stack : List Formula) → IsSymbol Kind s → StackHas (stack_after s stack)
  symbol_kept s stack h1 = grind arith

  tests_stay : (stack : List Formula) (xs : List Symbol) → all_fit stack xs ≡ true → StackHas stack ⊎ SymbolsHave xs → StackHas (stack_from stack xs)
  tests_stay stack [] all (inl h) = h
  tests_stay stack [] all (inr h) = absurd h
  tests_stay stack (s ∷ xs) all (inl h) = tests_stay (stack_after s stack) xs (second_of _ _ all) (inl (stack_kept s stack (first_of _ _ all) h))
  tests_stay stack (s ∷ xs) all (inr (inl h)) = tests_stay (stack_after s stack) xs (second_of _ _ all) (inl (symbol_kept s stack h))
  tests_stay stack (s ∷ xs) all (inr (inr h)) = tests_stay (stack_after s stack) xs (second_of _ _ all) (inr h)

  or_behind : (s : Symbol) (stack : List Formula) (xs : List Symbol) → StackHas (stack_after s stack) ⊎ SymbolsHave xs → StackHas stack ⊎ SymbolsHave (s ∷ xs)
  or_behind s stack xs h1 = grind arith

  tests_back : (stack : List Formula) (xs : List Symbol) → StackHas (stack_from stack xs) → StackHas stack ⊎ SymbolsHave xs
  tests_back stack [] h = inl h
  tests_back stack (s ∷ xs) h = or_behind s stack xs (tests_back (stack_after s stack) xs h)

  -- the formula on top of a stack that has no other
  top_says : (stack : List Formula) → length stack ≤ 1 → StackHas stack → Says Kind (top_of stack)
  top_says [] one h = h
  top_says (f ∷ []) one (inl h) = h
  top_says (f ∷ []) one (inr h) = absurd h
  top_says (f ∷ g ∷ stack) one h = absurd (omega (arith, one))

  says_top : (stack : List Formula) → Says Kind (top_of stack) → StackHas stack
  says_top stack h1 = grind arith

  from_symbols : (xs : List Symbol) → StackHas [] ⊎ SymbolsHave xs → SymbolsHave xs
  from_symbols xs h1 = grind arith

  behind : (xs ys : List Symbol) → SymbolsHave ys → SymbolsHave (xs ++ ys)
  behind [] ys h = h
  behind (x ∷ xs) ys h = inr (behind xs ys h)

  in_front : (x : Symbol) (xs ys : List Symbol) → SymbolsHave xs ⊎ SymbolsHave ys → SymbolsHave (x ∷ xs) ⊎ SymbolsHave ys
  in_front x xs ys h1 = grind arith

  parted : (xs ys : List Symbol) → SymbolsHave (xs ++ ys) → SymbolsHave xs ⊎ SymbolsHave ys
  parted [] ys h = inr h
  parted (x ∷ xs) ys (inl h) = inl (inl h)
  parted (x ∷ xs) ys (inr h) = in_front x xs ys (parted xs ys h)

  none_of : (xs : List Symbol) (s : Symbol) → ¬ SymbolsHave xs → ¬ IsSymbol Kind s → SymbolsHave xs ⊎ SymbolsHave (s ∷ []) → ⊥
  none_of xs s h1 h2 h3 = grind arith

  -- one more symbol that is not of the kind
  pub none_more : (done : List Symbol) (s : Symbol) → ¬ SymbolsHave done → ¬ IsSymbol Kind s → ¬ SymbolsHave (done ++ (s ∷ []))
  none_more done s none other h = none_of done s none other (parted done (s ∷ []) h)

  -- a symbol of the kind is a test of the formula
  pub said_here : (done : List Symbol) (s : Symbol) (rest : List Symbol) (ts : List Token) → IsWhole ts → done ++ (s ∷ rest) ≡ map symbol_of ts → IsSymbol Kind s → Says Kind (top_of (stack_of ts))
  said_here done s rest ts whole same h = top_says (stack_of ts) whole.1 (tests_stay [] (map symbol_of ts) whole.0 (inr (subst SymbolsHave same (behind done (s ∷ rest) (inl h)))))

  -- and a formula of other symbols has no such test
  pub none_said : (done : List Symbol) (ts : List Token) → done ≡ map symbol_of ts → ¬ SymbolsHave done → ¬ Says Kind (top_of (stack_of ts))
  none_said done ts same none h = none (subst SymbolsHave (sym same) (from_symbols _ (tests_back [] (map symbol_of ts) (says_top (stack_of ts) h))))
