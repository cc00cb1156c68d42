-- What a token does to the stack of formulas, and to what the lists that are not finished hold of it.
use Rattle.std.proofs.Common.{◌≡◌, ◌+◌, ◌≤◌, Bool, true, false, List, [], ◌∷◌, ◌++◌, length, Option, Some, None, refl, sym, ap, ◌∙◌, subst, arith}
use Rattle.std.specs.Prelude.{map, ◌&&◌, ◌||◌, if◌then◌else◌}
use Rattle.std.proofs.lemmas.List.{map_push}
use Rattle.marker_parts.specs.Expression.{Test}
use Rattle.marker_grammar.specs.declared.formula.Token.{Token}
use Rattle.marker_grammar.specs.Formula.{Formula, test, and_of, or_of}
use Rattle.marker_grammar.specs.Postfix.{Symbol, stack_after, stack_from, symbol_of, stack_of, top_of}
use Rattle.marker_grammar.specs.Postfix as symbols
use Rattle.marker_grammar.specs.Stack.{top_if, below, count, Appends}

pub stack_from-push : (stack : List Formula) (xs : List Symbol) (x : Symbol) → stack_from stack (xs ++ (x ∷ [])) ≡ stack_after x (stack_from stack xs)
stack_from-push stack [] x = refl
stack_from-push stack (y ∷ xs) x = stack_from-push (stack_after y stack) xs x

pub stack_of-push : (ts : List Token) (t : Token) → stack_of (ts ++ (t ∷ [])) ≡ stack_after (symbol_of t) (stack_of ts)
stack_of-push ts t = ap (stack_from []) (map_push symbol_of ts t) ∙ stack_from-push [] (map symbol_of ts) (symbol_of t)

-- what a connective makes of two formulas, either of which may be missing
module _ (connective : Symbol) (joined_of : Option Formula → Option Formula → Option Formula) where
  -- the two on top are joined
  pub record Joins : Type 0 where
    pub pops : (f g : Formula) (stack : List Formula) → (h : Formula) × (stack_after connective (g ∷ f ∷ stack) ≡ h ∷ stack) × (Some h ≡ joined_of (Some f) (Some g))
    pub left : (f : Option Formula) → joined_of f None ≡ f
    pub right : (f : Option Formula) → joined_of None f ≡ f

  -- the formulas of two lists are joined, and the result is on top if either exists
  pub record IsJoined (first second any : Bool) (old new : List Formula) : Type 0 where
    pub top : top_if any new ≡ joined_of (top_if first (below second old)) (top_if second old)
    pub rest : below any new ≡ below first (below second old)
    pub length_is : length new + (count second + count first) ≡ length old + count any

  join_by_cases : Joins → (first second : Bool) (old new : List Formula) → count second + count first ≤ length old →
      new ≡ (if first && second then stack_after connective old else old) → IsJoined first second (first || second) old new
  join_by_cases j true true [] new fits same = absurd (omega (arith, fits))
  join_by_cases j true true (g ∷ []) new fits same = absurd (omega (arith, fits))
  join_by_cases j true true (g ∷ f ∷ stack) new fits same =
      let p = j.pops f g stack in
      let is : new ≡ p.0 ∷ stack = same ∙ p.1 in
      record { top = ap (top_if true) is ∙ p.2; rest = ap (below true) is; length_is = let l : length new ≡ length stack + 1 = ap length is ∙ omega arith in omega (arith, l) }
  join_by_cases j true false old new fits same = record { top = ap (top_if true) same ∙ sym (j.left _); rest = ap (below true) same; length_is = let l = ap length same in omega (arith, l) }
  join_by_cases j false true old new fits same = record { top = ap (top_if true) same ∙ sym (j.right _); rest = ap (below true) same; length_is = let l = ap length same in omega (arith, l) }
  join_by_cases j false false old new fits same = record { top = sym (j.left _); rest = same; length_is = let l = ap length same in omega (arith, l) }

  pub join_stack : Joins → (first second any : Bool) (old new : List Formula) → count second + count first ≤ length old →
      new ≡ (if first && second then stack_after connective old else old) → any ≡ (first || second) → IsJoined first second any old new
  join_stack j first second any old new fits same is = subst (λ x. IsJoined first second x old new) (sym is) (join_by_cases j first second old new fits same)

-- the stack that a connective leaves, if it is put
pub joined_tokens : (both : Bool) (t : Token) (old new : List Token) → new ≡ (if both then old ++ (t ∷ []) else old) →
    stack_of new ≡ (if both then stack_after (symbol_of t) (stack_of old) else stack_of old)
joined_tokens both t old new h1 = grind (arith, stack_of-push)

or_left : (f : Option Formula) → or_of f None ≡ f
or_left f = grind arith

and_left : (f : Option Formula) → and_of f None ≡ f
and_left f = grind arith

pub joins_or : Joins symbols.or or_of
joins_or = record { pops = λ f g stack. (_, refl, refl); left = or_left; right = λ f. refl }

pub joins_and : Joins symbols.and and_of
joins_and = record { pops = λ f g stack. (_, refl, refl); left = and_left; right = λ f. refl }

-- a test is put on the stack and joined
pub append_some : (has_and any : Bool) (t : Test) (old mid new : List Formula) → count has_and ≤ length old → mid ≡ test t ∷ old →
    new ≡ (if has_and && true then stack_after symbols.and mid else mid) → any ≡ (has_and || true) → Appends has_and any (Some (test t)) old new
append_some has_and any t old mid new h1 h2 h3 h4 = grind arith

-- if only the outermost list is left, the formula on top is the whole
pub top_is : (any : Bool) (stack : List Formula) → length stack ≡ count any → top_of stack ≡ top_if any stack
top_is any stack h1 = grind arith
