-- How a half-read marker text may go on: the open parentheses, from the innermost one outwards,
-- each with what its `or` and its `and` have so far. The last two arguments are what the whole text
-- is read as.
use Rattle.std.specs.Prelude.{◌≡◌, ℕ, List, [], ◌∷◌, Option}
use Rattle.pep508_text.specs.Run.{Spaces}
use Rattle.pep508_errors.specs.declared.warning.MarkerWarningKind.{MarkerWarningKind}
use Rattle.marker_grammar.specs.Formula.{Formula, and_of, or_of}
use Rattle.marker_grammar.specs.Grammar.{Atom, AndRest, OrRest}

abbrev Kinds : Type 0
Kinds = List MarkerWarningKind

-- what an `or` and its last `and` have so far
pub record Level : Type 0 where
  pub ors : Option Formula
  pub ands : Option Formula

mutual
  -- after an atom
  pub data After : List Level → Option Formula → Option Formula → List ℕ → Kinds →
      Option Formula → Kinds → Type 0 where
    goes : {outer : List Level} {ors ands g h f : Option Formula} {input a output : List ℕ}
        {kinds kinds' kinds'' k : Kinds} →
        AndRest ands input kinds a kinds' g → OrRest (or_of ors g) a kinds' output kinds'' h →
        Ends outer output kinds'' h f k → After outer ors ands input kinds f k

  -- after an `or`: the text ends, or its parenthesis closes and the outer one continues
  pub data Ends : List Level → List ℕ → Kinds → Option Formula →
      Option Formula → Kinds → Type 0 where
    ended : {input : List ℕ} {kinds k : Kinds} {g f : Option Formula} →
        Spaces input [] → g ≡ f → kinds ≡ k → Ends [] input kinds g f k
    closed : {outer : List Level} {outside : Level} {input a : List ℕ} {kinds k : Kinds}
        {g f : Option Formula} →
        Spaces input (41 ∷ a) → After outer outside.ors (and_of outside.ands g) a kinds f k →
        Ends (outside ∷ outer) input kinds g f k

-- before an atom
pub data Before : List Level → Option Formula → Option Formula → List ℕ → Kinds →
    Option Formula → Kinds → Type 0 where
  before : {outer : List Level} {ors ands g f : Option Formula} {input output : List ℕ}
      {kinds kinds' k : Kinds} →
      Atom input kinds output kinds' g → After outer ors (and_of ands g) output kinds' f k →
      Before outer ors ands input kinds f k
