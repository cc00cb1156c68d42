-- The grammar of marker texts, and the formula of each derivation (PEP 508, "Grammar", in which a
-- keyword may end at a parenthesis; here it is the longest run of characters other than white
-- space, so that `and(` is not one). Each relation goes from the text before a part, and the kinds
-- of warnings so far, to both after the part. The last argument is the part's formula, or nothing
-- if all of it is dropped.
use Rattle.std.specs.Prelude.{◌≡◌, ℕ, List, [], ◌∷◌, ◌++◌, Option, codes}
use Rattle.std.specs.Str.{chars}
use Rattle.pep508_text.specs.Run.{Run, Spaces}
use Rattle.pep508_text.specs.declared.classes.Class.TheVariants.{NotSpace}
use Rattle.pep508_errors.specs.declared.warning.MarkerWarningKind.{MarkerWarningKind}
use Rattle.marker_parts.specs.Comparison.{Meaning, Compared}
use Rattle.marker_grammar.specs.Formula.{Formula, and_of, or_of, of_test}

abbrev Kinds : Type 0
Kinds = List MarkerWarningKind

mutual
  -- 40 and 41 are `(` and `)`
  pub data Atom : List ℕ → Kinds → List ℕ → Kinds → Option Formula → Type 0 where
    group : {input a b output : List ℕ} {kinds kinds' : Kinds} {f : Option Formula} →
        Spaces input (40 ∷ a) → Or a kinds b kinds' f → Spaces b (41 ∷ output) →
        Atom input kinds output kinds' f
    comparison : {input output : List ℕ} {kinds : Kinds} {m : Meaning} →
        Compared input output m → Atom input kinds output (kinds ++ m.kinds) (of_test m.test)

  -- any number of times `and` and an atom, after a first part
  pub data AndRest : Option Formula → List ℕ → Kinds → List ℕ → Kinds → Option Formula →
      Type 0 where
    no_and : {f : Option Formula} {input : List ℕ} {kinds : Kinds} →
        AndRest f input kinds input kinds f
    one_and : {f g h : Option Formula} {input a b c output : List ℕ}
        {kinds kinds' kinds'' : Kinds} →
        Spaces input a → Run NotSpace a (codes "and") b → Atom b kinds c kinds' g →
        AndRest (and_of f g) c kinds' output kinds'' h → AndRest f input kinds output kinds'' h

  pub data And : List ℕ → Kinds → List ℕ → Kinds → Option Formula → Type 0 where
    and : {f g : Option Formula} {input a output : List ℕ} {kinds kinds' kinds'' : Kinds} →
        Atom input kinds a kinds' f → AndRest f a kinds' output kinds'' g →
        And input kinds output kinds'' g

  -- any number of times `or` and an `And`, after a first part
  pub data OrRest : Option Formula → List ℕ → Kinds → List ℕ → Kinds → Option Formula →
      Type 0 where
    no_or : {f : Option Formula} {input : List ℕ} {kinds : Kinds} →
        OrRest f input kinds input kinds f
    one_or : {f g h : Option Formula} {input a b c output : List ℕ}
        {kinds kinds' kinds'' : Kinds} →
        Spaces input a → Run NotSpace a (codes "or") b → And b kinds c kinds' g →
        OrRest (or_of f g) c kinds' output kinds'' h → OrRest f input kinds output kinds'' h

  pub data Or : List ℕ → Kinds → List ℕ → Kinds → Option Formula → Type 0 where
    or : {f g : Option Formula} {input a output : List ℕ} {kinds kinds' kinds'' : Kinds} →
        And input kinds a kinds' f → OrRest f a kinds' output kinds'' g →
        Or input kinds output kinds'' g

-- the bytes are a marker text that says this formula, or nothing, and whose warnings are of these
-- kinds, in the order of the text
pub record Reads (text : List ℕ) (f : Option Formula) (kinds : Kinds) : Type 0 where
  pub start : List ℕ
  pub end : List ℕ
  pub before : Spaces (chars text) start
  pub body : Or start [] end kinds f
  pub after : Spaces end []

-- the text says nothing but this
abbrev pub IsOnlyReading : List ℕ → Option Formula → Kinds → Type 0
IsOnlyReading text f kinds =
    (g : Option Formula) (k : Kinds) → Reads text g k → (f ≡ g) × (kinds ≡ k)

-- whatever the text says, it says nothing else
abbrev pub SaysOneFormula : List ℕ → Type 0
SaysOneFormula text =
    (f : Option Formula) (kinds : Kinds) → Reads text f kinds → IsOnlyReading text f kinds
