-- Keywords: the longest run of characters other than white space. (In PEP 508 a keyword may also
-- end at a parenthesis; here `and(` is not one.)
use Rattle.std.specs.Prelude.{ℕ, List, codes}
use Rattle.pep508_text.specs.Run.{Run}
use Rattle.pep508_text.specs.declared.classes.Class.TheVariants.{NotSpace}
use Rattle.marker_words.specs.declared.parts.Keyword.{Keyword}
use Rattle.marker_words.specs.declared.parts.Keyword.TheVariants.{And, Or, Other}

-- the text begins with neither keyword
pub record NoKeyword (t : List ℕ) : Type 0 where
  pub no_and_word : (b : List ℕ) → Run NotSpace t (codes "and") b → ⊥
  pub no_or_word : (b : List ℕ) → Run NotSpace t (codes "or") b → ⊥

abbrev pub IsKeyword : Keyword → List ℕ → List ℕ → Type 0
IsKeyword And input output = Run NotSpace input (codes "and") output
IsKeyword Or input output = Run NotSpace input (codes "or") output
IsKeyword Other input output = NoKeyword input
