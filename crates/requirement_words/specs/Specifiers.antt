-- The version specifiers of a requirement, in pieces at commas (PEP 508; PEP 440, "Version
-- specifiers").
use Rattle.std.specs.Prelude.{◌≡◌, ℕ, Bool, false, List, [], ◌∷◌, ◌==◌, encode_utf8_all}
use Rattle.std.specs.List.Sorted.{IsPermutation, IsSortedBy, IsStableBy}
use Rattle.pep440_specifier.specs.Grammar.{IsSpecifierText}
use Rattle.pep440_specifier.specs.Set.{is_lower}
use Rattle.pep440_specifier.specs.Specifier.{Specifier}
use Rattle.pep508_text.specs.Run.{run_of, after_run}
use Rattle.pep508_text.specs.declared.classes.Class.TheVariants as classes

-- the bytes of the piece at the front: up to a comma or the character that ends the specifiers
abbrev pub piece_of : ℕ → List ℕ → List ℕ
piece_of end input = encode_utf8_all (run_of (classes.SpecifierPart end) input)

-- what follows it
abbrev pub after_piece : ℕ → List ℕ → List ℕ
after_piece end input = after_run (classes.SpecifierPart end) input

abbrev pub begins_comma : List ℕ → Bool
begins_comma [] = false
begins_comma (c ∷ cs) = c == 44

-- specifiers with a comma (44) between each two; so no piece is empty
pub data Pieces (end : ℕ) : List ℕ → List ℕ → List Specifier → Type 0 where
  last : {input output : List ℕ} {s : Specifier} → IsSpecifierText (piece_of end input) s
      → after_piece end input ≡ output → begins_comma output ≡ false
      → Pieces end input output (s ∷ [])
  more : {input next output : List ℕ} {s : Specifier} {others : List Specifier}
      → IsSpecifierText (piece_of end input) s → after_piece end input ≡ 44 ∷ next
      → Pieces end next output others → Pieces end input output (s ∷ others)

-- the set of a list: sorted by version, those of one version in their order
pub record IsSetOf (list set : List Specifier) : Type 0 where
  pub same : IsPermutation list set
  pub sorted : IsSortedBy is_lower set
  pub stable : IsStableBy is_lower list set

-- specifiers, and the set that they are
pub record IsSpecifiers (end : ℕ) (input output : List ℕ) (set : List Specifier) : Type 0 where
  pub list : List Specifier
  pub pieces : Pieces end input output list
  pub is_set : IsSetOf list set

-- the text begins with no specifiers
abbrev pub HasNoSpecifiers : ℕ → List ℕ → Type 0
HasNoSpecifiers end input =
    (output : List ℕ) (set : List Specifier) → ¬ IsSpecifiers end input output set

-- a text is parsed as specifiers up to a character in one way: the set, and where they end
abbrev pub SpecifiersAreUnique : Type 0
SpecifiersAreUnique = (end : ℕ) (text rest left : List ℕ) (set other : List Specifier)
    → IsSpecifiers end text rest set → IsSpecifiers end text left other
    → (rest ≡ left) × (set ≡ other)
