-- The text of a requirement up to its marker. A text is a list of characters;
-- as these are ASCII it is a list of bytes too.
use Rattle.std.specs.Prelude.{ℕ, ⊤, List, [], ◌∷◌, ◌++◌}
use Rattle.std.specs.List.{AllByRecursion, flat_map}
use Rattle.std.specs.Str.{IsAscii}
use Rattle.pep440_specifier.specs.Set.{IsSet}
use Rattle.pep440_specifier.specs.Specifier.{Specifier}
use Rattle.pep440_specifier.specs.Text.{specifier_text}
use Rattle.pep508_names.specs.Name.{NormalizesTo}
use Rattle.requirement_words.specs.Head.{Asked, nothing, specifiers, url, IsHead}

-- names, each after a comma (44)
abbrev pub later_names : List (List ℕ) → List ℕ
later_names names = flat_map (λ n. 44 ∷ n) names

-- extras in brackets (91 and 93), or nothing without any
abbrev pub extras_text : List (List ℕ) → List ℕ
extras_text [] = []
extras_text (n ∷ names) = 91 ∷ (n ++ (later_names names ++ (93 ∷ [])))

-- specifiers, each after a comma
abbrev pub later_specifiers : List Specifier → List ℕ
later_specifiers set = flat_map (λ s. 44 ∷ specifier_text s) set

-- specifiers with a comma between each two
abbrev pub joined_text : List Specifier → List ℕ
joined_text [] = []
joined_text (s ∷ others) = specifier_text s ++ later_specifiers others

-- 64 is `@`, between two spaces
abbrev pub asked_text : Asked → List ℕ
asked_text nothing = []
asked_text (specifiers set) = joined_text set
asked_text (url text) = 32 ∷ (64 ∷ (32 ∷ text))

abbrev pub head_text : List ℕ → List (List ℕ) → Asked → List ℕ
head_text name extras asked = name ++ (extras_text extras ++ asked_text asked)

-- what is printed after it: nothing, or a space, `;` (59) and the marker; and that without the
-- space
pub data IsTailText : List ℕ → List ℕ → Type 0 where
  no_marker : IsTailText [] []
  marker : {text : List ℕ} → IsTailText (32 ∷ (59 ∷ text)) (59 ∷ text)

-- the text is a name in its normal form
abbrev pub IsNormal : List ℕ → Type 0
IsNormal n = NormalizesTo n n

-- neither a URL nor an empty list of specifiers
abbrev pub IsPrintedAs : Asked → Type 0
IsPrintedAs nothing = ⊤
IsPrintedAs (specifiers []) = ⊥
IsPrintedAs (specifiers (s ∷ others)) = IsSet (s ∷ others)
IsPrintedAs (url text) = ⊥

-- a requirement whose text parses back: with a name and extras in their normal forms
pub record IsPrintable (name : List ℕ) (extras : List (List ℕ)) (asked : Asked) : Type 0 where
  pub named : IsNormal name
  pub extras_are : AllByRecursion IsNormal extras
  pub asks : IsPrintedAs asked

-- such a text parses back, whatever is printed after it
abbrev pub HeadTextReadsBack : Type 0
HeadTextReadsBack = (name : List ℕ) (extras : List (List ℕ)) (asked : Asked) (tail left : List ℕ)
    → IsPrintable name extras asked → IsTailText tail left
    → IsHead (head_text name extras asked ++ tail) left name extras asked

abbrev pub HeadTextIsAscii : Type 0
HeadTextIsAscii = (name : List ℕ) (extras : List (List ℕ)) (asked : Asked)
    → IsPrintable name extras asked → IsAscii (head_text name extras asked)
