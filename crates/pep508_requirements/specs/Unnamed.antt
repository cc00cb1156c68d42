-- A requirement without a name as a whole text, over any type of URLs. Texts are bytes here, and
-- characters in the grammar.
use Rattle.std.specs.Prelude.{◌≡◌, ⊤, ℕ, Bool, false, List, Option, Some}
use Rattle.std.specs.Str.{chars}
use Rattle.refusal.specs.declared.Refusal.{Refusal}
use Rattle.refusal.specs.declared.Refusal.TheVariants as refusals
use Rattle.pep508_errors.specs.declared.error.Pep508Error.{Pep508Error}
use Rattle.pep508_errors.specs.declared.surroundings.Surroundings.{Surroundings}
use Rattle.pep508_errors.specs.declared.warning.MarkerWarningKind.{MarkerWarningKind}
use Rattle.marker_environment.specs.Valuation.{Valuation}
use Rattle.marker_parts.specs.Expression.{Overflows}
use Rattle.marker_graph.specs.declared.tree.MarkerTree.{MarkerTree}
use Rattle.marker_graph.specs.Contents.{Contents, truth}
use Rattle.marker_grammar.specs.Formula.{Formula}
use Rattle.marker_grammar.specs.Formula as formulas
use Rattle.marker_grammar.specs.HasTest.{Says}
use Rattle.requirement_words.specs.Unnamed.{IsUnnamedHead}
use Rattle.requirement_words.specs.Fault.{FindsInUnnamed}
use Rattle.pep508_requirements.specs.Requirement.{EndsWith, urls_in}
use Rattle.pep508_requirements.specs.Refused.{is_of_size, IsEndError, IsErrorBy, IsUrlError}

abbrev Kinds : Type 0
Kinds = List MarkerWarningKind

module _ {U : Type 0} (names : List ℕ → U → Type 0) where
  -- The text is a URL with extras, and a marker of this formula and these kinds of warnings. The
  -- URL as it is given, without the extras, has this value.
  pub record IsUnnamedRequirement (text : List ℕ) (url : U) (extras : List (List ℕ))
      (f : Option Formula) (kinds : Kinds) : Type 0 where
    pub whole : List ℕ
    pub given : List ℕ
    pub rest : List ℕ
    pub head : IsUnnamedHead (chars text) rest whole given extras
    pub named : names given url
    pub end : EndsWith rest f kinds

  -- the text is not one
  abbrev pub IsUnreadUnnamed : List ℕ → Type 0
  IsUnreadUnnamed text = (url : U) (extras : List (List ℕ)) (f : Option Formula) (kinds : Kinds)
      → ¬ IsUnnamedRequirement text url extras f kinds

  -- a bound of a comparison in its marker would be above 2^64 - 1
  pub record UnnamedOverflows (text : List ℕ) : Type 0 where
    pub url : U
    pub extras : List (List ℕ)
    pub formula : Option Formula
    pub kinds : Kinds
    pub requirement : IsUnnamedRequirement text url extras formula kinds
    pub overflows : Says Overflows formula

  -- the text is one with a marker of this formula and these kinds of warnings
  pub record IsUnnamedMarkedBy (text : List ℕ) (f : Option Formula) (kinds : Kinds)
      : Type 0 where
    pub url : U
    pub extras : List (List ℕ)
    pub requirement : IsUnnamedRequirement text url extras f kinds

  -- The same with a tree for the marker, no bound of which is above 2^64 - 1. The value keeps the
  -- URL as it is given.
  pub record IsUnnamedReadAs (given_text : U → Option (List ℕ)) (c : Contents) (text : List ℕ)
      (url : U) (extras : List (List ℕ)) (t : MarkerTree) (kinds : Kinds) : Type 0 where
    pub formula : Option Formula
    pub requirement : IsUnnamedRequirement text url extras formula kinds
    pub given_is : given_text url ≡ Some requirement.given
    pub no_overflow : ¬ Says Overflows formula
    pub means : (v : Valuation) → truth c t v ≡ formulas.truth formula v

module _ {U E : Type 0} where
  -- over the type of URLs: which values a text has, which faults are only of size, and which texts
  -- may be too large
  module _ (names : List ℕ → U → Type 0) (tells_size : E → Bool)
      (may_overflow : List ℕ → Type 0) where
    -- what is wrong with a text: up to its marker, with its URL, or after that
    pub data HasUnnamedError (text : List ℕ) (error : Pep508Error U E) : Type 0 where
      in_head : IsErrorBy (FindsInUnnamed text) text error → HasUnnamedError text error
      in_url : {rest whole given : List ℕ} {extras : List (List ℕ)}
          → IsUnnamedHead (chars text) (chars rest) whole given extras
          → IsUrlError names tells_size may_overflow text whole given rest error
          → HasUnnamedError text error
      in_end : {rest whole given : List ℕ} {extras : List (List ℕ)}
          → IsUnnamedHead (chars text) (chars rest) whole given extras
          → IsEndError text whole rest error → HasUnnamedError text error

    -- the text is not such a requirement, unless its URL may be too large, and the error says why
    pub record IsUnnamedError (text : List ℕ) (error : Pep508Error U E) : Type 0 where
      pub has : HasUnnamedError text error
      pub unread : is_of_size tells_size error.message ≡ false → IsUnreadUnnamed names text

    -- why a text is refused as a requirement without a name
    abbrev pub IsUnnamedRefusal : List ℕ → Refusal (Pep508Error U E) → Type 0
    IsUnnamedRefusal text refusals.OutOfMemory = ⊤
    IsUnnamedRefusal text refusals.SegmentAtEnd = UnnamedOverflows names text
    IsUnnamedRefusal text (refusals.Fault error) = IsUnnamedError text error

  -- the same in surroundings
  module _ (names : List ℕ → Surroundings → U → Type 0) (tells_size : E → Bool)
      (may_overflow : List ℕ → Surroundings → Type 0) (surroundings : Surroundings) where
    abbrev pub IsUnnamedRefusalIn : List ℕ → Refusal (Pep508Error U E) → Type 0
    IsUnnamedRefusalIn = IsUnnamedRefusal (urls_in names surroundings) tells_size
        (λ piece. may_overflow piece surroundings)
