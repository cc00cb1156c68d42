-- A requirement as a whole text (PEP 508, "Grammar"), over any type of URLs. Texts are bytes here,
-- and characters in the grammar.
use Rattle.std.specs.Prelude.{◌≡◌, ℕ, List, [], Option, Some, None, encode_utf8_all}
use Rattle.std.specs.Str.{chars}
use Rattle.pep508_errors.specs.declared.surroundings.Surroundings.{Surroundings}
use Rattle.pep508_errors.specs.declared.warning.MarkerWarningKind.{MarkerWarningKind}
use Rattle.marker_environment.specs.Valuation.{Valuation}
use Rattle.marker_parts.specs.Expression.{Overflows}
use Rattle.marker_graph.specs.declared.tree.MarkerTree.{MarkerTree}
use Rattle.marker_graph.specs.Contents.{Contents, IsHeld, truth}
use Rattle.marker_grammar.specs.Formula.{Formula}
use Rattle.marker_grammar.specs.Formula as formulas
use Rattle.marker_grammar.specs.Grammar.{Reads}
use Rattle.marker_grammar.specs.HasTest.{Says}
use Rattle.requirement_words.specs.Head.{Asked, nothing, specifiers, url, IsHead}
use Rattle.requirement_words.specs.Tail.{IsTail}
use Rattle.pep508_requirements.specs.declared.version_or_url.VersionOrUrl.{VersionOrUrl}
use Rattle.pep508_requirements.specs.declared.version_or_url.VersionOrUrl.TheVariants as wants

abbrev Kinds : Type 0
Kinds = List MarkerWarningKind

-- the formula of the marker, or nothing without one, and the kinds of its warnings
abbrev pub ReadsMarker : Option (List ℕ) → Option Formula → Kinds → Type 0
ReadsMarker None f kinds = (f ≡ None) × (kinds ≡ [])
ReadsMarker (Some marker) f kinds = Reads (encode_utf8_all marker) f kinds

-- only white space, or a marker after `;`
pub record EndsWith (rest : List ℕ) (f : Option Formula) (kinds : Kinds) : Type 0 where
  pub marker : Option (List ℕ)
  pub tail : IsTail rest marker
  pub says : ReadsMarker marker f kinds

-- the values that a type of URLs has for a text in the surroundings
abbrev pub urls_in : {T : Type 0} → (List ℕ → Surroundings → T → Type 0) → Surroundings
    → List ℕ → T → Type 0
urls_in names surroundings = λ piece url. names piece surroundings url

module _ {T E : Type 0} (names : List ℕ → T → Type 0) where
  -- the versions, or a value that the type of URLs has for the text of a URL
  abbrev pub IsWanted : Asked → Option (VersionOrUrl T E) → Type 0
  IsWanted nothing None = Unit {0}
  IsWanted nothing (Some wanted) = ⊥
  IsWanted (specifiers set) None = ⊥
  IsWanted (specifiers set) (Some (wants.VersionSpecifier s)) = s ≡ set
  IsWanted (specifiers set) (Some (wants.Url u)) = ⊥
  IsWanted (url text) None = ⊥
  IsWanted (url text) (Some (wants.VersionSpecifier s)) = ⊥
  IsWanted (url text) (Some (wants.Url u)) = names text u

  -- the text is a requirement with these parts, whose marker has this formula and these kinds of
  -- warnings
  pub record IsRequirement (text name : List ℕ) (extras : List (List ℕ))
      (wanted : Option (VersionOrUrl T E)) (f : Option Formula) (kinds : Kinds) : Type 0 where
    pub asked : Asked
    pub rest : List ℕ
    pub head : IsHead (chars text) rest name extras asked
    pub is_wanted : IsWanted asked wanted
    pub end : EndsWith rest f kinds

  -- the same with a tree for the marker, no bound of which is above 2^64 - 1
  pub record IsReadAs (c : Contents) (text name : List ℕ) (extras : List (List ℕ))
      (wanted : Option (VersionOrUrl T E)) (t : MarkerTree) (kinds : Kinds) : Type 0 where
    pub formula : Option Formula
    pub requirement : IsRequirement text name extras wanted formula kinds
    pub no_overflow : ¬ Says Overflows formula
    pub means : (v : Valuation) → truth c t v ≡ formulas.truth formula v

-- `E` is the type of the faults of URLs, which no text contains
module _ {T : Type 0} (E : Type 0) (names : List ℕ → T → Type 0) where
  -- the text is not a requirement
  abbrev pub IsUnread : List ℕ → Type 0
  IsUnread text = (name : List ℕ) (extras : List (List ℕ)) (wanted : Option (VersionOrUrl T E))
      (f : Option Formula) (kinds : Kinds) → ¬ IsRequirement names text name extras wanted f kinds

  -- the text is a requirement, and a bound of a comparison in its marker would be above 2^64 - 1
  pub record RequirementOverflows (text : List ℕ) : Type 0 where
    pub name : List ℕ
    pub extras : List (List ℕ)
    pub wanted : Option (VersionOrUrl T E)
    pub formula : Option Formula
    pub kinds : Kinds
    pub requirement : IsRequirement names text name extras wanted formula kinds
    pub overflows : Says Overflows formula

  -- the text is a requirement with a marker of this formula and these kinds of warnings
  pub record IsMarkedBy (text : List ℕ) (f : Option Formula) (kinds : Kinds) : Type 0 where
    pub name : List ℕ
    pub extras : List (List ℕ)
    pub wanted : Option (VersionOrUrl T E)
    pub requirement : IsRequirement names text name extras wanted f kinds

-- the interner has the tree, which means the marker at the end of a requirement
pub record IsTreeOfEnd (c : Contents) (rest : List ℕ) (t : MarkerTree) (kinds : Kinds)
    : Type 0 where
  pub held : IsHeld c t
  pub formula : Option Formula
  pub end : EndsWith rest formula kinds
  pub no_overflow : ¬ Says Overflows formula
  pub means : (v : Valuation) → truth c t v ≡ formulas.truth formula v

-- not the end of a requirement
abbrev pub IsNoEnd : List ℕ → Type 0
IsNoEnd rest = (f : Option Formula) (kinds : Kinds) → ¬ EndsWith rest f kinds

-- the text is the end of a requirement, and a bound of a comparison in it would be above 2^64 - 1
pub record EndOverflows (rest : List ℕ) : Type 0 where
  pub formula : Option Formula
  pub kinds : Kinds
  pub end : EndsWith rest formula kinds
  pub overflows : Says Overflows formula
