-- Texts of one and the same requirement.
use Rattle.std.specs.Prelude.{◌≡◌, ⊤, ℕ, Bool, true, List, Option, None, Some, String, string_bytes}
use Rattle.pep440_specifier.specs.Set.{set_text}
use Rattle.pep508_errors.specs.declared.surroundings.Surroundings.{Surroundings}
use Rattle.pep508_errors.specs.declared.warning.MarkerWarningKind.{MarkerWarningKind}
use Rattle.marker_environment.specs.Valuation.{Valuation}
use Rattle.marker_parts.specs.Expression.{Overflows}
use Rattle.marker_graph.specs.Contents.{Contents}
use Rattle.marker_grammar.specs.Formula.{Formula, truth}
use Rattle.marker_grammar.specs.HasTest.{Says}
use Rattle.pep508_requirements.specs.Requirement.{IsReadAs, IsRequirement, urls_in}
use Rattle.pep508_requirements.specs.declared.requirement.Requirement.{Requirement}
use Rattle.pep508_requirements.specs.declared.version_or_url.VersionOrUrl.{VersionOrUrl}
use Rattle.pep508_requirements.specs.declared.version_or_url.VersionOrUrl.TheVariants.{VersionSpecifier, Url}
use Rattle.pep508_urls.specs.Meaning.{IsVerbatim}
use Rattle.pep508_urls.specs.Verbatim.{Verbatim}
use Rattle.pep508_urls.specs.declared.error.VerbatimUrlError.{VerbatimUrlError}

abbrev pub Wish : Type 0
Wish = Option (VersionOrUrl Verbatim VerbatimUrlError)

-- specifiers that are written the same, URLs that were given as the same text, or nothing
abbrev pub IsSameWish : Wish → Wish → Type 0
IsSameWish None None = ⊤
IsSameWish None (Some (VersionSpecifier s)) = ⊥
IsSameWish None (Some (Url u)) = ⊥
IsSameWish (Some (VersionSpecifier s)) None = ⊥
IsSameWish (Some (VersionSpecifier s)) (Some (VersionSpecifier t)) = set_text s ≡ set_text t
IsSameWish (Some (VersionSpecifier s)) (Some (Url u)) = ⊥
IsSameWish (Some (Url u)) None = ⊥
IsSameWish (Some (Url u)) (Some (VersionSpecifier s)) = ⊥
IsSameWish (Some (Url u)) (Some (Url v)) = u.given ≡ v.given

-- two requirements of one interner are the same
pub record IsSame (one other : Requirement Verbatim VerbatimUrlError) : Type 0 where
  pub name : one.name ≡ other.name
  pub extras : one.extras.items ≡ other.extras.items
  pub wish : IsSameWish one.version_or_url other.version_or_url
  pub marker : one.marker ≡ other.marker

-- the text parses as the requirement
pub record IsParsedIn (surroundings : Surroundings) (c : Contents) (text : List ℕ)
    (r : Requirement Verbatim VerbatimUrlError) : Type 0 where
  pub kinds : List MarkerWarningKind
  pub read : IsReadAs (urls_in IsVerbatim surroundings) c text r.name r.extras.items
      r.version_or_url r.marker kinds

-- the text parses as a requirement with these parts, whose marker has this formula
pub record Parses (surroundings : Surroundings) (text name : List ℕ) (extras : List (List ℕ))
    (wish : Wish) (formula : Option Formula) : Type 0 where
  pub kinds : List MarkerWarningKind
  pub requirement : IsRequirement (urls_in IsVerbatim surroundings) text name extras wish formula
      kinds
  pub no_overflow : ¬ Says Overflows formula

-- The texts parse as requirements with the same name, the same extras, and the same specifiers or
-- URL as it is given, and with markers of the same truth.
pub record IsSameText (surroundings : Surroundings) (old new : List ℕ) : Type 0 where
  pub name : List ℕ
  pub extras : List (List ℕ)
  pub wish : Wish
  pub wish_again : Wish
  pub formula : Option Formula
  pub formula_again : Option Formula
  pub old_parses : Parses surroundings old name extras wish formula
  pub new_parses : Parses surroundings new name extras wish_again formula_again
  pub same_wish : IsSameWish wish wish_again
  pub same_truth : (v : Valuation) → truth formula v ≡ truth formula_again v

-- the same of a string
abbrev pub IsSameString : {A : Type 0} → Surroundings → List ℕ → String A → Type 0
IsSameString surroundings old new = IsSameText surroundings old (string_bytes new)

-- if it is told so, the new text parses as the same as each text that parses as the requirement
abbrev pub TellsSame : Surroundings → Contents → Requirement Verbatim VerbatimUrlError → List ℕ
    → Bool → Type 0
TellsSame surroundings c r new told = told ≡ true
    → (old : List ℕ) → IsParsedIn surroundings c old r → IsSameText surroundings old new
