-- The normal text of a requirement, and its parts as JSON.
use Rattle.std.specs.Prelude.{◌≡◌, ℕ, List, [], Bool, Option, Some, None, map}
use Rattle.url.specs.Parts.{serialize}
use Rattle.pep440_specifier.specs.Text.{specifier_text}
use Rattle.pep508_urls.specs.declared.error.VerbatimUrlError.{VerbatimUrlError}
use Rattle.pep508_urls.specs.Verbatim.{Verbatim}
use Rattle.marker_environment.specs.Valuation.{Valuation}
use Rattle.marker_graph.specs.Contents.{Contents, truth}
use Rattle.marker_view.specs.Text.{TellsText}
use Rattle.pep508_requirements.specs.declared.requirement.Requirement.{Requirement}
use Rattle.pep508_requirements.specs.declared.version_or_url.VersionOrUrl.TheVariants.{VersionSpecifier, Url}
use Rattle.pep508_requirements.specs.Text.{requirement_text, IsTextOf}
use Rattle.foreign_calls.specs.Json.{parts_text}
use Rattle.foreign_calls.specs.Reading.{Says, Wanted}

-- what a URL prints
abbrev pub url_text : Verbatim → Option (List ℕ)
url_text v = Some (serialize v.url)

-- the bytes are the normal text of the requirement
pub record IsNormal (folder text bytes : List ℕ) : Type 0 where
  pub name : List ℕ
  pub extras : List (List ℕ)
  pub wanted : Wanted
  pub truth : Valuation → Bool
  pub says : Says folder text name extras wanted truth
  pub written : IsTextOf truth (requirement_text url_text name extras wanted) bytes

-- the texts of the specifiers
abbrev pub specifiers_of : Wanted → List (List ℕ)
specifiers_of None = []
specifiers_of (Some (VersionSpecifier set)) = map specifier_text set
specifiers_of (Some (Url url)) = []

-- the text of the URL
abbrev pub url_of : Wanted → Option (List ℕ)
url_of None = None
url_of (Some (VersionSpecifier set)) = None
url_of (Some (Url url)) = url_text url

-- the bytes are these parts as JSON, with a text of the marker of this truth, or null if it is true
-- everywhere
pub record AreParts (name : List ℕ) (extras : List (List ℕ)) (wanted : Wanted)
    (f : Valuation → Bool) (bytes : List ℕ) : Type 0 where
  pub marker : Option (List ℕ)
  pub tells : TellsText f marker
  pub written : bytes ≡ parts_text name extras (specifiers_of wanted) (url_of wanted) marker

-- the same of a requirement whose marker is in an interner
abbrev pub ArePartsIn : Contents → Requirement Verbatim VerbatimUrlError → List ℕ → Type 0
ArePartsIn c r = AreParts r.name r.extras.items r.version_or_url (truth c r.marker)

-- the bytes are the parts of the requirement of the text, as JSON
pub record ArePartsOf (folder text bytes : List ℕ) : Type 0 where
  pub name : List ℕ
  pub extras : List (List ℕ)
  pub wanted : Wanted
  pub truth : Valuation → Bool
  pub says : Says folder text name extras wanted truth
  pub parts : AreParts name extras wanted truth bytes
