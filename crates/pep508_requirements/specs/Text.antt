-- The text of a requirement, and that it parses back.
use Rattle.std.specs.Prelude.{◌≡◌, ◌≢◌, ◌⊎◌, ⊤, ℕ, Bool, true, List, [], ◌∷◌, ◌++◌, Option, None, Some}
use Rattle.std.specs.Option.{option_map}
use Rattle.pep440_specifier.specs.Set.{IsSet}
use Rattle.pep508_errors.specs.declared.surroundings.Surroundings.{Surroundings}
use Rattle.pep508_errors.specs.declared.warning.MarkerWarningKind.{MarkerWarningKind}
use Rattle.marker_environment.specs.Valuation.{Valuation}
use Rattle.marker_graph.specs.declared.tree.MarkerTree.{MarkerTree}
use Rattle.marker_graph.specs.Contents.{Contents}
use Rattle.marker_view.specs.Readable.{IsReadableTruth}
use Rattle.marker_view.specs.Text.{TellsText}
use Rattle.pep508_markers.specs.Json.{string_of, IsStringOf}
use Rattle.requirement_words.specs.Text.{extras_text, joined_text}
use Rattle.pep508_requirements.specs.Requirement.{IsReadAs}
use Rattle.pep508_requirements.specs.declared.version_or_url.VersionOrUrl.{VersionOrUrl}
use Rattle.pep508_requirements.specs.declared.version_or_url.VersionOrUrl.TheVariants.{VersionSpecifier, Url}

-- the part from ` ; ` on, or nothing: 32 is a space, 59 is `;`
abbrev pub marker_part : Option (List ℕ) → List ℕ
marker_part None = []
marker_part (Some marker) = 32 ∷ (59 ∷ (32 ∷ marker))

module _ {T E : Type 0} where
  -- specifiers separated by commas, or ` @ ` and the URL, if its text is known: `url_text` is what
  -- URLs print, and 64 is `@`
  abbrev pub asked_part : (T → Option (List ℕ)) → Option (VersionOrUrl T E) → Option (List ℕ)
  asked_part url_text None = Some []
  asked_part url_text (Some (VersionSpecifier set)) = Some (joined_text set)
  asked_part url_text (Some (Url url)) = option_map (λ t. 32 ∷ (64 ∷ (32 ∷ t))) (url_text url)

  -- the text of a requirement whose marker has this text
  abbrev pub requirement_text : (T → Option (List ℕ)) → List ℕ → List (List ℕ)
      → Option (VersionOrUrl T E) → Option (List ℕ) → Option (List ℕ)
  requirement_text url_text name extras wanted marker =
      option_map (λ asked. name ++ (extras_text extras ++ (asked ++ marker_part marker)))
      (asked_part url_text wanted)

  -- specifiers are a set, if there are some
  abbrev pub AreSets : Option (VersionOrUrl T E) → Type 0
  AreSets None = ⊤
  AreSets (Some (VersionSpecifier set)) = IsSet set
  AreSets (Some (Url url)) = ⊤

  -- neither a URL nor an empty list of specifiers
  abbrev pub IsPlainlyAsked : Option (VersionOrUrl T E) → Type 0
  IsPlainlyAsked None = ⊤
  IsPlainlyAsked (Some (VersionSpecifier set)) = set ≢ []
  IsPlainlyAsked (Some (Url url)) = ⊥

-- the text of a URL, its extras and a marker with this text
abbrev pub unnamed_text : Option (List ℕ) → List (List ℕ) → Option (List ℕ) → Option (List ℕ)
unnamed_text url extras marker =
    option_map (λ t. t ++ (extras_text extras ++ marker_part marker)) url

-- the text is what these parts make of a text of the marker of this truth
pub record IsTextOf (f : Valuation → Bool) (parts : Option (List ℕ) → Option (List ℕ))
    (text : List ℕ) : Type 0 where
  pub marker : Option (List ℕ)
  pub tells : TellsText f marker
  pub text_is : (known : List ℕ) → parts marker ≡ Some known → text ≡ known

-- this is true of what these parts make of a text of the marker of this truth
abbrev pub WithText : (Valuation → Bool) → (Option (List ℕ) → Option (List ℕ))
    → (Option (List ℕ) → Type 0) → Type 0
WithText f parts P = (marker : Option (List ℕ)) × TellsText f marker × P (parts marker)

-- the truth is true everywhere, or it is readable and true somewhere
abbrev pub IsPrintedTruth : (Valuation → Bool) → Type 0
IsPrintedTruth f =
    ((v : Valuation) → f v ≡ true) ⊎ (IsReadableTruth f × ((v : Valuation) × (f v ≡ true)))

-- the text parses as a requirement with these parts, in any surroundings
abbrev pub ReadsBack : {T E : Type 0} → (List ℕ → Surroundings → T → Type 0) → Contents → List ℕ
    → List ℕ → List (List ℕ) → Option (VersionOrUrl T E) → MarkerTree → Type 0
ReadsBack names c text name extras wanted t = (surroundings : Surroundings)
    → (kinds : List MarkerWarningKind)
    × IsReadAs (λ piece url. names piece surroundings url) c text name extras wanted t kinds

-- the JSON is a string, and this is true of its text
abbrev pub IsJsonOf : (List ℕ → Type 0) → List ℕ → Type 0
IsJsonOf P json = (text : List ℕ) × (json ≡ string_of text) × IsStringOf json text × P text
