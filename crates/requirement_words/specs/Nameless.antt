-- Paths, URLs and archives in place of a name. Texts are lists of bytes.
use Rattle.std.specs.Prelude.{◌≡◌, ℕ, List, ◌∷◌, ◌++◌}
use Rattle.pep508_urls.specs.Extras.{SplitsExtras}
use Rattle.pep508_urls.specs.Scheme.{SplitsScheme}
use Rattle.pep508_urls.specs.Variables.{Expands}
use Rattle.requirement_words.specs.Archive.{IsArchive}

-- the text without the extras at its end, if it has some
pub data WithoutExtras (text : List ℕ) : List ℕ → Type 0 where
  cut : {before extras rest : List ℕ} → SplitsExtras text before extras → rest ≡ before
      → WithoutExtras text rest
  whole : {rest : List ℕ} → ((before extras : List ℕ) → ¬ SplitsExtras text before extras)
      → rest ≡ text → WithoutExtras text rest

-- the text begins with a dot (46), holds a slash (47) or a backslash (92), has a scheme, or is the
-- name of an archive
pub data IsPathOrUrl (text : List ℕ) : Type 0 where
  dotted : {rest : List ℕ} → text ≡ 46 ∷ rest → IsPathOrUrl text
  slashed : (before rest : List ℕ) → text ≡ before ++ (47 ∷ rest) → IsPathOrUrl text
  backslashed : (before rest : List ℕ) → text ≡ before ++ (92 ∷ rest) → IsPathOrUrl text
  with_scheme : {scheme rest : List ℕ} → SplitsScheme text scheme rest → IsPathOrUrl text
  archived : IsArchive text → IsPathOrUrl text

-- a run that is a path, a URL or an archive with its variables expanded and without its extras
pub record NamesNoPackage (value : List ℕ → List ℕ) (run : List ℕ) : Type 0 where
  pub expanded : List ℕ
  pub rest : List ℕ
  pub expands : Expands value run expanded
  pub without_extras : WithoutExtras expanded rest
  pub is_one : IsPathOrUrl rest
