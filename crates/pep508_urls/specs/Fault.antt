-- Why a URL is refused.
use Rattle.std.specs.Prelude.{◌≡◌, ◌⊎◌, ⊤, ℕ, Bool, true, false, List, Option, Some, None, Ok, Err, string_bytes, unwrap_or}
use Rattle.url.specs.declared.error.ParseError.TheVariants.{Overflow}
use Rattle.url.specs.Parser.{parse_url}
use Rattle.url.specs.Parts.{Parts}
use Rattle.pep508_errors.specs.Url.{is_overflow}
use Rattle.pep508_errors.specs.declared.surroundings.Surroundings.{Surroundings}
use Rattle.pep508_urls.specs.Path.{normalized}
use Rattle.pep508_urls.specs.Meaning.{Meaning, HasMeaning, is_url, is_path, folder_of}
use Rattle.pep508_urls.specs.PathUrl.{HasPathUrl, absolute, path_url}
use Rattle.pep508_urls.specs.declared.error.VerbatimUrlError.{VerbatimUrlError}
use Rattle.pep508_urls.specs.declared.error.VerbatimUrlError.TheVariants as faults

-- a path cannot be normalized, which is this one
abbrev pub IsNormalization : List ℕ → VerbatimUrlError → Type 0
IsNormalization path (faults.Normalization text) = string_bytes text ≡ path
IsNormalization path (faults.Url fault) = ⊥
IsNormalization path (faults.WorkingDirectory text) = ⊥
IsNormalization path (faults.UrlConversion text) = ⊥

-- the path has a URL, which is refused only for its size
abbrev pub HasUrl : List ℕ → Type 0
HasUrl path = (url : Parts) × (path_url path ≡ Some (Ok url))

-- a path that begins with a slash has no URL: it cannot be normalized, or the URL is too large
abbrev pub IsWholePathFault : List ℕ → VerbatimUrlError → Type 0
IsWholePathFault path (faults.Normalization text) =
    (normalized path ≡ None) × (string_bytes text ≡ path)
IsWholePathFault path (faults.UrlConversion text) = (string_bytes text ≡ path) × HasUrl path
IsWholePathFault path (faults.Url fault) = (fault ≡ Overflow) × HasUrl path
IsWholePathFault path (faults.WorkingDirectory text) = ⊥

-- what may be too large: any URL, and a path that has one
abbrev pub MayOverflow : Option (List ℕ) → Meaning → Type 0
MayOverflow base (is_url text) = ⊤
MayOverflow base (is_path text) = HasPathUrl base text

-- the text denotes something in the surroundings that may be too large
abbrev pub TextMayOverflow : List ℕ → Surroundings → Type 0
TextMayOverflow text surroundings =
    (meaning : Meaning) × HasMeaning text surroundings meaning
    × MayOverflow (folder_of surroundings) meaning

-- a path from a folder has no URL: what must begin with a slash does not, or the whole path has
-- none
abbrev pub IsPathFault : Option (List ℕ) → List ℕ → VerbatimUrlError → Type 0
IsPathFault base path (faults.WorkingDirectory text) =
    (absolute base path ≡ None) × (string_bytes text ≡ unwrap_or base path)
IsPathFault base path (faults.Normalization text) =
    (absolute base path ≡ Some (string_bytes text)) × (normalized (string_bytes text) ≡ None)
IsPathFault base path (faults.UrlConversion text) =
    (absolute base path ≡ Some (string_bytes text)) × HasUrl (string_bytes text)
IsPathFault base path (faults.Url fault) = (fault ≡ Overflow) × MayOverflow base (is_path path)

-- the fault of a text that `url` refuses
abbrev pub IsParseFault : List ℕ → VerbatimUrlError → Type 0
IsParseFault text (faults.Url fault) = (parse_url None text ≡ Err fault) ⊎ (fault ≡ Overflow)
IsParseFault text (faults.WorkingDirectory other) = ⊥
IsParseFault text (faults.UrlConversion other) = ⊥
IsParseFault text (faults.Normalization other) = ⊥

-- the URL would be too large; a path is refused as no URL for nothing else
abbrev pub tells_size : VerbatimUrlError → Bool
tells_size (faults.Url fault) = is_overflow fault
tells_size (faults.UrlConversion text) = true
tells_size (faults.WorkingDirectory text) = false
tells_size (faults.Normalization text) = false

-- the fault of a URL or path
abbrev pub IsFaultOf : Option (List ℕ) → Meaning → VerbatimUrlError → Type 0
IsFaultOf base (is_url text) fault = IsParseFault text fault
IsFaultOf base (is_path text) fault = IsPathFault base text fault

-- the text denotes something in the surroundings, and this is the fault of that
pub record IsFaultIn (text : List ℕ) (surroundings : Surroundings) (fault : VerbatimUrlError)
    : Type 0 where
  pub meaning : Meaning
  pub has : HasMeaning text surroundings meaning
  pub fault_is : IsFaultOf (folder_of surroundings) meaning fault

-- no path is made of a URL, whose text this is
abbrev pub IsConversion : List ℕ → VerbatimUrlError → Type 0
IsConversion text (faults.UrlConversion other) = string_bytes other ≡ text
IsConversion text (faults.Url fault) = ⊥
IsConversion text (faults.WorkingDirectory other) = ⊥
IsConversion text (faults.Normalization other) = ⊥
