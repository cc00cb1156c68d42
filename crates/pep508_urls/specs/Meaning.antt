-- What a text denotes once its variables are expanded. Texts are lists of bytes.
use Rattle.std.specs.Prelude.{◌≡◌, ◌≢◌, ℕ, List, Option, Some, None, Ok, option_map}
use Rattle.std.specs.Cow.{cow_str_bytes}
use Rattle.url.specs.Parser.{parse_url}
use Rattle.url.specs.Parts.{Parts}
use Rattle.pep508_errors.specs.declared.surroundings.Surroundings.{Surroundings}
use Rattle.pep508_urls.specs.declared.scheme.Scheme.{Scheme}
use Rattle.pep508_urls.specs.declared.scheme.Scheme.TheVariants.{File}
use Rattle.pep508_urls.specs.declared.meaning.Target.{Target}
use Rattle.pep508_urls.specs.declared.meaning.Target.TheVariants.{Url, Path}
use Rattle.pep508_urls.specs.Path.{url_path}
use Rattle.pep508_urls.specs.PathUrl.{IsPathUrl}
use Rattle.pep508_urls.specs.Scheme.{SplitsScheme, scheme_text, without_host}
use Rattle.pep508_urls.specs.Variables.{Expands, value_of}
use Rattle.pep508_urls.specs.Verbatim.{Verbatim}

-- a URL as it is written, or a path
pub data Meaning : Type 0 where
  is_url : List ℕ → Meaning
  is_path : List ℕ → Meaning

abbrev pub meaning_of : Target → Meaning
meaning_of (Url text) = is_url text.now
meaning_of (Path text) = is_path (cow_str_bytes text)

-- With the scheme `file` it is the path after the host, with its escapes decoded; with another
-- scheme of the list the URL itself; any other text is a path.
pub data StandsFor (text : List ℕ) : Meaning → Type 0 where
  file : {rest : List ℕ} {meaning : Meaning} → SplitsScheme text (scheme_text File) rest
      → meaning ≡ is_path (url_path (without_host rest)) → StandsFor text meaning
  known : {scheme : Scheme} {rest : List ℕ} {meaning : Meaning} → scheme ≢ File
      → SplitsScheme text (scheme_text scheme) rest → meaning ≡ is_url text → StandsFor text meaning
  other : {meaning : Meaning}
      → ((scheme : Scheme) (rest : List ℕ) → ¬ SplitsScheme text (scheme_text scheme) rest)
      → meaning ≡ is_path text → StandsFor text meaning

-- the URL of a URL or path; a path starts from the folder, if there is one
abbrev pub IsUrlOf : Option (List ℕ) → Meaning → Parts → Type 0
IsUrlOf base (is_url text) parts = parse_url None text ≡ Ok parts
IsUrlOf base (is_path text) parts = IsPathUrl base text parts

-- the folder that relative paths start from
abbrev pub folder_of : Surroundings → Option (List ℕ)
folder_of surroundings = option_map (λ folder. folder.now) surroundings.working_dir

-- the text denotes this in the surroundings, once its variables are expanded
pub record HasMeaning (text : List ℕ) (surroundings : Surroundings) (meaning : Meaning)
    : Type 0 where
  pub expanded : List ℕ
  pub expands : Expands (value_of surroundings) text expanded
  pub stands_for : StandsFor expanded meaning

-- a text in surroundings has this URL, and is given as it is written
pub record IsVerbatim (text : List ℕ) (surroundings : Surroundings) (verbatim : Verbatim)
    : Type 0 where
  pub expanded : List ℕ
  pub meaning : Meaning
  pub expands : Expands (value_of surroundings) text expanded
  pub stands_for : StandsFor expanded meaning
  pub url_is : IsUrlOf (folder_of surroundings) meaning verbatim.url
  pub given_is : verbatim.given ≡ Some text
