-- The URL of a path. Texts are lists of bytes.
use Rattle.std.specs.Prelude.{◌≡◌, ℕ, false, IsUtf8, codes, List, ◌∷◌, ◌++◌, Option, Some, None, Ok, option_map, if◌then◌else◌}
use Rattle.url.specs.Input.{split_once}
use Rattle.url.specs.Parser.{Parsed, and_then, parse_url}
use Rattle.url.specs.Parts.{Parts, has_host}
use Rattle.percent_encoding.specs.Percent.{percent_decode}
use Rattle.url.specs.Setters.{set_fragment}
use Rattle.pep508_urls.specs.Path.{file_text, is_absolute, normalized}

-- a path from a folder, or one without a folder; nothing if that does not begin with a slash
abbrev pub absolute : Option (List ℕ) → List ℕ → Option (List ℕ)
absolute (Some base) path =
    if is_absolute base then Some (if is_absolute path then path else base ++ 47 ∷ path)
    else None
absolute None path = if is_absolute path then Some path else None

-- the URL with a fragment, if there is one to set
abbrev pub with_fragment : Parts → Option (List ℕ) → Parts
with_fragment url None = url
with_fragment url (Some fragment) = set_fragment url (Some fragment)

-- The URL of a normalized path: the part before the first `#` is parsed as a file URL, and the part
-- after it is its fragment.
abbrev pub normal_url : List ℕ → Parsed Parts
normal_url path =
    let cut = split_once 35 path in
    and_then (parse_url None (file_text cut.0)) (λ url. Ok (with_fragment url cut.1))

-- the URL of a path that begins with a slash, if it can be normalized
abbrev pub path_url : List ℕ → Option (Parsed Parts)
path_url path = option_map normal_url (normalized path)

-- the URL of a path from a folder, or of one without a folder
pub record IsPathUrl (base : Option (List ℕ)) (path : List ℕ) (url : Parts) : Type 0 where
  pub whole : List ℕ
  pub absolute_is : absolute base path ≡ Some whole
  pub url_is : path_url whole ≡ Some (Ok url)

-- the path has a URL
abbrev pub HasPathUrl : Option (List ℕ) → List ℕ → Type 0
HasPathUrl base path = (url : Parts) × IsPathUrl base path url

-- the path of a file URL that names no host, with its escapes read
pub record IsPathOf (url : Parts) (path : List ℕ) : Type 0 where
  pub scheme_is : url.scheme ≡ codes "file"
  pub no_host : has_host url ≡ false
  pub text : IsUtf8 (percent_decode url.path)
  pub path_is : path ≡ percent_decode url.path
