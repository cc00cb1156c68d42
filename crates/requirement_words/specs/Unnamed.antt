-- A requirement without a name, up to its marker: a URL and its extras.
use Rattle.std.specs.Prelude.{◌≡◌, ℕ, List, [], ◌++◌}
use Rattle.std.specs.Str.{chars}
use Rattle.pep508_text.specs.Run.{after_space}
use Rattle.pep508_urls.specs.Extras.{SplitsExtras}
use Rattle.requirement_words.specs.Extras.{IsExtras}
use Rattle.requirement_words.specs.Head.{IsUrl}
use Rattle.requirement_words.specs.declared.unnamed.UnnamedHead as declared
use Rattle.requirement_words.specs.declared.url.UrlPlace.TheVariants.{Alone}

-- the URL as it is written, as its bytes, is a URL and extras after it, which end where it does;
-- `output` follows it
pub data IsCut (given output url : List ℕ) (names : List (List ℕ)) : Type 0 where
  bare : ((before extras : List ℕ) → ¬ SplitsExtras given before extras) → url ≡ given
      → names ≡ [] → IsCut given output url names
  with_extras : (extras : List ℕ) → SplitsExtras given url extras
      → IsExtras (chars extras ++ output) output names → IsCut given output url names

pub record IsUnnamedHead (input output given url : List ℕ) (names : List (List ℕ)) : Type 0 where
  pub written : IsUrl Alone (after_space input) output given
  pub is_cut : IsCut given output url names

-- no requirement without a name begins there
abbrev pub HasNoUnnamedHead : List ℕ → Type 0
HasNoUnnamedHead input = (output given url : List ℕ) (names : List (List ℕ))
    → ¬ IsUnnamedHead input output given url names

-- the text begins with the requirement without a name, and `rest` follows it
abbrev pub IsUnnamedHeadOf : List ℕ → declared.UnnamedHead → List ℕ → Type 0
IsUnnamedHeadOf text head rest =
    IsUnnamedHead (chars text) (chars rest) head.given.now head.url.now head.extras.items

-- a text is parsed as one in one way: the URL as it is written, the URL without its extras, the
-- extras, and where the marker begins
abbrev pub UnnamedHeadIsUnique : Type 0
UnnamedHeadIsUnique = (text rest left given written url other : List ℕ)
    (extras others : List (List ℕ))
    → IsUnnamedHead text rest given url extras → IsUnnamedHead text left written other others
    → (rest ≡ left) × (given ≡ written) × (url ≡ other) × (extras ≡ others)
