-- A requirement up to its marker: a name, extras, and version specifiers, a URL, or neither (PEP
-- 508, "Grammar"). Each relation goes from the text before a part to the rest after it; texts are
-- lists of characters.
use Rattle.std.specs.Prelude.{◌≡◌, ◌≢◌, ℕ, Bool, true, false, List, [], ◌∷◌, ◌++◌, encode_utf8_all}
use Rattle.std.specs.Str.{chars}
use Rattle.pep508_text.specs.Class.{is_comparison}
use Rattle.pep508_text.specs.Suffix.{IsSuffix}
use Rattle.pep508_text.specs.Run.{after_space, run_of}
use Rattle.pep440_specifier.specs.Specifier.{Specifier}
use Rattle.requirement_words.specs.Archive.{IsArchive}
use Rattle.requirement_words.specs.Extras.{IsNameAt, IsExtras}
use Rattle.requirement_words.specs.Specifiers.{IsSpecifiers}
use Rattle.requirement_words.specs.Url.{url_of, after_url}
use Rattle.requirement_words.specs.declared.head.Asked as declared
use Rattle.requirement_words.specs.declared.head.Head as declared_head
use Rattle.requirement_words.specs.declared.head.Asked.TheVariants as variants
use Rattle.pep508_text.specs.declared.classes.Class.TheVariants.{NamePart}
use Rattle.requirement_words.specs.declared.url.UrlPlace.{UrlPlace}
use Rattle.requirement_words.specs.declared.url.UrlPlace.TheVariants.{BehindName}

-- the versions or URL of a requirement: nothing, specifiers as a set, or the text of a URL, as its
-- bytes
pub data Asked : Type 0 where
  nothing : Asked
  specifiers : List Specifier → Asked
  url : List ℕ → Asked

abbrev pub asked_of : declared.Asked → Asked
asked_of variants.Nothing = nothing
asked_of (variants.Specifiers set) = specifiers set
asked_of (variants.Url text) = url text.now

-- the text of a URL, which is not empty
pub record IsUrl (place : UrlPlace) (input output text : List ℕ) : Type 0 where
  pub text_is : text ≡ encode_utf8_all (url_of place 0 input)
  pub some : url_of place 0 input ≢ []
  pub rest : after_url place 0 input ≡ output

abbrev pub begins_specifier : List ℕ → Bool
begins_specifier [] = false
begins_specifier (c ∷ cs) = is_comparison c

-- the text ends, or its marker begins: 59 is `;`
pub data IsBare : List ℕ → Type 0 where
  ended : IsBare []
  marked : {output : List ℕ} → IsBare (59 ∷ output)

-- 64 is `@`; 40 and 41 are the parentheses
pub data IsAsked : List ℕ → List ℕ → Asked → Type 0 where
  left_out : {input : List ℕ} → IsBare input → IsAsked input input nothing
  at_url : {input output text : List ℕ} → IsUrl BehindName (after_space input) output text
      → IsAsked (64 ∷ input) output (url text)
  bare : {input output : List ℕ} {set : List Specifier} → begins_specifier input ≡ true
      → IsSpecifiers 59 input output set → IsAsked input output (specifiers set)
  enclosed : {input output : List ℕ} {set : List Specifier}
      → IsSpecifiers 41 (after_space input) (41 ∷ output) set
      → IsAsked (40 ∷ input) output (specifiers set)

-- the name at the front of a text, after white space, as it is written
abbrev pub written_name : List ℕ → List ℕ
written_name input = encode_utf8_all (run_of NamePart (after_space input))

-- the versions or URL after the name and the extras of a text; without any, the name as it is
-- written is not that of an archive
pub record IsAskedIn (text behind output : List ℕ) (asked : Asked) : Type 0 where
  pub asks : IsAsked behind output asked
  pub no_archive : asked ≡ nothing → ¬ IsArchive (written_name text)

-- a name, extras and versions or URL, with any white space before each
pub record IsHead (input output : List ℕ) (name : List ℕ) (extras : List (List ℕ)) (asked : Asked)
    : Type 0 where
  pub after_name : List ℕ
  pub after_extras : List ℕ
  pub named : IsNameAt (after_space input) after_name name
  pub extras_are : IsExtras (after_space after_name) after_extras extras
  pub asks : IsAskedIn input (after_space after_extras) output asked

-- the text begins with no versions or URL of a requirement
abbrev pub HasNoAsked : List ℕ → Type 0
HasNoAsked input = (output : List ℕ) (asked : Asked) → ¬ IsAsked input output asked

abbrev pub HasNoAskedIn : List ℕ → List ℕ → Type 0
HasNoAskedIn text behind = (output : List ℕ) (asked : Asked) → ¬ IsAskedIn text behind output asked

-- no requirement begins there
abbrev pub HasNoHead : List ℕ → Type 0
HasNoHead input = (output name : List ℕ) (extras : List (List ℕ)) (asked : Asked)
    → ¬ IsHead input output name extras asked

-- the URL of a requirement is in the text, as bytes, directly before the rest
abbrev pub IsPlaced : List ℕ → Asked → List ℕ → Type 0
IsPlaced text asked rest = (piece : List ℕ) → asked ≡ url piece → IsSuffix text (piece ++ rest)

-- the text begins with the requirement, and `rest` follows it
abbrev pub IsHeadOf : List ℕ → declared_head.Head → List ℕ → Type 0
IsHeadOf text head rest =
    IsHead (chars text) (chars rest) head.name head.extras.items (asked_of head.asked)

-- a text is parsed as a requirement in one way: its name, its extras, versions or URL, and where
-- its marker begins
abbrev pub HeadIsUnique : Type 0
HeadIsUnique = (text rest left name other : List ℕ) (extras others : List (List ℕ))
    (asked wanted : Asked)
    → IsHead text rest name extras asked → IsHead text left other others wanted
    → (rest ≡ left) × (name ≡ other) × (extras ≡ others) × (asked ≡ wanted)
