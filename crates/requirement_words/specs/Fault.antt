-- What is wrong with a text that lacks the words of requirements, and where. Each relation says
-- when a kind of fault is true: `piece` is at its place, and `back` is from there to the end of the
-- text, both as bytes; the rest of a text before it is a list of characters.
use Rattle.std.specs.Prelude.{◌≡◌, ◌≢◌, ℕ, ⊤, Bool, true, false, not, List, [], ◌∷◌, ◌++◌, ◌||◌, ◌==◌, ◌⊎◌, encode_utf8, encode_utf8_all}
use Rattle.std.specs.Char.{is_ascii_alphanumeric, is_whitespace}
use Rattle.std.specs.Str.{chars}
use Rattle.refusal.specs.declared.Refusal.{Refusal}
use Rattle.refusal.specs.declared.Refusal.TheVariants as refusals
use Rattle.pep440_specifier.specs.Fault.{IsToldOf}
use Rattle.pep440_specifier.specs.Grammar.{IsSpecifierText}
use Rattle.pep440_specifier.specs.Specifier as specifiers
use Rattle.pep440_specifier.specs.declared.error.VersionSpecifierError.{VersionSpecifierError}
use Rattle.pep508_text.specs.Class.{is_comparison, is_separator}
use Rattle.pep508_text.specs.Run.{after_run, after_space, run_of}
use Rattle.pep508_text.specs.Suffix.{IsPiece, IsSuffix}
use Rattle.pep508_text.specs.declared.classes.Class.TheVariants.{NamePart, NotSpace}
use Rattle.pep508_urls.specs.Extras.{SplitsExtras}
use Rattle.requirement_words.specs.Archive.{IsArchive}
use Rattle.requirement_words.specs.Extras.{HasNoExtras, HasNoName, IsNameAt, IsExtras}
use Rattle.requirement_words.specs.Head.{begins_specifier, HasNoAsked, HasNoAskedIn, HasNoHead, IsBare, IsUrl, written_name}
use Rattle.requirement_words.specs.Nameless.{NamesNoPackage}
use Rattle.requirement_words.specs.Specifiers.{HasNoSpecifiers, piece_of, after_piece}
use Rattle.requirement_words.specs.Unnamed.{HasNoUnnamedHead}
use Rattle.requirement_words.specs.Url.{begins_space, url_of}
use Rattle.requirement_words.specs.declared.url.UrlPlace.TheVariants.{Alone, BehindName}
use Rattle.requirement_words.specs.declared.fault.Fault.{Fault}
use Rattle.requirement_words.specs.declared.fault.FaultKind.{FaultKind}
use Rattle.requirement_words.specs.declared.fault.FaultKind.TheVariants.{Blank, NoName, NameEnd, NoBody, LeadingComma, NoSeparator, NoExtra, InvalidExtra, ExtraEnd, UnclosedBracket, UnclosedParenthesis, Specifier, NoUrl, AmbiguousEnd, Trailing, PathWithoutName, UrlWithoutName, ArchiveWithoutName}

-- the piece begins at this rest of the text
abbrev pub IsHere : List ℕ → List ℕ → List ℕ → Type 0
IsHere left piece back = chars (piece ++ back) ≡ left

-- the piece is one character, of which this is true
pub record IsCharacter (piece : List ℕ) (P : ℕ → Type 0) : Type 0 where
  pub c : ℕ
  pub is : piece ≡ encode_utf8 c
  pub holds : P c

abbrev pub begins_name : List ℕ → Bool
begins_name [] = false
begins_name (c ∷ cs) = is_ascii_alphanumeric c

-- what begins as a name ends with a separator, and the piece is this one
pub record EndsNoName (here piece : List ℕ) : Type 0 where
  pub front : List ℕ
  pub c : ℕ
  pub begins : begins_name here ≡ true
  pub ends : run_of NamePart here ≡ front ++ c ∷ []
  pub is : piece ≡ encode_utf8 c
  pub separator : is_separator c ≡ true

-- ---- extras: 44 is `,`, 91 and 93 are the brackets

-- these names follow the bracket, each with a comma after it, and another may be here
pub data Listed (inside : List ℕ) : List (List ℕ) → List ℕ → Type 0 where
  none : Listed inside [] (after_space inside)
  more : {names : List (List ℕ)} {here rest next n : List ℕ} → Listed inside names here
      → IsNameAt here rest n → after_space rest ≡ 44 ∷ next
      → Listed inside (names ++ n ∷ []) (after_space next)

-- a name is in the brackets, and this follows it
pub record IsBehindExtra (inside rest : List ℕ) : Type 0 where
  pub names : List (List ℕ)
  pub here : List ℕ
  pub n : List ℕ
  pub listed : Listed inside names here
  pub named : IsNameAt here rest n

-- no name begins with the character, and directly after the bracket it is neither comma nor bracket
pub record BeginsNoExtra (names : List (List ℕ)) (c : ℕ) : Type 0 where
  pub no_letter : is_ascii_alphanumeric c ≡ false
  pub no_comma : names ≡ [] → c ≢ 44
  pub no_bracket : names ≡ [] → c ≢ 93

-- what may follow the name of an extra: a comma, the bracket or white space
abbrev pub may_follow_extra : ℕ → Bool
may_follow_extra c = c == 44 || (c == 93 || is_whitespace c)

-- that, or the end of the text
abbrev pub ends_extra : List ℕ → Bool
ends_extra [] = true
ends_extra (c ∷ cs) = may_follow_extra c

-- the text ends before or after a name
pub data IsCutOff (inside : List ℕ) : Type 0 where
  before_name : {names : List (List ℕ)} {here : List ℕ} → Listed inside names here → here ≡ []
      → IsCutOff inside
  behind_name : {names : List (List ℕ)} {here rest n : List ℕ} → Listed inside names here
      → IsNameAt here rest n → after_space rest ≡ [] → IsCutOff inside

-- what is wrong with extras in brackets
pub data FindsInExtras : List ℕ → FaultKind → List ℕ → List ℕ → Type 0 where
  -- a comma comes first
  leading_comma : {inside piece back : List ℕ} → IsHere (after_space inside) piece back
      → piece ≡ 44 ∷ [] → FindsInExtras (91 ∷ inside) LeadingComma piece back
  -- a name may be here, and another character is
  no_extra : {inside here piece back : List ℕ} {names : List (List ℕ)} → Listed inside names here
      → IsHere here piece back → IsCharacter piece (BeginsNoExtra names)
      → FindsInExtras (91 ∷ inside) NoExtra piece back
  -- another character directly follows those of a name
  invalid_extra : {inside here piece back : List ℕ} {names : List (List ℕ)}
      → Listed inside names here → begins_name here ≡ true
      → IsHere (after_run NamePart here) piece back
      → IsCharacter piece (λ c. may_follow_extra c ≡ false)
      → FindsInExtras (91 ∷ inside) InvalidExtra piece back
  -- a separator is the last of them
  extra_end : {inside here piece back : List ℕ} {names : List (List ℕ)}
      → Listed inside names here → EndsNoName here piece → chars back ≡ after_run NamePart here
      → ends_extra (chars back) ≡ true → FindsInExtras (91 ∷ inside) ExtraEnd piece back
  -- neither a comma nor the bracket follows a name and white space
  no_separator : {inside here rest n piece back : List ℕ} {names : List (List ℕ)}
      → Listed inside names here → IsNameAt here rest n → begins_space rest ≡ true
      → IsHere (after_space rest) piece back → IsCharacter piece (λ c. (c ≢ 44) × (c ≢ 93))
      → FindsInExtras (91 ∷ inside) NoSeparator piece back
  -- the bracket is never closed
  unclosed : {inside piece back : List ℕ} → IsHere (91 ∷ inside) piece back → piece ≡ 91 ∷ []
      → IsCutOff inside → FindsInExtras (91 ∷ inside) UnclosedBracket piece back

-- ---- versions or URL: 40 and 41 are the parentheses, 64 is `@`, 59 is `;`

-- specifiers are at the front of a text, each with a comma after it, and then this is left
pub data Preceded (end : ℕ) (input : List ℕ) : List ℕ → Type 0 where
  none : Preceded end input input
  more : {left next : List ℕ} {s : specifiers.Specifier} → Preceded end input left
      → IsSpecifierText (piece_of end left) s → after_piece end left ≡ 44 ∷ next
      → Preceded end input next

-- a piece between commas is an invalid specifier, and this is what is wrong with it
pub data FindsInSpecifiers (end : ℕ) (input : List ℕ) : FaultKind → List ℕ → List ℕ → Type 0 where
  no_specifier : {left piece back : List ℕ} {error : VersionSpecifierError}
      → Preceded end input left → IsHere left piece back → piece ≡ piece_of end left
      → ((s : specifiers.Specifier) → ¬ IsSpecifierText piece s) → IsToldOf error piece
      → FindsInSpecifiers end input (Specifier error) piece back

-- what is wrong with the versions or URL
pub data FindsInAsked : List ℕ → FaultKind → List ℕ → List ℕ → Type 0 where
  -- no URL follows `@`
  no_url : {behind piece back : List ℕ} → IsHere (after_space behind) piece back → piece ≡ []
      → url_of BehindName 0 (after_space behind) ≡ []
      → FindsInAsked (64 ∷ behind) NoUrl piece back
  -- the parenthesis is never closed: the last piece is the rest of the text
  unclosed : {behind left piece back : List ℕ} → IsHere (40 ∷ behind) piece back
      → piece ≡ 40 ∷ [] → Preceded 41 (after_space behind) left → after_piece 41 left ≡ []
      → FindsInAsked (40 ∷ behind) UnclosedParenthesis piece back
  -- a specifier in parentheses, which ends before the text does
  enclosed : {behind piece back : List ℕ} {kind : FaultKind}
      → FindsInSpecifiers 41 (after_space behind) kind piece back → back ≢ []
      → FindsInAsked (40 ∷ behind) kind piece back
  -- a specifier without them
  bare : {input piece back : List ℕ} {kind : FaultKind} → begins_specifier input ≡ true
      → FindsInSpecifiers 59 input kind piece back → FindsInAsked input kind piece back

-- ---- the whole, up to its marker

-- the run without white space at the place of the name
abbrev pub run_at_name : List ℕ → List ℕ
run_at_name text = encode_utf8_all (run_of NotSpace (after_space (chars text)))

-- what may follow a name and its extras: `@`, `(`, a specifier, or `;`
abbrev pub may_follow_name : ℕ → Bool
may_follow_name c = c == 64 || (c == 40 || (c == 59 || is_comparison c))

-- a name and extras are read, and `behind` is what follows them and white space
pub record IsBehindExtras (text behind : List ℕ) : Type 0 where
  pub after_name : List ℕ
  pub after_extras : List ℕ
  pub name : List ℕ
  pub extras : List (List ℕ)
  pub named : IsNameAt (after_space (chars text)) after_name name
  pub extras_are : IsExtras (after_space after_name) after_extras extras
  pub behind_is : after_space after_extras ≡ behind

-- the end of the text that follows a name, extras and white space
pub record FollowsExtras (text behind : List ℕ) : Type 0 where
  pub extras : IsBehindExtras text (chars behind)
  pub inside : IsSuffix text behind

-- the name and the extras are followed by a character with which nothing of a requirement begins
pub record IsBroken (text : List ℕ) : Type 0 where
  pub c : ℕ
  pub others : List ℕ
  pub behind : IsBehindExtras text (c ∷ others)
  pub no_body : may_follow_name c ≡ false

-- what is wrong with a requirement up to its marker; `value` has the values of variables
pub data FindsInHead (value : List ℕ → List ℕ) (text : List ℕ)
    : FaultKind → List ℕ → List ℕ → Type 0 where
  -- nothing but white space: its first character, or the end of an empty text
  blank : {piece back : List ℕ} → after_space (chars text) ≡ [] → text ≡ piece ++ back
      → (text ≡ []) ⊎ IsCharacter piece (λ c. ⊤) → FindsInHead value text Blank piece back
  -- another character is in place of a name, and no path or URL
  no_name : {piece back : List ℕ} → IsHere (after_space (chars text)) piece back
      → IsCharacter piece (λ c. is_ascii_alphanumeric c ≡ false)
      → ¬ NamesNoPackage value (run_at_name text) → FindsInHead value text NoName piece back
  -- a path or URL with which no name begins is in place of a name
  unnamed_path : {piece back : List ℕ} → IsHere (after_space (chars text)) piece back
      → piece ≡ run_at_name text → NamesNoPackage value piece
      → begins_name (after_space (chars text)) ≡ false
      → FindsInHead value text PathWithoutName piece back
  -- the last character of the name is a separator
  name_end : {piece back : List ℕ} → EndsNoName (after_space (chars text)) piece
      → chars back ≡ after_run NamePart (after_space (chars text))
      → FindsInHead value text NameEnd piece back
  -- the extras after the name
  extras : {after_name name piece back : List ℕ} {kind : FaultKind}
      → IsNameAt (after_space (chars text)) after_name name
      → FindsInExtras (after_space after_name) kind piece back
      → FindsInHead value text kind piece back
  -- another character follows the name and the extras, and the whole is not a path or URL
  no_body : {piece back : List ℕ} → IsBehindExtras text (chars (piece ++ back))
      → IsCharacter piece (λ c. may_follow_name c ≡ false)
      → ¬ NamesNoPackage value (run_at_name text) → FindsInHead value text NoBody piece back
  -- it is one
  unnamed_url : {piece back : List ℕ} → IsHere (after_space (chars text)) piece back
      → piece ≡ run_at_name text → NamesNoPackage value piece → IsBroken text
      → FindsInHead value text UrlWithoutName piece back
  -- the name is that of an archive, without versions or URL
  unnamed_archive : {behind piece back : List ℕ} → IsHere (after_space (chars text)) piece back
      → piece ≡ written_name (chars text) → IsArchive piece → IsBehindExtras text behind
      → IsBare behind → FindsInHead value text ArchiveWithoutName piece back
  -- the versions or URL after the name and the extras
  asked : {behind piece back : List ℕ} {kind : FaultKind} → IsBehindExtras text behind
      → FindsInAsked behind kind piece back → FindsInHead value text kind piece back

-- what is wrong with a requirement without a name, up to its marker
pub data FindsInUnnamed (text : List ℕ) : FaultKind → List ℕ → List ℕ → Type 0 where
  -- there is no URL
  no_url : {piece back : List ℕ} → IsHere (after_space (chars text)) piece back → piece ≡ []
      → url_of Alone 0 (after_space (chars text)) ≡ [] → FindsInUnnamed text NoUrl piece back
  -- the extras at the end of the URL
  extras : {given url written rest piece back : List ℕ} {kind : FaultKind}
      → IsUrl Alone (after_space (chars text)) rest given → SplitsExtras given url written
      → FindsInExtras (chars written ++ rest) kind piece back
      → FindsInUnnamed text kind piece back

-- ---- its end: 35 is `#`

-- white space, and then neither the end nor the marker's `;`
abbrev pub goes_on : List ℕ → Bool
goes_on [] = false
goes_on (c ∷ cs) = not (c == 59)

-- the text ends with the character
pub record EndsWithMark (text piece : List ℕ) : Type 0 where
  pub front : List ℕ
  pub joined : text ≡ front ++ piece
  pub mark : (piece ≡ 59 ∷ []) ⊎ (piece ≡ 35 ∷ [])

-- what is wrong with `rest` after a URL, as it is written
pub data FindsInTail (url rest : List ℕ) : FaultKind → List ℕ → List ℕ → Type 0 where
  -- the URL ends with `;` or `#`, and no marker follows
  ambiguous : {piece back : List ℕ} → EndsWithMark url piece → back ≡ rest
      → goes_on (after_space (chars rest)) ≡ true → FindsInTail url rest AmbiguousEnd piece back
  -- another character is in place of the end or a marker
  trailing : {piece back : List ℕ} → IsHere (after_space (chars rest)) piece back
      → IsCharacter piece (λ c. c ≢ 59) → ((mark : List ℕ) → ¬ EndsWithMark url mark)
      → FindsInTail url rest Trailing piece back

-- ---- faults of a text

-- the text has a fault of this kind, and this is found there
pub record IsFaultAt (Finds : FaultKind → List ℕ → List ℕ → Type 0) (text : List ℕ)
    (kind : FaultKind) (piece : List ℕ) (left : ℕ) : Type 0 where
  pub place : IsPiece text piece left
  pub found : Finds kind piece place.back

abbrev pub IsFaultBy : (FaultKind → List ℕ → List ℕ → Type 0) → List ℕ → Fault → Type 0
IsFaultBy Finds text fault = IsFaultAt Finds text fault.kind fault.place.piece.now fault.place.left

-- the fault is one of the extras in brackets at the front of the text
abbrev pub IsExtrasFault : List ℕ → Fault → Type 0
IsExtrasFault text = IsFaultBy (FindsInExtras (chars text)) text

-- of the specifiers at its front
abbrev pub IsSpecifiersFault : ℕ → List ℕ → Fault → Type 0
IsSpecifiersFault end text = IsFaultBy (FindsInSpecifiers end (chars text)) text

-- of the versions or URL at its front
abbrev pub IsAskedFault : List ℕ → Fault → Type 0
IsAskedFault text = IsFaultBy (FindsInAsked (chars text)) text

-- of the requirement that it begins with, up to its marker
abbrev pub IsFault : (List ℕ → List ℕ) → List ℕ → Fault → Type 0
IsFault value text = IsFaultBy (FindsInHead value text) text

-- of the requirement without a name
abbrev pub IsUnnamedFault : List ℕ → Fault → Type 0
IsUnnamedFault text = IsFaultBy (FindsInUnnamed text) text

-- of the end of a requirement
abbrev pub IsTailFault : List ℕ → List ℕ → Fault → Type 0
IsTailFault url rest = IsFaultBy (FindsInTail url rest) (url ++ rest)

-- ---- refusals

-- memory ran out, or the text has such a fault, and then this holds
abbrev pub IsRefused : (Fault → Type 0) → Type 0 → Refusal Fault → Type 0
IsRefused IsFaulty P refusals.OutOfMemory = ⊤
IsRefused IsFaulty P refusals.SegmentAtEnd = ⊥
IsRefused IsFaulty P (refusals.Fault fault) = IsFaulty fault × P

-- the text begins with no extras
abbrev pub RefusesExtras : List ℕ → Refusal Fault → Type 0
RefusesExtras text = IsRefused (IsExtrasFault text) (HasNoExtras (chars text))

-- with no specifiers
abbrev pub RefusesSpecifiers : ℕ → List ℕ → Refusal Fault → Type 0
RefusesSpecifiers end text =
    IsRefused (IsSpecifiersFault end text) (HasNoSpecifiers end (chars text))

-- without the versions or URL of a requirement
abbrev pub RefusesAsked : List ℕ → Refusal Fault → Type 0
RefusesAsked text = IsRefused (IsAskedFault text) (HasNoAsked (chars text))

-- with no name
abbrev pub RefusesName : (List ℕ → List ℕ) → List ℕ → Refusal Fault → Type 0
RefusesName value text = IsRefused (IsFault value text) (HasNoName (after_space (chars text)))

-- with a name and extras that no versions or URL follow
abbrev pub RefusesAskedIn : (List ℕ → List ℕ) → List ℕ → List ℕ → Refusal Fault → Type 0
RefusesAskedIn value text behind =
    IsRefused (IsFault value text) (HasNoAskedIn (chars text) (chars behind))

-- with no requirement
abbrev pub RefusesHead : (List ℕ → List ℕ) → List ℕ → Refusal Fault → Type 0
RefusesHead value text = IsRefused (IsFault value text) (HasNoHead (chars text))

-- with no requirement without a name
abbrev pub RefusesUnnamed : List ℕ → Refusal Fault → Type 0
RefusesUnnamed text = IsRefused (IsUnnamedFault text) (HasNoUnnamedHead (chars text))
