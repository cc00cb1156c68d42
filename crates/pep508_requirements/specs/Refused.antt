-- Why a text is an invalid requirement, and the error that says so.
use Rattle.std.specs.Prelude.{◌≡◌, ◌⊎◌, ℕ, ◌-◌, Bool, true, false, List, [], Option, Some, IfSome, encode_utf8_all, length, string_bytes, ⊤}
use Rattle.std.specs.Str.{chars}
use Rattle.refusal.specs.declared.Refusal.{Refusal}
use Rattle.refusal.specs.declared.Refusal.TheVariants as refusals
use Rattle.pep508_text.specs.Suffix.{span_len}
use Rattle.pep508_errors.specs.declared.error.Pep508Error.{Pep508Error}
use Rattle.pep508_errors.specs.declared.error.Pep508ErrorSource.{Pep508ErrorSource}
use Rattle.pep508_errors.specs.declared.error.Pep508ErrorSource.TheVariants as sources
use Rattle.pep508_errors.specs.declared.surroundings.Surroundings.{Surroundings}
use Rattle.marker_words.specs.Fault.{IsSpanOf}
use Rattle.pep508_markers.specs.Json.{IsStringOf, TellsNoString}
use Rattle.pep508_markers.specs.Text as markers
use Rattle.pep508_urls.specs.Variables.{value_of}
use Rattle.requirement_words.specs.declared.fault.Fault.{Fault}
use Rattle.requirement_words.specs.declared.fault.FaultKind.{FaultKind}
use Rattle.requirement_words.specs.Fault.{FindsInHead, FindsInTail}
use Rattle.requirement_words.specs.Head.{Asked, nothing, specifiers, url, IsHead}
use Rattle.requirement_words.specs.Message.{is_unsupported, message_of}
use Rattle.requirement_words.specs.Tail.{HasNoTail, IsTail}
use Rattle.pep508_requirements.specs.Requirement.{IsNoEnd, EndOverflows, IsUnread, RequirementOverflows, urls_in}

-- the bytes of the URL, empty without one
abbrev pub asked_url : Asked → List ℕ
asked_url nothing = []
asked_url (specifiers set) = []
asked_url (url text) = text

module _ {T E : Type 0} where
  -- this message, of a missing name or of another fault
  abbrev pub HasMessage : Bool → Option (List ℕ) → Pep508ErrorSource T E → Type 0
  HasMessage false said (sources.String message) = IfSome said (λ bs. string_bytes message ≡ bs)
  HasMessage false said (sources.UrlError fault) = ⊥
  HasMessage false said (sources.UnsupportedRequirement message) = ⊥
  HasMessage true said (sources.String message) = ⊥
  HasMessage true said (sources.UrlError fault) = ⊥
  HasMessage true said (sources.UnsupportedRequirement message) =
      IfSome said (λ bs. string_bytes message ≡ bs)

  -- the error of a fault: its message, its place and the text
  pub record TellsFault (text : List ℕ) (fault : Fault) (error : Pep508Error T E) : Type 0 where
    pub input : string_bytes error.input ≡ text
    pub message : HasMessage (is_unsupported fault.kind)
        (message_of fault.kind fault.place.piece.now) error.message
    pub start : error.start ≡ length text - fault.place.left
    pub len : error.len ≡ span_len fault.place

  -- one of these faults is true of the text at the error's place, and the error says so
  pub record IsErrorBy (Finds : FaultKind → List ℕ → List ℕ → Type 0) (text : List ℕ)
      (error : Pep508Error T E) : Type 0 where
    pub input : string_bytes error.input ≡ text
    pub kind : FaultKind
    pub piece : List ℕ
    pub place : IsSpanOf text piece error.start error.len
    pub found : Finds kind piece place.stands.back
    pub message : HasMessage (is_unsupported kind) (message_of kind piece) error.message

  -- this is true of the error if the refusal is a fault; there are no bounds above 2^64 - 1 here
  abbrev pub OnError : (Pep508Error T E → Type 0) → Refusal (Pep508Error T E) → Type 0
  OnError P refusals.OutOfMemory = ⊤
  OnError P refusals.SegmentAtEnd = ⊥
  OnError P (refusals.Fault error) = P error

  -- memory ran out, or the text has such a fault, and then this holds
  abbrev pub IsRefusedBy : (FaultKind → List ℕ → List ℕ → Type 0) → Type 0 → List ℕ
      → Refusal (Pep508Error T E) → Type 0
  IsRefusedBy Finds P text = OnError (λ error. IsErrorBy Finds text error × P)

  -- what is wrong with `rest` after a URL, or with its marker
  pub data IsEndError (text url rest : List ℕ) (error : Pep508Error T E) : Type 0 where
    no_tail : IsErrorBy (FindsInTail url rest) text error → HasNoTail (chars rest)
        → IsEndError text url rest error
    in_marker : {marker : List ℕ} → IsTail (chars rest) (Some marker)
        → markers.IsRefusalIn text (encode_utf8_all marker) (refusals.Fault error)
        → IsEndError text url rest error

  -- why the end of a requirement is refused
  abbrev pub IsEndRefusal : List ℕ → List ℕ → List ℕ → Refusal (Pep508Error T E) → Type 0
  IsEndRefusal text front rest refusals.OutOfMemory = ⊤
  IsEndRefusal text front rest refusals.SegmentAtEnd = EndOverflows (chars rest)
  IsEndRefusal text front rest (refusals.Fault error) =
      IsEndError text front rest error × IsNoEnd (chars rest)

  -- the error of a rejected URL, at `whole`, directly before `rest`
  pub record TellsUrl (text whole rest : List ℕ) (fault : E) (error : Pep508Error T E)
      : Type 0 where
    pub input : string_bytes error.input ≡ text
    pub message : error.message ≡ sources.UrlError fault
    pub place : IsSpanOf text whole error.start error.len
    pub before : place.stands.back ≡ rest

  -- a URL is refused only for its size
  abbrev pub is_of_size : (E → Bool) → Pep508ErrorSource T E → Bool
  is_of_size tells_size (sources.String message) = false
  is_of_size tells_size (sources.UrlError fault) = tells_size fault
  is_of_size tells_size (sources.UnsupportedRequirement message) = false

  -- over the type of URLs: which values a text has, which faults are only of size, and which texts
  -- may be too large
  module _ (names : List ℕ → T → Type 0) (tells_size : E → Bool)
      (may_overflow : List ℕ → Type 0) where
    -- the fault is one of the text of a URL
    pub record IsUrlFault (piece : List ℕ) (fault : E) : Type 0 where
      pub none : tells_size fault ≡ false → (u : T) → ¬ names piece u
      pub large : tells_size fault ≡ true → may_overflow piece

    -- the type of URLs rejects `given`, as the error says at `whole`, directly before `rest`
    pub record IsUrlError (text whole given rest : List ℕ) (error : Pep508Error T E)
        : Type 0 where
      pub fault : E
      pub told : TellsUrl text whole rest fault error
      pub fault_is : IsUrlFault given fault

    -- there is a URL, and it is rejected
    abbrev pub IsAskedError : List ℕ → Asked → List ℕ → Pep508Error T E → Type 0
    IsAskedError text nothing rest error = ⊥
    IsAskedError text (specifiers set) rest error = ⊥
    IsAskedError text (url piece) rest error = IsUrlError text piece piece rest error

    -- what is wrong with a text: up to its marker, with its URL, or after that
    pub data HasError (value : List ℕ → List ℕ) (text : List ℕ) (error : Pep508Error T E)
        : Type 0 where
      in_head : IsErrorBy (FindsInHead value text) text error → HasError value text error
      in_url : (rest : List ℕ) {name : List ℕ} {extras : List (List ℕ)} {asked : Asked}
          → IsHead (chars text) (chars rest) name extras asked
          → IsAskedError text asked rest error → HasError value text error
      in_end : (rest : List ℕ) {name : List ℕ} {extras : List (List ℕ)} {asked : Asked}
          → IsHead (chars text) (chars rest) name extras asked
          → IsEndError text (asked_url asked) rest error → HasError value text error

    -- the text is an invalid requirement, unless its URL may be too large, and the error says why
    pub record IsErrorOf (value : List ℕ → List ℕ) (text : List ℕ) (error : Pep508Error T E)
        : Type 0 where
      pub has : HasError value text error
      pub unread : is_of_size tells_size error.message ≡ false → IsUnread E names text

    -- why a text is refused as a requirement
    abbrev pub IsRefusal : (List ℕ → List ℕ) → List ℕ → Refusal (Pep508Error T E) → Type 0
    IsRefusal value text refusals.OutOfMemory = ⊤
    IsRefusal value text refusals.SegmentAtEnd = RequirementOverflows E names text
    IsRefusal value text (refusals.Fault error) = IsErrorOf value text error

    -- why no requirement is parsed from JSON: memory ran out, it is not a string, or its text is
    -- refused
    abbrev pub IsJsonRefusal : (List ℕ → List ℕ) → List ℕ → Refusal (Pep508Error T E) → Type 0
    IsJsonRefusal value json refusals.OutOfMemory = ⊤
    IsJsonRefusal value json refusals.SegmentAtEnd = (text : List ℕ) × IsStringOf json text
        × RequirementOverflows E names text
    IsJsonRefusal value json (refusals.Fault error) = TellsNoString json error
        ⊎ ((text : List ℕ) × IsStringOf json text × IsErrorOf value text error)

  -- the same in surroundings
  module _ (names : List ℕ → Surroundings → T → Type 0) (tells_size : E → Bool)
      (may_overflow : List ℕ → Surroundings → Type 0) (surroundings : Surroundings) where
    abbrev pub IsRefusalIn : List ℕ → Refusal (Pep508Error T E) → Type 0
    IsRefusalIn = IsRefusal (urls_in names surroundings) tells_size
        (λ piece. may_overflow piece surroundings) (value_of surroundings)

    abbrev pub IsAskedErrorIn : List ℕ → Asked → List ℕ → Pep508Error T E → Type 0
    IsAskedErrorIn = IsAskedError (urls_in names surroundings) tells_size
        (λ piece. may_overflow piece surroundings)

    abbrev pub IsUrlErrorIn : List ℕ → List ℕ → List ℕ → List ℕ → Pep508Error T E → Type 0
    IsUrlErrorIn = IsUrlError (urls_in names surroundings) tells_size
        (λ piece. may_overflow piece surroundings)

    abbrev pub IsJsonRefusalIn : List ℕ → Refusal (Pep508Error T E) → Type 0
    IsJsonRefusalIn = IsJsonRefusal (urls_in names surroundings) tells_size
        (λ piece. may_overflow piece surroundings) (value_of surroundings)
