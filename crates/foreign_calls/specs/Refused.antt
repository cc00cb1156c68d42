-- What an answer says that comes without a result.
use Rattle.std.specs.Prelude.{◌≡◌, ◌≢◌, ◌⊎◌, ⊤, ℕ, List}
use Rattle.std.specs.Str.{IsUtf8}
use Rattle.refusal.specs.declared.Refusal.{Refusal}
use Rattle.refusal.specs.declared.Refusal.TheVariants as refusals
use Rattle.pep508_markers.specs.Text.{TextOverflows}
use Rattle.marker_grammar.specs.Refused.{IsNoMarker}
use Rattle.foreign_calls.specs.declared.answer.Answer.{Answer}
use Rattle.foreign_calls.specs.declared.answer.Answer.TheVariants.{Done, Invalid, OutOfMemory, BufferTooSmall, NotUtf8, NumberTooLarge, InvalidArgument, TooComplex, NoSuchMarker, Shut, NoEnvironment}

-- it says something of arguments beside the text, or that memory ran out
abbrev pub IsOfArguments : Answer → Type 0
IsOfArguments Done = ⊥
IsOfArguments Invalid = ⊥
IsOfArguments OutOfMemory = ⊤
IsOfArguments BufferTooSmall = ⊥
IsOfArguments NotUtf8 = ⊤
IsOfArguments NumberTooLarge = ⊥
IsOfArguments InvalidArgument = ⊤
IsOfArguments TooComplex = ⊥
IsOfArguments NoSuchMarker = ⊥
IsOfArguments Shut = ⊥
IsOfArguments NoEnvironment = ⊥

-- memory ran out, or the interner has no room
abbrev pub IsOutOfMemory : Answer → Type 0
IsOutOfMemory answer = (answer ≡ OutOfMemory) ⊎ (answer ≡ TooComplex)

-- the answer to a text that is refused
abbrev pub Answers : {E : Type 0} → Refusal E → Answer → Type 0
Answers refusals.OutOfMemory answer = IsOutOfMemory answer
Answers refusals.SegmentAtEnd answer = answer ≡ NumberTooLarge
Answers (refusals.Fault fault) answer = answer ≡ Invalid

-- why there is no result of a text as a marker
pub record IsMarkerRefusal (text : List ℕ) (answer : Answer) : Type 0 where
  pub not_done : answer ≢ Done
  pub not_small : answer ≢ BufferTooSmall
  pub invalid : answer ≡ Invalid → IsNoMarker text
  pub too_large : answer ≡ NumberTooLarge → TextOverflows text
