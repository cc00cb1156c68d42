-- The faults that the reader finds itself.
use Rattle.std.proofs.Common.{◌≡◌, ◌≢◌, ℕ, Bool, true, false, List, [], ◌∷◌, ◌++◌, length, Some, sym, ap, ◌∙◌, arith}
use Rattle.std.specs.Prelude.{encode_utf8, IsUtf8, slice_get, ◌&&◌}
use Rattle.std.specs.Str.{chars}
use Rattle.std.proofs.Math.Utf8.{scalars}
use Rattle.std.proofs.lemmas.List.{append-nil}
use Rattle.std.proofs.lemmas.Str.{scalars-chars}
use Rattle.marker_words.specs.Fault.{IsFaultAt, HasNoSpace}
use Rattle.marker_grammar.specs.Refused.{IsMarker}
use Rattle.marker_words.specs.Keyword.{NoKeyword}
use Rattle.marker_words.specs.declared.fault.FaultKind.TheVariants.{Unexpected}
use Rattle.marker_words.proofs.FaultLaws.{fault_in_front}

second_of : (a b : Bool) → (a && b) ≡ true → b ≡ true
second_of true b p = p
second_of false b p = absurd cc

last_scalar : (xs : List ℕ) (c : ℕ) → scalars (xs ++ (c ∷ [])) ≡ true → scalars (c ∷ []) ≡ true
last_scalar [] c p = p
last_scalar (x ∷ xs) c p = last_scalar xs c (second_of _ _ p)

-- the last character of a text is a text
pub last_utf8 : (text front : List ℕ) (c : ℕ) → IsUtf8 text → chars text ≡ chars front ++ (c ∷ []) → IsUtf8 (encode_utf8 c)
last_utf8 text front c utf8 e = ((c ∷ []), (last_scalar (chars front) c (ap scalars (sym e) ∙ scalars-chars text utf8), append-nil (encode_utf8 c)))

-- a text with a character in place of a keyword
pub unexpected_at : (text piece others : List ℕ) (c last : ℕ) → IsUtf8 text → text ≡ encode_utf8 c ++ others → text ≡ piece ++ encode_utf8 last → chars text ≡ chars piece ++ (last ∷ []) → HasNoSpace text → NoKeyword (chars text) → IsFaultAt IsMarker text (Unexpected c) piece (length text)
unexpected_at text piece others c last h1 h2 h3 h4 h5 h6 = grind (arith, fault_in_front, length, last_utf8)

-- another character than the one that a text does not begin with
pub other_first : (text others : List ℕ) (c awaited : ℕ) → ((rest : List ℕ) → text ≢ awaited ∷ rest) → text ≡ c ∷ others → c ≢ awaited
other_first text others c awaited none begins same = none others (begins ∙ ap (λ (x : ℕ). x ∷ others) same)

-- a text that begins with a character is not empty
pub begins_some : (cs : List ℕ) (c : ℕ) → slice_get cs 0 ≡ Some c → (rest : List ℕ) × (cs ≡ c ∷ rest)
begins_some [] c e = absurd cc
begins_some (d ∷ cs) c e = let same : d ≡ c = cc in (cs, ap (λ (x : ℕ). x ∷ cs) same)
