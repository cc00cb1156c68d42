-- Words, and the numbers of cells.
use Rattle.std.proofs.Common.{◌≡◌, ◌≢◌, ◌<◌, ◌≤◌, ◌^◌, ◌-◌, ◌+◌, length-append, ℕ, List, [], ◌∷◌, ◌++◌, length, get_or, min, refl, sym, ap, ◌∙◌, subst, append_assoc, arith, Result, Ok, Err, Option, None, Some, ⊎_elim}
use Rattle.std.specs.Option.{MatchOption}
use Rattle.std.proofs.lemmas.Bool.{cases_lt}
use Rattle.std.proofs.lemmas.List.Elements.{All-nil, All-head, All-tail, All-from_get_or}
use Rattle.std.proofs.lemmas.Str.Pattern.{IsSplitOnceResult, split_parts}
use denote.Ref.{Bor}
use Rattle.std.specs.Str.{IsUtf8}
use Rattle.std.proofs.Math.Seq.{get_or-append_seam, drop-append-add}
use Rattle.std.proofs.lemmas.List.{map-append}
use Rattle.std.proofs.lemmas.Str.{IsUtf8-drop, IsCharBoundary-after_ascii}
use Rattle.marker_lines.specs.LineView.{texts_of}
use Rattle.std.specs.Prelude.{EachIndex, slice_index}
use Rattle.std.specs.Int.{IsInRange}
use Rattle.std.specs.Result.{OkIff, result_unwrap_or}
use Rattle.std.specs.Str.Parse.{IsNumeral, AllDigits, digits_value, ParsesUnsigned}
use Rattle.std.proofs.lemmas.Str.Parse.{IsNumeralModel, numerals_by_value, tells_by_index, tells_digits, parse_digits}
use Rattle.marker_lines.specs.Line.{HasNoSpace, with_space, Words, last, more, cell_number}

by_index : IsNumeralModel (λ ds. (i : ℕ) → i < length ds → IsInRange 48 57 (get_or ds i 0)) (digits_value 10)
by_index = numerals_by_value (λ ds. (i : ℕ) → i < length ds → IsInRange 48 57 (get_or ds i 0)) tells_by_index

by_digits : IsNumeralModel (AllDigits 10) (digits_value 10)
by_digits = numerals_by_value (AllDigits 10) tells_digits

-- a numeral, digit by digit
pub numeral_from : (bytes : List ℕ) → (0 < length bytes) × EachIndex bytes (λ k. IsInRange 48 57 (slice_index bytes k)) → IsNumeral 10 bytes
numeral_from bytes h = (h.0, by_index.to bytes h.1)

pub numeral_to : (bytes : List ℕ) → IsNumeral 10 bytes → (0 < length bytes) × EachIndex bytes (λ k. IsInRange 48 57 (slice_index bytes k))
numeral_to bytes h = (h.0, by_index.from bytes h.1)

-- a numeral has no space
pub numeral_no_space : (word : List ℕ) → IsNumeral 10 word → HasNoSpace word
numeral_no_space word n = All-from_get_or (λ (b : ℕ). b ≢ 32) word 0 (λ k h e. let r = by_index.from word n.1 k h in omega (arith, r.0, e))

min_below : (n m : ℕ) → n < m → n ≡ min n (m - 1)
min_below n m h = omega arith

min_above : (n m : ℕ) → m ≤ n → m - 1 ≡ min n (m - 1)
min_above n m h = omega arith

-- the result of `parse` for a numeral, or the greatest usize
cell_from : {E : Type 0} (bytes : List ℕ) (r : Result ℕ E) → IsNumeral 10 bytes → OkIff r ((0 < length bytes) × (digits_value 10 bytes < 2 ^ 64)) (digits_value 10 bytes) → result_unwrap_or r (2 ^ 64 - 1) ≡ cell_number bytes
cell_from bytes (Ok x) n h = h.1 ∙ min_below (digits_value 10 bytes) (2 ^ 64) h.0.1
cell_from bytes (Err e) n h = ⊎_elim (λ (below : digits_value 10 bytes < 2 ^ 64). absurd (h (n.0, below))) (λ (above : 2 ^ 64 ≤ digits_value 10 bytes). min_above (digits_value 10 bytes) (2 ^ 64) above) (cases_lt (digits_value 10 bytes) (2 ^ 64))

pub cell_read : {E : Type 0} (bytes : List ℕ) (r : Result ℕ E) → ParsesUnsigned 64 10 bytes r → IsNumeral 10 bytes → result_unwrap_or r (2 ^ 64 - 1) ≡ cell_number bytes
cell_read bytes r p n = cell_from bytes r n (parse_digits by_digits 64 bytes r p n.1)

head_same : {a b : ℕ} {as' bs : List ℕ} → a ∷ as' ≡ b ∷ bs → a ≡ b
head_same e = cc

tail_same : {a b : ℕ} {as' bs : List ℕ} → a ∷ as' ≡ b ∷ bs → as' ≡ bs
tail_same e = cc

both_same : {a b : ℕ} {as' bs : List ℕ} → a ≡ b → as' ≡ bs → a ∷ as' ≡ b ∷ bs
both_same p q = cc

not_cons : {a : ℕ} {as' : List ℕ} → [] ≡ a ∷ as' → ⊥
not_cons e = cc

no_words : {text : List ℕ} {words : List (List ℕ)} → Words text words → text ≡ [] → ⊥
no_words (last is) e = is.some e
no_words (more {word = []} parts is later) e = is.some refl
no_words (more {word = b ∷ word} parts is later) e = not_cons (sym e ∙ parts)

-- the result of `split_once` at a space
pub split_at_space : (text : List ℕ) (r : Option (Bor (List ℕ) × Bor (List ℕ))) → IsSplitOnceResult 32 text r → MatchOption r (HasNoSpace text) (λ parts. HasNoSpace parts.0.now × (text ≡ with_space parts.0.now parts.1.now))
split_at_space text None h = All-from_get_or (λ (b : ℕ). b ≢ 32) text 0 (split_parts 32 text None h (omega arith))
split_at_space text (Some x) h =
    let p = split_parts 32 text (Some x) h (omega arith) in
    (All-from_get_or (λ (b : ℕ). b ≢ 32) x.0.now 0 p.1, p.0)

-- a text with a space has one
pub spaced_has : (before after : List ℕ) → HasNoSpace (with_space before after) → ⊥
spaced_has [] after h = All-head (λ (b : ℕ). b ≢ 32) 32 after h refl
spaced_has (b ∷ before) after h = spaced_has before after (All-tail (λ (c : ℕ). c ≢ 32) b (with_space before after) h)

-- the first space is one
pub spaced_same : (w v r s : List ℕ) → HasNoSpace w → HasNoSpace v → with_space w r ≡ with_space v s → (w ≡ v) × (r ≡ s)
spaced_same [] [] r s hw hv e = (refl, tail_same e)
spaced_same [] (c ∷ v) r s hw hv e = absurd (All-head (λ (b : ℕ). b ≢ 32) c v hv (sym (head_same e)))
spaced_same (b ∷ w) [] r s hw hv e = absurd (All-head (λ (x : ℕ). x ≢ 32) b w hw (head_same e))
spaced_same (b ∷ w) (c ∷ v) r s hw hv e =
    let t = spaced_same w v r s (All-tail (λ (x : ℕ). x ≢ 32) b w hw) (All-tail (λ (x : ℕ). x ≢ 32) c v hv) (tail_same e) in
    (both_same (head_same e) t.0, t.1)

-- the words of an empty text, and of one that begins with a space
pub words_of_nothing : {words : List (List ℕ)} → Words [] words → ⊥
words_of_nothing w = no_words w refl

pub words_of_space : {text rest : List ℕ} {words : List (List ℕ)} → Words text words → text ≡ with_space [] rest → ⊥
words_of_space {rest = rest} (last is) e = spaced_has [] rest (subst HasNoSpace e is.no_space)
words_of_space {rest = rest} (more {word = word} {rest = others} parts is later) e = is.some (spaced_same word [] others rest is.no_space (All-nil (λ (b : ℕ). b ≢ 32)) (sym parts ∙ e)).0

-- the words of a text without a space
pub words_of_one : {text : List ℕ} {words : List (List ℕ)} → Words text words → HasNoSpace text → words ≡ text ∷ []
words_of_one (last is) h = refl
words_of_one (more {word = word} {rest = rest} parts is later) h = absurd (spaced_has word rest (subst HasNoSpace parts h))

-- the words of a text whose first space is here
pub words_cut : {text word rest : List ℕ} {words : List (List ℕ)} → Words text words → text ≡ with_space word rest → HasNoSpace word → (others : List (List ℕ)) × (words ≡ word ∷ others) × Words rest others
words_cut {word = word} {rest = rest} (last is) e h = absurd (spaced_has word rest (subst HasNoSpace e is.no_space))
words_cut {word = word} {rest = rest} (more {word = first} {rest = after} {words = others} parts is later) e h =
    let same = spaced_same first word after rest is.no_space h (sym parts ∙ e) in
    (others, ap (λ (x : List ℕ). x ∷ others) same.0, subst (λ (x : List ℕ). Words x others) same.1 later)

-- what follows a space is text
pub utf8_after : {text : List ℕ} (word after : List ℕ) → IsUtf8 text → text ≡ with_space word after → IsUtf8 after
utf8_after {text} word after u e =
    let whole : IsUtf8 (with_space word after) = subst IsUtf8 e u in
    let at : get_or (with_space word after) (length word) 0 ≡ 32 = get_or-append_seam word 32 after 0 in
    let long : length word < length (with_space word after) = omega (arith, length-append word (32 ∷ after)) in
    subst IsUtf8 (drop-append-add word (32 ∷ after) 1) (IsUtf8-drop (with_space word after) (length word + 1) whole (IsCharBoundary-after_ascii (with_space word after) (length word) whole long (omega arith)))

-- one more word is read
pub words_grow : {text rest after : List ℕ} {new : List (List ℕ)} (old : List (List ℕ)) (word : List ℕ) → ((others : List (List ℕ)) → Words rest others → Words text (old ++ others)) → rest ≡ with_space word after → HasNoSpace word → word ≢ [] → new ≡ old ++ (word ∷ []) → (others : List (List ℕ)) → Words after others → Words text (new ++ others)
words_grow {text} old word grows e h some told others w =
    subst (λ (x : List (List ℕ)). Words text (x ++ others)) (sym told)
    (subst (Words text) (sym (append_assoc old (word ∷ []) others)) (grows (word ∷ others) (more e (record { some = some; no_space = h }) w)))

pub words_left : {text rest after : List ℕ} (word : List ℕ) → ((all : List (List ℕ)) → Words text all → (others : List (List ℕ)) × Words rest others) → rest ≡ with_space word after → HasNoSpace word → (all : List (List ℕ)) → Words text all → (others : List (List ℕ)) × Words after others
words_left word left e h all w =
    let l = left all w in
    let cut = words_cut l.1 e h in
    (cut.0, cut.2)

-- the last word is read
pub words_end : {text rest : List ℕ} {new : List (List ℕ)} (old : List (List ℕ)) → ((others : List (List ℕ)) → Words rest others → Words text (old ++ others)) → HasNoSpace rest → rest ≢ [] → new ≡ old ++ (rest ∷ []) → Words text new
words_end {text} {rest} old grows h some told = subst (Words text) (sym told) (grows (rest ∷ []) (last (record { some = some; no_space = h })))

-- the texts with one more
pub texts-push : {new : List (Bor (List ℕ))} (old : List (Bor (List ℕ))) (word : Bor (List ℕ)) → new ≡ old ++ (word ∷ []) → texts_of new ≡ texts_of old ++ (word.now ∷ [])
texts-push old word e = ap texts_of e ∙ map-append (λ (x : Bor (List ℕ)). x.now) old (word ∷ [])

pub first_same : {a b : List ℕ} {as' bs : List (List ℕ)} → a ∷ as' ≡ b ∷ bs → a ≡ b
first_same e = cc

pub others_same : {a b : List ℕ} {as' bs : List (List ℕ)} → a ∷ as' ≡ b ∷ bs → as' ≡ bs
others_same e = cc

-- the first word and the others
pub cell_cut : {text word rest cell : List ℕ} {names : List (List ℕ)} → Words text (cell ∷ names) → text ≡ with_space word rest → HasNoSpace word → (cell ≡ word) × Words rest names
cell_cut {rest = rest} w e h =
    let cut = words_cut w e h in
    (first_same cut.1, subst (Words rest) (sym (others_same cut.1)) cut.2)

pub cell_alone : {text cell : List ℕ} {names : List (List ℕ)} → Words text (cell ∷ names) → HasNoSpace text → cell ≡ text
cell_alone w h = first_same (words_of_one w h)

pub word_alone : {text : List ℕ} → HasNoSpace text → text ≢ [] → Words text (text ∷ [])
word_alone h some = last (record { some = some; no_space = h })

pub numeral_some : {word : List ℕ} → IsNumeral 10 word → word ≢ []
numeral_some {word} n e = let z : length word ≡ 0 = ap length e in let p : 0 < length word = n.0 in omega arith

pub word_first : {text word rest : List ℕ} {words : List (List ℕ)} → text ≡ with_space word rest → HasNoSpace word → word ≢ [] → Words rest words → Words text (word ∷ words)
word_first e h some w = more e (record { some = some; no_space = h }) w

-- A text has its words in one way.
pub words_same : {text : List ℕ} {words others : List (List ℕ)} → Words text words → Words text others → words ≡ others
words_same (last is) w = sym (words_of_one w is.no_space)
words_same (more {word = word} {words = words} parts is later) w =
    let cut = words_cut w parts is.no_space in
    ap (λ (x : List (List ℕ)). word ∷ x) (words_same later cut.2) ∙ sym cut.1
