-- The columns before a place between two characters are those of the text's front.
use Rattle.std.proofs.Common.{◌≡◌, ℕ, ◌+◌, ◌-◌, ◌^◌, ◌<◌, ◌≤◌, nat_le, nat_lt, min, List, [], ◌∷◌, ◌++◌, length, take, drop, replicate, refl, sym, ap, ◌∙◌, arith, length-append, IsUtf8}
use Rattle.std.specs.Prelude.{encode_utf8_all}
use Rattle.std.specs.Char.{len_utf8}
use Rattle.std.specs.Str.{chars, IsCharBoundary}
use Rattle.std.proofs.Math.Nat.{min-eq_left}
use Rattle.std.proofs.Math.Seq.{take-append-add}
use Rattle.std.proofs.lemmas.Bool.{cases_lt, cond-true, cond-false, le-leb, lt-leb}
use Rattle.std.proofs.lemmas.List.{append-nil, length-take-le, take-append-drop}
use Rattle.std.proofs.lemmas.List.Sums.{sum_by-append}
use Rattle.std.proofs.lemmas.Str.{chars-append, encodes-chars, length-encode, len_utf8_bounds, IsUtf8-take}
use Rattle.pep508_errors.specs.Underline.{column_width, columns, columns_before, carets, ending_within, underline}

-- within the bytes of a front, and some more, end the characters of the front, and those after it
-- that end within the rest
front_within : (front back : List ℕ) (more : ℕ) → ending_within (length (encode_utf8_all front) + more) (front ++ back) ≡ front ++ ending_within more back
front_within [] back more = ap (λ n. ending_within n back) (omega arith)
front_within (c ∷ cs) back more = grind (arith, length, length-append, length-encode, cond-true, nat_le, le-leb, front_within cs back more)

-- no character ends within no bytes
none_within : (cs : List ℕ) → ending_within 0 cs ≡ []
none_within [] = refl
none_within (c ∷ cs) = cond-false (nat_le (len_utf8 c) 0) (c ∷ ending_within (0 - len_utf8 c) cs) [] (lt-leb (len_utf8 c) 0 (omega (arith, len_utf8_bounds c)))

-- the characters before a place between two characters are those of the front
pub columns_before_boundary : (text : List ℕ) (place : ℕ) → IsUtf8 text → IsCharBoundary text place → columns_before text place ≡ columns (chars (take place text))
columns_before_boundary text place utf8 boundary =
    let front = take place text in
    let back = drop place text in
    let front_utf8 : IsUtf8 front = IsUtf8-take text place utf8 boundary in
    let parts : chars text ≡ chars front ++ chars back = ap chars (sym (take-append-drop place text)) ∙ chars-append front back front_utf8 in
    let size : length (encode_utf8_all (chars front)) ≡ place = ap length (encodes-chars front front_utf8) ∙ length-take-le place text boundary.0 in
    let bytes : place ≡ length (encode_utf8_all (chars front)) + 0 = omega (arith, size) in
    ap (λ cs. columns (ending_within place cs)) parts
    ∙ ap (λ n. columns (ending_within n (chars front ++ chars back))) bytes
    ∙ ap columns (front_within (chars front) (chars back) 0 ∙ ap (λ ds. chars front ++ ds) (none_within (chars back)) ∙ append-nil (chars front))

-- the whole text is before the end, and before a place past it
pub columns_before_end : (text : List ℕ) (place : ℕ) → IsUtf8 text → length text ≤ place → columns_before text place ≡ columns (chars text)
columns_before_end text place utf8 past =
    let size : length (encode_utf8_all (chars text)) ≡ length text = ap length (encodes-chars text utf8) in
    let bytes : place ≡ length (encode_utf8_all (chars text)) + (place - length text) = omega (arith, size) in
    ap (λ cs. columns (ending_within place cs)) (sym (append-nil (chars text)))
    ∙ ap (λ n. columns (ending_within n (chars text ++ []))) bytes
    ∙ ap columns (front_within (chars text) [] (place - length text) ∙ append-nil (chars text))

-- a place that does not fit 64 bits is past the end of a text too
pub columns_before_capped : (text : List ℕ) (place : ℕ) → IsUtf8 text → length text < 2 ^ 64 → columns_before text (min place (2 ^ 64 - 1)) ≡ columns_before text place
columns_before_capped text place h1 h2 = grind (arith, min-eq_left, min, columns_before_end, cases_lt)

-- the carets as the code counts them, whose end is a number of 64 bits
pub carets_counted : (text : List ℕ) (start len end up_to before : ℕ) → IsUtf8 text → length text < 2 ^ 64 → start < length text → end ≡ min (start + len) (2 ^ 64 - 1) → up_to ≡ columns_before text end → before ≡ columns_before text start → up_to - before ≡ carets text start len
carets_counted text start len end up_to before h1 h2 h3 h4 h5 h6 = grind (arith, columns_before_capped, cond-true, nat_lt, length, le-leb)

-- a span between two places has the columns of its characters
pub columns_of_span : (text : List ℕ) (start len : ℕ) → IsUtf8 text → IsCharBoundary text start → IsCharBoundary text (start + len) → columns_before text (start + len) ≡ columns (chars (take start text)) + columns (chars (take len (drop start text)))
columns_of_span text start len utf8 begins ends =
    let front = take start text in
    let span = take len (drop start text) in
    let size : length front ≡ start = length-take-le start text begins.0 in
    let joined : take (start + len) text ≡ front ++ span =
    ap (λ n. take (n + len) text) (sym size) ∙ ap (take (length front + len)) (sym (take-append-drop start text)) ∙ take-append-add front (drop start text) len in
    columns_before_boundary text (start + len) utf8 ends
    ∙ ap (λ bytes. columns (chars bytes)) joined
    ∙ ap columns (chars-append front span (IsUtf8-take text start utf8 begins))
    ∙ sum_by-append column_width (chars front) (chars span)

pub underline_within : (text : List ℕ) (start len : ℕ) → IsUtf8 text → start < length text → IsCharBoundary text start → IsCharBoundary text (start + len) → underline text start len ≡ replicate (columns (chars (take start text))) 32 ++ replicate (columns (chars (take len (drop start text)))) 94
underline_within text start len h1 h2 h3 h4 = grind (arith, take, columns_before_boundary, columns_of_span, drop, cond-true, nat_lt, length, le-leb, replicate)

pub underline_at_end : (text : List ℕ) (start len : ℕ) → IsUtf8 text → length text ≤ start → underline text start len ≡ replicate (columns (chars text)) 32 ++ 94 ∷ []
underline_at_end text start len h1 h2 = grind (arith, columns_before_end, cond-false, nat_lt, length, lt-leb, replicate)
