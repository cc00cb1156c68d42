-- The columns of the characters that end within a number of bytes.
use Rattle.std.proofs.Common.{◌≡◌, ℕ, ◌+◌, ◌-◌, ◌*◌, ◌<◌, ◌≤◌, true, nat_le, List, [], ◌∷◌, ◌++◌, length, ap, ◌∙◌, arith, length-append}
use Rattle.std.specs.Prelude.{encode_utf8}
use Rattle.std.specs.Char.{len_utf8}
use Rattle.std.specs.Str.{chars}
use Rattle.std.proofs.lemmas.Bool.{cases_lt, cond-true}
use Rattle.std.proofs.lemmas.Bool.Decides.{nat_tests}
use Rattle.std.proofs.lemmas.List.Sums.{sum_by-cons}
use Rattle.std.proofs.lemmas.Str.{len_utf8_ascii, length-encode}
use Rattle.unicode_width.specs.Width.{char_width}
use Rattle.unicode_width.proofs.Rules.{width_or_zero-le}
use Rattle.pep508_errors.specs.Underline.{column_width, columns, columns_before, ending_within}

-- an ASCII character takes one column at most
ascii_width : (c : ℕ) → c < 128 → column_width c ≤ 1
unfolding char_width
ascii_width c small = grind (arith, nat_tests)

-- any other has two bytes at least
two_bytes : (c : ℕ) → 128 ≤ c → 2 ≤ len_utf8 c
two_bytes c wide = grind (arith, nat_tests)

-- no character takes more columns than twice its bytes
pub column_width-le : (c : ℕ) → column_width c ≤ 2 * len_utf8 c
column_width-le c = grind (arith, ascii_width, len_utf8_ascii, width_or_zero-le, two_bytes, cases_lt)

-- a character that ends within the bytes counts, and those after it count within the bytes that are
-- left
counted_one : (n c : ℕ) (cs : List ℕ) → len_utf8 c ≤ n → columns (ending_within n (c ∷ cs)) ≡ column_width c + columns (ending_within (n - len_utf8 c) cs)
counted_one n c cs fits =
    let test : nat_le (len_utf8 c) n ≡ true = grind (arith, nat_tests) in
    ap columns (cond-true (nat_le (len_utf8 c) n) (c ∷ ending_within (n - len_utf8 c) cs) [] test)
    ∙ sum_by-cons column_width c (ending_within (n - len_utf8 c) cs)

-- one more character of the rest is counted
pub counted_more : (rest after : List ℕ) (whole total left size c width : ℕ) → whole ≡ total + columns_before rest left → chars rest ≡ c ∷ chars after → size ≡ len_utf8 c → size ≤ left → width ≡ column_width c → whole ≡ total + width + columns_before after (left - size)
counted_more rest after whole total left size c width h1 h2 h3 h4 h5 = grind (arith, counted_one)

-- the count stays below twice the bytes
pub counted_below : (rest after : List ℕ) (total bound c width : ℕ) → total + 2 * length rest ≤ bound → rest ≡ encode_utf8 c ++ after → width ≡ column_width c → total + width + 2 * length after ≤ bound
counted_below rest after total bound c width h1 h2 h3 = grind (arith, length, length-append, length-encode, column_width-le)
