-- Places in what is left of a text are places in the text.
use Rattle.std.proofs.Common.{◌≡◌, ℕ, ◌+◌, ◌-◌, ◌<◌, ◌≤◌, cond, eqb, List, [], ◌∷◌, ◌++◌, length, get_or, drop, zero, suc, refl, sym, ap, ◌∙◌, subst, append_assoc, arith, length-append, IsUtf8}
use Rattle.std.specs.Prelude.{encode_utf8}
use Rattle.std.specs.Str.{IsAscii, IsCharBoundary}
use Rattle.std.proofs.lemmas.List.{append-nil, append_cancel_right, drop_at}
use Rattle.std.proofs.lemmas.Str.{encode_ascii, IsUtf8-append, IsUtf8-from_ascii, IsUtf8-nil, IsCharBoundary-at_seam}
use Rattle.std.proofs.lemmas.Bool.{cases_lt, eq-eqb}
use Rattle.std.proofs.lemmas.Bool.Decides.{nat_tests}
use Rattle.std.proofs.Math.Seq.{get_or-append_seam}
use Rattle.pep508_text.specs.Suffix.{IsSuffix, IsPiece, StandsAt, IsSpan}

pub suffix_self : (t : List ℕ) → IsUtf8 t → IsSuffix t t
suffix_self t utf8 = record { front = []; joined = refl; utf8 = utf8 }

pub suffix_nil : (t : List ℕ) → IsSuffix t []
suffix_nil t = record { front = t; joined = sym (append-nil t); utf8 = IsUtf8-nil }

-- the end of an end is an end
pub suffix_then : {a b c : List ℕ} → IsSuffix a b → IsSuffix b c → IsSuffix a c
suffix_then {c = c} s t = record { front = s.front ++ t.front; joined = s.joined ∙ ap (λ (x : List ℕ). s.front ++ x) t.joined ∙ sym (append_assoc s.front t.front c); utf8 = t.utf8 }

pub suffix_length : {a b : List ℕ} → IsSuffix a b → length b ≤ length a
suffix_length {a} {b} s = omega (arith, ap length s.joined, length-append s.front b)

-- what is left begins on a boundary of the text
pub suffix_begins : {t rest : List ℕ} → IsSuffix t rest → IsCharBoundary t (length t - length rest)
suffix_begins {t} {rest} s =
    let here : length s.front ≡ length t - length rest = omega (arith, ap length s.joined, length-append s.front rest) in
    subst (IsCharBoundary t) here (IsCharBoundary-at_seam t s.front rest s.joined s.utf8)

-- a piece begins within the text, and ends there too
pub piece_fits : {t piece : List ℕ} {left : ℕ} → IsPiece t piece left → (left ≤ length t) × (length piece ≤ left)
piece_fits h1 = grind (arith, length, length-append)

-- where it begins, counted from the front
pub piece_start : {t piece : List ℕ} {left : ℕ} → (p : IsPiece t piece left) → length p.begins.front ≡ length t - left
piece_start p = grind (arith, length, length-append)

-- a piece is in the text at its place
pub piece_stands : {t piece : List ℕ} {left : ℕ} → IsPiece t piece left → StandsAt t piece (length t - left)
piece_stands p = record { front = p.begins.front; back = p.back; joined = p.begins.joined; start_is = piece_start p }

-- a piece begins and ends on boundaries of the text
pub piece_begins : {t piece : List ℕ} {left : ℕ} → IsPiece t piece left → IsCharBoundary t (length t - left)
piece_begins {t} {piece} {left} p =
    subst (IsCharBoundary t) (piece_start p) (IsCharBoundary-at_seam t p.begins.front (piece ++ p.back) p.begins.joined p.begins.utf8)

pub piece_ends : {t piece : List ℕ} {left : ℕ} → IsPiece t piece left → IsCharBoundary t (length t - left + length piece)
piece_ends {t} {piece} {left} p =
    let joined : t ≡ (p.begins.front ++ piece) ++ p.back = p.begins.joined ∙ sym (append_assoc p.begins.front piece p.back) in
    let here : length (p.begins.front ++ piece) ≡ length t - left + length piece = length-append p.begins.front piece ∙ ap (λ (n : ℕ). n + length piece) (piece_start p) in
    subst (IsCharBoundary t) here (IsCharBoundary-at_seam t (p.begins.front ++ piece) p.back joined p.ends)

-- the span of a piece: the piece itself, or the length 1 at the end of the text
pub span_of_piece : {t piece : List ℕ} {left len : ℕ} → IsPiece t piece left → (0 < left → len ≡ length piece) → (left ≡ 0 → len ≡ 1) → IsSpan t (length t - left) len
span_of_piece h1 h2 h3 = grind (arith, cases_lt, length, piece_fits, piece_begins, piece_ends)

pub len_inside : (left n : ℕ) → 0 < left → cond (eqb left 0) 1 n ≡ n
len_inside left n inside = grind (arith, nat_tests)

len_ended : (left n : ℕ) → left ≡ 0 → cond (eqb left 0) 1 n ≡ 1
len_ended left n ended = ap (λ b. cond b 1 n) (eq-eqb left 0 ended)

-- the span of a place's piece
pub spanned : {t piece : List ℕ} {left : ℕ} → IsPiece t piece left → IsSpan t (length t - left) (cond (eqb left 0) 1 (length piece))
spanned {piece = piece} {left = left} place = span_of_piece place (len_inside left (length piece)) (len_ended left (length piece))

-- the piece before the same rest
pub same_front : (text piece front rest : List ℕ) → text ≡ piece ++ rest → text ≡ front ++ rest → piece ≡ front
same_front text piece front rest e f = append_cancel_right piece front rest (sym e ∙ f)

-- ---- the last character of a run

last_index : (run front : List ℕ) (c : ℕ) → run ≡ front ++ (c ∷ []) → length run - 1 ≡ length front
last_index run front c joined = omega (arith, ap length joined, length-append front (c ∷ []))

-- it begins between two characters if it is ASCII
pub last_begins : (run front : List ℕ) (c : ℕ) → run ≡ front ++ (c ∷ []) → c < 128 → IsCharBoundary run (length run - 1)
last_begins run front c h1 h2 = grind (arith, last_index, get_or, length, get_or-append_seam, length-append)

pub last_is : (run front : List ℕ) (c : ℕ) → run ≡ front ++ (c ∷ []) → drop (length run - 1) run ≡ c ∷ []
last_is run front c h1 = grind (arith, drop, last_index, length, drop_at)

-- and with what follows it is the end of a text
pub last_suffix : (text run front rest piece : List ℕ) (c : ℕ) → text ≡ run ++ rest → IsSuffix text rest → run ≡ front ++ (c ∷ []) → c < 128
    → piece ≡ drop (length run - 1) run → IsSuffix text (piece ++ rest)
last_suffix text run front rest piece c cut suffix joined ascii piece_is =
    let one : piece ≡ c ∷ [] = piece_is ∙ last_is run front c joined in
    let here : run ≡ front ++ piece = joined ∙ ap (λ (x : List ℕ). front ++ x) (sym one) in
    let utf8 : IsUtf8 piece = subst IsUtf8 (encode_ascii c ascii ∙ sym one) (IsUtf8-one c ascii) in
    record { front = front; joined = cut ∙ ap (λ (x : List ℕ). x ++ rest) here ∙ append_assoc front piece rest; utf8 = IsUtf8-append piece rest utf8 suffix.utf8 }
  where
    none_else : (c : ℕ) → c < 128 → IsAscii (c ∷ [])
    none_else c h zero = h
    none_else c h (suc i) = omega arith

    IsUtf8-one : (c : ℕ) → c < 128 → IsUtf8 (encode_utf8 c)
    IsUtf8-one c h = subst IsUtf8 (sym (encode_ascii c h)) (IsUtf8-from_ascii (c ∷ []) (none_else c h))
