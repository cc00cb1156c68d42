-- The operator at the front of a text is the longest run of its characters.
use Rattle.std.proofs.Common.{◌≡◌, ◌==◌, ◌++◌, ℕ, zero, suc, ◌+◌, ◌*◌, ◌<◌, true, false, List, [], ◌∷◌, length, take, drop, refl, sym, ap, ◌∙◌, arith, inl, inr, get_or, subst}
use Rattle.std.specs.Prelude.{IsUtf8, if◌then◌else◌}
use Rattle.std.specs.List.{prefix_len}
use Rattle.std.specs.Str.{IsCharBoundary}
use Rattle.std.proofs.lemmas.Bool.{cases_Bool}
use Rattle.std.proofs.lemmas.Bool.Decides.{nat_tests}
use Rattle.std.proofs.lemmas.List.Sums.{prefix_len-le-length, prefix_len_passes}
use Rattle.std.proofs.lemmas.Str.{IsCharBoundary-after_ascii, IsCharBoundary-start}
use Rattle.pep440_specifier.specs.declared.operator.Operator.{Operator}
use Rattle.pep440_specifier.specs.declared.operator.Operator.TheVariants.{Equal, EqualStar, ExactEqual, NotEqual, NotEqualStar, TildeEqual, LessThan, LessThanEqual, GreaterThan, GreaterThanEqual}
use Rattle.pep440_specifier.specs.Grammar.{IsOperatorBefore, begins_operator, is_operator_byte}
use Rattle.pep440_specifier.specs.Operator.{is_star, operator_text}

abbrev run_len : List ℕ → ℕ
run_len t = prefix_len is_operator_byte t

-- ---- the text may be cut after the run

operator_byte-ascii : (b : ℕ) → is_operator_byte b ≡ true → b < 128
operator_byte-ascii b h = grind (arith, nat_tests)

boundary_at : (t : List ℕ) → IsUtf8 t → (n : ℕ) → run_len t ≡ n → IsCharBoundary t n
boundary_at t u zero e = IsCharBoundary-start t u
boundary_at t u (suc n) e =
    let fits = prefix_len-le-length is_operator_byte t in
    let byte = prefix_len_passes is_operator_byte t n 0 (omega (arith, e)) in
    let small = operator_byte-ascii (get_or t n 0) byte in
    let next : n + 1 ≡ suc n = omega arith in
    subst (IsCharBoundary t) next (IsCharBoundary-after_ascii t n u (omega (arith, e, fits)) small)

pub run_boundary : (t : List ℕ) → IsUtf8 t → IsCharBoundary t (run_len t)
run_boundary t u = boundary_at t u (run_len t) refl

-- ---- the run

-- nothing that begins an operator follows the run
pub after_run_stops : (t : List ℕ) → begins_operator (drop (run_len t) t) ≡ false
after_run_stops [] = refl
after_run_stops (b ∷ t) = elim (cases_Bool (is_operator_byte b)) [
  | inl e ↦ let next : 1 + run_len t ≡ suc (run_len t) = omega arith in rw (e, next) (after_run_stops t)
  | inr e ↦ rw e e
]

-- the run of an operator that nothing makes longer is the operator
pub run_operator : (operator : Operator) (rest : List ℕ) → begins_operator rest ≡ false → run_len (operator_text operator ++ rest) ≡ length (operator_text operator)
run_operator operator rest h1 = grind arith

take_front : (s rest : List ℕ) → take (length s) (s ++ rest) ≡ s
take_front [] rest = refl
take_front (b ∷ s) rest = ap (λ (z : List ℕ). b ∷ z) (take_front s rest)

drop_front : (s rest : List ℕ) → drop (length s) (s ++ rest) ≡ rest
drop_front [] rest = refl
drop_front (b ∷ s) rest = drop_front s rest

take_drop : (n : ℕ) (t : List ℕ) → take n t ++ drop n t ≡ t
take_drop zero t = refl
take_drop (suc n) [] = refl
take_drop (suc n) (b ∷ t) = ap (λ (z : List ℕ). b ∷ z) (take_drop n t)

-- an operator at the front is the run, and what follows is what follows the run
pub before_run : (t : List ℕ) (operator : Operator) (rest : List ℕ) → IsOperatorBefore t operator rest
    → (take (run_len t) t ≡ operator_text operator) × (drop (run_len t) t ≡ rest)
before_run t operator rest h1 = grind (arith, run_operator, take_front, drop_front)

-- the run is an operator at the front if it is one at all
pub run_before : (t : List ℕ) (operator : Operator) → take (run_len t) t ≡ operator_text operator → is_star operator ≡ false → IsOperatorBefore t operator (drop (run_len t) t)
run_before t operator h1 h2 = grind (arith, take_drop, drop, after_run_stops)

-- ---- no two operators are written alike

-- the first byte and the length distinguish the operators
abbrev key : List ℕ → ℕ
key t = get_or t 0 0 * 10 + length t

abbrev operator_at : ℕ → Operator
operator_at n =
    if n == 612 then Equal
    else if n == 613 then ExactEqual
    else if n == 332 then NotEqual
    else if n == 1262 then TildeEqual
    else if n == 601 then LessThan
    else if n == 602 then LessThanEqual
    else if n == 621 then GreaterThan
    else GreaterThanEqual

told_by_key : (operator : Operator) → is_star operator ≡ false → operator_at (key (operator_text operator)) ≡ operator
told_by_key Equal h = refl
told_by_key EqualStar h = cc h
told_by_key ExactEqual h = refl
told_by_key NotEqual h = refl
told_by_key NotEqualStar h = cc h
told_by_key TildeEqual h = refl
told_by_key LessThan h = refl
told_by_key LessThanEqual h = refl
told_by_key GreaterThan h = refl
told_by_key GreaterThanEqual h = refl

pub written_alike : (a b : Operator) → is_star a ≡ false → is_star b ≡ false → operator_text a ≡ operator_text b → a ≡ b
written_alike a b h k e = sym (told_by_key a h) ∙ ap (λ (t : List ℕ). operator_at (key t)) e ∙ told_by_key b k

-- the operator of the run is the one at the front, and what follows the run follows it
pub only_run : (t : List ℕ) (a : Operator) → take (run_len t) t ≡ operator_text a → is_star a ≡ false
    → (b : Operator) (rest : List ℕ) → IsOperatorBefore t b rest → (a ≡ b) × (drop (run_len t) t ≡ rest)
only_run t a h1 h2 b rest h3 = grind (arith, before_run, written_alike)

-- which operator is at the front of a text, and that there is no other
pub ruleset operator_at_front = (run_boundary, run_before, only_run, before_run)
