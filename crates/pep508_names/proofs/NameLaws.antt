-- Laws of names and their normal forms.
use Rattle.std.proofs.Common.{◌≡◌, ◌<◌, ℕ, Bool, true, false, List, [], ◌∷◌, ◌++◌, map, get_or, if◌then◌else◌, nat_lt, zero, suc, refl, sym, ap, subst, ◌∙◌, arith}
use Rattle.std.proofs.lemmas.Bool.{and_parts, and_from, lt-ltb, ltb-true}
use Rattle.std.proofs.lemmas.Bool.Decides.{nat_tests}
use Rattle.std.proofs.lemmas.List.Folds.{list_all-append}
use Rattle.std.proofs.lemmas.Str.{IsUtf8-from_ascii}
use Rattle.std.specs.Char.{is_ascii_alphanumeric, to_ascii_lowercase}
use Rattle.std.specs.List.{list_all}
use Rattle.std.specs.Str.{IsAscii, IsUtf8}
use Rattle.pep508_text.specs.Class.{is_separator}
use Rattle.pep508_names.specs.Name.{IsWord, IsRun, NormalizesTo, word, joined}

-- ---- characters

pub separator-alphanumeric : (c : ℕ) → is_separator c ≡ true → is_ascii_alphanumeric c ≡ false
separator-alphanumeric c h = grind (arith, nat_tests)

pub alphanumeric-separator : (c : ℕ) → is_ascii_alphanumeric c ≡ true → is_separator c ≡ false
alphanumeric-separator c h = grind (arith, nat_tests)

pub lowercase-alphanumeric : (c : ℕ) → is_ascii_alphanumeric c ≡ true → is_ascii_alphanumeric (to_ascii_lowercase c) ≡ true
lowercase-alphanumeric c h = grind (arith, nat_tests)

pub lowercase-lowercase : (c : ℕ) → to_ascii_lowercase (to_ascii_lowercase c) ≡ to_ascii_lowercase c
lowercase-lowercase c = grind (arith, nat_tests)

pub lowercase-small : (c : ℕ) → is_ascii_alphanumeric c ≡ true → to_ascii_lowercase c < 128
lowercase-small c h = grind (arith, nat_tests)

-- ---- what one pass makes of a text

-- the text with its letters lowercase and each run of separators one `-`; `follows` says that the
-- character before is a separator
abbrev pub squeeze : Bool → List ℕ → List ℕ
squeeze follows [] = []
squeeze follows (c ∷ cs) =
    if is_separator c then (if follows then squeeze true cs else 45 ∷ squeeze true cs) else to_ascii_lowercase c ∷ squeeze false cs

pub squeeze-separator : (c : ℕ) (cs : List ℕ) → is_separator c ≡ true → squeeze false (c ∷ cs) ≡ 45 ∷ squeeze true cs
squeeze-separator c cs h = rw h

pub squeeze-next_separator : (c : ℕ) (cs : List ℕ) → is_separator c ≡ true → squeeze true (c ∷ cs) ≡ squeeze true cs
squeeze-next_separator c cs h = rw h

pub squeeze-other : (follows : Bool) (c : ℕ) (cs : List ℕ) → is_separator c ≡ false → squeeze follows (c ∷ cs) ≡ to_ascii_lowercase c ∷ squeeze false cs
squeeze-other follows c cs h = rw h

squeeze-letters : (w rest : List ℕ) → list_all is_ascii_alphanumeric w ≡ true → squeeze false (w ++ rest) ≡ map to_ascii_lowercase w ++ squeeze false rest
squeeze-letters [] rest h = refl
squeeze-letters (c ∷ w) rest h =
    let parts = and_parts (is_ascii_alphanumeric c) (list_all is_ascii_alphanumeric w) h in
    squeeze-other false c (w ++ rest) (alphanumeric-separator c parts.0) ∙ ap (λ l. to_ascii_lowercase c ∷ l) (squeeze-letters w rest parts.1)

squeeze-word : (follows : Bool) (w rest : List ℕ) → IsWord w → squeeze follows (w ++ rest) ≡ map to_ascii_lowercase w ++ squeeze false rest
squeeze-word follows [] rest h = absurd (h.nonempty refl)
squeeze-word follows (c ∷ w) rest h = grind (arith, and_parts, squeeze-other, alphanumeric-separator, squeeze-letters)

squeeze-separators : (s rest : List ℕ) → list_all is_separator s ≡ true → squeeze true (s ++ rest) ≡ squeeze true rest
squeeze-separators [] rest h = refl
squeeze-separators (c ∷ s) rest h =
    let parts = and_parts (is_separator c) (list_all is_separator s) h in
    squeeze-next_separator c (s ++ rest) parts.0 ∙ squeeze-separators s rest parts.1

squeeze-run : (s rest : List ℕ) → IsRun s → squeeze false (s ++ rest) ≡ 45 ∷ squeeze true rest
squeeze-run [] rest h = absurd (h.nonempty refl)
squeeze-run (c ∷ s) rest h = grind (arith, and_parts, squeeze-separator, squeeze-separators)

pub append-nil : (w : List ℕ) → w ++ [] ≡ w
append-nil [] = refl
append-nil (c ∷ w) = ap (λ l. c ∷ l) (append-nil w)

-- the pass makes a name's normal form of it
pub squeeze-name : (follows : Bool) (t n : List ℕ) → NormalizesTo t n → squeeze follows t ≡ n
squeeze-name follows t n (word {w} h) =
    ap (squeeze follows) (sym (append-nil w)) ∙ squeeze-word follows w [] h ∙ append-nil (map to_ascii_lowercase w)
squeeze-name follows t n (joined {w} {s} {t = t'} {n = n'} h r rest) =
    squeeze-word follows w (s ++ t') h ∙ ap (λ l. map to_ascii_lowercase w ++ l) (squeeze-run s t' r ∙ ap (λ l. 45 ∷ l) (squeeze-name true t' n' rest))

-- a name has one normal form
pub normal_form-unique : (t m n : List ℕ) → NormalizesTo t m → NormalizesTo t n → m ≡ n
normal_form-unique t m n g h = sym (squeeze-name false t m g) ∙ squeeze-name false t n h

-- ---- normalizing twice is once

lowercase-letters : (w : List ℕ) → list_all is_ascii_alphanumeric w ≡ true → list_all is_ascii_alphanumeric (map to_ascii_lowercase w) ≡ true
lowercase-letters [] h = refl
lowercase-letters (c ∷ w) h =
    let parts = and_parts (is_ascii_alphanumeric c) (list_all is_ascii_alphanumeric w) h in
    and_from (is_ascii_alphanumeric (to_ascii_lowercase c)) (list_all is_ascii_alphanumeric (map to_ascii_lowercase w)) (lowercase-alphanumeric c parts.0) (lowercase-letters w parts.1)

lowercase-word : (w : List ℕ) → IsWord w → IsWord (map to_ascii_lowercase w)
lowercase-word [] h = absurd (h.nonempty refl)
lowercase-word (c ∷ w) h = record { nonempty = λ e. cc; alphanumeric = lowercase-letters (c ∷ w) h.alphanumeric }

lowercase-twice : (w : List ℕ) → map to_ascii_lowercase (map to_ascii_lowercase w) ≡ map to_ascii_lowercase w
lowercase-twice [] = refl
lowercase-twice (c ∷ w) = λ i. lowercase-lowercase c i ∷ lowercase-twice w i

dash_run : IsRun (45 ∷ [])
dash_run = record { nonempty = λ e. cc; separators = refl }

-- a normal form is its own normal form
pub normal_form-own : (t n : List ℕ) → NormalizesTo t n → NormalizesTo n n
normal_form-own t n (word {w} h) =
    subst (λ (m : List ℕ). NormalizesTo (map to_ascii_lowercase w) m) (lowercase-twice w) (word (lowercase-word w h))
normal_form-own t n (joined {w} {s} {t = t'} {n = n'} h r rest) =
    subst (λ (m : List ℕ). NormalizesTo (map to_ascii_lowercase w ++ (45 ∷ n')) (m ++ (45 ∷ n'))) (lowercase-twice w)
    (joined (lowercase-word w h) dash_run (normal_form-own t' n' rest))

-- ---- a normal form is ASCII

small_letters : (w : List ℕ) → list_all is_ascii_alphanumeric w ≡ true → list_all (λ c. nat_lt c 128) (map to_ascii_lowercase w) ≡ true
small_letters [] h = refl
small_letters (c ∷ w) h =
    let parts = and_parts (is_ascii_alphanumeric c) (list_all is_ascii_alphanumeric w) h in
    and_from (nat_lt (to_ascii_lowercase c) 128) (list_all (λ c. nat_lt c 128) (map to_ascii_lowercase w)) (lt-ltb _ _ (lowercase-small c parts.0)) (small_letters w parts.1)

normal_form-small : (t n : List ℕ) → NormalizesTo t n → list_all (λ c. nat_lt c 128) n ≡ true
normal_form-small t n (word {w} h) = small_letters w h.alphanumeric
normal_form-small t n (joined {w} {s} {t = t'} {n = n'} h r rest) = grind (arith, list_all-append, nat_lt, map, and_from, small_letters, normal_form-small t' n' rest)

small-ascii : (bs : List ℕ) → list_all (λ c. nat_lt c 128) bs ≡ true → (i : ℕ) → get_or bs i 0 < 128
small-ascii [] h i = omega arith
small-ascii (c ∷ bs) h zero = ltb-true c 128 (and_parts (nat_lt c 128) (list_all (λ c. nat_lt c 128) bs) h).0
small-ascii (c ∷ bs) h (suc i) = small-ascii bs (and_parts (nat_lt c 128) (list_all (λ c. nat_lt c 128) bs) h).1 i

pub normal_form-IsAscii : (t n : List ℕ) → NormalizesTo t n → IsAscii n
normal_form-IsAscii t n h = small-ascii n (normal_form-small t n h)

pub normal_form-IsUtf8 : (t n : List ℕ) → NormalizesTo t n → IsUtf8 n
normal_form-IsUtf8 t n h = IsUtf8-from_ascii n (normal_form-IsAscii t n h)
