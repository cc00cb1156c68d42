-- Names in a text: a normal form parses back to itself, whatever follows that does not belong to a
-- name.
use Rattle.std.proofs.Common.{◌≡◌, ℕ, true, false, not, eqb, List, [], ◌∷◌, ◌++◌, map, IsTrue, IsSomeAnd, refl, sym, ap, ◌∙◌, subst, append_assoc, arith}
use Rattle.std.specs.Prelude.{encode_utf8_all, slice_get}
use Rattle.std.specs.Char.{is_ascii_alphanumeric, is_whitespace, to_ascii_lowercase}
use Rattle.std.specs.List.{list_all, AllByRecursion}
use Rattle.std.proofs.lemmas.Bool.{and_from, and_parts}
use Rattle.std.proofs.lemmas.Bool.Decides.{nat_tests}
use Rattle.std.proofs.lemmas.List.Folds.{list_all-append}
use Rattle.std.proofs.lemmas.Str.{encodes-IsAscii}
use Rattle.pep508_text.specs.Run.{after_space, run_of, after_run}
use Rattle.pep508_text.proofs.RunLaws.{trimmed_cons}
use Rattle.pep508_text.specs.Class.{is_name_character}
use Rattle.pep508_names.specs.Name.{NormalizesTo, word, joined}
use Rattle.pep508_names.proofs.IdentifierLaws.{names_are_identifiers}
use Rattle.requirement_words.specs.Archive.{IsArchive}
use Rattle.pep508_text.specs.Class.{holds}
use Rattle.pep508_text.specs.declared.classes.Class.{Class}
use Rattle.pep508_text.specs.declared.classes.Class.TheVariants.{NamePart}
use Rattle.requirement_words.specs.Extras.{IsNameAt, Names, last, more}
use Rattle.requirement_words.proofs.NameEnds.{name_ascii}
use Rattle.requirement_words.proofs.OpenLaws.{is_absent}
use Rattle.requirement_words.proofs.RunLaws.{run_holds, run_fails}
use Rattle.requirement_words.specs.Text.{later_names, IsNormal}

-- a run continues over what belongs to it
pub run_over : (p : Class) (w t : List ℕ) → list_all (holds p) w ≡ true → run_of p t ≡ [] → after_run p t ≡ t → (run_of p (w ++ t) ≡ w) × (after_run p (w ++ t) ≡ t)
run_over p [] t h e f = (e, f)
run_over p (c ∷ w) t h e f =
    let both = and_parts (holds p c) (list_all (holds p) w) h in
    let shorter = run_over p w t both.1 e f in
    let step = run_holds p c (w ++ t) both.0 in
    (step.0 ∙ ap (λ (x : List ℕ). c ∷ x) shorter.0, step.1 ∙ shorter.1)

first_dark : (c : ℕ) → is_ascii_alphanumeric c ≡ true → is_whitespace c ≡ false
first_dark c h = grind (arith, nat_tests)

-- a name is made of these characters, and begins with no white space
pub name_parts : (n : List ℕ) → IsNormal n → list_all is_name_character n ≡ true
name_parts n h = ((names_are_identifiers n).0 (n, h)).characters

trimmed_first : (n t : List ℕ) → IsSomeAnd (slice_get n 0) (λ c. IsTrue (is_ascii_alphanumeric c)) → after_space (n ++ t) ≡ n ++ t
trimmed_first [] t h = absurd h
trimmed_first (c ∷ n) t h = trimmed_cons c (n ++ t) (first_dark c h)

pub name_trimmed : (n t : List ℕ) → IsNormal n → after_space (n ++ t) ≡ n ++ t
name_trimmed n t h = trimmed_first n t ((names_are_identifiers n).0 (n, h)).first

pub name_at : (n t : List ℕ) → IsNormal n → run_of NamePart t ≡ [] → after_run NamePart t ≡ t → IsNameAt (after_space (n ++ t)) t n
name_at n t h none all =
    let run = run_over NamePart n t (name_parts n h) none all in
    let bytes : encode_utf8_all (run_of NamePart (n ++ t)) ≡ n = ap encode_utf8_all run.0 ∙ encodes-IsAscii n (name_ascii n (name_parts n h)) in
    let here : IsNameAt (n ++ t) t n = record { name = subst (λ (x : List ℕ). NormalizesTo x n) (sym bytes) h; rest = run.1 } in
    subst (λ (x : List ℕ). IsNameAt x t n) (sym (name_trimmed n t h)) here

-- before a character that does not belong to a name
pub name_before : (n : List ℕ) (c : ℕ) (t : List ℕ) → IsNormal n → is_name_character c ≡ false → IsNameAt (after_space (n ++ (c ∷ t))) (c ∷ t) n
name_before n c t h other = let ends = run_fails NamePart c t other in name_at n (c ∷ t) h ends.0 ends.1

-- the run of a name's characters there
pub name_run : (n t : List ℕ) → IsNormal n → run_of NamePart t ≡ [] → after_run NamePart t ≡ t → encode_utf8_all (run_of NamePart (after_space (n ++ t))) ≡ n
name_run n t h1 h2 h3 = grind (arith, name_trimmed, run_over, name_parts, encodes-IsAscii, name_ascii)

-- names with commas, and the bracket
pub names_read : (n : List ℕ) (ns : List (List ℕ)) (t : List ℕ) → IsNormal n → AllByRecursion IsNormal ns → Names (n ++ (later_names ns ++ (93 ∷ t))) t (n ∷ ns)
names_read n [] t h all = last (name_before n 93 t h refl) (trimmed_cons 93 t refl)
names_read n (m ∷ ns) t h all =
    let back : List ℕ = later_names ns ++ (93 ∷ t) in
    subst (λ (x : List ℕ). Names (n ++ (44 ∷ x)) t (n ∷ (m ∷ ns))) (sym (append_assoc m (later_names ns) (93 ∷ t)))
    (more (name_before n 44 (m ++ back) h refl) (trimmed_cons 44 (m ++ back) refl) (names_read m ns t all.0 all.1))

-- ---- a normal form has no dot

lower_no_dot : (c : ℕ) → is_ascii_alphanumeric c ≡ true → not (eqb (to_ascii_lowercase c) 46) ≡ true
lower_no_dot c h = grind (arith, nat_tests)

word_no_dot : (w : List ℕ) → list_all is_ascii_alphanumeric w ≡ true → is_absent 46 (map to_ascii_lowercase w) ≡ true
word_no_dot [] h = refl
word_no_dot (c ∷ w) h =
    let parts = and_parts (is_ascii_alphanumeric c) (list_all is_ascii_alphanumeric w) h in
    and_from _ _ (lower_no_dot c parts.0) (word_no_dot w parts.1)

normal_no_dot : {t n : List ℕ} → NormalizesTo t n → is_absent 46 n ≡ true
normal_no_dot (word {w = w} h) = word_no_dot w h.alphanumeric
normal_no_dot (joined {w = w} {n = n} h r g) = grind (arith, list_all-append, not, eqb, map, and_from, word_no_dot, normal_no_dot g)

no_dot_before : (before back : List ℕ) → is_absent 46 (before ++ (46 ∷ back)) ≡ true → ⊥
no_dot_before before back h1 = grind (arith, and_parts, is_absent, list_all-append, not, eqb)

-- so it is not the name of an archive
pub normal_no_archive : (n : List ℕ) → IsNormal n → ¬ IsArchive n
normal_no_archive n h1 = grind (arith, no_dot_before, is_absent, normal_no_dot)
