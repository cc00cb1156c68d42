-- A text is a name exactly if it is an identifier in PEP 508.
use Rattle.std.proofs.Common.{◌≡◌, ◌&&◌, ◌-◌, ◌↔◌, ℕ, Bool, true, false, List, [], ◌∷◌, ◌++◌, Option, length, slice_get, IsTrue, IsSomeAnd, suc, refl, sym, ap, subst, ◌∙◌, inl, inr, arith, append_assoc}
use Rattle.std.proofs.lemmas.Bool.{and_parts, and_from, or_cases, cases_Bool}
use Rattle.std.proofs.lemmas.List.Folds.{list_all-append}
use Rattle.std.specs.Char.{is_ascii_alphanumeric, to_ascii_lowercase}
use Rattle.std.specs.List.{list_all}
use Rattle.pep508_text.specs.Class.{is_separator, is_name_character}
use Rattle.pep508_names.specs.Name.{IsWord, IsRun, NormalizesTo, word, joined, IsName, IsIdentifier}
use Rattle.pep508_names.proofs.NameLaws.{squeeze, squeeze-separator, squeeze-next_separator, squeeze-other, alphanumeric-separator, separator-alphanumeric}

-- letters, digits and separators, with a letter or digit at the end; `ok` says whether the text may end here
abbrev pub closes : Bool → List ℕ → Bool
closes ok [] = ok
closes ok (d ∷ ds) = is_name_character d && closes (is_ascii_alphanumeric d) ds

-- ---- what closes is a name

grow_word : (c : ℕ) (t n : List ℕ) → is_ascii_alphanumeric c ≡ true → NormalizesTo t n → NormalizesTo (c ∷ t) (to_ascii_lowercase c ∷ n)
grow_word c t n a (word {w} h) =
    word {w = c ∷ w} (record { nonempty = λ e. cc; alphanumeric = and_from _ _ a h.alphanumeric })
grow_word c t n a (joined {w} {s} {t = t'} {n = n'} h r rest) =
    joined {w = c ∷ w} (record { nonempty = λ e. cc; alphanumeric = and_from _ _ a h.alphanumeric }) r rest

one_word : (c : ℕ) → is_ascii_alphanumeric c ≡ true → IsWord (c ∷ [])
one_word c a = record { nonempty = λ e. cc; alphanumeric = and_from _ _ a refl }

one_run : (d : ℕ) → is_separator d ≡ true → IsRun (d ∷ [])
one_run d h = record { nonempty = λ e. cc; separators = and_from _ _ h refl }

longer_run : (s : List ℕ) (d : ℕ) → IsRun s → is_separator d ≡ true → IsRun (s ++ d ∷ [])
longer_run [] d r h = absurd (r.nonempty refl)
longer_run (c ∷ s) d r h = grind (arith, list_all-append, and_from)

other_character : (d : ℕ) → is_name_character d ≡ true → is_ascii_alphanumeric d ≡ false → is_separator d ≡ true
other_character d h other = elim (or_cases (is_ascii_alphanumeric d) (is_separator d) h) [ inl alphanumeric ↦ cc | inr separates ↦ separates ]

-- what follows a letter or digit, and what follows a run of separators after it
record Grows (rest : List ℕ) : Type 0 where
  pub after_word : (c : ℕ) → is_ascii_alphanumeric c ≡ true → closes true rest ≡ true → NormalizesTo (c ∷ rest) (to_ascii_lowercase c ∷ squeeze false rest)
  pub after_run : (c : ℕ) (s : List ℕ) → is_ascii_alphanumeric c ≡ true → IsRun s → closes false rest ≡ true
      → NormalizesTo (c ∷ (s ++ rest)) (to_ascii_lowercase c ∷ (45 ∷ squeeze true rest))

grows_word : (d : ℕ) (ds : List ℕ) → is_ascii_alphanumeric d ≡ true → closes true ds ≡ true → Grows ds → Grows (d ∷ ds)
grows_word d ds alphanumeric closed h =
    let name : NormalizesTo (d ∷ ds) (to_ascii_lowercase d ∷ squeeze false ds) = h.after_word d alphanumeric closed in
    let apart = alphanumeric-separator d alphanumeric in
    record {
      after_word = λ c a k. subst (λ (m : List ℕ). NormalizesTo (c ∷ (d ∷ ds)) (to_ascii_lowercase c ∷ m)) (sym (squeeze-other false d ds apart)) (grow_word c _ _ a name);
      after_run = λ c s a r k. subst (λ (m : List ℕ). NormalizesTo (c ∷ (s ++ (d ∷ ds))) (to_ascii_lowercase c ∷ (45 ∷ m))) (sym (squeeze-other true d ds apart))
          (joined (one_word c a) r name);
    }

grows_run : (d : ℕ) (ds : List ℕ) → is_separator d ≡ true → closes false ds ≡ true → Grows ds → Grows (d ∷ ds)
grows_run d ds separates closed h = record {
  after_word = λ c a k. subst (λ (m : List ℕ). NormalizesTo (c ∷ (d ∷ ds)) (to_ascii_lowercase c ∷ m)) (sym (squeeze-separator d ds separates))
      (h.after_run c (d ∷ []) a (one_run d separates) closed);
  after_run = λ c s a r k. subst (λ (m : List ℕ). NormalizesTo (c ∷ m) (to_ascii_lowercase c ∷ (45 ∷ squeeze true (d ∷ ds)))) (append_assoc s (d ∷ []) ds)
      (subst (λ (m : List ℕ). NormalizesTo (c ∷ ((s ++ d ∷ []) ++ ds)) (to_ascii_lowercase c ∷ (45 ∷ m))) (sym (squeeze-next_separator d ds separates))
      (h.after_run c (s ++ d ∷ []) a (longer_run s d r separates) closed));
}

nothing_grows : Grows []
nothing_grows = record {
  after_word = λ c a k. word (one_word c a);
  after_run = λ c s a r k. cc;
}

no_growth : (d : ℕ) (ds : List ℕ) → ((ok : Bool) → closes ok (d ∷ ds) ≡ true → ⊥) → Grows (d ∷ ds)
no_growth d ds never = record {
  after_word = λ c a k. absurd (never true k);
  after_run = λ c s a r k. absurd (never false k);
}

all_grow : (rest : List ℕ) → Grows rest
all_grow [] = nothing_grows
all_grow (d ∷ ds) =
    elim (cases_Bool (is_name_character d && closes (is_ascii_alphanumeric d) ds)) [
      | inl closed ↦
          let parts = and_parts (is_name_character d) (closes (is_ascii_alphanumeric d) ds) closed in
          elim (cases_Bool (is_ascii_alphanumeric d)) [
            | inl begins ↦ grows_word d ds begins (subst (λ (ok : Bool). closes ok ds ≡ true) begins parts.1) (all_grow ds)
            | inr other ↦ grows_run d ds (other_character d parts.0 other) (subst (λ (ok : Bool). closes ok ds ≡ true) other parts.1) (all_grow ds)
          ]
      | inr unclosed ↦ no_growth d ds (λ ok k. cc)
    ]

-- ---- what closes, in the words of PEP 508

last_later : (d e : ℕ) (es : List ℕ) → slice_get (d ∷ (e ∷ es)) (length (d ∷ (e ∷ es)) - 1) ≡ slice_get (e ∷ es) (length (e ∷ es) - 1)
last_later d e es = let step : length (d ∷ (e ∷ es)) - 1 ≡ suc (length (e ∷ es) - 1) = omega arith in ap (slice_get (d ∷ (e ∷ es))) step

abbrev EndsWell : List ℕ → Type 0
EndsWell t = IsSomeAnd (slice_get t (length t - 1)) (λ c. IsTrue (is_ascii_alphanumeric c))

abbrev EndsAt : Option ℕ → Type 0
EndsAt o = IsSomeAnd o (λ c. IsTrue (is_ascii_alphanumeric c))

closes_from : (ok : Bool) (d : ℕ) (ds : List ℕ) → list_all is_name_character (d ∷ ds) ≡ true → EndsWell (d ∷ ds) → closes ok (d ∷ ds) ≡ true
closes_from ok d [] all ends = and_from (is_name_character d) (is_ascii_alphanumeric d) (and_parts (is_name_character d) true all).0 ends
closes_from ok d (e ∷ es) all ends =
    let parts = and_parts (is_name_character d) (list_all is_name_character (e ∷ es)) all in
    and_from (is_name_character d) (closes (is_ascii_alphanumeric d) (e ∷ es)) parts.0
    (closes_from (is_ascii_alphanumeric d) e es parts.1 (subst EndsAt (last_later d e es) ends))

ends_from : (ok : Bool) (d : ℕ) (ds : List ℕ) → closes ok (d ∷ ds) ≡ true → EndsWell (d ∷ ds)
ends_from ok d [] closed = (and_parts (is_name_character d) (is_ascii_alphanumeric d) closed).1
ends_from ok d (e ∷ es) closed =
    subst EndsAt (sym (last_later d e es))
    (ends_from (is_ascii_alphanumeric d) e es (and_parts (is_name_character d) (closes (is_ascii_alphanumeric d) (e ∷ es)) closed).1)

all_from : (ok : Bool) (t : List ℕ) → closes ok t ≡ true → list_all is_name_character t ≡ true
all_from ok [] closed = refl
all_from ok (d ∷ ds) closed =
    let parts = and_parts (is_name_character d) (closes (is_ascii_alphanumeric d) ds) closed in
    and_from (is_name_character d) (list_all is_name_character ds) parts.0 (all_from (is_ascii_alphanumeric d) ds parts.1)

-- a letter or digit before what closes begins a name
pub name_from_letter : (c : ℕ) (cs : List ℕ) → is_ascii_alphanumeric c ≡ true → closes true cs ≡ true → NormalizesTo (c ∷ cs) (to_ascii_lowercase c ∷ squeeze false cs)
name_from_letter c cs a closed = (all_grow cs).after_word c a closed

pub identifier_is_name : (t : List ℕ) → IsIdentifier t → IsName t
identifier_is_name [] h = absurd h.first
identifier_is_name (c ∷ cs) h =
    let closed : closes true (c ∷ cs) ≡ true = closes_from true c cs h.characters h.last in
    let parts = and_parts (is_name_character c) (closes (is_ascii_alphanumeric c) cs) closed in
    (to_ascii_lowercase c ∷ squeeze false cs, (all_grow cs).after_word c h.first (subst (λ (ok : Bool). closes ok cs ≡ true) h.first parts.1))

-- ---- a name closes

closes-letters : (w rest : List ℕ) → list_all is_ascii_alphanumeric w ≡ true → closes true (w ++ rest) ≡ closes true rest
closes-letters [] rest h = refl
closes-letters (c ∷ w) rest h =
    let parts = and_parts (is_ascii_alphanumeric c) (list_all is_ascii_alphanumeric w) h in
    rw parts.0 (closes-letters w rest parts.1)

closes-word : (ok : Bool) (w rest : List ℕ) → IsWord w → closes ok (w ++ rest) ≡ closes true rest
closes-word ok [] rest h = absurd (h.nonempty refl)
closes-word ok (c ∷ w) rest h = grind (arith, and_parts, closes-letters)

closes-separators : (s rest : List ℕ) → list_all is_separator s ≡ true → closes false (s ++ rest) ≡ closes false rest
closes-separators [] rest h = refl
closes-separators (c ∷ s) rest h =
    let parts = and_parts (is_separator c) (list_all is_separator s) h in
    rw (separator-alphanumeric c parts.0, parts.0) (closes-separators s rest parts.1)

closes-run : (ok : Bool) (s rest : List ℕ) → IsRun s → closes ok (s ++ rest) ≡ closes false rest
closes-run ok [] rest h = absurd (h.nonempty refl)
closes-run ok (c ∷ s) rest h = grind (arith, and_parts, separator-alphanumeric, closes-separators)

append-nil : (w : List ℕ) → w ++ [] ≡ w
append-nil [] = refl
append-nil (c ∷ w) = ap (λ l. c ∷ l) (append-nil w)

closes-name : (ok : Bool) (t n : List ℕ) → NormalizesTo t n → closes ok t ≡ true
closes-name ok t n (word {w} h) = ap (closes ok) (sym (append-nil w)) ∙ closes-word ok w [] h
closes-name ok t n (joined {w} {s} {t = t'} {n = n'} h r rest) = grind (arith, closes-word, closes-run, closes-name false t' n' rest)

begun : (w rest : List ℕ) → IsWord w → closes true (w ++ rest) ≡ true → IsIdentifier (w ++ rest)
begun [] rest h closed = absurd (h.nonempty refl)
begun (c ∷ w) rest h closed = record {
  characters = all_from true (c ∷ (w ++ rest)) closed;
  first = (and_parts (is_ascii_alphanumeric c) (list_all is_ascii_alphanumeric w) h.alphanumeric).0;
  last = ends_from true c (w ++ rest) closed;
}

name_is_identifier : (t n : List ℕ) → NormalizesTo t n → IsIdentifier t
name_is_identifier t n (word {w} h) =
    subst IsIdentifier (append-nil w) (begun w [] h (closes-word true w [] h))
name_is_identifier t n (joined {w} {s} {t = t'} {n = n'} h r rest) = begun w (s ++ t') h (closes-name true _ _ (joined h r rest))

-- names are the identifiers of PEP 508
pub names_are_identifiers : (t : List ℕ) → IsName t ↔ IsIdentifier t
names_are_identifiers t = (λ h. name_is_identifier t h.0 h.1, identifier_is_name t)
