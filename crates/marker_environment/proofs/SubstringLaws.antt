-- A substring at a place is one between a front and a back.
use Rattle.std.proofs.Common.{◌≡◌, ◌⊎◌, ◌==◌, ℕ, Bool, true, List, [], ◌∷◌, ◌++◌, refl, sym, ap, ◌∙◌, inl, inr, arith}
use Rattle.std.proofs.lemmas.Bool.{and_parts, and_from, or_left, or_right, or_cases, eqb-true, eq-eqb}
use Rattle.std.proofs.lemmas.Str.Pattern.{contains_text}
use Rattle.std.specs.Bool.{MatchBool}
use Rattle.std.specs.Prelude.{None}
use Rattle.std.specs.Str.Iter.{HasSubslice}
use Rattle.std.specs.Str.Pattern.{FindsText, HasMatch}
use Rattle.marker_environment.specs.Substring.{begins_with, is_part_of}

begins_with-append : (part rest : List ℕ) → begins_with part (part ++ rest) ≡ true
begins_with-append [] rest = refl
begins_with-append (c ∷ part) rest = and_from (c == c) (begins_with part (part ++ rest)) (eq-eqb c c refl) (begins_with-append part rest)

begins_with-is : (part text : List ℕ) → begins_with part text ≡ true → (rest : List ℕ) × (text ≡ part ++ rest)
begins_with-is [] text e = (text, refl)
begins_with-is (c ∷ part) [] e = absurd cc
begins_with-is (c ∷ part) (d ∷ text) e =
    let both = and_parts (c == d) (begins_with part text) e in
    let behind = begins_with-is part text both.1 in
    (behind.0, ap (λ (x : ℕ). x ∷ text) (sym (eqb-true c d both.0)) ∙ ap (λ (t : List ℕ). c ∷ t) behind.1)

is_part_of-begins : (part text : List ℕ) → begins_with part text ≡ true → is_part_of part text ≡ true
is_part_of-begins part [] e = e
is_part_of-begins part (c ∷ text) e = or_left (begins_with part (c ∷ text)) (is_part_of part text) e

is_part_of-between : (front part back : List ℕ) → is_part_of part (front ++ (part ++ back)) ≡ true
is_part_of-between [] part back = is_part_of-begins part (part ++ back) (begins_with-append part back)
is_part_of-between (c ∷ front) part back = or_right (begins_with part (c ∷ (front ++ (part ++ back)))) (is_part_of part (front ++ (part ++ back))) (is_part_of-between front part back)

pub is_part_of-is : (part text : List ℕ) → is_part_of part text ≡ true → HasSubslice text part
is_part_of-is part [] e = let behind = begins_with-is part [] e in ([], behind.0, behind.1)
is_part_of-is part (c ∷ text) e = go (or_cases (begins_with part (c ∷ text)) (is_part_of part text) e) (is_part_of-is part text)
  where
    go : (begins_with part (c ∷ text) ≡ true) ⊎ (is_part_of part text ≡ true) → (is_part_of part text ≡ true → HasSubslice text part) → HasSubslice (c ∷ text) part
    go (inl here) later = let behind = begins_with-is part (c ∷ text) here in ([], behind.0, behind.1)
    go (inr e') later = let place = later e' in (c ∷ place.0, place.1, ap (λ (t : List ℕ). c ∷ t) place.2)

pub is_part_of-has : (part text : List ℕ) → HasSubslice text part → is_part_of part text ≡ true
is_part_of-has part text place = ap (is_part_of part) place.2 ∙ is_part_of-between place.0 part place.1

same_truth : (a b : Bool) → (a ≡ true → b ≡ true) → (b ≡ true → a ≡ true) → a ≡ b
same_truth a b h1 h2 = grind arith

-- the result of `contains` for a text
pub contains_is_part_of : (found : Bool) (part text : List ℕ) → MatchBool found (HasMatch (FindsText part) text) (FindsText part text None) → found ≡ is_part_of part text
contains_is_part_of found part text h1 = grind (arith, contains_text, same_truth, is_part_of-has, is_part_of-is)
