-- Extras end at the first closing bracket.
use Rattle.std.proofs.Common.{◌≡◌, ◌≢◌, ℕ, true, eqb, not, List, [], ◌∷◌, ◌++◌, All, append_assoc, refl, sym, ap, ◌∙◌, subst, lit<, IsUtf8, arith}
use Rattle.std.specs.Prelude.{encode_utf8, encode_utf8_all}
use Rattle.std.specs.Str.{chars}
use Rattle.std.proofs.lemmas.Bool.{and_from, and_parts, false≢true}
use Rattle.std.proofs.lemmas.List.Elements.{All-head, All-tail}
use Rattle.std.proofs.lemmas.Str.{chars_past_char, encode_ascii, encodes-chars, IsUtf8-from_ascii, IsUtf8-past_char}
use Rattle.std.proofs.lemmas.Str.Ascii.{IsAscii-cons, IsAscii-nil}
use Rattle.pep508_text.specs.Run.{after_space}
use Rattle.pep508_text.proofs.Splits.{chars-last, front_is_utf8}
use Rattle.pep508_urls.specs.Extras.{IsNoBracket, SplitsExtras}
use Rattle.requirement_words.specs.Extras.{Names, last, more, IsExtras, left_out, none, some, begins_bracket}
use Rattle.pep508_text.specs.declared.classes.Class.TheVariants.{NamePart}
use Rattle.requirement_words.proofs.Characters.{tails}
use Rattle.requirement_words.proofs.ExtrasLaws.{not_eqb}
use Rattle.requirement_words.proofs.OpenLaws.{is_absent, IsOpen, open_start, open_space, open_part, open_one}

-- no bracket closes among the names
names_open : {i o : List ℕ} {ns : List (List ℕ)} (inside : List ℕ) → IsOpen 93 inside i → Names i o ns → IsOpen 93 inside (93 ∷ o)
names_open inside o (last name bracket) =
    subst (IsOpen 93 inside) bracket (open_space refl (subst (IsOpen 93 inside) name.rest (open_part NamePart refl (open_space refl o))))
names_open inside o (more {b = b} name comma h) =
    names_open inside (open_one 44 b (open_space refl (subst (IsOpen 93 inside) name.rest (open_part NamePart refl (open_space refl o)))) comma refl) h

-- nor before the bracket after them
closes_first : {i o : List ℕ} {ns : List (List ℕ)} (inside : List ℕ) → i ≡ 91 ∷ inside → IsExtras i o ns → IsOpen 93 inside (93 ∷ o)
closes_first inside e (left_out b) = absurd (false≢true (sym b ∙ ap begins_bracket e))
closes_first inside e (none {input = j} h) =
    let same : j ≡ inside = tails 91 j inside (91 ∷ j) (91 ∷ inside) e refl refl in
    subst (IsOpen 93 inside) (sym (ap after_space same) ∙ h) (open_space refl (open_start 93 inside))
closes_first inside e (some {input = j} h) =
    let same : j ≡ inside = tails 91 j inside (91 ∷ j) (91 ∷ inside) e refl refl in
    names_open inside (subst (IsOpen 93 inside) (sym same) (open_start 93 inside)) h

-- the first place of a character is one place
other_first : (c d : ℕ) (x y : List ℕ) → not (eqb d c) ≡ true → c ∷ x ≡ d ∷ y → ⊥
other_first c d x y h1 h2 = grind arith

first_place : (c : ℕ) (f g x y : List ℕ) → is_absent c f ≡ true → is_absent c g ≡ true → f ++ (c ∷ x) ≡ g ++ (c ∷ y) → x ≡ y
first_place c [] [] x y a b e = tails c x y (c ∷ x) (c ∷ y) e refl refl
first_place c [] (d ∷ g) x y a b e = absurd (other_first c d x (g ++ (c ∷ y)) (and_parts _ _ b).0 e)
first_place c (d ∷ f) [] x y a b e = absurd (other_first c d y (f ++ (c ∷ x)) (and_parts _ _ a).0 (sym e))
first_place c (d ∷ f) (k ∷ g) x y a b e = grind (arith, and_parts, first_place c f g x y)

-- ---- extras that are cut off a URL

-- what holds of all elements holds of those at the end
of_the_end : (front back : List ℕ) → All IsNoBracket (front ++ back) → All IsNoBracket back
of_the_end [] back all = all
of_the_end (b ∷ front) back all = of_the_end front back (All-tail IsNoBracket b (front ++ back) all)

-- a character that is not among the bytes is not among the characters
none_closes : (cs : List ℕ) → All IsNoBracket (encode_utf8_all cs) → is_absent 93 cs ≡ true
none_closes [] plain = refl
none_closes (c ∷ cs) plain = and_from _ _ (ap not (not_eqb c 93 closing)) (none_closes cs (of_the_end (encode_utf8 c) (encode_utf8_all cs) plain))
  where
    closing : c ≢ 93
    closing e =
        let bytes : encode_utf8 c ++ encode_utf8_all cs ≡ 93 ∷ encode_utf8_all cs =
        ap (λ (x : ℕ). encode_utf8 x ++ encode_utf8_all cs) e ∙ ap (λ (x : List ℕ). x ++ encode_utf8_all cs) (encode_ascii 93 (lit< tt)) in
        (All-head IsNoBracket 93 (encode_utf8_all cs) (subst (All IsNoBracket) bytes plain)).1 refl

-- the characters of extras: names between two brackets, of which the second is the first that
-- closes
record IsBracketed (extras : List ℕ) : Type 0 where
  pub inside : List ℕ
  pub characters : chars extras ≡ 91 ∷ (inside ++ (93 ∷ []))
  pub absent : is_absent 93 inside ≡ true

bracketed : {text before extras : List ℕ} → IsUtf8 extras → SplitsExtras text before extras → IsBracketed extras
bracketed {extras = extras} utf8 s =
    let ends : extras ≡ (91 ∷ s.names) ++ encode_utf8 93 = s.bracketed ∙ ap (λ (x : List ℕ). 91 ∷ (s.names ++ x)) (sym (encode_ascii 93 (lit< tt))) in
    let closing : IsUtf8 (encode_utf8 93) = subst IsUtf8 (sym (encode_ascii 93 (lit< tt))) (IsUtf8-from_ascii (93 ∷ []) (IsAscii-cons 93 [] (lit< tt) IsAscii-nil)) in
    let front_utf8 : IsUtf8 (91 ∷ s.names) = front_is_utf8 extras (91 ∷ s.names) (encode_utf8 93) ends utf8 closing in
    let begins : 91 ∷ s.names ≡ encode_utf8 91 ++ s.names = ap (λ (x : List ℕ). x ++ s.names) (sym (encode_ascii 91 (lit< tt))) in
    let names_utf8 : IsUtf8 s.names = IsUtf8-past_char (91 ∷ s.names) s.names 91 front_utf8 begins in
    record {
      inside = chars s.names;
      characters = chars-last extras (91 ∷ s.names) 93 utf8 front_utf8 ends ∙ ap (λ (x : List ℕ). x ++ (93 ∷ [])) (chars_past_char (91 ∷ s.names) s.names 91 front_utf8 begins);
      absent = none_closes (chars s.names) (subst (All IsNoBracket) (sym (encodes-chars s.names names_utf8)) s.plain);
    }

-- extras end where the URL from which they are cut off does
pub extras_end : {text before extras output left : List ℕ} {names : List (List ℕ)} → IsUtf8 extras → SplitsExtras text before extras → IsExtras (chars extras ++ output) left names → left ≡ output
extras_end {output = output} {left = left} utf8 s h =
    let b = bracketed utf8 s in
    let begins : chars _ ++ output ≡ 91 ∷ (b.inside ++ (93 ∷ output)) = ap (λ (x : List ℕ). x ++ output) b.characters ∙ ap (λ (x : List ℕ). 91 ∷ x) (append_assoc b.inside (93 ∷ []) output) in
    let o = closes_first (b.inside ++ (93 ∷ output)) begins h in
    first_place 93 o.front b.inside left output o.absent b.absent (sym o.joined)
