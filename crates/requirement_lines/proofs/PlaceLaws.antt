-- Places of the characters of a text that is cut, and lists of characters.
use Rattle.std.proofs.Common.{◌≡◌, ℕ, Bool, true, false, cond, ◌+◌, ◌-◌, List, [], ◌∷◌, ◌++◌, length, refl, sym, ap, ◌∙◌, subst, append_assoc, take, arith, length-append, IsUtf8}
use Rattle.std.specs.Prelude.{encode_utf8, encode_utf8_all, ◌&&◌, None}
use Rattle.std.specs.Char.{len_utf8}
use Rattle.std.specs.Str.{chars, IsCharBoundary}
use Rattle.std.proofs.lemmas.List.{append-nil, append_cancel_right, take_at}
use Rattle.std.proofs.lemmas.Str.{chars-append, chars-nil, encodes-chars, length-encode}
use Rattle.pep508_text.specs.Suffix.{IsSuffix}
use Rattle.pep508_text.proofs.SuffixLaws.{suffix_begins}
use Rattle.requirement_lines.specs.Character.{Character, left_after, after, characters_at, start_of, characters}
use Rattle.requirement_lines.specs.Pieces.{IsEnd, characters_of}
use Rattle.requirement_lines.specs.Marks.{is_mark, opens, before, may_follow}
use Rattle.requirement_lines.specs.declared.sets.Mark.{Mark}
use Rattle.requirement_lines.specs.declared.pieces.Piece.{Piece}
use Rattle.requirement_lines.specs.declared.places.Place.{Place}
use Rattle.requirement_lines.specs.declared.places.Source.{Source}
use Rattle.requirement_lines.specs.declared.places.Source.TheVariants.{File, Variable}

-- ---- places further on

left_after-more : (source : Source) (n a b : ℕ) → left_after source (left_after source n a) b ≡ left_after source n (a + b)
left_after-more File n a b = omega arith
left_after-more Variable n a b = refl

left_after-zero : (source : Source) (n : ℕ) → left_after source n 0 ≡ n
left_after-zero File n = omega arith
left_after-zero Variable n = refl

pub after-more : (place : Place) (a b : ℕ) → after (after place a) b ≡ after place (a + b)
after-more place a b = ap (λ (n : ℕ). record { to_end = n; source = place.source }) (left_after-more place.source place.to_end a b)

pub after-zero : (place : Place) → after place 0 ≡ place
after-zero place = ap (λ (n : ℕ). record { to_end = n; source = place.source }) (left_after-zero place.source place.to_end)

-- the characters of two lists in a row
pub characters-append : (place : Place) (xs ys : List ℕ) → characters_at place (xs ++ ys) ≡ characters_at place xs ++ characters_at (after place (length (encode_utf8_all xs))) ys
characters-append place [] ys = ap (λ (p : Place). characters_at p ys) (sym (after-zero place))
characters-append place (c ∷ cs) ys =
    let size : len_utf8 c + length (encode_utf8_all cs) ≡ length (encode_utf8 c ++ encode_utf8_all cs) = omega (arith, length-append (encode_utf8 c) (encode_utf8_all cs), length-encode c) in
    let here : after (after place (len_utf8 c)) (length (encode_utf8_all cs)) ≡ after place (length (encode_utf8 c ++ encode_utf8_all cs)) = after-more place (len_utf8 c) (length (encode_utf8_all cs)) ∙ ap (after place) size in
    ap (λ (x : List Character). record { char = c; place = place } ∷ x) (characters-append (after place (len_utf8 c)) cs ys ∙ ap (λ (p : Place). characters_at (after place (len_utf8 c)) cs ++ characters_at p ys) here)

-- one more character
pub characters_last : (place : Place) (c : ℕ) (text front : List ℕ) → chars text ≡ chars front ++ (c ∷ []) → (p : Place) × (characters_at place (chars text) ≡ characters_at place (chars front) ++ (record { char = c; place = p } ∷ []))
characters_last place c text front e = (after place (length (encode_utf8_all (chars front))), ap (characters_at place) e ∙ characters-append place (chars front) (c ∷ []))

-- ---- what is left of a piece

pub end_self : (p : Piece) → IsUtf8 p.text.now → IsEnd p p
end_self p utf8 = record { front = []; parts = refl; utf8 = utf8; place = sym (after-zero p.place) }

pub end_then : {a b c : Piece} → IsEnd a b → IsEnd b c → IsEnd a c
end_then {a} {b} {c} s t = record {
  front = s.front ++ t.front;
  parts = s.parts ∙ ap (λ (x : List ℕ). s.front ++ x) t.parts ∙ sym (append_assoc s.front t.front c.text.now);
  utf8 = t.utf8;
  place = t.place ∙ ap (λ (p : Place). after p (length t.front)) s.place ∙ after-more a.place (length s.front) (length t.front) ∙ ap (after a.place) (sym (length-append s.front t.front));
}

-- ---- a piece that is cut before its end

pub end_suffix : {whole rest : Piece} → IsEnd whole rest → IsSuffix whole.text.now rest.text.now
end_suffix e = record { front = e.front; joined = e.parts; utf8 = e.utf8 }

pub suffix_boundary : {text rest : List ℕ} → IsSuffix text rest → IsCharBoundary text (length text - length rest)
suffix_boundary s = suffix_begins s

pub suffix_parts : {text rest : List ℕ} (shown : List ℕ) → IsSuffix text rest → shown ≡ take (length text - length rest) text → text ≡ shown ++ rest
suffix_parts {text} {rest} shown s cut =
    let n : length text - length rest ≡ length s.front = omega (arith, ap length s.joined, length-append s.front rest) in
    let front_is : shown ≡ s.front = cut ∙ ap (λ (n : ℕ). take n text) n ∙ ap (take (length s.front)) s.joined ∙ take_at s.front rest (length s.front) refl in
    s.joined ∙ ap (λ (x : List ℕ). x ++ rest) (sym front_is)

pub end_parts : {whole rest : Piece} (shown : List ℕ) → IsUtf8 shown → IsEnd whole rest → whole.text.now ≡ shown ++ rest.text.now → characters_of whole ≡ characters_at whole.place (chars shown) ++ characters_of rest
end_parts {whole} {rest} shown utf8 e parts =
    let front_is : e.front ≡ shown = append_cancel_right e.front shown rest.text.now (sym e.parts ∙ parts) in
    let place_is : after whole.place (length shown) ≡ rest.place = ap (λ (x : List ℕ). after whole.place (length x)) (sym front_is) ∙ sym e.place in
    ap (characters_at whole.place) (ap chars parts ∙ chars-append shown rest.text.now utf8) ∙ characters-append whole.place (chars shown) (chars rest.text.now)
    ∙ ap (λ (x : List ℕ). characters_at whole.place (chars shown) ++ characters_at (after whole.place (length x)) (chars rest.text.now)) (encodes-chars shown utf8)
    ∙ ap (λ (p : Place). characters_at whole.place (chars shown) ++ characters_at p (chars rest.text.now)) place_is

-- what is left of a whole text has the places of a text by itself
pub end_start : {whole rest : Piece} → whole.place ≡ start_of whole.text.now → IsEnd whole rest → rest.place ≡ start_of rest.text.now
end_start {whole} {rest} place e =
    let size : length whole.text.now - length e.front ≡ length rest.text.now = omega (arith, ap length e.parts, length-append e.front rest.text.now) in
    e.place ∙ ap (λ (p : Place). after p (length e.front)) place ∙ ap (λ (n : ℕ). record { to_end = n; source = File }) size

pub end_characters : {whole rest : Piece} → whole.place ≡ start_of whole.text.now → IsEnd whole rest → characters_of rest ≡ characters rest.text.now
end_characters {whole} {rest} place e = ap (λ (p : Place). characters_at p (chars rest.text.now)) (end_start place e)

-- ---- a text that is cut before a mark

-- the front passes, and `rest` is still to be looked at
pub record Cuts (mark : Mark) (may now : Bool) (whole rest : List Character) : Type 0 where
  pub front : List Character
  pub parts : whole ≡ front ++ rest
  pub kept : before mark may whole ≡ front ++ before mark now rest
  pub follow : may_follow mark may whole ≡ may_follow mark now rest

cuts_one : {mark : Mark} {may now : Bool} {whole ps : List Character} (p : Character) → Cuts mark may now whole (p ∷ ps) → now && is_mark mark p.char ≡ false → Cuts mark may (opens mark p.char) whole ps
cuts_one {mark} {may} {now} {whole} {ps} p passed fails = record {
  front = passed.front ++ (p ∷ []);
  parts = passed.parts ∙ sym (append_assoc passed.front (p ∷ []) ps);
  kept = passed.kept ∙ ap (λ b. passed.front ++ cond b [] (p ∷ before mark (opens mark p.char) ps)) fails ∙ sym (append_assoc passed.front (p ∷ []) (before mark (opens mark p.char) ps));
  follow = passed.follow ∙ ap (λ b. cond b None (may_follow mark (opens mark p.char) ps)) fails;
}

pub cuts_more : {mark : Mark} {may now next : Bool} {whole rest ps : List Character} (p : Character) → Cuts mark may now whole rest → rest ≡ p ∷ ps → now && is_mark mark p.char ≡ false → next ≡ opens mark p.char → Cuts mark may next whole ps
cuts_more {mark} {may} {now} {next} {whole} {rest} {ps} p passed begins fails next_is = subst (λ b. Cuts mark may b whole ps) (sym next_is) (cuts_one p (subst (Cuts mark may now whole) begins passed) fails)

pub cuts_found : {mark : Mark} {may now : Bool} {whole rest ps : List Character} (shown : List Character) (p : Character) → Cuts mark may now whole rest → rest ≡ p ∷ ps → now && is_mark mark p.char ≡ true → whole ≡ shown ++ rest
    → (shown ≡ before mark may whole) × (None ≡ may_follow mark may whole)
cuts_found {mark} {may} {now} {whole} {rest} {ps} shown p passed begins found parts =
    let front_is : passed.front ≡ shown = append_cancel_right passed.front shown rest (sym passed.parts ∙ parts) in (
      sym (passed.kept ∙ ap (λ (x : List Character). passed.front ++ before mark now x) begins ∙ ap (λ b. passed.front ++ cond b [] (p ∷ before mark (opens mark p.char) ps)) found ∙ append-nil passed.front ∙ front_is),
      sym (passed.follow ∙ ap (may_follow mark now) begins ∙ ap (λ b. cond b None (may_follow mark (opens mark p.char) ps)) found),
    )

-- ---- texts with no character

characters-none : (place : Place) (cs : List ℕ) → characters_at place cs ≡ [] → cs ≡ []
characters-none place [] e = refl
characters-none place (c ∷ cs) e = absurd cc

pub text_from_none : (place : Place) (text : List ℕ) → IsUtf8 text → characters_at place (chars text) ≡ [] → text ≡ []
text_from_none place text utf8 e = sym (encodes-chars text utf8) ∙ ap encode_utf8_all (characters-none place (chars text) e)

pub characters_nil : characters [] ≡ []
characters_nil = ap (characters_at (start_of [])) chars-nil
