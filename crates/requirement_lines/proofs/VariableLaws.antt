-- A line whose variables are replaced, character by character.
use Rattle.std.proofs.Common.{◌≡◌, ℕ, ◌<◌, Bool, true, false, cond, List, [], ◌∷◌, ◌++◌, length, refl, sym, ap, ◌∙◌, append_assoc, arith, length-append}
use Rattle.std.specs.Prelude.{Option, None, Some, is_some, option_map, option_and_then, not, ◌==◌, encode_utf8, encode_utf8_all}
use Rattle.std.proofs.lemmas.List.{append-nil, append_cancel_right}
use Rattle.std.proofs.lemmas.Str.{encodes-append, length-encode, len_utf8_bounds}
use Rattle.requirement_lines.specs.Character.{Character}
use Rattle.requirement_lines.specs.Pieces.{characters_of}
use Rattle.requirement_lines.specs.declared.pieces.Piece.{Piece}
use Rattle.requirement_lines.specs.declared.places.Place.{Place}
use Rattle.requirement_lines.specs.Variables.{is_name_character, name_before_brace, not_empty, braced_name, value_at, value_characters, in_place_of, replaced}

module _ (value_of : List ℕ → Option (List ℕ)) (others : List Character) where
  -- All of it is what was kept, then what is pending at the front of `start`, and then what `rest`
  -- and the others become.
  pub record Replacing (all kept start rest : List Character) (within : Bool) : Type 0 where
    pub pending : List Character
    pub parts : start ≡ pending ++ rest
    pub none : within ≡ true → pending ≡ []
    pub goes_on : all ≡ kept ++ (pending ++ replaced value_of within (rest ++ others))

  pub replacing_none : (all kept start : List Character) (within : Bool) → all ≡ kept ++ replaced value_of within (start ++ others) → Replacing all kept start start within
  replacing_none all kept start within e = record { pending = []; parts = refl; none = λ _. refl; goes_on = e }

  -- one more character, which is replaced by `put`
  one_more : (p : Character) (ps : List Character) (value : Option (List ℕ)) → value ≡ value_at value_of ((p ∷ ps) ++ others)
      → replaced value_of false ((p ∷ ps) ++ others) ≡ in_place_of p value ++ replaced value_of (is_some value) (ps ++ others)
  one_more p ps value e = ap (λ (v : Option (List ℕ)). in_place_of p v ++ replaced value_of (is_some v) (ps ++ others)) (sym e)

  -- a variable that has a value
  pub replacing_value : {all kept start rest ps new : List Character} {within : Bool} (front : List Character) (p : Character) (value : List ℕ) → Replacing all kept start rest within → within ≡ false → rest ≡ p ∷ ps
      → Some value ≡ value_at value_of ((p ∷ ps) ++ others) → start ≡ front ++ rest → new ≡ (kept ++ front) ++ value_characters p.place value
      → Replacing all new ps ps true
  replacing_value {all} {kept} {start} {rest} {ps} {new} {within} front p value r outside begins has front_is new_is =
      let pending_is : r.pending ≡ front = append_cancel_right r.pending front rest (sym r.parts ∙ front_is) in
      let put = value_characters p.place value in
      let here : replaced value_of false (rest ++ others) ≡ put ++ replaced value_of true (ps ++ others) =
      ap (λ (x : List Character). replaced value_of false (x ++ others)) begins ∙ one_more p ps (Some value) has in
      replacing_none all new ps true (
      r.goes_on ∙ ap (λ (x : List Character). kept ++ (x ++ replaced value_of within (rest ++ others))) pending_is
      ∙ ap (λ (b : Bool). kept ++ (front ++ replaced value_of b (rest ++ others))) outside
      ∙ ap (λ (x : List Character). kept ++ (front ++ x)) here
      ∙ sym (append_assoc kept front (put ++ replaced value_of true (ps ++ others)))
      ∙ sym (append_assoc (kept ++ front) put (replaced value_of true (ps ++ others)))
      ∙ ap (λ (x : List Character). x ++ replaced value_of true (ps ++ others)) (sym new_is))

  -- a character that stays
  pub replacing_kept : {all kept start rest ps : List Character} {within : Bool} (p : Character) → Replacing all kept start rest within → within ≡ false → rest ≡ p ∷ ps
      → None ≡ value_at value_of ((p ∷ ps) ++ others) → Replacing all kept start ps within
  replacing_kept {all} {kept} {start} {rest} {ps} {within} p r outside begins has =
      let here : replaced value_of false (rest ++ others) ≡ (p ∷ []) ++ replaced value_of false (ps ++ others) =
      ap (λ (x : List Character). replaced value_of false (x ++ others)) begins ∙ one_more p ps None has in
      record {
        pending = r.pending ++ (p ∷ []);
        parts = r.parts ∙ ap (λ (x : List Character). r.pending ++ x) begins ∙ sym (append_assoc r.pending (p ∷ []) ps);
        none = λ e. absurd cc;
        goes_on = r.goes_on ∙ ap (λ (b : Bool). kept ++ (r.pending ++ replaced value_of b (rest ++ others))) outside
            ∙ ap (λ (x : List Character). kept ++ (r.pending ++ x)) here
            ∙ ap (λ (x : List Character). kept ++ x) (sym (append_assoc r.pending (p ∷ []) (replaced value_of false (ps ++ others))))
            ∙ ap (λ (b : Bool). kept ++ ((r.pending ++ (p ∷ [])) ++ replaced value_of b (ps ++ others))) (sym outside);
      }

-- ---- the name of a variable

-- `read` was read of the name of the variable that the whole begins with, and `rest` is still to
-- be looked at
pub record Naming (whole : List Character) (read : List ℕ) (rest : List Character) : Type 0 where
  pub name : List ℕ
  pub bytes : read ≡ encode_utf8_all name
  pub goes_on : braced_name whole ≡ option_and_then not_empty (option_map (λ more. name ++ more) (name_before_brace rest))

option_map-cons : (name : List ℕ) (c : ℕ) (o : Option (List ℕ)) → option_map (λ more. name ++ more) (option_map (λ more. c ∷ more) o) ≡ option_map (λ more. (name ++ (c ∷ [])) ++ more) o
option_map-cons name c None = refl
option_map-cons name c (Some x) = ap (λ (y : List ℕ). Some y) (sym (append_assoc name (c ∷ []) x))

pub naming_more : {whole rest ps : List Character} {read new : List ℕ} (p : Character) → Naming whole read rest → rest ≡ p ∷ ps → (p.char == 125) ≡ false → is_name_character p.char ≡ true → new ≡ read ++ encode_utf8 p.char → Naming whole new ps
naming_more {whole} {rest} {ps} {read} {new} p n begins goes_on named new_is =
    let tail = option_map (λ name. p.char ∷ name) (name_before_brace ps) in
    record {
      name = n.name ++ (p.char ∷ []);
      bytes = new_is ∙ ap (λ (x : List ℕ). x ++ encode_utf8 p.char) n.bytes ∙ ap (λ (x : List ℕ). encode_utf8_all n.name ++ x) (sym (append-nil (encode_utf8 p.char))) ∙ sym (encodes-append n.name (p.char ∷ []));
      goes_on = n.goes_on ∙ ap (λ x. option_and_then not_empty (option_map (λ more. n.name ++ more) (name_before_brace x))) begins
          ∙ ap (λ b. option_and_then not_empty (option_map (λ more. n.name ++ more) (cond b (Some []) (cond (is_name_character p.char) tail None)))) goes_on
          ∙ ap (λ b. option_and_then not_empty (option_map (λ more. n.name ++ more) (cond b tail None))) named
          ∙ ap (option_and_then not_empty) (option_map-cons n.name p.char (name_before_brace ps));
    }

pub naming_closed : {whole rest ps : List Character} {read : List ℕ} (p : Character) → (n : Naming whole read rest) → rest ≡ p ∷ ps → (p.char == 125) ≡ true → braced_name whole ≡ not_empty n.name
naming_closed {whole} {rest} {ps} {read} p n begins closes =
    let tail = option_map (λ name. p.char ∷ name) (name_before_brace ps) in
    n.goes_on ∙ ap (λ x. option_and_then not_empty (option_map (λ more. n.name ++ more) (name_before_brace x))) begins
    ∙ ap (λ b. option_and_then not_empty (option_map (λ more. n.name ++ more) (cond b (Some []) (cond (is_name_character p.char) tail None)))) closes
    ∙ ap not_empty (append-nil n.name)

-- a name with no byte has no character
pub named_none : (name : List ℕ) → length (encode_utf8_all name) ≡ 0 → not_empty name ≡ None
named_none [] e = refl
named_none (c ∷ cs) e = absurd (omega (arith, length-append (encode_utf8 c) (encode_utf8_all cs), length-encode c, (len_utf8_bounds c).0))

pub named_some : (name : List ℕ) → 0 < length (encode_utf8_all name) → not_empty name ≡ Some name
named_some [] lt = absurd (omega arith)
named_some (c ∷ cs) lt = refl

-- ---- the characters of a line, one by one

-- the first character of a piece, and of what the piece and others are
pub one_character : (whole front rest : Piece) (c : ℕ) (ps : List Character) → characters_of whole ≡ record { char = c; place = whole.place } ∷ characters_of rest
    → characters_of whole ≡ characters_of front ++ characters_of rest → front.place ≡ whole.place
    → (characters_of whole ++ ps ≡ record { char = c; place = front.place } ∷ (characters_of rest ++ ps)) × (characters_of front ≡ record { char = c; place = front.place } ∷ [])
one_character whole front rest c ps begins parts place =
    let begun : characters_of whole ≡ (record { char = c; place = front.place } ∷ []) ++ characters_of rest = begins ∙ ap (λ (x : Place). record { char = c; place = x } ∷ characters_of rest) (sym place) in (
      ap (λ (x : List Character). x ++ ps) begun,
      append_cancel_right (characters_of front) (record { char = c; place = front.place } ∷ []) (characters_of rest) (sym parts ∙ begun),
    )

-- ---- the value of the variable that begins with a character

-- the value of a name, by its bytes
named_value : (value_of : List ℕ → Option (List ℕ)) (name : Option (List ℕ)) → option_and_then value_of (option_map encode_utf8_all name) ≡ option_and_then (λ n. value_of (encode_utf8_all n)) name
named_value value_of None = refl
named_value value_of (Some n) = refl
