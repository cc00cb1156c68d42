-- Positions, character by character.
use Rattle.std.proofs.Common.{◌≡◌, ℕ, ◌+◌, ◌<◌, ◌≤◌, Bool, true, false, cond, List, ◌∷◌, length, refl, sym, ap, ◌∙◌, subst, arith, IsUtf8}
use Rattle.std.proofs.lemmas.Bool.{lt-ltb}
use Rattle.std.specs.Str.{chars}
use Rattle.pep508_text.proofs.SuffixLaws.{suffix_self, suffix_then, suffix_length}
use Rattle.requirement_lines.specs.Character.{Character, start_of, characters, characters_at}
use Rattle.requirement_lines.specs.Pieces.{IsEnd, characters_of}
use Rattle.requirement_lines.specs.Position.{ends_line, next_position, position_from, GoesOnFrom, StandsAt}
use Rattle.requirement_lines.specs.declared.pieces.Piece.{Piece}
use Rattle.requirement_lines.specs.declared.places.Place.{Place}
use Rattle.requirement_lines.specs.declared.positions.Position.{Position}
use Rattle.requirement_lines.proofs.PlaceLaws.{end_start, end_suffix}

-- a place after the first character
position-step : (here : Position) (to_end : ℕ) (p : Character) (ps : List Character) → to_end < p.place.to_end → position_from here to_end (p ∷ ps) ≡ position_from (next_position here p.char ps) to_end ps
position-step here to_end p ps lt = ap (λ b. cond b (position_from (next_position here p.char ps) to_end ps) here) (lt-ltb to_end p.place.to_end lt)

-- what was seen of a text: `left` is still to be looked at, and its first character is `now`
pub record Advancing (here : Position) (whole : List ℕ) (to_end : ℕ) (now : Position) (left : Piece) : Type 0 where
  pub asked : position_from here to_end (characters whole) ≡ position_from now to_end (characters_of left)
  pub place : left.place ≡ start_of left.text.now
  pub rest : GoesOnFrom here whole now left.text.now

pub advancing_none : (here : Position) (text : List ℕ) (to_end : ℕ) (left : Piece) → IsUtf8 text → characters_of left ≡ characters text → left.text.now ≡ text → left.place ≡ start_of text → Advancing here text to_end here left
advancing_none here text to_end left utf8 whole text_is place = record {
  asked = ap (position_from here to_end) (sym whole);
  place = place ∙ ap start_of (sym text_is);
  rest = subst (GoesOnFrom here text here) (sym text_is) (record { suffix = suffix_self text utf8; goes_on = λ n le. refl; line_fits = omega arith; column_fits = omega arith });
}

-- a piece at the front of its text has the characters of that text
at_front : (piece : Piece) → piece.place ≡ start_of piece.text.now → characters_of piece ≡ characters piece.text.now
at_front piece place = ap (λ (p : Place). characters_at p (chars piece.text.now)) place

next_line : (here : Position) (c : ℕ) (ps : List Character) → (next_position here c ps).line ≤ here.line + 1
next_line here c ps = go (ends_line c ps)
  where
    go : (b : Bool) → (cond {A = Position} b (record { line = here.line + 1; column = 1 }) (record { line = here.line; column = here.column + 1 })).line ≤ here.line + 1
    go true = omega arith
    go false = omega arith

next_column : (here : Position) (c : ℕ) (ps : List Character) → (next_position here c ps).column ≤ here.column + 1
next_column here c ps = go (ends_line c ps)
  where
    go : (b : Bool) → (cond {A = Position} b (record { line = here.line + 1; column = 1 }) (record { line = here.line; column = here.column + 1 })).column ≤ here.column + 1
    go true = omega arith
    go false = omega arith

-- one more character
pub advancing_more : {here now next : Position} {whole : List ℕ} {to_end : ℕ} {left rest : Piece} (c : ℕ) → Advancing here whole to_end now left
    → characters_of left ≡ record { char = c; place = left.place } ∷ characters_of rest → IsEnd left rest → length rest.text.now < length left.text.now
    → to_end < left.place.to_end → next ≡ next_position now c (characters_of rest) → Advancing here whole to_end next rest
advancing_more {here} {now} {next} {whole} {to_end} {left} {rest} c a begins end shorter before next_is =
    let p : Character = record { char = c; place = left.place } in
    let step : (n : ℕ) → n < left.place.to_end → position_from now n (characters_of left) ≡ position_from next n (characters_of rest) =
    λ n lt. ap (position_from now n) begins ∙ position-step now n p (characters_of rest) lt ∙ ap (λ (x : Position). position_from x n (characters_of rest)) (sym next_is) in
    let size : left.place.to_end ≡ length left.text.now = ap (λ x. x.to_end) a.place in
    let line : next.line ≤ now.line + 1 = subst (λ (x : Position). x.line ≤ now.line + 1) (sym next_is) (next_line now c (characters_of rest)) in
    let column : next.column ≤ now.column + 1 = subst (λ (x : Position). x.column ≤ now.column + 1) (sym next_is) (next_column now c (characters_of rest)) in
    let line_fits = a.rest.line_fits in
    let column_fits = a.rest.column_fits in
    let place = end_start a.place end in
    record {
      asked = a.asked ∙ step to_end before;
      place = place;
      rest = record {
        suffix = suffix_then a.rest.suffix (end_suffix end);
        goes_on = λ n le. a.rest.goes_on n (omega arith) ∙ ap (position_from now n) (sym (at_front left a.place)) ∙ step n (omega arith) ∙ ap (position_from next n) (at_front rest place);
        line_fits = omega arith;
        column_fits = omega arith;
      };
    }

-- a place that was found in what is left of a file is a place of the file
pub stands_then : {file rest left : List ℕ} {from now : Position} → StandsAt file rest from → GoesOnFrom from rest now left → StandsAt file left now
stands_then {file} {rest} {left} {from} {now} s r =
    let shorter : length left ≤ length rest = suffix_length r.suffix in
    let line_fits = s.line_fits in
    let column_fits = s.column_fits in
    let line_fits_on = r.line_fits in
    let column_fits_on = r.column_fits in
    record {
      suffix = suffix_then s.suffix r.suffix;
      goes_on = λ n le. s.goes_on n (omega arith) ∙ r.goes_on n le;
      line_fits = omega arith;
      column_fits = omega arith;
    }
