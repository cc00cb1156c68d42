-- The name of a header, character by character.
use Rattle.std.proofs.Common.{◌≡◌, ◌≢◌, ℕ, eq-eqb, Bool, true, false, cond, List, [], ◌∷◌, ◌++◌, refl, sym, ap, ◌∙◌, append_assoc}
use Rattle.std.specs.Prelude.{◌==◌, None, Some}
use Rattle.std.proofs.lemmas.List.{append-nil, append_cancel_right}
use Rattle.std.proofs.lemmas.Bool.{eqb-true}
use Rattle.requirement_lines.specs.Character.{Character}
use Rattle.metadata_files.specs.Headers.{is_name_character, after_name, name_of}

no_colon : (c : ℕ) → c ≢ 58 → (c == 58) ≡ false
no_colon c other = go (c == 58) refl
  where
    go : (b : Bool) → (c == 58) ≡ b → (c == 58) ≡ false
    go false h = h
    go true h = absurd (other (eqb-true c 58 h))

-- the front is of the name, and `rest` is still to be looked at
pub record InName (whole rest : List Character) : Type 0 where
  pub front : List Character
  pub parts : whole ≡ front ++ rest
  pub name : name_of whole ≡ front ++ name_of rest
  pub follows : after_name whole ≡ after_name rest

name-goes_on : (p : Character) (ps : List Character) → (p.char == 58) ≡ false → name_of (p ∷ ps) ≡ p ∷ name_of ps
name-goes_on p ps e = ap (λ b. cond b [] (p ∷ name_of ps)) e

pub follows-goes_on : (p : Character) (ps : List Character) → (p.char == 58) ≡ false → is_name_character p.char ≡ true → after_name (p ∷ ps) ≡ after_name ps
follows-goes_on p ps e named = ap (λ b. cond b (Some ps) (cond (is_name_character p.char) (after_name ps) None)) e ∙ ap (λ b. cond b (after_name ps) None) named

pub in_name_more : {whole rest ps : List Character} (p : Character) → InName whole rest → rest ≡ p ∷ ps → p.char ≢ 58 → is_name_character p.char ≡ true → InName whole ps
in_name_more {whole} {rest} {ps} p i begins other named =
    let e = no_colon p.char other in record {
      front = i.front ++ (p ∷ []);
      parts = i.parts ∙ ap (λ (x : List Character). i.front ++ x) begins ∙ sym (append_assoc i.front (p ∷ []) ps);
      name = i.name ∙ ap (λ (x : List Character). i.front ++ name_of x) begins ∙ ap (λ (x : List Character). i.front ++ x) (name-goes_on p ps e) ∙ sym (append_assoc i.front (p ∷ []) (name_of ps));
      follows = i.follows ∙ ap after_name begins ∙ follows-goes_on p ps e named;
    }

-- the name ends before its `:`
pub name_ended : {whole rest ps : List Character} (p : Character) (shown : List Character) → InName whole rest → rest ≡ p ∷ ps → p.char ≡ 58 → whole ≡ shown ++ rest → name_of whole ≡ shown
name_ended {whole} {rest} {ps} p shown i begins e parts =
    let front_is : i.front ≡ shown = append_cancel_right i.front shown rest (sym i.parts ∙ parts) in
    i.name ∙ ap (λ (x : List Character). i.front ++ name_of x) begins ∙ ap (λ b. i.front ++ cond b [] (p ∷ name_of ps)) (eq-eqb p.char 58 e) ∙ append-nil i.front ∙ front_is

pub follows_ended : {whole rest ps : List Character} (p : Character) → InName whole rest → rest ≡ p ∷ ps → p.char ≡ 58 → after_name whole ≡ Some ps
follows_ended {whole} {rest} {ps} p i begins e =
    i.follows ∙ ap after_name begins ∙ ap (λ b. cond b (Some ps) (cond (is_name_character p.char) (after_name ps) None)) (eq-eqb p.char 58 e)
