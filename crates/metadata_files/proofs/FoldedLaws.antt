-- Folded lines, one after another.
use Rattle.std.proofs.Common.{◌≡◌, ◌≢◌, true, false, cond, List, [], ◌∷◌, ◌++◌, refl, sym, ap, ◌∙◌, append_assoc}
use Rattle.std.proofs.lemmas.List.{append-nil, append_cancel_right}
use Rattle.requirement_lines.specs.Character.{Character}
use Rattle.requirement_lines.specs.Physical.{with_first}
use Rattle.metadata_files.specs.Lines.{ends_folded, folded_lines}

folded-goes_on : (p : Character) (ps : List Character) → ends_folded p.char ps ≡ false → folded_lines (p ∷ ps) ≡ with_first p (folded_lines ps)
folded-goes_on p ps e = ap (λ b. cond b ((p ∷ []) ∷ folded_lines ps) (with_first p (folded_lines ps))) e

folded-ended : (p : Character) (ps : List Character) → ends_folded p.char ps ≡ true → folded_lines (p ∷ ps) ≡ (p ∷ []) ∷ folded_lines ps
folded-ended p ps e = ap (λ b. cond b ((p ∷ []) ∷ folded_lines ps) (with_first p (folded_lines ps))) e

-- the front is of the first folded line, and `rest` is still to be looked at
pub record InFolded (whole rest : List Character) : Type 0 where
  pub front : List Character
  pub parts : whole ≡ front ++ rest
  pub goes_on : (line : List Character) (lines : List (List Character)) → folded_lines rest ≡ line ∷ lines → folded_lines whole ≡ (front ++ line) ∷ lines
  pub last : rest ≡ [] → whole ≢ [] → folded_lines whole ≡ front ∷ []

pub in_folded_more : {whole rest ps : List Character} (p : Character) → InFolded whole rest → rest ≡ p ∷ ps → ends_folded p.char ps ≡ false → InFolded whole ps
in_folded_more {whole} {rest} {ps} p i begins e = record {
  front = i.front ++ (p ∷ []);
  parts = i.parts ∙ ap (λ (x : List Character). i.front ++ x) begins ∙ sym (append_assoc i.front (p ∷ []) ps);
  goes_on = λ line lines is. i.goes_on (p ∷ line) lines (ap folded_lines begins ∙ folded-goes_on p ps e ∙ ap (with_first p) is) ∙ ap (λ (x : List Character). x ∷ lines) (sym (append_assoc i.front (p ∷ []) line));
  last = λ none some. i.goes_on (p ∷ []) [] (ap folded_lines begins ∙ folded-goes_on p ps e ∙ ap (λ x. with_first p (folded_lines x)) none);
}

-- it ends here
pub in_folded_ended : {whole rest ps : List Character} (p : Character) (shown : List Character) → InFolded whole rest → rest ≡ p ∷ ps → ends_folded p.char ps ≡ true → whole ≡ shown ++ ps → folded_lines whole ≡ shown ∷ folded_lines ps
in_folded_ended {whole} {rest} {ps} p shown i begins e parts =
    let all : whole ≡ (i.front ++ (p ∷ [])) ++ ps = i.parts ∙ ap (λ (x : List Character). i.front ++ x) begins ∙ sym (append_assoc i.front (p ∷ []) ps) in
    let front_is : i.front ++ (p ∷ []) ≡ shown = append_cancel_right (i.front ++ (p ∷ [])) shown ps (sym all ∙ parts) in
    i.goes_on (p ∷ []) (folded_lines ps) (ap folded_lines begins ∙ folded-ended p ps e) ∙ ap (λ (x : List Character). x ∷ folded_lines ps) front_is

pub in_folded_last : {whole rest : List Character} → InFolded whole rest → rest ≡ [] → whole ≢ [] → folded_lines whole ≡ whole ∷ []
in_folded_last {whole} {rest} i none some =
    let front_is : whole ≡ i.front = i.parts ∙ ap (λ (x : List Character). i.front ++ x) none ∙ append-nil i.front in
    i.last none some ∙ ap (λ (x : List Character). x ∷ []) (sym front_is)
