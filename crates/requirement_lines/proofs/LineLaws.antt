-- Physical lines, one after another.
use Rattle.std.proofs.Common.{◌≡◌, ◌≢◌, ℕ, Bool, true, false, cond, List, [], ◌∷◌, ◌++◌, refl, sym, ap, ◌∙◌, subst, append_assoc}
use Rattle.std.specs.Prelude.{◌==◌, ◌&&◌}
use Rattle.std.proofs.lemmas.List.{append-nil, append_cancel_right}
use Rattle.std.proofs.lemmas.Bool.{eqb-true}
use Rattle.requirement_lines.specs.Character.{Character}
use Rattle.requirement_lines.specs.Ends.{begins_with}
use Rattle.requirement_lines.specs.Physical.{is_break, single_breaks, with_first, broken_lines, physical_lines}

-- a character that does not end a line is not a carriage return
no_return : (c : ℕ) → is_break c ≡ false → (c == 13) ≡ false
no_return c e = go (c == 13) refl
  where
    go : (b : Bool) → (c == 13) ≡ b → (c == 13) ≡ false
    go false h = h
    go true h = let bad : is_break 13 ≡ false = subst (λ (n : ℕ). is_break n ≡ false) (eqb-true c 13 h) e in absurd cc

single-kept : (p : Character) (ps : List Character) → (p.char == 13) && begins_with 10 ps ≡ false → single_breaks (p ∷ ps) ≡ p ∷ single_breaks ps
single-kept p ps e = ap (λ b. cond b (single_breaks ps) (p ∷ single_breaks ps)) e

broken-goes_on : (p : Character) (ps : List Character) → is_break p.char ≡ false → broken_lines (p ∷ ps) ≡ with_first p (broken_lines ps)
broken-goes_on p ps e = ap (λ b. cond b ([] ∷ broken_lines ps) (with_first p (broken_lines ps))) e

-- a character in a line
pub lines-goes_on : (p : Character) (ps : List Character) → is_break p.char ≡ false → physical_lines (p ∷ ps) ≡ with_first p (physical_lines ps)
lines-goes_on p ps e =
    let single : (p.char == 13) && begins_with 10 ps ≡ false = ap (λ b. b && begins_with 10 ps) (no_return p.char e) in
    ap broken_lines (single-kept p ps single) ∙ broken-goes_on p (single_breaks ps) e

-- no character ends a line
abbrev pub IsPlain : List Character → Type 0
IsPlain [] = Unit {0}
IsPlain (p ∷ ps) = (is_break p.char ≡ false) × IsPlain ps

plain_more : (ps : List Character) (p : Character) → IsPlain ps → is_break p.char ≡ false → IsPlain (ps ++ (p ∷ []))
plain_more [] p plain e = (e, tt)
plain_more (q ∷ qs) p plain e = (plain.0, plain_more qs p plain.1 e)

-- the text before a line belongs to it
lines-front : (front rest line : List Character) (lines : List (List Character)) → IsPlain front → physical_lines rest ≡ line ∷ lines → physical_lines (front ++ rest) ≡ (front ++ line) ∷ lines
lines-front [] rest line lines plain e = e
lines-front (p ∷ ps) rest line lines plain e = lines-goes_on p (ps ++ rest) plain.0 ∙ ap (with_first p) (lines-front ps rest line lines plain.1 e)

-- a last line without a break
lines-last : (front : List Character) → IsPlain front → front ≢ [] → physical_lines front ≡ front ∷ []
lines-last [] plain some = absurd (some refl)
lines-last (p ∷ []) plain some = lines-goes_on p [] plain.0
lines-last (p ∷ (q ∷ qs)) plain some = lines-goes_on p (q ∷ qs) plain.0 ∙ ap (with_first p) (lines-last (q ∷ qs) plain.1 (λ e. absurd cc))

-- the front is of the first line, and `rest` is still to be looked at
pub record InLine (whole rest : List Character) : Type 0 where
  pub front : List Character
  pub parts : whole ≡ front ++ rest
  pub plain : IsPlain front

pub in_line_more : {whole rest ps : List Character} (p : Character) → InLine whole rest → rest ≡ p ∷ ps → is_break p.char ≡ false → InLine whole ps
in_line_more {whole} {rest} {ps} p i begins e = record {
  front = i.front ++ (p ∷ []);
  parts = i.parts ∙ ap (λ (x : List Character). i.front ++ x) begins ∙ sym (append_assoc i.front (p ∷ []) ps);
  plain = plain_more i.front p i.plain e;
}

-- the line ends here
pub in_line_ended : {whole rest : List Character} (shown : List Character) (lines : List (List Character)) → InLine whole rest → whole ≡ shown ++ rest → physical_lines rest ≡ [] ∷ lines → physical_lines whole ≡ shown ∷ lines
in_line_ended {whole} {rest} shown lines i parts e =
    let front_is : i.front ≡ shown = append_cancel_right i.front shown rest (sym i.parts ∙ parts) in
    ap physical_lines i.parts ∙ lines-front i.front rest [] lines i.plain e ∙ ap (λ (x : List Character). x ∷ lines) (append-nil i.front ∙ front_is)

pub in_line_last : {whole rest : List Character} → InLine whole rest → rest ≡ [] → whole ≢ [] → physical_lines whole ≡ whole ∷ []
in_line_last {whole} {rest} i none some =
    let front_is : whole ≡ i.front = i.parts ∙ ap (λ (x : List Character). i.front ++ x) none ∙ append-nil i.front in
    ap physical_lines front_is ∙ lines-last i.front i.plain (λ e. some (front_is ∙ e)) ∙ ap (λ (x : List Character). x ∷ []) (sym front_is)
