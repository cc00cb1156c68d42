-- Words of a text, character by character.
use Rattle.std.proofs.Common.{◌≡◌, Bool, true, false, cond, List, [], ◌∷◌, refl, sym, ap, ◌∙◌}
use Rattle.requirement_lines.specs.Character.{Character}
use Rattle.requirement_lines.specs.Words.{parts_words, next_quoting, Spelled, Parted, unclosed, parts, put, split, is_kept, can_be_taken}
use Rattle.requirement_lines.specs.Reading.{resume}
use Rattle.requirement_lines.specs.declared.places.Place.{Place}
use Rattle.requirement_lines.specs.declared.quoting.Quoting.TheVariants.{Between}
use Rattle.requirement_lines.specs.declared.quoting.Step.TheVariants.{Pass, Begin}

-- ---- the end

-- between words there is no current word
pub resume-start : (opened place : Place) (front ps : List Character) → split Between opened ps ≡ resume false [] place front (split Between opened ps)
resume-start opened place front [] = refl
resume-start opened place front (p ∷ ps) = go (parts_words p.char) (is_kept Between p.char (can_be_taken ps)) (split (next_quoting Between p.char (can_be_taken ps)) p.place ps)
  where
    go : (b kept : Bool) (s : Parted) → put (cond b Pass Begin) kept p s ≡ resume false [] place front (put (cond b Pass Begin) kept p s)
    go true kept (unclosed o) = refl
    go true kept (parts rest others) = refl
    go false kept (unclosed o) = refl
    go false kept (parts rest others) = refl

-- ---- one character of a text

-- what a line is split into before anything is read
pub words-start : (start place : Place) (done : List Spelled) (front rest line : List Character) (inside : Bool) → done ≡ [] → inside ≡ false → rest ≡ line → split Between start line ≡ resume inside done place front (split Between start rest)
words-start start place done front rest line inside none outside whole =
    resume-start start place front line ∙ ap (λ x. resume false [] place front (split Between start x)) (sym whole)
    ∙ ap (λ x. resume false x place front (split Between start rest)) (sym none) ∙ ap (λ x. resume x done place front (split Between start rest)) (sym outside)
