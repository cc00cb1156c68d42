-- Logical lines, part by part.
use Rattle.std.proofs.Common.{◌≡◌, ◌≢◌, ℕ, ◌+◌, ◌<◌, length, get_or, drop, Bool, true, false, cond, List, [], ◌∷◌, ◌++◌, refl, sym, ap, ◌∙◌, append_assoc}
use Rattle.std.specs.Prelude.{Option, None, Some, ◌&&◌, reverse}
use Rattle.std.proofs.lemmas.List.{append-nil, reverse-append, reverse-reverse, drop_more}
use Rattle.requirement_lines.specs.Character.{Character}
use Rattle.requirement_lines.specs.Ends.{holds, skip, skip_back}
use Rattle.requirement_lines.specs.Pieces.{characters_of, line_of}
use Rattle.requirement_lines.specs.declared.pieces.Piece.{Piece}
use Rattle.requirement_lines.specs.declared.places.Source.TheVariants.{File}
use Rattle.requirement_lines.specs.Physical.{physical_lines}
use Rattle.requirement_lines.specs.Marks.{is_mark, opens, before, may_follow, from_mark}
use Rattle.requirement_lines.specs.Logical.{is_continued, part_of, with_front, joined, trimmed, with_text, trimmed_lines, logical_lines}
use Rattle.requirement_lines.specs.declared.sets.CharacterSet.{CharacterSet}
use Rattle.requirement_lines.specs.declared.sets.CharacterSet.TheVariants.{Space}
use Rattle.requirement_lines.specs.declared.sets.Mark.{Mark}

-- ---- lines that are joined

with_front-with_front : (before part : List Character) (lines : List (List Character)) → with_front before (with_front part lines) ≡ with_front (before ++ part) lines
with_front-with_front before part [] = refl
with_front-with_front before part (line ∷ lines) = ap (λ (x : List Character). x ∷ lines) (sym (append_assoc before part line))

joined-continued : (line : List Character) (lines : List (List Character)) → is_continued line ≡ true → joined (line ∷ lines) ≡ with_front (part_of line) (joined lines)
joined-continued line lines e = ap (λ b. cond b (with_front (part_of line) (joined lines)) (part_of line ∷ joined lines)) e

joined-ended : (line : List Character) (lines : List (List Character)) → is_continued line ≡ false → joined (line ∷ lines) ≡ part_of line ∷ joined lines
joined-ended line lines e = ap (λ b. cond b (with_front (part_of line) (joined lines)) (part_of line ∷ joined lines)) e

-- the logical lines of the whole begin with these parts, and `rest` is still to be looked at
pub record Joins (whole parts rest : List Character) : Type 0 where
  pub lines : logical_lines whole ≡ trimmed_lines (with_front parts (joined (physical_lines rest)))

pub joins_more : {whole parts rest after line part new : List Character} → Joins whole parts rest → physical_lines rest ≡ line ∷ physical_lines after → is_continued line ≡ true → part ≡ part_of line → new ≡ parts ++ part → Joins whole new after
joins_more {whole} {parts} {rest} {after} {line} {part} {new} j first e part_is new_is = record {
  lines = j.lines ∙ ap (λ x. trimmed_lines (with_front parts (joined x))) first ∙ ap (λ x. trimmed_lines (with_front parts x)) (joined-continued line (physical_lines after) e)
      ∙ ap trimmed_lines (with_front-with_front parts (part_of line) (joined (physical_lines after)))
      ∙ ap (λ (x : List Character). trimmed_lines (with_front x (joined (physical_lines after)))) (ap (λ (x : List Character). parts ++ x) (sym part_is) ∙ sym new_is);
}

pub joins_ended : {whole parts rest line part new : List Character} (after : List Character) → Joins whole parts rest → physical_lines rest ≡ line ∷ physical_lines after → is_continued line ≡ false → part ≡ part_of line → new ≡ parts ++ part
    → logical_lines whole ≡ with_text (trimmed new) (logical_lines after)
joins_ended {whole} {parts} {rest} {line} {part} {new} after j first e part_is new_is =
    j.lines ∙ ap (λ x. trimmed_lines (with_front parts (joined x))) first ∙ ap (λ x. trimmed_lines (with_front parts x)) (joined-ended line (physical_lines after) e)
    ∙ ap (λ (x : List Character). with_text (trimmed x) (logical_lines after)) (ap (λ (x : List Character). parts ++ x) (sym part_is) ∙ sym new_is)

pub joins_last : {whole parts rest : List Character} → Joins whole parts rest → rest ≡ [] → logical_lines whole ≡ with_text (trimmed parts) (logical_lines rest)
joins_last {whole} {parts} {rest} j none = j.lines ∙ ap (λ x. trimmed_lines (with_front parts (joined (physical_lines x)))) none ∙ ap (λ x. with_text (trimmed parts) (logical_lines x)) (sym none)

pub with_text-nil : {line : List Character} (lines : List (List Character)) → line ≡ [] → with_text line lines ≡ lines
with_text-nil lines e = ap (λ x. with_text x lines) e

-- ---- cut before a mark

-- the part before the mark, after a front
abbrev pub behind : Mark → Option Bool → List Character → List Character
behind mark None ps = []
behind mark (Some may) ps = before mark may ps

pub before-append : (mark : Mark) (may : Bool) (xs ys : List Character) → before mark may (xs ++ ys) ≡ before mark may xs ++ behind mark (may_follow mark may xs) ys
before-append mark may [] ys = refl
before-append mark may (p ∷ ps) ys = go (may && is_mark mark p.char) (before-append mark (opens mark p.char) ps ys)
  where
    go : (b : Bool) → before mark (opens mark p.char) (ps ++ ys) ≡ before mark (opens mark p.char) ps ++ behind mark (may_follow mark (opens mark p.char) ps) ys
        → cond b [] (p ∷ before mark (opens mark p.char) (ps ++ ys)) ≡ cond b [] (p ∷ before mark (opens mark p.char) ps) ++ behind mark (cond b None (may_follow mark (opens mark p.char) ps)) ys
    go true e = refl
    go false e = ap (λ (x : List Character). p ∷ x) e

-- ---- cut from a mark on

-- the part from the mark on, of a front and the rest
pub from_mark-none : (mark : Mark) (may next : Bool) (xs ys : List Character) → Some next ≡ may_follow mark may xs → from_mark mark may (xs ++ ys) ≡ from_mark mark next ys
from_mark-none mark may next [] ys e = ap (λ b. from_mark mark b ys) (cc)
from_mark-none mark may next (p ∷ ps) ys e = go (may && is_mark mark p.char) (from_mark-none mark (opens mark p.char) next ps ys) e
  where
    go : (b : Bool) → (Some next ≡ may_follow mark (opens mark p.char) ps → from_mark mark (opens mark p.char) (ps ++ ys) ≡ from_mark mark next ys) → Some next ≡ cond b None (may_follow mark (opens mark p.char) ps)
        → cond b (p ∷ (ps ++ ys)) (from_mark mark (opens mark p.char) (ps ++ ys)) ≡ from_mark mark next ys
    go true shorter e = absurd cc
    go false shorter e = shorter e

pub from_mark-found : (mark : Mark) (may : Bool) (xs ys : List Character) → None ≡ may_follow mark may xs → from_mark mark may (xs ++ ys) ≡ from_mark mark may xs ++ ys
from_mark-found mark may [] ys e = absurd cc
from_mark-found mark may (p ∷ ps) ys e = go (may && is_mark mark p.char) (from_mark-found mark (opens mark p.char) ps ys) e
  where
    go : (b : Bool) → (None ≡ may_follow mark (opens mark p.char) ps → from_mark mark (opens mark p.char) (ps ++ ys) ≡ from_mark mark (opens mark p.char) ps ++ ys) → None ≡ cond b None (may_follow mark (opens mark p.char) ps)
        → cond b (p ∷ (ps ++ ys)) (from_mark mark (opens mark p.char) (ps ++ ys)) ≡ cond b (p ∷ ps) (from_mark mark (opens mark p.char) ps) ++ ys
    go true shorter e = refl
    go false shorter e = shorter e

-- ---- skipped in parts

pub skip-append_none : (set : CharacterSet) (xs ys : List Character) → skip set xs ≡ [] → skip set (xs ++ ys) ≡ skip set ys
skip-append_none set [] ys e = refl
skip-append_none set (p ∷ ps) ys e = go (holds set p.char) (skip-append_none set ps ys) e
  where
    go : (b : Bool) → (skip set ps ≡ [] → skip set (ps ++ ys) ≡ skip set ys) → cond b (skip set ps) (p ∷ ps) ≡ [] → cond b (skip set (ps ++ ys)) (p ∷ (ps ++ ys)) ≡ skip set ys
    go true shorter e = shorter e
    go false shorter e = absurd cc

pub skip-append_some : (set : CharacterSet) (xs ys : List Character) → skip set xs ≢ [] → skip set (xs ++ ys) ≡ skip set xs ++ ys
skip-append_some set [] ys some = absurd (some refl)
skip-append_some set (p ∷ ps) ys some = go (holds set p.char) (skip-append_some set ps ys) some
  where
    go : (b : Bool) → (skip set ps ≢ [] → skip set (ps ++ ys) ≡ skip set ps ++ ys) → cond b (skip set ps) (p ∷ ps) ≢ [] → cond b (skip set (ps ++ ys)) (p ∷ (ps ++ ys)) ≡ cond b (skip set ps) (p ∷ ps) ++ ys
    go true shorter some = shorter some
    go false shorter some = refl

reverse-some : {xs : List Character} → reverse xs ≢ [] → xs ≢ []
reverse-some some e = some (ap reverse e)

reverse-none : (xs : List Character) → reverse xs ≡ [] → xs ≡ []
reverse-none xs e = sym (reverse-reverse xs) ∙ ap reverse e

pub skip_back-append_none : (set : CharacterSet) (xs ys : List Character) → skip_back set ys ≡ [] → skip_back set (xs ++ ys) ≡ skip_back set xs
skip_back-append_none set xs ys e =
    ap (λ (x : List Character). reverse (skip set x)) (reverse-append xs ys) ∙ ap reverse (skip-append_none set (reverse ys) (reverse xs) (reverse-none (skip set (reverse ys)) e))

pub skip_back-append_some : (set : CharacterSet) (xs ys : List Character) → skip_back set ys ≢ [] → skip_back set (xs ++ ys) ≡ xs ++ skip_back set ys
skip_back-append_some set xs ys some =
    ap (λ (x : List Character). reverse (skip set x)) (reverse-append xs ys) ∙ ap reverse (skip-append_some set (reverse ys) (reverse xs) (reverse-some some))
    ∙ reverse-append (skip set (reverse ys)) (reverse xs) ∙ ap (λ (x : List Character). x ++ skip_back set ys) (reverse-reverse xs)

-- ---- pieces in a row

pub line_of-append : (xs ys : List Piece) → line_of (xs ++ ys) ≡ line_of xs ++ line_of ys
line_of-append [] ys = refl
line_of-append (p ∷ ps) ys = ap (λ (x : List Character). characters_of p ++ x) (line_of-append ps ys) ∙ sym (append_assoc (characters_of p) (line_of ps) (line_of ys))

pub line_of-push : (xs : List Piece) (p : Piece) → line_of (xs ++ (p ∷ [])) ≡ line_of xs ++ characters_of p
line_of-push xs p = line_of-append xs (p ∷ []) ∙ ap (λ (x : List Character). line_of xs ++ x) (append-nil (characters_of p))

-- a push of a piece, after which the pieces are `new`
pub line_pushed : (xs new : List Piece) (p : Piece) → new ≡ xs ++ (p ∷ []) → line_of new ≡ line_of xs ++ characters_of p
line_pushed xs new p e = ap line_of e ∙ line_of-push xs p

-- the result of a read if there is nothing to read
abbrev pub no_piece : Piece
no_piece = record { text = record { ref_ptr = (0, 0); now = [] }; place = record { to_end = 0; source = File } }

-- the pieces from one on
pub line_of-drop : (xs : List Piece) (i : ℕ) → i < length xs → line_of (drop i xs) ≡ characters_of (get_or xs i no_piece) ++ line_of (drop (i + 1) xs)
line_of-drop xs i lt = ap line_of (drop_more xs i no_piece lt)

-- one more piece up to a mark
pub cut_more : (mark : Mark) (may : Bool) (whole kept new front rest after : List Character) (follow : Option Bool) → before mark true whole ≡ kept ++ before mark may rest → (piece : List Character) → rest ≡ piece ++ after
    → front ≡ before mark may piece → follow ≡ may_follow mark may piece → new ≡ kept ++ front → before mark true whole ≡ new ++ behind mark follow after
cut_more mark may whole kept new front rest after follow i piece parts front_is follow_is new_is =
    i ∙ ap (λ (x : List Character). kept ++ before mark may x) parts ∙ ap (λ (x : List Character). kept ++ x) (before-append mark may piece after)
    ∙ ap (λ (x : List Character). kept ++ (x ++ behind mark (may_follow mark may piece) after)) (sym front_is)
    ∙ ap (λ (x : Option Bool). kept ++ (front ++ behind mark x after)) (sym follow_is)
    ∙ sym (append_assoc kept front (behind mark follow after))
    ∙ ap (λ (x : List Character). x ++ behind mark follow after) (sym new_is)

pub append_some : (xs ys : List Character) → ys ≢ [] → xs ++ ys ≢ []
append_some [] ys some = some
append_some (x ∷ xs) ys some = λ e. absurd cc

-- a blank piece at the front
pub front_blank : (whole rest after piece : List Character) → skip Space whole ≡ skip Space rest → rest ≡ piece ++ after → skip Space piece ≡ [] → skip Space whole ≡ skip Space after
front_blank whole rest after piece i parts none = i ∙ ap (skip Space) parts ∙ skip-append_none Space piece after none

-- the first piece that is not blank
pub front_found : (whole rest after piece : List Character) → skip Space whole ≡ skip Space rest → rest ≡ piece ++ after → skip Space piece ≢ [] → skip Space whole ≡ skip Space piece ++ after
front_found whole rest after piece i parts some = i ∙ ap (skip Space) parts ∙ skip-append_some Space piece after some

-- a blank piece at the back
pub back_blank : (whole old new piece : List Character) → skip_back Space whole ≡ skip_back Space old → old ≡ new ++ piece → skip_back Space piece ≡ [] → skip_back Space whole ≡ skip_back Space new
back_blank whole old new piece i parts none = i ∙ ap (skip_back Space) parts ∙ skip_back-append_none Space new piece none

-- the last piece that is not blank
pub back_found : (whole old new piece : List Character) → skip_back Space whole ≡ skip_back Space old → old ≡ new ++ piece → skip_back Space piece ≢ [] → skip_back Space whole ≡ new ++ skip_back Space piece
back_found whole old new piece i parts some = i ∙ ap (skip_back Space) parts ∙ skip_back-append_some Space new piece some
