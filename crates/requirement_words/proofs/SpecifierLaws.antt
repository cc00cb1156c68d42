-- Reading a list of specifiers piece by piece.
use Rattle.std.proofs.Common.{◌≡◌, ◌≢◌, ℕ, false, List, [], ◌∷◌, ◌++◌, refl, sym, ap, ◌∙◌, subst, append_assoc, append-nil, IsUtf8, arith}
use Rattle.std.specs.Prelude.{encode_utf8_all}
use Rattle.std.specs.Str.{chars}
use Rattle.std.proofs.lemmas.Bool.{false≢true}
use Rattle.std.proofs.lemmas.List.{append_cancel_left}
use Rattle.std.proofs.lemmas.Str.{encodes-chars, encodes_same}
use Rattle.pep508_text.proofs.RunLaws.{run_of-after_run}
use Rattle.requirement_words.proofs.Characters.{tails}
use Rattle.refusal.specs.declared.Refusal.{Refusal}
use Rattle.refusal.specs.declared.Refusal.TheVariants as refusals
use Rattle.pep440_specifier.specs.Grammar.{IsSpecifierText}
use Rattle.pep440_specifier.specs.Specifier.{Specifier}
use Rattle.pep508_text.specs.Suffix.{IsSuffix}
use Rattle.pep508_text.specs.Run.{run_of, after_run}
use Rattle.pep508_text.specs.declared.classes.Class.TheVariants as classes
use Rattle.requirement_words.specs.Fault.{FindsInSpecifiers, no_specifier, Preceded}
use Rattle.requirement_words.specs.Fault as faults
use Rattle.requirement_words.specs.declared.fault.FaultKind.{FaultKind}
use Rattle.requirement_words.specs.Specifiers.{piece_of, after_piece, begins_comma, Pieces, last, more, IsSpecifiers}

-- how the whole continues: the specifiers so far, and then those that are left
pub record Reading (end : ℕ) (text left : List ℕ) (list : List Specifier) : Type 0 where
  pub suffix : IsSuffix text left
  pub found : (output : List ℕ) (others : List Specifier) → Pieces end (chars left) output others → Pieces end (chars text) output (list ++ others)
  pub only : (output : List ℕ) (all : List Specifier) → Pieces end (chars text) output all → (others : List Specifier) × Pieces end (chars left) output others

pub reading_start : (end : ℕ) (text : List ℕ) (list : List Specifier) → list ≡ [] → IsSuffix text text → Reading end text text list
reading_start end text list h1 h2 = grind arith

-- one specifier, and a comma
only_more : (end : ℕ) (i next output : List ℕ) (all : List Specifier) → after_run (classes.SpecifierPart end) i ≡ 44 ∷ next → Pieces end i output all → (others : List Specifier) × Pieces end next output others
only_more end i next output all h1 h2 = grind arith

pub reading_more : (end : ℕ) (text left rest next : List ℕ) (s : Specifier) (list new : List Specifier) → Reading end text left list → IsSuffix text next
    → IsSpecifierText (encode_utf8_all (run_of (classes.SpecifierPart end) (chars left))) s → rest ≡ after_run (classes.SpecifierPart end) (chars left) → rest ≡ 44 ∷ chars next → new ≡ list ++ (s ∷ [])
    → Reading end text next new
reading_more end text left rest next s list new reading suffix is_s rest_is comma e =
    let behind : after_run (classes.SpecifierPart end) (chars left) ≡ 44 ∷ chars next = sym rest_is ∙ comma in
    record {
      suffix = suffix;
      found = λ output others h. subst (Pieces end (chars text) output) (sym (append_assoc list (s ∷ []) others) ∙ ap (λ (x : List Specifier). x ++ others) (sym e)) (reading.found output (s ∷ others) (more is_s behind h));
      only = λ output all h. let g = reading.only output all h in only_more end _ _ output g.0 behind g.1;
    }

no_comma : (t : List ℕ) → ((rest : List ℕ) → t ≢ 44 ∷ rest) → begins_comma t ≡ false
no_comma t h1 = grind arith

-- the last specifier
pub reading_ended : (end : ℕ) (text left rest : List ℕ) (s : Specifier) (list new : List Specifier) → Reading end text left list
    → IsSpecifierText (encode_utf8_all (run_of (classes.SpecifierPart end) (chars left))) s → rest ≡ after_run (classes.SpecifierPart end) (chars left) → ((x : List ℕ) → rest ≢ 44 ∷ x) → new ≡ list ++ (s ∷ [])
    → Pieces end (chars text) rest new
reading_ended end text left rest s list new reading is_s rest_is alone e =
    let all : Pieces end (chars text) rest (list ++ (s ∷ [])) = reading.found rest (s ∷ []) (last is_s (sym rest_is) (no_comma rest alone)) in
    subst (Pieces end (chars text) rest) (sym e) all

-- no specifier
no_piece : (end : ℕ) (i output : List ℕ) (all : List Specifier) → ((s : Specifier) → ¬ IsSpecifierText (encode_utf8_all (run_of (classes.SpecifierPart end) i)) s) → Pieces end i output all → ⊥
no_piece end i output all h (last {s = s} is_s rest stops) = h s is_s
no_piece end i output all h (more {s = s} is_s comma others) = h s is_s

pub none_piece : (end : ℕ) (text left : List ℕ) (list : List Specifier) → Reading end text left list → ((s : Specifier) → ¬ IsSpecifierText (encode_utf8_all (run_of (classes.SpecifierPart end) (chars left))) s) → (output : List ℕ) (set : List Specifier) → ¬ IsSpecifiers end (chars text) output set
none_piece end text left list reading h output set all = grind (arith, no_piece)

-- what follows specifiers is determined
pub pieces_rest : {end : ℕ} {i o p : List ℕ} {l m : List Specifier} → Pieces end i o l → Pieces end i p m → o ≡ p
pieces_rest (last s rest alone) (last t other lone) = sym rest ∙ other
pieces_rest (last s rest alone) (more t comma others) = absurd (false≢true (sym alone ∙ ap begins_comma (sym rest ∙ comma)))
pieces_rest (more s comma others) (last t rest alone) = absurd (false≢true (sym alone ∙ ap begins_comma (sym rest ∙ comma)))
pieces_rest {end} {i} {o} {p} (more {next = n} {others = os} s comma h) (more {next = k} t other g) =
    let same : n ≡ k = tails 44 n k (after_run (classes.SpecifierPart end) i) (after_run (classes.SpecifierPart end) i) refl comma other in
    pieces_rest (subst (λ (x : List ℕ). Pieces end x o os) same h) g

-- a refusal that is a fault is not an allocation failure
pub not_memory : {E : Type 0} (r : Refusal E) (f : E) → r ≡ refusals.Fault f → r ≡ refusals.OutOfMemory → ⊥
not_memory r f e g = cc

-- ---- the place of a piece

pub record Going (end : ℕ) (text left : List ℕ) (list : List Specifier) : Type 0 where
  pub reading : Reading end text left list
  pub preceded : Preceded end (chars text) (chars left)

pub going_start : (end : ℕ) (text : List ℕ) (list : List Specifier) → list ≡ [] → IsSuffix text text → Going end text text list
going_start end text list e suffix = record { reading = reading_start end text list e suffix; preceded = faults.none }

pub going_more : (end : ℕ) (text left rest next : List ℕ) (s : Specifier) (list new : List Specifier) → Going end text left list → IsSuffix text next
    → IsSpecifierText (piece_of end (chars left)) s → chars rest ≡ after_piece end (chars left) → chars rest ≡ 44 ∷ chars next → new ≡ list ++ (s ∷ [])
    → Going end text next new
going_more end text left rest next s list new going suffix is_s rest_is comma e = record {
  reading = reading_more end text left (chars rest) next s list new going.reading suffix is_s rest_is comma e;
  preceded = faults.more going.preceded is_s (sym rest_is ∙ comma);
}

-- before the last of the pieces
pub last_piece : {end : ℕ} {input i o : List ℕ} {l : List Specifier} → Preceded end input i → Pieces end i o l → (left : List ℕ) × Preceded end input left × (after_piece end left ≡ o)
last_piece {i = i} before (last s rest alone) = (i, before, rest)
last_piece before (more s comma others) = last_piece (faults.more before s comma) others

-- a piece that is not one, up to the end of the text
pub ends_there : {end : ℕ} {input piece back : List ℕ} {kind : FaultKind} → IsUtf8 (piece ++ back) → back ≡ [] → FindsInSpecifiers end input kind piece back → (left : List ℕ) × Preceded end input left × (after_piece end left ≡ [])
ends_there {end} {piece = piece} {back = back} utf8 none_ (no_specifier {left = left} before here is unread told) =
    let same : piece ++ back ≡ piece = ap (λ (x : List ℕ). piece ++ x) none_ ∙ append-nil piece in
    let whole : chars piece ≡ left = ap chars (sym same) ∙ here in
    (left, before, ap (after_piece end) (sym whole) ∙ whole_piece end piece (subst IsUtf8 same utf8) (is ∙ ap (piece_of end) (sym whole)))
  where
    whole_piece : (end : ℕ) (piece : List ℕ) → IsUtf8 piece → piece ≡ piece_of end (chars piece) → after_piece end (chars piece) ≡ []
    whole_piece end piece utf8 is =
        let all : run_of (classes.SpecifierPart end) (chars piece) ≡ chars piece = encodes_same _ _ (sym is ∙ sym (encodes-chars piece utf8)) in
        append_cancel_left (chars piece) (after_run (classes.SpecifierPart end) (chars piece)) []
        (ap (λ (x : List ℕ). x ++ after_run (classes.SpecifierPart end) (chars piece)) (sym all) ∙ run_of-after_run (classes.SpecifierPart end) (chars piece) ∙ sym (append-nil (chars piece)))
