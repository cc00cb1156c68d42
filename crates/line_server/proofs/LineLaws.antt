-- How bytes are split into lines, part by part.
use Rattle.std.proofs.Common.{◌≡◌, ◌≢◌, ℕ, List, [], ◌∷◌, ◌++◌, refl, sym, ap, ◌∙◌, subst, append_assoc, take, drop, length, get_or, ◌<◌, ◌+◌, arith, length-take, add-one, ⊎_elim}
use Rattle.std.specs.List.{flat_map}
use Rattle.std.proofs.lemmas.List.{append-nil, take-append-drop, get_or-take}
use Rattle.std.proofs.lemmas.List.Elements.{All-nil, All-cons, All-append, All-head, All-tail, All-from_get_or}
use Rattle.std.proofs.lemmas.Bool.{cases_eq, eqb-true, eq-eqb}
use Rattle.std.proofs.Math.Seq.{drop-cons}
use Rattle.memchr.specs.Find.{Nowhere, NoneBefore, Passes, is_byte}
use Rattle.std.proofs.lemmas.List.Concat.{flat_map-append}
use Rattle.line_server.specs.Lines.{HasNoFeed, with_feed, WholeLines, Lines, ended, unended}

-- no line has ended
pub whole_none : {rest : List ℕ} → HasNoFeed rest → WholeLines rest [] rest
whole_none h = record { parts = refl; whole = All-nil HasNoFeed; unended = h }

-- one line has ended
pub whole_one : {line : List ℕ} → HasNoFeed line → WholeLines (with_feed line) (line ∷ []) []
whole_one h1 = grind (arith, append-nil)

-- more bytes after the rest
pub whole_then : {a rest end : List ℕ} {lines more : List (List ℕ)} (b : List ℕ) → WholeLines a lines rest → WholeLines (rest ++ b) more end → WholeLines (a ++ b) (lines ++ more) end
whole_then {a} {rest} {end} {lines} {more} b p q = record {
  parts = ap (λ (x : List ℕ). x ++ b) p.parts ∙ append_assoc (flat_map with_feed lines) rest b ∙ ap (λ (x : List ℕ). flat_map with_feed lines ++ x) q.parts ∙ sym (append_assoc (flat_map with_feed lines) (flat_map with_feed more) end) ∙ ap (λ (x : List ℕ). x ++ end) (sym (flat_map-append with_feed lines more));
  whole = All-append HasNoFeed lines more p.whole q.whole;
  unended = q.unended;
}

-- one more byte before the first line, or before the rest
begun : {bytes rest : List ℕ} (b : ℕ) → b ≢ 10 → (lines : List (List ℕ)) → WholeLines bytes lines rest → (ls : List (List ℕ)) × (r : List ℕ) × WholeLines (b ∷ bytes) ls r
begun {bytes} {rest} b other [] w = ([], b ∷ rest, record { parts = ap (λ (x : List ℕ). b ∷ x) w.parts; whole = w.whole; unended = All-cons (λ (c : ℕ). c ≢ 10) b rest other w.unended })
begun {bytes} {rest} b other (line ∷ lines) w = (
  (b ∷ line) ∷ lines,
  rest,
  record {
    parts = ap (λ (x : List ℕ). b ∷ x) w.parts;
    whole = All-cons HasNoFeed (b ∷ line) lines (All-cons (λ (c : ℕ). c ≢ 10) b line other (All-head HasNoFeed line lines w.whole)) (All-tail HasNoFeed line lines w.whole);
    unended = w.unended;
  },
)

-- every text has its whole lines and a rest
pub whole_lines_of : (bytes : List ℕ) → (lines : List (List ℕ)) × (rest : List ℕ) × WholeLines bytes lines rest
whole_lines_of [] = ([], [], whole_none (All-nil (λ (b : ℕ). b ≢ 10)))
whole_lines_of (b ∷ bytes) =
    let later = whole_lines_of bytes in
    ⊎_elim
    (λ (feed : b ≡ 10). (([] ∷ later.0), later.1, subst (λ (x : ℕ). WholeLines (x ∷ bytes) ([] ∷ later.0) later.1) (sym feed) (whole_then bytes (whole_one (All-nil (λ (c : ℕ). c ≢ 10))) later.2)))
    (λ (other : b ≢ 10). begun b other later.0 later.2)
    (cases_eq b 10)

-- the lines of an input with nothing left over, and with a last line that no line feed ends
pub lines_ended : {input rest : List ℕ} {lines : List (List ℕ)} → WholeLines input lines rest → rest ≡ [] → Lines input lines
lines_ended {input} {rest} {lines} w e = ended (subst (WholeLines input lines) e w)

pub lines_unended : {input rest : List ℕ} {lines : List (List ℕ)} → WholeLines input lines rest → rest ≢ [] → Lines input (lines ++ (rest ∷ []))
lines_unended w some = unended w some

drop_first : (bytes : List ℕ) (i : ℕ) → i < length bytes → drop i bytes ≡ get_or bytes i 0 ∷ drop (i + 1) bytes
drop_first bytes i below = rw (add-one, drop-cons bytes i 0)

-- The first line feed parts the bytes.
pub first_feed : (bytes : List ℕ) (end : ℕ) → NoneBefore (Passes (is_byte 10) bytes) 0 (length bytes) end → Passes (is_byte 10) bytes end → HasNoFeed (take end bytes) × (bytes ≡ with_feed (take end bytes) ++ drop (end + 1) bytes)
first_feed bytes end first passes =
    let is : get_or bytes end 0 ≡ 10 = eqb-true (get_or bytes end 0) 10 passes in
    let below : end < length bytes = first.high in (
      All-from_get_or (λ (b : ℕ). b ≢ 10) (take end bytes) 0 (λ k h e.
          let under : k < end = omega (arith, length-take end bytes) in
          first.before k (omega arith) under (eq-eqb (get_or bytes k 0) 10 (sym (get_or-take end bytes k 0 under) ∙ e))),
      sym (take-append-drop end bytes) ∙ ap (λ (x : List ℕ). take end bytes ++ x) (drop_first bytes end below ∙ ap (λ (b : ℕ). b ∷ drop (end + 1) bytes) is) ∙ sym (append_assoc (take end bytes) (10 ∷ []) (drop (end + 1) bytes)),
    )

-- no line feed is there
pub no_feed : (bytes : List ℕ) → Nowhere (Passes (is_byte 10) bytes) 0 (length bytes) → HasNoFeed bytes
no_feed bytes nowhere = All-from_get_or (λ (b : ℕ). b ≢ 10) bytes 0 (λ k h e. nowhere k (omega arith) h (eq-eqb (get_or bytes k 0) 10 e))
