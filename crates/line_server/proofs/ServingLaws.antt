-- Lines that are answered: part after part.
use Rattle.std.proofs.Common.{◌≡◌, ◌≢◌, ℕ, List, [], ◌∷◌, ◌++◌, refl, sym, ap, ◌∙◌, subst, append_assoc, take, drop, length, ◌+◌, arith}
use Rattle.std.proofs.lemmas.List.{append-nil}
use Rattle.std.proofs.lemmas.List.Concat.{flat_map-append}
use Rattle.line_server.specs.Lines.{HasNoFeed, with_feed, WholeLines}
use Rattle.line_server.specs.Serving.{Run, done, next, Answers, AnswersBeginning, Serves}
use Rattle.line_server.proofs.LineLaws.{whole_none, whole_one, whole_then, first_feed, no_feed}
use Rattle.memchr.specs.Find.{Nowhere, NoneBefore, Passes, is_byte}
use Rattle.std.proofs.lemmas.List.Elements.{All-append}

module _ {State : Type 0} (Step : State → List ℕ → List ℕ → State → Type 0) where
  pub run_then : {old middle new : State} {lines more replies others : List (List ℕ)} → Run Step old lines replies middle → Run Step middle more others new → Run Step old (lines ++ more) (replies ++ others) new
  run_then done q = q
  run_then (next step p) q = next step (run_then p q)

  -- no line
  pub answers_none : (state : State) → Answers Step state [] [] state
  answers_none state = record { replies = []; run = done; written = refl }

  -- one line
  pub answers_one : {old new : State} {line reply : List ℕ} → Step old line reply new → Answers Step old (line ∷ []) (with_feed reply) new
  answers_one {reply = reply} step = record { replies = reply ∷ []; run = next step done; written = sym (append-nil (with_feed reply)) }

  -- more lines
  pub answers_then : {old middle new : State} {lines more : List (List ℕ)} {output others : List ℕ} → Answers Step old lines output middle → Answers Step middle more others new → Answers Step old (lines ++ more) (output ++ others) new
  answers_then h1 h2 = grind (arith, run_then, flat_map-append)

  -- no byte
  pub serves_none : (state : State) (held : List ℕ) → HasNoFeed held → Serves Step state held [] [] state held
  serves_none state held h = record { lines = []; read = subst (λ (x : List ℕ). WholeLines x [] held) (sym (append-nil held)) (whole_none h); answers = answers_none state }

  -- bytes without a line feed
  pub serves_held : (state : State) (held bytes : List ℕ) → HasNoFeed (held ++ bytes) → Serves Step state held bytes [] state (held ++ bytes)
  serves_held state held bytes h = record { lines = []; read = whole_none h; answers = answers_none state }

  -- the end of a line
  pub serves_line : {old new : State} {reply : List ℕ} (held bytes : List ℕ) → HasNoFeed (held ++ bytes) → Step old (held ++ bytes) reply new → Serves Step old held (with_feed bytes) (with_feed reply) new []
  serves_line held bytes h step = record {
    lines = (held ++ bytes) ∷ [];
    read = subst (λ (x : List ℕ). WholeLines x ((held ++ bytes) ∷ []) []) (append_assoc held bytes (10 ∷ [])) (whole_one h);
    answers = answers_one step;
  }

  -- more bytes
  pub serves_then : {old middle new : State} {held rest end output others : List ℕ} (a b : List ℕ) → Serves Step old held a output middle rest → Serves Step middle rest b others new end → Serves Step old held (a ++ b) (output ++ others) new end
  serves_then {held = held} {end = end} a b p q = record {
    lines = p.lines ++ q.lines;
    read = subst (λ (x : List ℕ). WholeLines x (p.lines ++ q.lines) end) (append_assoc held a b) (whole_then b p.read q.read);
    answers = answers_then p.answers q.answers;
  }

  -- a turn of the loop over bytes: `rest` was left, and what follows its first line feed is left now
  pub serves_more : {s0 s1 s2 : State} {held0 held1 held2 front output reply replies1 replies2 bytes left : List ℕ} (replies0 rest : List ℕ) (end : ℕ)
      → bytes ≡ front ++ rest → Serves Step s0 held0 front output s1 held1 → replies1 ≡ replies0 ++ output
      → NoneBefore (Passes (is_byte 10) rest) 0 (length rest) end × Passes (is_byte 10) rest end
      → Step s1 (held1 ++ take end rest) reply s2 → replies2 ≡ replies1 ++ with_feed reply → held2 ≡ [] → left ≡ drop (end + 1) rest
      → (x : List ℕ) × (y : List ℕ) × (bytes ≡ x ++ left) × Serves Step s0 held0 x y s2 held2 × (replies2 ≡ replies0 ++ y)
  serves_more {s0} {s1} {s2} {held0} {held1} {held2} {front} {output} {reply} {replies1} {replies2} {bytes} {left} replies0 rest end parts served made first step told none left_is =
      let line = take end rest in
      let cut = first_feed rest end first.0 first.1 in
      let ended : Serves Step s1 held1 (with_feed line) (with_feed reply) s2 [] = serves_line held1 line (All-append (λ (b : ℕ). b ≢ 10) held1 line served.read.unended cut.0) step in (
        front ++ with_feed line,
        output ++ with_feed reply,
        parts ∙ ap (λ (x : List ℕ). front ++ x) (cut.1 ∙ ap (λ (x : List ℕ). with_feed line ++ x) (sym left_is)) ∙ sym (append_assoc front (with_feed line) left),
        subst (λ (x : List ℕ). Serves Step s0 held0 (front ++ with_feed line) (output ++ with_feed reply) s2 x) (sym none) (serves_then front (with_feed line) served ended),
        told ∙ ap (λ (x : List ℕ). x ++ with_feed reply) made ∙ append_assoc replies0 output (with_feed reply),
      )

  -- the end of that loop: no line feed is left
  pub serves_rest : {s0 s1 : State} {held0 held1 held2 front output bytes : List ℕ} (rest : List ℕ)
      → bytes ≡ front ++ rest → Serves Step s0 held0 front output s1 held1
      → Nowhere (Passes (is_byte 10) rest) 0 (length rest) → held2 ≡ held1 ++ rest
      → Serves Step s0 held0 bytes output s1 held2
  serves_rest {s0} {s1} {held0} {held1} {held2} {front} {output} {bytes} rest parts served nowhere held_is =
      let held : Serves Step s1 held1 rest [] s1 (held1 ++ rest) = serves_held s1 held1 rest (All-append (λ (b : ℕ). b ≢ 10) held1 rest served.read.unended (no_feed rest nowhere)) in
      subst (λ (x : List ℕ). Serves Step s0 held0 x output s1 held2) (sym parts)
      (subst (λ (x : List ℕ). Serves Step s0 held0 (front ++ rest) output s1 x) (sym held_is)
      (subst (λ (x : List ℕ). Serves Step s0 held0 (front ++ rest) x s1 (held1 ++ rest)) (append-nil output) (serves_then front rest served held)))

-- States that are seen through a view.
module _ {State Seen : Type 0} (Step : Seen → List ℕ → List ℕ → Seen → Type 0) (view : State → Seen) where
  abbrev pub StepSeen : State → List ℕ → List ℕ → State → Type 0
  StepSeen old line reply new = Step (view old) line reply (view new)

  pub run_seen : {old new : State} {lines replies : List (List ℕ)} → Run StepSeen old lines replies new → Run Step (view old) lines replies (view new)
  run_seen done = done
  run_seen (next step p) = next step (run_seen p)

  pub answers_seen : {old new : State} {lines : List (List ℕ)} {output : List ℕ} → Answers StepSeen old lines output new → Answers Step (view old) lines output (view new)
  answers_seen p = record { replies = p.replies; run = run_seen p.run; written = p.written }

  pub beginning_seen : {old : State} {lines : List (List ℕ)} {output : List ℕ} → AnswersBeginning StepSeen old lines output → AnswersBeginning Step (view old) lines output
  beginning_seen p = record { answered = p.answered; others = p.others; more = p.more; new = view p.new; joined = p.joined; answers = answers_seen p.answers }
