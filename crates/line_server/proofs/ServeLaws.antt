-- What was read and written when serving stops: `r0`, `r1` and `r2` are what the source had left at
-- first, so far and then, `t0`, `t1` and `t2` what the sink held.
use Rattle.std.proofs.Common.{◌≡◌, ◌≢◌, ℕ, List, [], ◌∷◌, ◌++◌, inl, inr, refl, sym, ap, ◌∙◌, subst, append_assoc, take, Option, arith}
use Rattle.std.specs.Io.KnownBytes.{Appends, Consumes, IsAtEnd}
use Rattle.std.proofs.lemmas.List.{append-nil}
use Rattle.line_server.specs.Ports.{AppendsBeginning}
use Rattle.line_server.specs.Lines.{with_feed}
use Rattle.line_server.specs.Serving.{Answers, AnswersBeginning, Serves, AnswersEachLine, AnswersWholeLines, AnswersFirstLines, Exchanges}
use Rattle.line_server.proofs.PortLaws.{Appends-then, Consumes-then}
use Rattle.line_server.proofs.LineLaws.{whole_then, whole_lines_of, lines_ended, lines_unended}
use Rattle.line_server.proofs.ServingLaws.{answers_one, answers_then, serves_then}

-- a read at the end gave no byte
pub read_end : (r0 r1 r2 : Option (List ℕ)) (input buffer : List ℕ) (count : ℕ) → Consumes r0 r1 input → Consumes r1 r2 (take count buffer) → count ≡ 0 → Consumes r0 r2 input
read_end r0 r1 r2 input buffer count h1 h2 h3 = grind arith

-- what was added to nothing
pub from_empty : {before after added : List ℕ} → after ≡ before ++ added → before ≡ [] → after ≡ added
from_empty {added = added} e none = e ∙ ap (λ (x : List ℕ). x ++ added) none

module _ {State : Type 0} (Step : State → List ℕ → List ℕ → State → Type 0) where
  -- what holds between two reads
  abbrev pub Served : Option (List ℕ) → Option (List ℕ) → Option (List ℕ) → Option (List ℕ) → State → State → List ℕ → Type 0
  Served r0 r1 t0 t1 old state held = (input : List ℕ) × (output : List ℕ) × Consumes r0 r1 input × Appends t0 t1 output × Serves Step old [] input output state held

  -- what holds after a fault
  abbrev pub Broken : Option (List ℕ) → Option (List ℕ) → Option (List ℕ) → Option (List ℕ) → State → Type 0
  Broken r0 r1 t0 t1 old = Exchanges r0 r1 t0 t1 (AnswersFirstLines Step r1 old)

  -- what holds at the end
  abbrev pub Finished : Option (List ℕ) → Option (List ℕ) → Option (List ℕ) → Option (List ℕ) → State → State → Type 0
  Finished r0 r1 t0 t1 old new = Exchanges r0 r1 t0 t1 (AnswersEachLine Step old new)

  -- one more read, answered and written
  pub served_more : {old middle new : State} {held rest out replies : List ℕ} (r0 r1 r2 t0 t1 t2 : Option (List ℕ)) (bytes : List ℕ)
      → Served r0 r1 t0 t1 old middle held → Consumes r1 r2 bytes → Serves Step middle held bytes out new rest → replies ≡ out → Appends t1 t2 replies → Served r0 r2 t0 t2 old new rest
  served_more {out = out} r0 r1 r2 t0 t1 t2 bytes p read served told wrote =
      (p.0 ++ bytes, p.1 ++ out, Consumes-then r0 r1 r2 p.0 bytes p.2 read, Appends-then t0 t1 t2 p.1 out p.3 (subst (Appends t1 t2) told wrote), serves_then Step p.0 bytes p.4 served)

  -- what was written answers all whole lines
  beginning_of_all : {old new : State} {lines : List (List ℕ)} {output : List ℕ} (others : List (List ℕ)) → Answers Step old lines output new → AnswersBeginning Step old (lines ++ others) output
  beginning_of_all {old} {new} {lines} {output} others p = record {
    answered = lines;
    others = others;
    more = [];
    new = new;
    joined = refl;
    answers = subst (λ (x : List ℕ). Answers Step old lines x new) (sym (append-nil output)) p;
  }

  beginning_of : {old new : State} {lines : List (List ℕ)} {output all : List ℕ} (back : List ℕ) → all ≡ output ++ back → Answers Step old lines all new → AnswersBeginning Step old lines output
  beginning_of {old} {new} {lines} {output} back parts p = record {
    answered = lines;
    others = [];
    more = back;
    new = new;
    joined = sym (append-nil lines);
    answers = subst (λ (x : List ℕ). Answers Step old lines x new) parts p;
  }

  -- after a failed read, or refused room with nothing read since
  pub broken_here : {old state : State} {held : List ℕ} (r0 r1 t0 t1 : Option (List ℕ)) → Served r0 r1 t0 t1 old state held → Broken r0 r1 t0 t1 old
  broken_here r0 r1 t0 t1 p =
      (p.0, p.1, p.2, p.3, record { lines = p.4.lines; read = inl (_, p.4.read); answers = beginning_of [] (sym (append-nil p.1)) p.4.answers })

  -- after a failed read all whole lines are answered
  pub whole_here : {old state : State} {held : List ℕ} (r0 r1 t0 t1 : Option (List ℕ)) → Served r0 r1 t0 t1 old state held → Exchanges r0 r1 t0 t1 (AnswersWholeLines Step old state)
  whole_here r0 r1 t0 t1 h1 = grind arith

  -- after refused room for what was read
  pub broken_read : {old state : State} {held : List ℕ} (r0 r1 r2 t0 t1 : Option (List ℕ)) (bytes : List ℕ) → Served r0 r1 t0 t1 old state held → Consumes r1 r2 bytes → Broken r0 r2 t0 t1 old
  broken_read {held = held} r0 r1 r2 t0 t1 bytes p read =
      let w = whole_lines_of (held ++ bytes) in
      (p.0 ++ bytes, p.1, Consumes-then r0 r1 r2 p.0 bytes p.2 read, p.3, record { lines = p.4.lines ++ w.0; read = inl (w.1, whole_then bytes p.4.read w.2); answers = beginning_of_all w.0 p.4.answers })

  -- after a failed write of the replies to what was read
  pub broken_write : {old middle new : State} {held rest out replies : List ℕ} (r0 r1 r2 t0 t1 t2 : Option (List ℕ)) (bytes : List ℕ)
      → Served r0 r1 t0 t1 old middle held → Consumes r1 r2 bytes → Serves Step middle held bytes out new rest → replies ≡ out → AppendsBeginning t1 t2 replies → Broken r0 r2 t0 t2 old
  broken_write {rest = rest} r0 r1 r2 t0 t1 t2 bytes p read served told wrote =
      let all = serves_then Step p.0 bytes p.4 served in (
        p.0 ++ bytes,
        p.1 ++ wrote.front,
        Consumes-then r0 r1 r2 p.0 bytes p.2 read,
        Appends-then t0 t1 t2 p.1 wrote.front p.3 wrote.written,
        record {
          lines = all.lines;
          read = inl (rest, all.read);
          answers = beginning_of wrote.back (ap (λ (x : List ℕ). p.1 ++ x) (sym told ∙ wrote.parts) ∙ sym (append_assoc p.1 wrote.front wrote.back)) all.answers;
        },
      )

  -- after a failed write of the reply to a last line
  pub broken_last : {old middle new : State} {held reply replies : List ℕ} (r0 r1 t0 t1 t2 : Option (List ℕ))
      → Served r0 r1 t0 t1 old middle held → IsAtEnd r1 → held ≢ [] → Step middle held reply new → replies ≡ with_feed reply → AppendsBeginning t1 t2 replies → Broken r0 r1 t0 t2 old
  broken_last {held = held} {reply = reply} r0 r1 t0 t1 t2 p end some step told wrote = (
    p.0,
    p.1 ++ wrote.front,
    p.2,
    Appends-then t0 t1 t2 p.1 wrote.front p.3 wrote.written,
    record {
      lines = p.4.lines ++ (held ∷ []);
      read = inr (end, lines_unended p.4.read some);
      answers = beginning_of wrote.back (ap (λ (x : List ℕ). p.1 ++ x) (sym told ∙ wrote.parts) ∙ sym (append_assoc p.1 wrote.front wrote.back)) (answers_then Step p.4.answers (answers_one Step step));
    },
  )

  -- the end, with no line begun and with a last line
  pub finished_ended : {old new : State} {held : List ℕ} (r0 r1 t0 t1 : Option (List ℕ)) → Served r0 r1 t0 t1 old new held → held ≡ [] → Finished r0 r1 t0 t1 old new
  finished_ended r0 r1 t0 t1 p none = (p.0, p.1, p.2, p.3, record { lines = p.4.lines; read = lines_ended p.4.read none; answers = p.4.answers })

  pub finished_unended : {old middle new : State} {held reply replies : List ℕ} (r0 r1 t0 t1 t2 : Option (List ℕ))
      → Served r0 r1 t0 t1 old middle held → held ≢ [] → Step middle held reply new → replies ≡ with_feed reply → Appends t1 t2 replies → Finished r0 r1 t0 t2 old new
  finished_unended {held = held} {reply = reply} r0 r1 t0 t1 t2 p some step told wrote =
      (p.0, p.1 ++ with_feed reply, p.2, Appends-then t0 t1 t2 p.1 (with_feed reply) p.3 (subst (Appends t1 t2) told wrote), record { lines = p.4.lines ++ (held ∷ []); read = lines_unended p.4.read some; answers = answers_then Step p.4.answers (answers_one Step step) })
