-- The errors of faults, and what they say of the text.
use Rattle.std.proofs.Common.{◌≡◌, ℕ, ◌+◌, ◌-◌, ◌<◌, cond, eqb, Bool, true, false, List, ◌++◌, Option, Some, None, length, sym, subst, ◌∙◌, arith, length-append, IsUtf8}
use Rattle.std.specs.Prelude.{IfSome}
use Rattle.refusal.specs.declared.Refusal.{Refusal}
use Rattle.refusal.specs.declared.Refusal.TheVariants as refusals
use Rattle.pep508_text.specs.Suffix.{IsSuffix, IsPiece, IsSpan}
use Rattle.pep508_text.proofs.SuffixLaws.{len_inside, piece_start, spanned}
use Rattle.pep508_errors.specs.declared.error.Pep508Error.{Pep508Error}
use Rattle.pep508_errors.specs.declared.error.Pep508ErrorSource.{Pep508ErrorSource}
use Rattle.pep508_errors.specs.declared.error.Pep508ErrorSource.TheVariants as sources
use Rattle.marker_words.specs.Fault.{IsSpanOf}
use Rattle.requirement_words.specs.declared.fault.Fault.{Fault}
use Rattle.requirement_words.specs.declared.fault.FaultKind.{FaultKind}
use Rattle.requirement_words.specs.Fault.{IsFaultBy, IsRefused}
use Rattle.pep508_requirements.specs.Refused.{HasMessage, TellsFault, IsErrorBy, OnError, IsRefusedBy, TellsUrl, IsUrlError}

pub covers_of : (t n left : ℕ) → t - left < t → cond (eqb left 0) 1 n ≡ n
covers_of t n left inside = len_inside left n (omega arith)

-- a piece of a text has a span there
abbrev pub span_at : {text piece : List ℕ} {left start len : ℕ} → IsPiece text piece left → start ≡ length text - left → len ≡ cond (eqb left 0) 1 (length piece) → IsSpanOf text piece start len
span_at {text} {piece} {left} {start} {len} p s l = record {
  stands = record { front = p.begins.front; back = p.back; joined = p.begins.joined; start_is = piece_start p ∙ sym s };
  span = subst (λ (n : ℕ). IsSpan text n len) (sym s) (subst (IsSpan text (length text - left)) (sym l) (spanned p));
  covers = λ inside. l ∙ covers_of (length text) (length piece) left (subst (λ (n : ℕ). n < length text) s inside);
}

-- a URL comes directly before the rest
abbrev pub url_piece : (text url rest : List ℕ) → IsSuffix text (url ++ rest) → IsUtf8 rest → IsPiece text url (length url + length rest)
url_piece text url rest s utf8 = record { back = rest; begins = s; ends = utf8; length_is = length-append url rest }

module _ {T E : Type 0} where
  -- the error of a fault of the text
  pub error_by : (Finds : FaultKind → List ℕ → List ℕ → Type 0) {text : List ℕ} {fault : Fault} {error : Pep508Error T E} → IsFaultBy Finds text fault → TellsFault text fault error → IsErrorBy Finds text error
  error_by Finds {text} {fault} {error} f t = record {
    input = t.input;
    kind = fault.kind;
    piece = fault.place.piece.now;
    place = span_at f.place t.start t.len;
    found = f.found;
    message = t.message;
  }

  -- the refusal of a fault of the text, and what follows from it
  pub refused_by : (Finds : FaultKind → List ℕ → List ℕ → Type 0) (P : Type 0) (text : List ℕ) (fault : Fault) {read : Refusal Fault} (refusal : Refusal (Pep508Error T E)) → read ≡ refusals.Fault fault
      → IsRefused (IsFaultBy Finds text) P read → OnError (TellsFault text fault) refusal → IsRefusedBy Finds P text refusal
  refused_by Finds P text fault refusals.OutOfMemory is r t = tt
  refused_by Finds P text fault refusals.SegmentAtEnd is r t = absurd t
  refused_by Finds P text fault (refusals.Fault error) is r t =
      let h = subst (IsRefused (IsFaultBy Finds text) P) is r in
      (error_by Finds h.0 t, h.1)

  -- the type of URLs refuses the text
  pub url_error : (names : List ℕ → T → Type 0) (tells_size : E → Bool) (may_overflow : List ℕ → Type 0) (text whole given rest : List ℕ) (fault : E) (refusal : Refusal (Pep508Error T E))
      → (tells_size fault ≡ false → (u : T) → ¬ names given u) → (tells_size fault ≡ true → may_overflow given)
      → OnError (TellsUrl text whole rest fault) refusal → OnError (IsUrlError names tells_size may_overflow text whole given rest) refusal
  url_error names tells_size may_overflow text whole given rest fault refusals.OutOfMemory none large t = tt
  url_error names tells_size may_overflow text whole given rest fault refusals.SegmentAtEnd none large t = absurd t
  url_error names tells_size may_overflow text whole given rest fault (refusals.Fault error) none large t = record { fault = fault; told = t; fault_is = record { none = none; large = large } }
