-- Faults in the rest of a text are faults in the text, and their messages.
use Rattle.std.proofs.Common.{◌≡◌, ℕ, ◌-◌, ◌<◌, cond, eqb, List, [], ◌++◌, length, refl, sym, ap, ◌∙◌, subst, arith, IsUtf8, rules}
use Rattle.std.specs.Prelude.{encode_utf8, encode_utf8_all, Result, OnErr}
use Rattle.std.specs.Str.{chars}
use Rattle.pep508_text.specs.Run.{run_of}
use Rattle.pep508_text.specs.declared.classes.Class.{Class}
use Rattle.pep508_text.specs.Suffix.{IsSuffix, IsPiece, span_len}
use Rattle.pep508_text.specs.declared.place.Place.{Place}
use Rattle.pep508_text.proofs.SuffixLaws.{len_inside, suffix_self, suffix_then, suffix_nil, piece_start, same_front, spanned}
use Rattle.marker_words.specs.declared.fault.Fault.{Fault}
use Rattle.marker_words.specs.declared.fault.FaultKind.{FaultKind}
use Rattle.marker_words.specs.Fault.{message_of, operator_class, IsLongest, IsUnclosed, quotes, parentheses, Finds, IsFault, IsFaultAt, NoneOpen, IsSpanOf, IsMarkerFault}

-- what is known at any error
pub on_err : {T E Q : Type 0} (r : Result T E) → Q → OnErr r Q
on_err r h1 = grind arith

-- what words say of a text is true in each grammar
unclosed_among : {Open : List ℕ → Type 0} {opening closing : ℕ} {back : List ℕ} → IsUnclosed NoneOpen opening closing back → IsUnclosed Open opening closing back
unclosed_among (quotes quote none) = quotes quote none
unclosed_among (parentheses open_there) = absurd open_there

among : (Open : List ℕ → Type 0) (kind : FaultKind) (piece back : List ℕ) → Finds NoneOpen kind piece back → Finds Open kind piece back
among Open kind piece back h1 = grind (arith, unclosed_among)

-- a fault in what is left is one in the whole text
pub fault_of_suffix : {Open : List ℕ → Type 0} → {text rest piece : List ℕ} {kind : FaultKind} {left : ℕ} → IsSuffix text rest → IsFaultAt Open rest kind piece left → IsFaultAt Open text kind piece left
fault_of_suffix suffix fault = record {
  place = record { back = fault.place.back; begins = suffix_then suffix fault.place.begins; ends = fault.place.ends; length_is = fault.place.length_is };
  found = fault.found;
}

-- a piece at the front of what is left
pub fault_in_front : {Open : List ℕ → Type 0} → (text piece back : List ℕ) (kind : FaultKind) (left : ℕ) → IsUtf8 text → IsUtf8 back → text ≡ piece ++ back → left ≡ length text → Finds Open kind piece back → IsFaultAt Open text kind piece left
fault_in_front text piece back kind left utf8 ends joined left_is found = record {
  place = record { back = back; begins = subst (IsSuffix text) joined (suffix_self text utf8); ends = ends; length_is = ap length (sym joined) ∙ sym left_is };
  found = found;
}

-- a fault with its kind and its place
fault_at : {Open : List ℕ → Type 0} {text : List ℕ} {fault : Fault} (kind : FaultKind) (place : Place) → fault.kind ≡ kind → fault.place ≡ place → IsFaultAt Open text kind place.piece.now place.left → IsFault Open text fault
fault_at kind place h1 h2 h3 = grind arith

-- at a piece that is known
pub fault_at_piece : {Open : List ℕ → Type 0} {text piece : List ℕ} {left : ℕ} {fault : Fault} {place : Place} (kind : FaultKind) → fault.kind ≡ kind → fault.place ≡ place → place.piece.now ≡ piece → place.left ≡ left → IsFaultAt Open text kind piece left → IsFault Open text fault
fault_at_piece kind h1 h2 h3 h4 h5 = grind arith

-- at the end of the text
pub fault_at_end : {Open : List ℕ → Type 0} {text : List ℕ} {fault : Fault} {place : Place} (kind : FaultKind) → fault.kind ≡ kind → fault.place ≡ place → place.piece.now ≡ [] → place.left ≡ 0 → Finds Open kind [] [] → IsFault Open text fault
fault_at_end {Open} {text} {fault} {place} kind kind_is place_is piece_is left_is found =
    let here : IsFaultAt Open text kind [] 0 = record { place = record { back = []; begins = suffix_nil text; ends = (suffix_nil text).utf8; length_is = refl }; found = found } in
    let there : IsFaultAt Open text kind place.piece.now 0 = subst (λ (x : List ℕ). IsFaultAt Open text kind x 0) (sym piece_is) here in
    fault_at kind place kind_is place_is (subst (IsFaultAt Open text kind place.piece.now) (sym left_is) there)

-- at the text's first character
pub fault_at_first : {Open : List ℕ → Type 0} {text rest : List ℕ} {fault : Fault} {place : Place} (c : ℕ) (kind : FaultKind) → IsUtf8 text → IsSuffix text rest → text ≡ encode_utf8 c ++ rest → fault.kind ≡ kind → fault.place ≡ place → text ≡ place.piece.now ++ rest → place.left ≡ length text → (place.piece.now ≡ encode_utf8 c → Finds Open kind place.piece.now rest) → IsFault Open text fault
fault_at_first c kind h1 h2 h3 h4 h5 h6 h7 h8 = search (rules, fault_at, fault_in_front, same_front)

-- at the run at the front of a text
pub fault_at_run : {Open : List ℕ → Type 0} {text rest run : List ℕ} {fault : Fault} {place : Place} (kind : FaultKind) → IsUtf8 text → IsSuffix text rest → text ≡ run ++ rest → fault.kind ≡ kind → fault.place ≡ place → place.piece.now ≡ run → place.left ≡ length text → Finds Open kind run rest → IsFault Open text fault
fault_at_run {Open} {text} {rest} {run} {fault} {place} kind utf8 suffix joined kind_is place_is piece_is left_is found =
    fault_at kind place kind_is place_is (subst (λ (x : List ℕ). IsFaultAt Open text kind x place.left) (sym piece_is) (fault_in_front text run rest kind place.left utf8 suffix.utf8 joined left_is found))

pub run_longest : (text rest run : List ℕ) (class : Class) → text ≡ run ++ rest → run ≡ encode_utf8_all (run_of class (chars text)) → IsLongest class run rest
run_longest text rest run class joined run_is = subst (λ (t : List ℕ). run ≡ encode_utf8_all (run_of class (chars t))) joined run_is

pub longest_operator : (text rest run : List ℕ) (class : Class) → operator_class (chars text) ≡ class → text ≡ run ++ rest → run ≡ encode_utf8_all (run_of class (chars text)) → IsLongest (operator_class (chars (run ++ rest))) run rest
longest_operator text rest run class h1 h2 h3 = grind arith

covers_of : (t n left : ℕ) → t - left < t → cond (eqb left 0) 1 n ≡ n
covers_of t n left inside = len_inside left n (omega arith)

-- a piece has a span
abbrev is_span : (text piece : List ℕ) (left : ℕ) → IsPiece text piece left → IsSpanOf text piece (length text - left) (cond (eqb left 0) 1 (length piece))
is_span text piece left place = record {
  stands = record { front = place.begins.front; back = place.back; joined = place.begins.joined; start_is = piece_start place };
  span = spanned place;
  covers = covers_of (length text) (length piece) left;
}

told : {Open : List ℕ → Type 0} → (text piece : List ℕ) (left : ℕ) (kind : FaultKind) (place : IsPiece text piece left) → Finds Open kind piece place.back → IsMarkerFault Open text (length text - left) (cond (eqb left 0) 1 (length piece)) (message_of kind piece)
told text piece left kind place found = record { kind = kind; piece = piece; place = is_span text piece left place; found = found; said = refl }

-- a fault of a text has one of the messages, at its place
pub fault_told : {Open : List ℕ → Type 0} → (text : List ℕ) (fault : Fault) → IsFault Open text fault → IsMarkerFault Open text (length text - fault.place.left) (span_len fault.place) (message_of fault.kind fault.place.piece.now)
fault_told text fault f = told text fault.place.piece.now fault.place.left fault.kind f.place f.found

-- a fault of words is one of each grammar that has them
pub fault_of_words : {Open : List ℕ → Type 0} {text piece : List ℕ} {kind : FaultKind} {left : ℕ} → IsFaultAt NoneOpen text kind piece left → IsFaultAt Open text kind piece left
fault_of_words {kind = kind} fault = record { place = fault.place; found = among _ kind _ _ fault.found }
