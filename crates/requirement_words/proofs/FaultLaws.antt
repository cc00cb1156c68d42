-- Places of faults, and refusals.
use Rattle.std.proofs.Common.{◌≡◌, ℕ, ◌-◌, ◌<◌, List, [], ◌∷◌, ◌++◌, length, drop, refl, sym, ap, ◌∙◌, subst, IsUtf8, arith}
use Rattle.std.specs.Prelude.{encode_utf8}
use Rattle.refusal.specs.declared.Refusal.{Refusal}
use Rattle.refusal.specs.declared.Refusal.TheVariants as refusals
use Rattle.pep508_text.specs.Suffix.{IsSuffix}
use Rattle.pep508_text.specs.declared.place.Place.{Place}
use Rattle.pep508_text.proofs.SuffixLaws.{last_is, last_suffix, same_front, suffix_then}
use Rattle.requirement_words.specs.Fault.{IsFaultAt, IsFaultBy, IsRefused}
use Rattle.requirement_words.specs.declared.fault.Fault.{Fault}
use Rattle.requirement_words.specs.declared.fault.FaultKind.{FaultKind}

-- a list that is not empty has a last item
pub last_of : {A : Type 0} (x : A) (xs : List A) → (front : List A) × (y : A) × (x ∷ xs ≡ front ++ (y ∷ []))
last_of x [] = ([], x, refl)
last_of x (z ∷ zs) = let shorter = last_of z zs in (x ∷ shorter.0, shorter.1, ap (λ l. x ∷ l) shorter.2)

-- a fault in what is left is one of the text that it ends
pub fault_behind : (F G : FaultKind → List ℕ → List ℕ → Type 0) {text rest piece : List ℕ} {kind : FaultKind} {left : ℕ} → IsSuffix text rest → ((k : FaultKind) (p b : List ℕ) → F k p b → G k p b)
    → IsFaultAt F rest kind piece left → IsFaultAt G text kind piece left
fault_behind F G suffix wide fault = record {
  place = record { back = fault.place.back; begins = suffix_then suffix fault.place.begins; ends = fault.place.ends; length_is = fault.place.length_is };
  found = wide _ _ _ fault.found;
}

-- a fault with its kind and its place
fault_of : (F : FaultKind → List ℕ → List ℕ → Type 0) {text : List ℕ} {fault : Fault} (kind : FaultKind) (place : Place) → fault.kind ≡ kind → fault.place ≡ place
    → IsFaultAt F text kind place.piece.now place.left → IsFaultBy F text fault
fault_of F kind place h1 h2 h3 = grind arith

-- at the front of what is left
pub fault_before : (F : FaultKind → List ℕ → List ℕ → Type 0) (kind : FaultKind) {text here rest : List ℕ} {fault : Fault} {place : Place} → IsSuffix text here → IsUtf8 rest
    → fault.kind ≡ kind → fault.place ≡ place → here ≡ place.piece.now ++ rest → place.left ≡ length here → F kind place.piece.now rest → IsFaultBy F text fault
fault_before F kind {text} {here} {rest} {fault} {place} suffix ends kind_is place_is joined left_is found =
    fault_of F kind place kind_is place_is (record {
      place = record { back = rest; begins = subst (IsSuffix text) joined suffix; ends = ends; length_is = ap length (sym joined) ∙ sym left_is };
      found = found;
    })

-- at its first character
pub fault_at_first : (F : FaultKind → List ℕ → List ℕ → Type 0) (kind : FaultKind) (c : ℕ) {text here rest : List ℕ} {fault : Fault} {place : Place} → IsSuffix text here → IsSuffix here rest → here ≡ encode_utf8 c ++ rest
    → fault.kind ≡ kind → fault.place ≡ place → here ≡ place.piece.now ++ rest → place.left ≡ length here → (place.piece.now ≡ encode_utf8 c → F kind place.piece.now rest) → IsFaultBy F text fault
fault_at_first F kind c {here = here} {rest = rest} {place = place} suffix behind first kind_is place_is joined left_is found =
    fault_before F kind suffix behind.utf8 kind_is place_is joined left_is (found (same_front here place.piece.now (encode_utf8 c) rest joined first))

-- at the run before it
pub fault_at_run : (F : FaultKind → List ℕ → List ℕ → Type 0) (kind : FaultKind) {text here run rest : List ℕ} {fault : Fault} {place : Place} → IsSuffix text here → IsUtf8 rest → here ≡ run ++ rest
    → fault.kind ≡ kind → fault.place ≡ place → place.piece.now ≡ run → place.left ≡ length here → F kind run rest → IsFaultBy F text fault
fault_at_run F kind {rest = rest} {place = place} suffix ends cut kind_is place_is piece_is left_is found =
    fault_before F kind suffix ends kind_is place_is (cut ∙ ap (λ (x : List ℕ). x ++ rest) (sym piece_is)) left_is (subst (λ (x : List ℕ). F kind x rest) (sym piece_is) found)

-- at a run's last character
pub fault_at_last : (F : FaultKind → List ℕ → List ℕ → Type 0) (kind : FaultKind) (front : List ℕ) (c : ℕ) {text run rest : List ℕ} {fault : Fault} {place : Place} → text ≡ run ++ rest → IsSuffix text rest
    → run ≡ front ++ (c ∷ []) → c < 128 → fault.kind ≡ kind → fault.place ≡ place → place.piece.now ≡ drop (length run - 1) run → place.left ≡ length (place.piece.now ++ rest)
    → (place.piece.now ≡ c ∷ [] → F kind place.piece.now rest) → IsFaultBy F text fault
fault_at_last F kind front c {text} {run} {rest} {fault} {place} cut suffix joined ascii kind_is place_is piece_is left_is found =
    fault_of F kind place kind_is place_is (record {
      place = record { back = rest; begins = last_suffix text run front rest place.piece.now c cut suffix joined ascii piece_is; ends = suffix.utf8; length_is = sym left_is };
      found = found (piece_is ∙ last_is run front c joined);
    })

-- ---- refusals

-- what a refusal says of the text, for what follows from it
pub refused_by : (F : Fault → Type 0) (P Q : Type 0) (e : Refusal Fault) → (P → Q) → IsRefused F P e → IsRefused F Q e
refused_by F P Q e h1 h2 = grind arith

-- the same of a text that is the end of another
pub refused_behind : (F G : FaultKind → List ℕ → List ℕ → Type 0) (whole text : List ℕ) (P Q : Type 0) (e : Refusal Fault) → IsSuffix whole text → ((k : FaultKind) (p b : List ℕ) → F k p b → G k p b) → (P → Q)
    → IsRefused (IsFaultBy F text) P e → IsRefused (IsFaultBy G whole) Q e
refused_behind F G whole text P Q refusals.OutOfMemory s wide f h = tt
refused_behind F G whole text P Q refusals.SegmentAtEnd s wide f h = absurd h
refused_behind F G whole text P Q (refusals.Fault fault) s wide f h = (fault_behind F G s wide h.0, f h.1)
