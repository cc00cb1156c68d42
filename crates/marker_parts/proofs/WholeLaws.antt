-- A text is one comparison if it begins with one and only white space follows.
use Rattle.std.proofs.Common.{◌≡◌, ◌≢◌, ℕ, ◌-◌, Bool, true, List, [], ◌∷◌, ◌++◌, length, refl, sym, ap, ◌∙◌, subst, append_assoc, append-nil, Option, arith}
use Rattle.std.specs.Prelude.{IsUtf8, encode_utf8, ◌&&◌}
use Rattle.std.specs.Str.{chars}
use Rattle.std.proofs.Math.Utf8.{scalars}
use Rattle.std.proofs.lemmas.Str.{scalars-chars}
use Rattle.pep508_text.specs.Run.{after_space}
use Rattle.pep508_text.specs.Suffix.{IsSuffix}
use Rattle.pep508_text.proofs.RunLaws.{spaces_end, spaces_from, trimmed_nil, trimmed_after_space}
use Rattle.refusal.specs.declared.Refusal.{Refusal}
use Rattle.refusal.specs.declared.Refusal.TheVariants as refusals
use Rattle.pep508_errors.specs.declared.error.Pep508Error.{Pep508Error}
use Rattle.pep508_errors.specs.declared.warning.MarkerWarningKind.{MarkerWarningKind}
use Rattle.pep508_errors.specs.Kinds.{Adds, Keeps}
use Rattle.marker_words.specs.declared.fault.Fault.{Fault}
use Rattle.marker_words.specs.declared.fault.FaultKind.TheVariants.{Trailing}
use Rattle.marker_words.specs.Fault.{NoneOpen, IsFault, IsWordFault, IsFaultAt, IsMarkerFault, message_of, IsAllButLast, HasNoSpace}
use Rattle.marker_words.proofs.FaultLaws.{fault_of_suffix, fault_in_front, fault_told}
use Rattle.marker_parts.specs.declared.expression.MarkerExpression.{MarkerExpression}
use Rattle.marker_parts.specs.declared.comparison.ComparisonError.{ComparisonError}
use Rattle.marker_parts.specs.declared.comparison.ComparisonError.TheVariants as errors
use Rattle.marker_parts.specs.Comparison.{Meaning, Compared}
use Rattle.marker_parts.specs.Read.{ReadsComparison}
use Rattle.marker_parts.specs.Read as front
use Rattle.marker_parts.specs.Whole.{IsRead, IsNoComparison}
use Rattle.marker_parts.specs.Whole as whole
use Rattle.marker_parts.specs.Error.{Tells, Becomes, IsErrorOf, IsRefusal}
use Rattle.marker_parts.proofs.ComparisonLaws.{compared_same}

second_of : (a b : Bool) → (a && b) ≡ true → b ≡ true
second_of a b h1 = grind arith

last_scalar : (xs : List ℕ) (c : ℕ) → scalars (xs ++ (c ∷ [])) ≡ true → scalars (c ∷ []) ≡ true
last_scalar [] c p = p
last_scalar (x ∷ xs) c p = last_scalar xs c (second_of _ _ p)

-- the last character of a text is a text
last_utf8 : (text front : List ℕ) (c : ℕ) → IsUtf8 text → chars text ≡ chars front ++ (c ∷ []) → IsUtf8 (encode_utf8 c)
last_utf8 text front c utf8 e = ((c ∷ []), (last_scalar (chars front) c (ap scalars (sym e) ∙ scalars-chars text utf8), append-nil (encode_utf8 c)))

-- a text with more after a comparison
pub trailing_at : (rest text piece others : List ℕ) (c last : ℕ) → IsUtf8 text → IsSuffix rest text → chars text ≡ after_space (chars rest) → text ≡ encode_utf8 c ++ others → text ≡ piece ++ encode_utf8 last → chars text ≡ chars piece ++ (last ∷ []) → IsFaultAt NoneOpen rest (Trailing c) piece (length text)
trailing_at rest text piece others c last utf8 suffix space_is begins ends last_is =
    let found : IsAllButLast c piece (encode_utf8 last) = record { others = others; last = last; begins = sym ends ∙ begins; ends = refl } in
    let spaceless : HasNoSpace text = ap after_space space_is ∙ trimmed_after_space (chars rest) ∙ sym space_is in
    fault_of_suffix suffix
    (fault_in_front text piece (encode_utf8 last) (Trailing c) (length text) utf8 (last_utf8 text piece last utf8 last_is) ends refl (found, subst HasNoSpace ends spaceless))

pub read_to_the_end : {text rest : List ℕ} {expression : Option MarkerExpression} {old new : List MarkerWarningKind} → ReadsComparison text rest expression old new → old ≡ [] → after_space (chars rest) ≡ [] → IsRead text expression new
read_to_the_end h1 h2 h3 = grind (arith, spaces_from)

-- more follows the only comparison at the front
pub more_follows : {text rest : List ℕ} {m : Meaning} → Compared (chars text) rest m → after_space rest ≢ [] → IsNoComparison text
more_follows h1 h2 = grind (arith, compared_same, spaces_end, trimmed_nil)

pub none_at_front : (text : List ℕ) (error : ComparisonError) → front.IsRefusal text error → whole.IsRefusal text error
none_at_front text error h1 = grind arith

pub unread_behind : {text rest : List ℕ} {expression : Option MarkerExpression} {old new : List MarkerWarningKind} (fault : Fault) → ReadsComparison text rest expression old new → IsSuffix text rest → after_space (chars rest) ≢ [] → IsWordFault rest fault → whole.IsRefusal text (errors.Fault fault)
unread_behind fault read suffix some at = (more_follows read.compared some, fault_of_suffix suffix at)

-- the error of a fault of the text
pub told_fault : {T E : Type 0} {Open : List ℕ → Type 0} {text : List ℕ} {fault : Fault} {error : Pep508Error T E} → IsFault Open text fault → Tells text fault error → IsErrorOf Open text error
told_fault {Open = Open} {text} {fault} {error} at tells =
    let said = message_of fault.kind fault.place.piece.now in
    record {
      input = tells.input;
      said = said;
      message = tells.message;
      place = subst (λ (n : ℕ). IsMarkerFault Open text n error.len said) (sym tells.start) (subst (λ (n : ℕ). IsMarkerFault Open text (length text - fault.place.left) n said) (sym tells.len) (fault_told text fault at));
    }

-- a text that is not a comparison is refused
pub refused_text : {T E : Type 0} (text : List ℕ) (error : ComparisonError) (refusal : Refusal (Pep508Error T E)) → whole.IsRefusal text error → Becomes text error refusal → IsRefusal text refusal
refused_text text error refusals.OutOfMemory unread told = tt
refused_text text error refusals.SegmentAtEnd unread told = told
refused_text text errors.OutOfMemory (refusals.Fault e) unread told = absurd told
refused_text text (errors.Fault fault) (refusals.Fault e) unread told = (unread.0, told_fault unread.1 told)

-- nothing is added, and then more
pub adds_nothing : (kinds : Option (List MarkerWarningKind)) → Adds kinds kinds []
adds_nothing kinds = grind (arith, append-nil)

-- a refused call keeps what was reported
pub adds_kept : (a b c : Option (List MarkerWarningKind)) (ks : List MarkerWarningKind) → Adds a b ks → Keeps b c → Adds a c ks
adds_kept a b c ks h1 h2 = grind arith

pub adds_more : (a b c : Option (List MarkerWarningKind)) (ks ls : List MarkerWarningKind) → Adds a b ks → Adds b c ls → Adds a c (ks ++ ls)
adds_more a b c ks ls h1 h2 = grind (arith, append_assoc)
