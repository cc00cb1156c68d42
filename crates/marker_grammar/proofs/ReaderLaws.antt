-- The reader's steps, over its lists.
use Rattle.std.proofs.Common.{◌≡◌, ◌≢◌, ◌≤◌, ℕ, ◌+◌, Bool, false, List, [], ◌∷◌, ◌++◌, length, Option, None, refl, sym, ap, ◌∙◌, subst, arith}
use Rattle.std.specs.Prelude.{codes, ◌↔◌, ◌||◌, reverse}
use Rattle.std.specs.Prelude.{All}
use Rattle.std.proofs.Common.{get_or, length-append}
use Rattle.std.proofs.lemmas.List.{reverse-append}
use Rattle.std.proofs.Math.ListN.{get_or-append}
use Rattle.std.proofs.Math.Seq.{get_or-append_seam}
use Rattle.pep508_text.specs.declared.classes.Class.TheVariants.{NotSpace}
use Rattle.pep508_text.specs.Run.{Run, after_space}
use Rattle.marker_words.specs.Keyword.{NoKeyword, IsKeyword}
use Rattle.marker_words.specs.declared.parts.Keyword.{Keyword}
use Rattle.marker_words.specs.declared.parts.Keyword.TheVariants as keywords
use Rattle.pep508_errors.specs.declared.warning.MarkerWarningKind.{MarkerWarningKind}
use Rattle.marker_parts.specs.Comparison.{Meaning, Compared}
use Rattle.std.specs.Str.{chars}
use Rattle.pep508_text.specs.Suffix.{IsSuffix}
use Rattle.std.specs.Prelude.{IsUtf8}
use Rattle.marker_words.proofs.FaultLaws.{fault_of_suffix, fault_of_words}
use Rattle.marker_words.specs.Fault.{IsFaultAt}
use Rattle.marker_grammar.specs.Refused.{IsMarker, IsTextFault}
use Rattle.marker_grammar.specs.Reader.{IsOpened, AllOpen}
use Rattle.marker_grammar.specs.Valid.{IsValid}
use Rattle.marker_grammar.proofs.ValidLaws.{valid_join}
use Rattle.marker_words.specs.declared.fault.FaultKind.{FaultKind}
use Rattle.std.proofs.Common.{◌⊎◌, inl, inr}
use Rattle.marker_parts.specs.Read as read
use Rattle.marker_parts.specs.declared.comparison.ComparisonError.{ComparisonError}
use Rattle.marker_parts.specs.declared.comparison.ComparisonError.TheVariants.{OutOfMemory, Fault}
use Rattle.marker_grammar.specs.declared.reader.Reader.{Reader}
use Rattle.marker_grammar.specs.declared.reader.Wanted.TheVariants as wanted
use Rattle.marker_grammar.specs.declared.reader.Wanted.{Wanted}
use Rattle.marker_grammar.specs.Grammar.{Reads}
use Rattle.marker_grammar.specs.Refused as refused_texts
use Rattle.marker_grammar.specs.Reader.{IsRefusal, IsSound, MayRead, stack_in}
use Rattle.marker_grammar.specs.Postfix.{stack_of, IsPostfix}
use Rattle.marker_grammar.proofs.PostfixLaws.{postfix_join}
use Rattle.marker_grammar.specs.declared.formula.Token.{Token}
use Rattle.marker_grammar.specs.declared.formula.Token.TheVariants as tokens
use Rattle.std.specs.Prelude.{◌&&◌, if◌then◌else◌}
use Rattle.marker_grammar.specs.declared.reader.Group.{Group}
use Rattle.marker_grammar.specs.Formula.{Formula, and_of, or_of, of_test}
use Rattle.marker_grammar.specs.Reading.{Level, Before, After}
use Rattle.marker_grammar.specs.Stack.{top_if, below, count, Appends}
use Rattle.marker_grammar.specs.Reader.{level, under, outer_of, total}
use Rattle.marker_grammar.specs.Postfix.{top_of}
use Rattle.marker_grammar.specs.Postfix as symbols
use Rattle.marker_grammar.proofs.SpaceLaws.{compared_before}
use Rattle.marker_grammar.proofs.StackLaws.{IsJoined, top_is, join_stack, joins_or, joins_and, joined_tokens}
use Rattle.marker_grammar.proofs.ReadingLaws.{open_on, open_back, compare_on, compare_back, no_atom, or_on, or_back, close_on, close_back, end_on, end_back, fault_inside, fault_outside, start_on, start_back}

as_type : {A B : Type 0} → A ≡ B → A → B
as_type e a = subst (λ X. X) e a

pub reverse-push : (gs : List Group) (g : Group) → reverse (gs ++ (g ∷ [])) ≡ g ∷ reverse gs
reverse-push gs g = reverse-append gs (g ∷ [])

module _ (has_or has_and : Bool) (stack : List Formula) where
  -- what the innermost lists have
  abbrev pub Ors : Option Formula
  Ors = top_if has_or (below has_and stack)

  abbrev pub Ands : Option Formula
  Ands = top_if has_and stack

  abbrev Outer : List Group → List Level
  Outer gs = outer_of (reverse gs) (under has_or has_and stack)

module _ (gs : List Group) (g : Group) (stack : List Formula) {hs : List Group} {i a t : List ℕ} {w : List MarkerWarningKind} where
  -- a parenthesis opens
  pub open_same : hs ≡ gs ++ (g ∷ []) → t ≡ after_space i → t ≡ 40 ∷ a → (f : Option Formula) (k : List MarkerWarningKind) →
      Before (Outer g.has_or g.has_and stack gs) (Ors g.has_or g.has_and stack) (Ands g.has_or g.has_and stack) i w f k ↔ Before (outer_of (reverse hs) stack) None None a w f k
  open_same h1 h2 h3 f k = grind (arith, reverse-push, as_type, open_on, open_back)

pub open_full : (gs : List Group) (g : Group) (stack : List Formula) {hs : List Group} → hs ≡ gs ++ (g ∷ []) → length stack ≡ count g.has_and + (count g.has_or + total (reverse gs)) → length stack ≡ 0 + (0 + total (reverse hs))
open_full gs g stack {hs} stack_after full = let h : total (reverse hs) ≡ count g.has_and + (count g.has_or + total (reverse gs)) = ap total (ap reverse stack_after ∙ reverse-push gs g) in omega (arith, full, h)

-- a comparison is read
pub compare_same : (gs : List Group) (has_or : Bool) {has_and any : Bool} {added : Option Formula} {stack new : List Formula} {i o : List ℕ} {w v : List MarkerWarningKind} {m : Meaning} →
    Compared i o m → Appends has_and any added stack new → added ≡ of_test m.test → v ≡ w ++ m.kinds → (f : Option Formula) (k : List MarkerWarningKind) →
    Before (Outer has_or has_and stack gs) (Ors has_or has_and stack) (Ands has_or has_and stack) i w f k ↔ After (Outer has_or any new gs) (Ors has_or any new) (Ands has_or any new) o v f k
compare_same gs has_or h1 h2 h3 h4 f k = grind (arith, as_type, compare_on, compare_back)

pub compare_full : (has_or : Bool) (n : ℕ) {has_and any : Bool} {added : Option Formula} {stack new : List Formula} → Appends has_and any added stack new → length stack ≡ count has_and + (count has_or + n) → length new ≡ count any + (count has_or + n)
compare_full has_or n a full = omega (arith, full, a.length_is)

-- `or` follows an atom
pub or_same : (gs : List Group) {has_or has_and any : Bool} {stack new : List Formula} {i t b : List ℕ} {w : List MarkerWarningKind} →
    IsJoined symbols.or or_of has_or has_and any stack new → t ≡ after_space i → Run NotSpace t (codes "or") b → (f : Option Formula) (k : List MarkerWarningKind) →
    After (Outer has_or has_and stack gs) (Ors has_or has_and stack) (Ands has_or has_and stack) i w f k ↔ Before (outer_of (reverse gs) (below any new)) (top_if any new) None b w f k
or_same gs h1 h2 h3 f k = grind (arith, as_type, or_on, or_back)

pub or_full : (n : ℕ) {has_or has_and any : Bool} {stack new : List Formula} → IsJoined symbols.or or_of has_or has_and any stack new → length stack ≡ count has_and + (count has_or + n) → length new ≡ 0 + (count any + n)
or_full n j full = omega (arith, full, j.length_is)

-- a parenthesis closes
module _ (gs : List Group) (g : Group) {hs : List Group} {has_or has_and whole any : Bool} {stack mid new : List Formula}
    (popped : hs ≡ gs ++ (g ∷ [])) (ored : IsJoined symbols.or or_of has_or has_and whole stack mid) (anded : IsJoined symbols.and and_of g.has_and whole any mid new) where
  abbrev Low : List Formula
  Low = under has_or has_and stack

  ands_is : top_if any new ≡ and_of (top_if g.has_and Low) (or_of (Ors has_or has_and stack) (Ands has_or has_and stack))
  ands_is = anded.top ∙ (λ j. and_of (top_if g.has_and (ored.rest j)) (ored.top j))

  rest_is : below any new ≡ below g.has_and Low
  rest_is = anded.rest ∙ ap (below g.has_and) ored.rest

  pub close_same : {i a t : List ℕ} {w : List MarkerWarningKind} → t ≡ after_space i → t ≡ 41 ∷ a → (f : Option Formula) (k : List MarkerWarningKind) →
      After (Outer has_or has_and stack hs) (Ors has_or has_and stack) (Ands has_or has_and stack) i w f k ↔ After (Outer g.has_or any new gs) (Ors g.has_or any new) (Ands g.has_or any new) a w f k
  close_same {i} {a} {t} {w} e closes f k =
      let outer : Outer has_or has_and stack hs ≡ level g.has_or g.has_and Low ∷ outer_of (reverse gs) (under g.has_or g.has_and Low) = ap (λ x. outer_of x Low) (ap reverse popped ∙ reverse-push gs g) in
      let before : After (Outer has_or has_and stack hs) (Ors has_or has_and stack) (Ands has_or has_and stack) i w f k ≡ After (level g.has_or g.has_and Low ∷ outer_of (reverse gs) (under g.has_or g.has_and Low)) (Ors has_or has_and stack) (Ands has_or has_and stack) i w f k
      = (λ j. After (outer j) (Ors has_or has_and stack) (Ands has_or has_and stack) i w f k) in
      let after : After (Outer g.has_or any new gs) (Ors g.has_or any new) (Ands g.has_or any new) a w f k ≡ After (outer_of (reverse gs) (under g.has_or g.has_and Low)) (top_if g.has_or (below g.has_and Low)) (and_of (top_if g.has_and Low) (or_of (Ors has_or has_and stack) (Ands has_or has_and stack))) a w f k
      = (λ j. After (outer_of (reverse gs) (below g.has_or (rest_is j))) (top_if g.has_or (rest_is j)) (ands_is j) a w f k) in
      (λ x. as_type (sym after) (close_on e closes (as_type before x)), λ y. as_type (sym before) (close_back e closes (as_type after y)))

  pub close_full : length stack ≡ count has_and + (count has_or + total (reverse hs)) → length new ≡ count any + (count g.has_or + total (reverse gs))
  close_full h1 = grind (arith, reverse-push)

-- the text ends
pub end_same : (gs : List Group) {has_or has_and any : Bool} {stack new : List Formula} {i t : List ℕ} {w : List MarkerWarningKind} →
    gs ≡ [] → IsJoined symbols.or or_of has_or has_and any stack new → length stack ≡ count has_and + (count has_or + total (reverse gs)) → t ≡ after_space i → t ≡ [] → (f : Option Formula) (k : List MarkerWarningKind) →
    After (Outer has_or has_and stack gs) (Ors has_or has_and stack) (Ands has_or has_and stack) i w f k ↔ ((top_of new ≡ f) × (w ≡ k))
end_same gs h1 h2 h3 h4 h5 f k = grind (arith, length, top_is, end_on, as_type, end_back)

pub fault_end : (gs : List Group) (low : List Formula) {ors ands : Option Formula} {i t : List ℕ} {w : List MarkerWarningKind} → gs ≡ [] → t ≡ after_space i → NoKeyword t → t ≢ [] →
    (f : Option Formula) (k : List MarkerWarningKind) → After (outer_of (reverse gs) low) ors ands i w f k → ⊥
fault_end gs low {ors} {ands} {i} {t} {w} none e wordless more f k x = fault_outside e wordless more (as_type (λ j. After (outer_of (reverse (none j)) low) ors ands i w f k) x)

pub fault_close : (gs : List Group) (g : Group) (low : List Formula) {hs : List Group} {ors ands : Option Formula} {i t : List ℕ} {w : List MarkerWarningKind} →
    hs ≡ gs ++ (g ∷ []) → t ≡ after_space i → NoKeyword t → ((a : List ℕ) → t ≢ 41 ∷ a) →
    (f : Option Formula) (k : List MarkerWarningKind) → After (outer_of (reverse hs) low) ors ands i w f k → ⊥
fault_close gs g low h1 h2 h3 h4 f k h5 = grind (arith, reverse-push, fault_inside, as_type)

-- what holds of each group holds of the last one and of those before it
module _ (P : Group → Type 0) (gs : List Group) (g : Group) {hs : List Group} (popped : hs ≡ gs ++ (g ∷ [])) (all : All P hs) where
  size : length hs ≡ length gs + 1
  size = ap length popped ∙ length-append gs (g ∷ [])

  pub all_before : All P gs
  all_before k d below_k = subst P (ap (λ x. get_or x k d) popped ∙ get_or-append gs (g ∷ []) d k below_k) (all k d (omega (arith, size, below_k)))

  pub all_last : P g
  all_last = subst P (ap (λ x. get_or x (length gs) g) popped ∙ get_or-append_seam gs g [] g) (all (length gs) g (omega (arith, size)))

-- another run than a keyword
pub other_word : {i : List ℕ} (o : List ℕ) (w : Keyword) → w ≢ keywords.And → w ≢ keywords.Or → IsKeyword w i o → NoKeyword i
other_word o w h1 h2 h3 = grind arith

pub not_nil : {t r : List ℕ} (c : ℕ) → t ≡ c ∷ r → t ≢ []
not_nil c e f = absurd cc

-- why an atom was refused
module _ (r : Reader) (t : List ℕ) (at : IsSuffix r.text.now t) (skipped : chars t ≡ after_space (chars r.rest.now)) (plain : (a : List ℕ) → chars t ≢ 40 ∷ a) where
  pub refused_atom : (e : ComparisonError) → read.IsRefusal t e → IsRefusal wanted.Atom r e
  refused_atom OutOfMemory h = tt
  refused_atom (Fault e) h = (λ opened. fault_of_suffix at (fault_of_words h.1), λ f k x. no_atom skipped plain (λ o m c. h.0.no_compared o m (compared_before skipped c)) x)

module _ (r : Reader) (sound : IsSound r) where
  -- what the innermost lists have is joined by an `or`
  pub ored : (any : Bool) (new : List Token) → new ≡ (if r.has_or && r.has_and then r.tokens.items ++ (tokens.Or ∷ []) else r.tokens.items) → any ≡ (r.has_or || r.has_and) →
      IsJoined symbols.or or_of r.has_or r.has_and any (stack_in r) (stack_of new)
  ored any new put is = join_stack symbols.or or_of joins_or r.has_or r.has_and any _ _ (omega (arith, sound.full)) (joined_tokens (r.has_or && r.has_and) tokens.Or r.tokens.items new put) is

  -- and that by an `and` with what is before the parenthesis
  pub anded : (gs : List Group) (g : Group) → r.groups.items ≡ gs ++ (g ∷ []) → (whole any : Bool) (mid new : List Token) → IsJoined symbols.or or_of r.has_or r.has_and whole (stack_in r) (stack_of mid) →
      new ≡ (if g.has_and && whole then mid ++ (tokens.And ∷ []) else mid) → any ≡ (g.has_and || whole) → IsJoined symbols.and and_of g.has_and whole any (stack_of mid) (stack_of new)
  anded gs g popped whole any mid new joined put is =
      let h : total (reverse r.groups.items) ≡ count g.has_and + (count g.has_or + total (reverse gs)) = ap total (ap reverse popped ∙ reverse-push gs g) in
      join_stack symbols.and and_of joins_and g.has_and whole any _ _ (omega (arith, sound.full, h, joined.length_is)) (joined_tokens (g.has_and && whole) tokens.And mid new put) is

  -- and none is lost by that
  pub ored_postfix : (new : List Token) → new ≡ (if r.has_or && r.has_and then r.tokens.items ++ (tokens.Or ∷ []) else r.tokens.items) → IsPostfix new
  ored_postfix new put = postfix_join r.has_or r.has_and tokens.Or r.tokens.items put (omega (arith, sound.full)) sound.postfix

  pub ored_valid : (new : List Token) → new ≡ (if r.has_or && r.has_and then r.tokens.items ++ (tokens.Or ∷ []) else r.tokens.items) → IsValid new
  ored_valid new put = valid_join (r.has_or && r.has_and) tokens.Or r.tokens.items put refl sound.valid

  pub anded_postfix : (gs : List Group) (g : Group) → r.groups.items ≡ gs ++ (g ∷ []) → (whole : Bool) (mid new : List Token) → IsJoined symbols.or or_of r.has_or r.has_and whole (stack_in r) (stack_of mid) → IsPostfix mid →
      new ≡ (if g.has_and && whole then mid ++ (tokens.And ∷ []) else mid) → IsPostfix new
  anded_postfix gs g h1 whole mid new h2 h3 h4 = grind (arith, reverse-push, postfix_join)

  pub anded_valid : (gs : List Group) (g : Group) → r.groups.items ≡ gs ++ (g ∷ []) → (whole : Bool) (mid new : List Token) → IsJoined symbols.or or_of r.has_or r.has_and whole (stack_in r) (stack_of mid) → IsValid mid →
      new ≡ (if g.has_and && whole then mid ++ (tokens.And ∷ []) else mid) → IsValid new
  anded_valid gs g popped whole mid new joined valid put = valid_join (g.has_and && whole) tokens.And mid put refl valid

  -- at the end of the text no other formula is left
  pub one_left : (any : Bool) (new : List Formula) → r.groups.items ≡ [] → IsJoined symbols.or or_of r.has_or r.has_and any (stack_in r) new → length new ≤ 1
  one_left any new h1 h2 = grind arith

-- a fault of what is left, or of a part that begins at a parenthesis, is one of the text
pub fault_of_either : {text rest group : List ℕ} {kind : FaultKind} {piece : List ℕ} {left : ℕ} → IsSuffix text rest → IsSuffix text group → IsFaultAt IsMarker rest kind piece left ⊎ IsFaultAt IsMarker group kind piece left → IsFaultAt IsMarker text kind piece left
fault_of_either r o (inl h) = fault_of_suffix r h
fault_of_either r o (inr h) = fault_of_suffix o h

-- The loop: what the text may be read as is what the reader may still read.
abbrev pub Follows : List ℕ → Wanted → Reader → Type 0
Follows t w r = (f : Option Formula) (k : List MarkerWarningKind) → Reads t f k ↔ MayRead w r f k

pub follows_start : (t : List ℕ) (gs : List Group) (ws : List MarkerWarningKind) (low : List Formula) → gs ≡ [] → ws ≡ [] → (f : Option Formula) (k : List MarkerWarningKind) → Reads t f k ↔ Before (outer_of (reverse gs) low) None None (chars t) ws f k
follows_start t gs ws low h1 h2 f k = grind (arith, as_type, start_on, start_back)

pub follows_at : (t : List ℕ) (r : Reader) (v w : Wanted) → v ≡ w → Follows t v r → Follows t w r
follows_at t r v w e h = subst (λ x. Follows t x r) e h

pub follows_step : (t : List ℕ) (r s : Reader) (v w : Wanted) → Follows t v r → ((f : Option Formula) (k : List MarkerWarningKind) → MayRead v r f k ↔ MayRead w s f k) → Follows t w s
follows_step t r s v w h step f k = (λ x. (step f k).0 ((h f k).0 x), λ y. (h f k).1 ((step f k).1 y))

pub refuses_by : (t : List ℕ) (r : Reader) (w : Wanted) (e : ComparisonError) → t ≡ r.text.now → Follows t w r → IsOpened w r → IsRefusal w r e → refused_texts.IsRefusal t e
refuses_by t r w OutOfMemory same h opened refused = tt
refuses_by t r w (Fault e) same h opened refused = (subst (λ x. IsTextFault x e) (sym same) (refused.0 opened), λ f k x. refused.1 f k ((h f k).0 x))

-- a reader at the start of its text
pub start_sound : (r : Reader) → IsUtf8 r.text.now → r.rest.now ≡ r.text.now → r.groups.items ≡ [] → r.tokens.items ≡ [] → r.has_or ≡ false → r.has_and ≡ false → IsSound r
start_sound r h1 h2 h3 h4 h5 h6 = grind arith

pub start_opened : (May : List Level → Type 0) (gs : List Group) (low : List Formula) → gs ≡ [] → AllOpen May (reverse gs) low
start_opened May gs low none = subst (λ (x : List Group). AllOpen May (reverse x) low) (sym none) tt

pub opened_at : (r : Reader) (v w : Wanted) → v ≡ w → IsOpened v r → IsOpened w r
opened_at r v w e h = subst (λ x. IsOpened x r) e h
