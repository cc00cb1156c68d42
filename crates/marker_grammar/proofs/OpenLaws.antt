-- The text after an open parenthesis, from its first step to the end of the text.
use Rattle.std.proofs.Common.{◌≡◌, ℕ, Bool, List, [], ◌∷◌, ◌++◌, Option, None, refl, sym, ap, ◌∙◌, subst, arith}
use Rattle.std.specs.Prelude.{codes, reverse, encode_utf8}
use Rattle.std.specs.Str.{chars}
use Rattle.std.proofs.lemmas.List.{append_cancel_left}
use Rattle.pep508_text.specs.declared.classes.Class.TheVariants.{NotSpace}
use Rattle.pep508_text.specs.Run.{Run, none, after_space}
use Rattle.pep508_errors.specs.declared.warning.MarkerWarningKind.{MarkerWarningKind}
use Rattle.marker_parts.specs.Comparison.{Meaning, Compared}
use Rattle.marker_grammar.specs.declared.reader.Group.{Group}
use Rattle.marker_grammar.specs.Formula.{Formula, and_of, or_of, of_test}
use Rattle.marker_grammar.specs.Grammar.{Atom, group, comparison, AndRest, no_and, one_and, And, OrRest, no_or, one_or, Or}
use Rattle.marker_grammar.specs.Grammar as grammar
use Rattle.marker_grammar.specs.Postfix as symbols
use Rattle.marker_grammar.specs.Reading.{Level, ended, After, goes, Before, before}
use Rattle.marker_grammar.specs.Reader.{level, under, EndsAtom, EndsRest, AllOpen}
use Rattle.marker_grammar.specs.Refused.{IsMarker, OpensMarker}
use Rattle.marker_grammar.specs.Stack.{top_if, below, Appends}
use Rattle.marker_grammar.proofs.ReaderLaws.{reverse-push, Ors, Ands}
use Rattle.marker_grammar.proofs.ReadingLaws.{open_back, compare_back, and_back, or_back, close_back, end_back}
use Rattle.marker_grammar.proofs.StackLaws.{IsJoined}

as_type : {A B : Type 0} → A ≡ B → A → B
as_type e a = subst (λ X. X) e a

-- the same text with other warnings before it
abbrev Kinds : Type 0
Kinds = List MarkerWarningKind

mutual
  atom_from : {i o : List ℕ} {w x : Kinds} {f : Option Formula} (v : Kinds) → Atom i w o x f → (y : Kinds) × Atom i v o y f
  atom_from v (group s body closing) = let h = or_from v body in (h.0, group s h.1 closing)
  atom_from v (comparison {m = m} c) = (v ++ m.kinds, comparison c)

  and_rest_from : {f g : Option Formula} {i o : List ℕ} {w x : Kinds} (v : Kinds) → AndRest f i w o x g → (y : Kinds) × AndRest f i v o y g
  and_rest_from v no_and = (v, no_and)
  and_rest_from v (one_and s r atom rest) = let h = atom_from v atom in let t = and_rest_from h.0 rest in (t.0, one_and s r h.1 t.1)

  and_from : {f : Option Formula} {i o : List ℕ} {w x : Kinds} (v : Kinds) → And i w o x f → (y : Kinds) × And i v o y f
  and_from v (grammar.and atom rest) = let h = atom_from v atom in let t = and_rest_from h.0 rest in (t.0, grammar.and h.1 t.1)

  or_rest_from : {f g : Option Formula} {i o : List ℕ} {w x : Kinds} (v : Kinds) → OrRest f i w o x g → (y : Kinds) × OrRest f i v o y g
  or_rest_from v no_or = (v, no_or)
  or_rest_from v (one_or s r ands rest) = let h = and_from v ands in let t = or_rest_from h.0 rest in (t.0, one_or s r h.1 t.1)

  or_from : {f : Option Formula} {i o : List ℕ} {w x : Kinds} (v : Kinds) → Or i w o x f → (y : Kinds) × Or i v o y f
  or_from v (grammar.or ands rest) = let h = and_from v ands in let t = or_rest_from h.0 rest in (t.0, grammar.or h.1 t.1)

-- what may end a text with nothing open is a marker
marker_from : (t : List ℕ) {w : Kinds} {f : Option Formula} {k : Kinds} → Before [] None None (chars t) w f k → IsMarker t
marker_from t (before atom (goes {h = h} {output = o} rest more (ended e same kinds))) =
    let x = or_from [] (grammar.or (grammar.and atom rest) more) in
    (h, (x.0, record { start = chars t; end = o; before = none; body = x.1; after = e }))

all_map : (P Q : List Level → Type 0) (groups : List Group) (stack : List Formula) → ((outer : List Level) → Q outer → P outer) → AllOpen P groups stack → AllOpen Q groups stack
all_map P Q [] stack back h = tt
all_map P Q (g ∷ groups) stack back h =
    let l = level g.has_or g.has_and stack in
    (λ q. h.0 (back [] q), all_map (λ outer. P (l ∷ outer)) (λ outer. Q (l ∷ outer)) groups (under g.has_or g.has_and stack) (λ outer q. back (l ∷ outer) q) h.1)

-- a parenthesis opens
pub opened_group : (gs : List Group) (g : Group) (stack : List Formula) (hs : List Group) (i t rest : List ℕ) (w : Kinds) → hs ≡ gs ++ (g ∷ []) → t ≡ after_space i → t ≡ 40 ∷ chars rest → g.text.now ≡ encode_utf8 40 ++ rest →
    AllOpen (EndsAtom (Ors g.has_or g.has_and stack) (Ands g.has_or g.has_and stack) i w) (reverse gs) (under g.has_or g.has_and stack) → AllOpen (EndsAtom None None (chars rest) w) (reverse hs) stack
opened_group gs g stack hs i t rest w stack_after e opens begins h =
    let behind : EndsAtom None None (chars rest) w [] → OpensMarker g.text.now = λ q back b. subst IsMarker (append_cancel_left (encode_utf8 40) rest back (sym begins ∙ b)) (marker_from rest q.1.1) in
    let outside = all_map (EndsAtom (Ors g.has_or g.has_and stack) (Ands g.has_or g.has_and stack) i w) (λ outer. EndsAtom None None (chars rest) w (level g.has_or g.has_and stack ∷ outer)) (reverse gs) (under g.has_or g.has_and stack)
    (λ outer q. (q.0, (q.1.0, open_back outer _ _ i (chars rest) t w q.0 q.1.0 e opens q.1.1))) h in
    subst (λ (groups : List Group). AllOpen (EndsAtom None None (chars rest) w) groups stack) (sym (ap reverse stack_after ∙ reverse-push gs g)) (behind, outside)

-- a comparison is read
pub opened_compare : (groups : List Group) (has_or : Bool) (w v : Kinds) {has_and any : Bool} {added : Option Formula} {stack new : List Formula} {i o : List ℕ} {m : Meaning} →
    Compared i o m → Appends has_and any added stack new → added ≡ of_test m.test → v ≡ w ++ m.kinds →
    AllOpen (EndsAtom (Ors has_or has_and stack) (Ands has_or has_and stack) i w) groups (under has_or has_and stack) → AllOpen (EndsRest (Ors has_or any new) (Ands has_or any new) o v) groups (under has_or any new)
opened_compare groups has_or w v {has_and} {any} {added} {stack} {new} {i} {o} {m} c a test kinds h = grind (arith, all_map, compare_back, as_type)

-- `and` follows an atom
pub opened_and : (groups : List Group) (stack : List Formula) (ors ands : Option Formula) (i : List ℕ) (w : Kinds) {t b : List ℕ} → t ≡ after_space i → Run NotSpace t (codes "and") b → AllOpen (EndsRest ors ands i w) groups stack → AllOpen (EndsAtom ors ands b w) groups stack
opened_and groups stack ors ands i w {t} {b} e run h = all_map (EndsRest ors ands i w) (EndsAtom ors ands b w) groups stack (λ outer q. (q.0, (q.1.0, and_back e run q.1.1))) h

-- `or` follows an atom
pub opened_or : (groups : List Group) (i : List ℕ) (w : Kinds) {has_or has_and any : Bool} {stack new : List Formula} {t b : List ℕ} →
    IsJoined symbols.or or_of has_or has_and any stack new → t ≡ after_space i → Run NotSpace t (codes "or") b →
    AllOpen (EndsRest (Ors has_or has_and stack) (Ands has_or has_and stack) i w) groups (under has_or has_and stack) → AllOpen (EndsAtom (top_if any new) None b w) groups (below any new)
opened_or groups i w {has_or} {has_and} {any} {stack} {new} {t} {b} joined e run h = grind (arith, all_map, or_back, as_type)

module _ (gs : List Group) (g : Group) (hs : List Group) (popped : hs ≡ gs ++ (g ∷ [])) where
  parted : (P : List Level → Type 0) (low : List Formula) → AllOpen P (reverse hs) low → AllOpen P (g ∷ reverse gs) low
  parted P low h = subst (λ (groups : List Group). AllOpen P groups low) (ap reverse popped ∙ reverse-push gs g) h

  -- the text ends in the innermost parenthesis
  pub opened_end : (ors ands : Option Formula) (low : List Formula) (i t : List ℕ) (w : Kinds) → t ≡ after_space i → AllOpen (EndsRest ors ands i w) (reverse hs) low → t ≡ [] → OpensMarker g.text.now
  opened_end ors ands low i t w e h ends = (parted (EndsRest ors ands i w) low h).0 (or_of ors ands, (w, end_back e ends refl refl))

  -- a parenthesis closes
  pub opened_close : (i a t : List ℕ) (w : Kinds) {has_or has_and whole any : Bool} {stack mid new : List Formula} →
      IsJoined symbols.or or_of has_or has_and whole stack mid → IsJoined symbols.and and_of g.has_and whole any mid new → t ≡ after_space i → t ≡ 41 ∷ a →
      AllOpen (EndsRest (Ors has_or has_and stack) (Ands has_or has_and stack) i w) (reverse hs) (under has_or has_and stack) → AllOpen (EndsRest (Ors g.has_or any new) (Ands g.has_or any new) a w) (reverse gs) (under g.has_or any new)
  opened_close i a t w {has_or} {has_and} {whole} {any} {stack} {mid} {new} ored anded e closes h =
      let low : List Formula = under has_or has_and stack in
      let ands_is : top_if any new ≡ and_of (top_if g.has_and low) (or_of (Ors has_or has_and stack) (Ands has_or has_and stack)) = anded.top ∙ (λ j. and_of (top_if g.has_and (ored.rest j)) (ored.top j)) in
      let rest_is : below any new ≡ below g.has_and low = anded.rest ∙ ap (below g.has_and) ored.rest in
      let same : (outer : List Level) (f : Option Formula) (k : Kinds) → After outer (Ors g.has_or any new) (Ands g.has_or any new) a w f k ≡ After outer (top_if g.has_or (below g.has_and low)) (and_of (top_if g.has_and low) (or_of (Ors has_or has_and stack) (Ands has_or has_and stack))) a w f k
      = λ outer f k. (λ j. After outer (top_if g.has_or (rest_is j)) (ands_is j) a w f k) in
      let there = all_map (λ outer. EndsRest (Ors has_or has_and stack) (Ands has_or has_and stack) i w (level g.has_or g.has_and low ∷ outer)) (EndsRest (Ors g.has_or any new) (Ands g.has_or any new) a w) (reverse gs) (under g.has_or g.has_and low)
      (λ outer q. (q.0, (q.1.0, close_back e closes (as_type (same outer q.0 q.1.0) q.1.1)))) (parted (EndsRest (Ors has_or has_and stack) (Ands has_or has_and stack) i w) low h).1 in
      subst (λ (s : List Formula). AllOpen (EndsRest (Ors g.has_or any new) (Ands g.has_or any new) a w) (reverse gs) s) (sym (ap (below g.has_or) rest_is)) there
