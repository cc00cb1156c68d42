-- Operators: at most one is at a place, and what a parser of operators needs to know.
use Rattle.std.proofs.Common.{◌≡◌, ◌≢◌, ℕ, ◌<◌, Bool, true, false, cond, List, [], ◌∷◌, Some, None, refl, sym, ap, ◌∙◌, subst, arith, lit<, IsUtf8}
use Rattle.std.specs.Prelude.{codes, encode_utf8_all, nat_eq}
use Rattle.std.specs.Str.{chars}
use Rattle.std.proofs.lemmas.Str.{chars-nil, encodes-chars}
use Rattle.std.specs.Cmp.Lexicographic.{pointwise}
use Rattle.pep508_text.specs.Class.{holds}
use Rattle.pep508_text.specs.Run.{run_of, after_run, after_space, Run, Spaces}
use Rattle.pep508_text.specs.declared.classes.Class.{Class}
use Rattle.pep508_text.specs.declared.classes.Class.TheVariants.{Space, Comparison, WordPart, Alphabetic}
use Rattle.pep508_text.proofs.ClassLaws.{alphabetic_ascii}
use Rattle.pep508_text.proofs.RunLaws.{IsTrimmed, run_same, run_of-first, run_from_bytes, bytes_from_run, trimmed_by_run, spaces_end, spaces_from}
use Rattle.marker_words.specs.declared.operator.MarkerOperator.{MarkerOperator}
use Rattle.marker_words.specs.declared.operator.MarkerOperator.TheVariants.{Equal, NotEqual, GreaterThan, GreaterEqual, LessThan, LessEqual, TildeEqual, In, NotIn, Contains, NotContains}
use Rattle.marker_words.specs.Lexical.{symbol_text, IsOperator, is_symbol, is_in, is_not_in}
use Rattle.marker_words.specs.Part.{IsBehindNot, behind_not}
use Rattle.marker_words.specs.Fault.{begins_word, operator_class}

some_same : (a b : List ℕ) → Some a ≡ Some b → a ≡ b
some_same a b e = cc

none_some : (a : List ℕ) → None ≡ Some a → ⊥
none_some a e = absurd cc

true_false : true ≡ false → ⊥
true_false e = absurd cc

differ : (a b : ℕ) → a ≡ b → a < b → ⊥
differ a b e l = omega arith

head_same : (a b : ℕ) (x y : List ℕ) → a ∷ x ≡ b ∷ y → a ≡ b
head_same a b x y e = cc

pub tail_same : (a b : ℕ) (x y : List ℕ) → a ∷ x ≡ b ∷ y → x ≡ y
tail_same a b x y e = cc

pub ascii_in : encode_utf8_all (codes "in") ≡ codes "in"
unfolding lib.Utf8.encode
ascii_in = refl

pub ascii_not : encode_utf8_all (codes "not") ≡ codes "not"
unfolding lib.Utf8.encode
ascii_not = refl

ascii_equal : encode_utf8_all (codes "==") ≡ codes "=="
unfolding lib.Utf8.encode
ascii_equal = refl

ascii_not_equal : encode_utf8_all (codes "!=") ≡ codes "!="
unfolding lib.Utf8.encode
ascii_not_equal = refl

ascii_greater_than : encode_utf8_all (codes ">") ≡ codes ">"
unfolding lib.Utf8.encode
ascii_greater_than = refl

ascii_greater_equal : encode_utf8_all (codes ">=") ≡ codes ">="
unfolding lib.Utf8.encode
ascii_greater_equal = refl

ascii_less_than : encode_utf8_all (codes "<") ≡ codes "<"
unfolding lib.Utf8.encode
ascii_less_than = refl

ascii_less_equal : encode_utf8_all (codes "<=") ≡ codes "<="
unfolding lib.Utf8.encode
ascii_less_equal = refl

ascii_tilde_equal : encode_utf8_all (codes "~=") ≡ codes "~="
unfolding lib.Utf8.encode
ascii_tilde_equal = refl

-- the operator of a symbol
symbol_operator : List ℕ → MarkerOperator
symbol_operator r = cond (pointwise nat_eq r (codes "==")) Equal (cond (pointwise nat_eq r (codes "!=")) NotEqual (cond (pointwise nat_eq r (codes ">")) GreaterThan (cond (pointwise nat_eq r (codes ">=")) GreaterEqual (cond (pointwise nat_eq r (codes "<")) LessThan (cond (pointwise nat_eq r (codes "<=")) LessEqual TildeEqual)))))

-- a symbol is known by its text, which is ASCII and begins with no letter
record IsSymbol (operator : MarkerOperator) (text : List ℕ) : Type 0 where
  first : ℕ
  others : List ℕ
  parts : text ≡ first ∷ others
  plain : holds Alphabetic first ≡ false
  trimmed : holds Space first ≡ false
  back : symbol_operator text ≡ operator
  ascii : encode_utf8_all text ≡ text

symbol_at : (operator : MarkerOperator) (text symbol others : List ℕ) (first : ℕ) → symbol ≡ text → symbol ≡ first ∷ others → holds Alphabetic first ≡ false → holds Space first ≡ false → symbol_operator symbol ≡ operator → encode_utf8_all symbol ≡ symbol → IsSymbol operator text
symbol_at operator text symbol others first h1 h2 h3 h4 h5 h6 = grind arith

symbol_is : (operator : MarkerOperator) (text : List ℕ) → symbol_text operator ≡ Some text → IsSymbol operator text
unfolding symbol_operator
symbol_is Equal text e = symbol_at Equal text (codes "==") _ _ (some_same _ _ e) refl (alphabetic_ascii 61 (lit< tt)) refl refl ascii_equal
symbol_is NotEqual text e = symbol_at NotEqual text (codes "!=") _ _ (some_same _ _ e) refl (alphabetic_ascii 33 (lit< tt)) refl refl ascii_not_equal
symbol_is GreaterThan text e = symbol_at GreaterThan text (codes ">") _ _ (some_same _ _ e) refl (alphabetic_ascii 62 (lit< tt)) refl refl ascii_greater_than
symbol_is GreaterEqual text e = symbol_at GreaterEqual text (codes ">=") _ _ (some_same _ _ e) refl (alphabetic_ascii 62 (lit< tt)) refl refl ascii_greater_equal
symbol_is LessThan text e = symbol_at LessThan text (codes "<") _ _ (some_same _ _ e) refl (alphabetic_ascii 60 (lit< tt)) refl refl ascii_less_than
symbol_is LessEqual text e = symbol_at LessEqual text (codes "<=") _ _ (some_same _ _ e) refl (alphabetic_ascii 60 (lit< tt)) refl refl ascii_less_equal
symbol_is TildeEqual text e = symbol_at TildeEqual text (codes "~=") _ _ (some_same _ _ e) refl (alphabetic_ascii 126 (lit< tt)) refl refl ascii_tilde_equal
symbol_is In text e = absurd (none_some text e)
symbol_is NotIn text e = absurd (none_some text e)
symbol_is Contains text e = absurd (none_some text e)
symbol_is NotContains text e = absurd (none_some text e)

-- the first character determines which kind of operator may be at a place
run_begins_word : {p : Class} {i w o : List ℕ} (c : ℕ) → Run p i (c ∷ w) o → begins_word i ≡ holds Alphabetic c
run_begins_word {p} {i} {w} c run = ap begins_word (run_of-first p i w c run.run_is).1

symbol_begins : {i text o : List ℕ} {operator : MarkerOperator} → IsSymbol operator text → Run Comparison i text o → begins_word i ≡ false
symbol_begins {i} {text} {o} s run = run_begins_word s.first (subst (λ (x : List ℕ). Run Comparison i x o) s.parts run) ∙ s.plain

in_begins : {i o : List ℕ} → Run WordPart i (codes "in") o → begins_word i ≡ true
in_begins run = run_begins_word 105 run ∙ alphabetic_ascii 105 (lit< tt)

not_begins : {i o : List ℕ} → Run WordPart i (codes "not") o → begins_word i ≡ true
not_begins run = run_begins_word 110 run ∙ alphabetic_ascii 110 (lit< tt)

clash : {b : Bool} → b ≡ true → b ≡ false → ⊥
clash e f = true_false (sym e ∙ f)

in_not : codes "in" ≡ codes "not" → ⊥
in_not e = differ _ _ (head_same _ _ _ _ e) (lit< tt)

behind_same : {gap same output other : List ℕ} → gap ≡ same → Spaces gap (105 ∷ 110 ∷ output) → Spaces same (105 ∷ 110 ∷ other) → output ≡ other
behind_same e s t = tail_same _ _ _ _ (tail_same _ _ _ _ (sym (spaces_end s refl) ∙ ap after_space e ∙ spaces_end t refl))

-- at most one operator is at a place
pub operator_same : {i o p : List ℕ} {s t : MarkerOperator} → IsOperator i o s → IsOperator i p t → (o ≡ p) × (s ≡ t)
operator_same (is_symbol {operator = s} {text = q} e a) (is_symbol {operator = t} {text = r} f b) =
    let h = run_same a b in
    (h.1, sym (symbol_is s q e).back ∙ ap symbol_operator h.0 ∙ (symbol_is t r f).back)
operator_same (is_symbol {operator = s} {text = q} e a) (is_in b) = absurd (clash (in_begins b) (symbol_begins (symbol_is s q e) a))
operator_same (is_symbol {operator = s} {text = q} e a) (is_not_in b w c) = absurd (clash (not_begins b) (symbol_begins (symbol_is s q e) a))
operator_same (is_in a) (is_symbol {operator = t} {text = r} f b) = absurd (clash (in_begins a) (symbol_begins (symbol_is t r f) b))
operator_same (is_in a) (is_in b) = ((run_same a b).1, refl)
operator_same (is_in a) (is_not_in b w c) = absurd (in_not (run_same a b).0)
operator_same (is_not_in a v d) (is_symbol {operator = t} {text = r} f b) = absurd (clash (not_begins a) (symbol_begins (symbol_is t r f) b))
operator_same (is_not_in a v d) (is_in b) = absurd (in_not (sym (run_same a b).0))
operator_same (is_not_in a v d) (is_not_in b w c) = (behind_same (tail_same _ _ _ _ (run_same a b).1) d c, refl)

-- an operator begins with no white space
pub operator_trimmed : {i o : List ℕ} {s : MarkerOperator} → IsOperator i o s → IsTrimmed i
operator_trimmed {i} (is_symbol {operator = s} {text = text} {output = o} e run) =
    let h = symbol_is s text e in
    trimmed_by_run (subst (λ (x : List ℕ). Run Comparison i x o) h.parts run) h.trimmed
operator_trimmed (is_in run) = trimmed_by_run run refl
operator_trimmed (is_not_in run w s) = trimmed_by_run run refl

-- what a `not` is followed by
pub not_in_operator : {i a o : List ℕ} → Run WordPart i (codes "not") a → IsBehindNot a o → IsOperator i o NotIn
not_in_operator run (behind_not white s) = is_not_in run white s

behind_nil : {o : List ℕ} → IsBehindNot [] o → ⊥
behind_nil s = elim s [ ]

pub behind_at_end : {i o : List ℕ} → i ≡ [] → IsBehindNot i o → ⊥
behind_at_end {o = o} e s = behind_nil (subst (λ (x : List ℕ). IsBehindNot x o) e s)

behind_parts : {c : ℕ} {a o : List ℕ} → IsBehindNot (c ∷ a) o → (holds Space c ≡ true) × (after_space a ≡ 105 ∷ 110 ∷ o)
behind_parts (behind_not white s) = (white, spaces_end s refl)

pub not_behind : {i a o : List ℕ} (c : ℕ) → i ≡ c ∷ a → (holds Space c ≡ true → (r : List ℕ) → after_space a ≡ 105 ∷ 110 ∷ r → ⊥) → IsBehindNot i o → ⊥
not_behind {o = o} c e none s = let h = behind_parts (subst (λ (x : List ℕ). IsBehindNot x o) e s) in none h.0 o h.1

pub is_behind : {i a o : List ℕ} (c : ℕ) → i ≡ c ∷ a → holds Space c ≡ true → after_space a ≡ 105 ∷ 110 ∷ o → IsBehindNot i o
is_behind {o = o} c e white s = subst (λ (x : List ℕ). IsBehindNot x o) (sym e) (behind_not white (spaces_from s))

-- if a word begins there, an operator is a word, and otherwise it is a symbol
pub no_word_operator : {i o run after : List ℕ} {operator : MarkerOperator} → begins_word i ≡ true → run ≡ encode_utf8_all (run_of WordPart i) → after ≡ after_run WordPart i → run ≢ codes "in" → (run ≡ codes "not" → (p : List ℕ) → IsBehindNot after p → ⊥) → IsOperator i o operator → ⊥
no_word_operator word run_is after_is not_in no_not (is_symbol {operator = s} {text = text} e run) = clash word (symbol_begins (symbol_is s text e) run)
no_word_operator word run_is after_is not_in no_not (is_in run) = not_in (bytes_from_run run_is run ascii_in)
no_word_operator {o = o} word run_is after_is not_in no_not (is_not_in run white s) =
    no_not (bytes_from_run run_is run ascii_not) o (subst (λ (x : List ℕ). IsBehindNot x o) (sym (after_is ∙ run.rest_is)) (behind_not white s))

pub no_symbol_operator : {i o run : List ℕ} {operator : MarkerOperator} → begins_word i ≡ false → run ≡ encode_utf8_all (run_of Comparison i) → ((other : MarkerOperator) → symbol_text other ≢ Some run) → IsOperator i o operator → ⊥
no_symbol_operator plain run_is no_symbol (is_symbol {operator = s} {text = text} e run) =
    no_symbol s (e ∙ ap (λ (x : List ℕ). Some x) (sym (bytes_from_run run_is run (symbol_is s text e).ascii)))
no_symbol_operator plain run_is no_symbol (is_in run) = clash (in_begins run) plain
no_symbol_operator plain run_is no_symbol (is_not_in run white s) = clash (not_begins run) plain

pub symbol_found : {i o run : List ℕ} (operator : MarkerOperator) → symbol_text operator ≡ Some run → run ≡ encode_utf8_all (run_of Comparison i) → o ≡ after_run Comparison i → IsOperator i o operator
symbol_found {run = run} operator e run_is rest_is = is_symbol e (run_from_bytes run_is rest_is refl (symbol_is operator run e).ascii)

-- the class of the run that is looked at
pub word_class : (i : List ℕ) → begins_word i ≡ true → operator_class i ≡ WordPart
word_class i e = ap (λ (b : Bool). cond b WordPart Comparison) e

pub symbol_class : (i : List ℕ) → begins_word i ≡ false → operator_class i ≡ Comparison
symbol_class i e = ap (λ (b : Bool). cond b WordPart Comparison) e

-- a text with no character is empty
pub no_characters : (t : List ℕ) → IsUtf8 t → chars t ≡ [] → t ≡ []
no_characters t utf8 e = sym (encodes-chars t utf8) ∙ ap encode_utf8_all e

-- an operator that nothing follows is the whole text, and if something follows it, the whole text
-- is not one
pub whole_operator : {i : List ℕ} {s : MarkerOperator} (rest : List ℕ) → IsOperator i (chars rest) s → rest ≡ [] → IsOperator i [] s
whole_operator {i} {s} rest found e = subst (λ (x : List ℕ). IsOperator i x s) (ap chars e ∙ chars-nil) found

pub no_whole_operator : {i : List ℕ} {s t : MarkerOperator} (rest : List ℕ) → IsUtf8 rest → IsOperator i (chars rest) s → IsOperator i [] t → rest ≡ []
no_whole_operator rest utf8 found whole = no_characters rest utf8 (operator_same found whole).0
