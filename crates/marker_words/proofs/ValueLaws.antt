-- Values: at most one is at a place, and what a parser of values needs to know.
use Rattle.std.proofs.Common.{◌≡◌, ℕ, ◌≤◌, ◌<◌, false, cond, List, [], ◌∷◌, length, refl, sym, ap, ◌∙◌, subst, arith, eqb, eqb-true, inl, inr, ◌⊎◌, ◌++◌, length-append}
use Rattle.std.specs.Prelude.{encode_utf8_all}
use Rattle.std.proofs.lemmas.Bool.{not-false}
use Rattle.pep508_text.specs.Class.{holds}
use Rattle.pep508_text.specs.Run.{run_of, after_run, Run}
use Rattle.pep508_text.specs.declared.classes.Class.{Class}
use Rattle.pep508_text.specs.declared.classes.Class.TheVariants.{KeyPart, NotQuote}
use Rattle.pep508_text.proofs.RunLaws.{IsTrimmed, run_same, run_begins, run_from_bytes, bytes_from_run, trimmed_by_run, trimmed_cons}
use Rattle.marker_words.specs.Lexical.{Value, version_key, text_key, extra, quoted, IsQuote, single, double, IsValue, is_quoted, is_version_key, is_text_key, is_extra}
use Rattle.marker_words.specs.Part.{IsNamed}
use Rattle.marker_words.proofs.NameLaws.{Lettered, Names, version_key_names, key_names, extra_names, names_same}

quote_small : {q : ℕ} → IsQuote q → q ≤ 39
quote_small h1 = grind arith

too_small : (q letter : ℕ) → q ≡ letter → q ≤ 39 → 97 ≤ letter → ⊥
too_small q letter e low high = omega arith

-- no name begins with a quote
quote_lettered : {q : ℕ} {i r o : List ℕ} → IsQuote q → Lettered r → Run KeyPart (q ∷ i) r o → ⊥
quote_lettered h1 h2 h3 = grind (arith, too_small, run_begins, quote_small)

named_same : {i o p r s : List ℕ} {v w : Value} → Names r v → Run KeyPart i r o → Names s w → Run KeyPart i s p → (o ≡ p) × (v ≡ w)
named_same n a m b = let h = run_same a b in (h.1, names_same n m h.0)

tail_of : (q : ℕ) (o p : List ℕ) → q ∷ o ≡ q ∷ p → o ≡ p
tail_of q o p e = cc

-- at most one value is at a place
pub value_same : {i o p : List ℕ} {v w : Value} → IsValue i o v → IsValue i p w → (o ≡ p) × (v ≡ w)
value_same (is_quoted {quote = q} {output = o} a r) (is_quoted {output = p} b s) = let h = run_same r s in (tail_of q o p h.1, ap (λ (x : List ℕ). quoted (encode_utf8_all x)) h.0)
value_same (is_quoted a r) (is_version_key {key = l} s) = absurd (quote_lettered a (version_key_names l).lettered s)
value_same (is_quoted a r) (is_text_key {key = l} s) = absurd (quote_lettered a (key_names l).lettered s)
value_same (is_quoted a r) (is_extra s) = absurd (quote_lettered a extra_names.lettered s)
value_same (is_version_key {key = k} r) (is_quoted b s) = absurd (quote_lettered b (version_key_names k).lettered r)
value_same (is_version_key {key = k} r) (is_version_key {key = l} s) = named_same (version_key_names k) r (version_key_names l) s
value_same (is_version_key {key = k} r) (is_text_key {key = l} s) = named_same (version_key_names k) r (key_names l) s
value_same (is_version_key {key = k} r) (is_extra s) = named_same (version_key_names k) r extra_names s
value_same (is_text_key {key = k} r) (is_quoted b s) = absurd (quote_lettered b (key_names k).lettered r)
value_same (is_text_key {key = k} r) (is_version_key {key = l} s) = named_same (key_names k) r (version_key_names l) s
value_same (is_text_key {key = k} r) (is_text_key {key = l} s) = named_same (key_names k) r (key_names l) s
value_same (is_text_key {key = k} r) (is_extra s) = named_same (key_names k) r extra_names s
value_same (is_extra r) (is_quoted b s) = absurd (quote_lettered b extra_names.lettered r)
value_same (is_extra r) (is_version_key {key = l} s) = named_same extra_names r (version_key_names l) s
value_same (is_extra r) (is_text_key {key = l} s) = named_same extra_names r (key_names l) s
value_same (is_extra r) (is_extra s) = ((run_same r s).1, refl)

-- a value begins with no white space
named_trimmed : {i r o : List ℕ} → Lettered r → Run KeyPart i r o → IsTrimmed i
named_trimmed {i} {r} {o} l run = trimmed_by_run (subst (λ (x : List ℕ). Run KeyPart i x o) l.parts run) l.plain

quote_trimmed : {q : ℕ} (i : List ℕ) → IsQuote q → IsTrimmed (q ∷ i)
quote_trimmed i single = trimmed_cons 39 i refl
quote_trimmed i double = trimmed_cons 34 i refl

pub value_trimmed : {i o : List ℕ} {v : Value} → IsValue i o v → IsTrimmed i
value_trimmed (is_quoted {input = i} q run) = quote_trimmed i q
value_trimmed (is_version_key {key = k} run) = named_trimmed (version_key_names k).lettered run
value_trimmed (is_text_key {key = k} run) = named_trimmed (key_names k).lettered run
value_trimmed (is_extra run) = named_trimmed extra_names.lettered run

-- a value begins with a quote or a small letter
large_letter : (c letter : ℕ) → c ≡ letter → 97 ≤ letter → 97 ≤ c
large_letter c letter e small = omega arith

letters_begin : {c : ℕ} {i r o : List ℕ} → Lettered r → Run KeyPart (c ∷ i) r o → 97 ≤ c
letters_begin {c} {i} {r} {o} l run = large_letter c l.letter (run_begins (subst (λ (x : List ℕ). Run KeyPart (c ∷ i) x o) l.parts run)) l.small

pub value_begins : {c : ℕ} {i o : List ℕ} {v : Value} → IsValue (c ∷ i) o v → (c ≤ 39) ⊎ (97 ≤ c)
value_begins (is_quoted q run) = inl (quote_small q)
value_begins (is_version_key {key = k} run) = inr (letters_begin (version_key_names k).lettered run)
value_begins (is_text_key {key = k} run) = inr (letters_begin (key_names k).lettered run)
value_begins (is_extra run) = inr (letters_begin extra_names.lettered run)

-- a longest run is followed by a character that is not in the class
after_run_stops : (p : Class) (i o : List ℕ) (c : ℕ) → after_run p i ≡ c ∷ o → holds p c ≡ false
after_run_stops p [] o c e = absurd cc
after_run_stops p (d ∷ ds) o c e = grind (arith, cond, after_run_stops p ds o c)

closes : (q c : ℕ) (i o : List ℕ) → after_run (NotQuote q) i ≡ c ∷ o → c ≡ q
closes q c i o e = eqb-true c q (not-false (eqb c q) (after_run_stops (NotQuote q) i o c e))

-- the text between a quote and the next one
pub quoted_value : (t : List ℕ) (q c : ℕ) (i o v : List ℕ) → t ≡ q ∷ i → IsQuote q → after_run (NotQuote q) i ≡ c ∷ o → v ≡ encode_utf8_all (run_of (NotQuote q) i) → IsValue t o (quoted v)
quoted_value t q c i o v t_is is_quote e v_is =
    let run : Run (NotQuote q) i (run_of (NotQuote q) i) (q ∷ o) = record { run_is = refl; rest_is = e ∙ ap (λ (x : ℕ). x ∷ o) (closes q c i o e) } in
    let here : IsValue (q ∷ i) o (quoted v) = subst (λ (x : List ℕ). IsValue (q ∷ i) o (quoted x)) (sym v_is) (is_quoted is_quote run) in
    subst (λ (x : List ℕ). IsValue x o (quoted v)) (sym t_is) here

-- nothing begins at the end
no_letter : (letter : ℕ) (others : List ℕ) → [] ≡ letter ∷ others → ⊥
no_letter letter others e = absurd cc

no_value_nil : {o : List ℕ} {v : Value} → IsValue [] o v → ⊥
no_value_nil h1 = grind arith

pub no_value_at_end : {i o : List ℕ} {v : Value} → i ≡ [] → IsValue i o v → ⊥
no_value_at_end {o = o} {v = v} e s = no_value_nil (subst (λ (x : List ℕ). IsValue x o v) e s)

-- a quote that is not closed begins no value
unclosed_here : {q : ℕ} {i o : List ℕ} {v : Value} → IsQuote q → after_run (NotQuote q) i ≡ [] → IsValue (q ∷ i) o v → ⊥
unclosed_here {q} {i} {o} is_quote e (is_quoted other run) = no_letter q o (sym e ∙ run.rest_is)
unclosed_here is_quote e (is_version_key {key = k} run) = quote_lettered is_quote (version_key_names k).lettered run
unclosed_here is_quote e (is_text_key {key = k} run) = quote_lettered is_quote (key_names k).lettered run
unclosed_here is_quote e (is_extra run) = quote_lettered is_quote extra_names.lettered run

pub no_value_unclosed : {q : ℕ} {t i o : List ℕ} {v : Value} → t ≡ q ∷ i → IsQuote q → after_run (NotQuote q) i ≡ [] → IsValue t o v → ⊥
no_value_unclosed {q} {t} {i} {o} {v} t_is is_quote e s = unclosed_here is_quote e (subst (λ (x : List ℕ). IsValue x o v) t_is s)

-- a run of this name is the value
pub named_found : (i o r : List ℕ) (v : Value) → r ≡ encode_utf8_all (run_of KeyPart i) → o ≡ after_run KeyPart i → IsNamed v r → IsValue i o v
named_found i o r (version_key k) r_is o_is e = is_version_key (run_from_bytes r_is o_is e (version_key_names k).ascii)
named_found i o r (text_key k) r_is o_is e = is_text_key (run_from_bytes r_is o_is e (key_names k).ascii)
named_found i o r extra r_is o_is e = is_extra (run_from_bytes r_is o_is e extra_names.ascii)
named_found i o r (quoted text) r_is o_is e = absurd e

-- without a quote a value is a name
abbrev IsNoQuote : List ℕ → Type 0
IsNoQuote i = (q : ℕ) (j : List ℕ) → i ≡ q ∷ j → IsQuote q → ⊥

value_named : {i o : List ℕ} {v : Value} → IsNoQuote i → IsValue i o v → (r : List ℕ) → r ≡ encode_utf8_all (run_of KeyPart i) → IsNamed v r
value_named plain (is_quoted q run) r r_is = absurd (plain _ _ refl q)
value_named plain (is_version_key {key = k} run) r r_is = bytes_from_run r_is run (version_key_names k).ascii
value_named plain (is_text_key {key = k} run) r r_is = bytes_from_run r_is run (key_names k).ascii
value_named plain (is_extra run) r r_is = bytes_from_run r_is run extra_names.ascii

first_same : (q c : ℕ) (j k : List ℕ) → q ∷ j ≡ c ∷ k → q ≡ c
first_same q c j k e = cc

pub no_value_named : {i o j r : List ℕ} (c : ℕ) (v : Value) → i ≡ c ∷ j → (IsQuote c → ⊥) → r ≡ encode_utf8_all (run_of KeyPart i) → ((value : Value) → IsNamed value r → ⊥) → IsValue i o v → ⊥
no_value_named {i} {o} {j} {r} c v i_is plain r_is none s =
    none v (value_named (λ q k e is_quote. plain (subst IsQuote (first_same q c k j (sym e ∙ i_is)) is_quote)) s r r_is)

-- one value at most has a name
names_of : (v : Value) (r : List ℕ) → IsNamed v r → Names r v
names_of (version_key k) r e = subst (λ (x : List ℕ). Names x (version_key k)) (sym e) (version_key_names k)
names_of (text_key k) r e = subst (λ (x : List ℕ). Names x (text_key k)) (sym e) (key_names k)
names_of extra r e = subst (λ (x : List ℕ). Names x extra) (sym e) extra_names
names_of (quoted text) r e = absurd e

pub one_value_named : (r : List ℕ) (a b : Value) → IsNamed a r → IsNamed b r → a ≡ b
one_value_named r a b first second = names_same (names_of a r first) (names_of b r second) refl

-- a name is not empty
named_bytes : (v : Value) (r : List ℕ) → IsNamed v r → (c : ℕ) × (rest : List ℕ) × (r ≡ c ∷ rest)
named_bytes v r h1 = grind arith

shorter_behind : (t r rest others : List ℕ) (c : ℕ) → r ≡ c ∷ others → t ≡ r ++ rest → length rest < length t
shorter_behind t r rest others c h1 h2 = grind (arith, length, length-append)

pub named_shorter : (v : Value) (t r rest : List ℕ) → IsNamed v r → t ≡ r ++ rest → length rest < length t
named_shorter v t r rest e joined = let h = named_bytes v r e in shorter_behind t r rest h.1 h.0 h.2 joined

-- the two quotes
pub quote_at : (c : ℕ) → (c ≡ 39) ⊎ (c ≡ 34) → IsQuote c
quote_at c (inl e) = subst IsQuote (sym e) single
quote_at c (inr e) = subst IsQuote (sym e) double

pub at_quote : {c : ℕ} → IsQuote c → (c ≡ 39) ⊎ (c ≡ 34)
at_quote h1 = grind arith
