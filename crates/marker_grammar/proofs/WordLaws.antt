-- Printed words, as the grammar reads them: names before what may follow them, operators, and quoted texts.
use Rattle.std.proofs.Common.{◌≡◌, ◌==◌, ℕ, Bool, true, false, not, ◌&&◌, ◌||◌, List, [], ◌∷◌, ◌++◌, codes, Some, refl, sym, ap, ◌∙◌, arith}
use Rattle.std.specs.Prelude.{encode_utf8, encode_utf8_all}
use Rattle.std.specs.List.{list_all, list_any}
use lib.Dec.{eqb}
use Rattle.std.proofs.lemmas.Bool.{and_parts, or_parts, both_ways, eqb-true, eq-eqb}
use Rattle.std.proofs.lemmas.List.Folds.{list_any-append}
use Rattle.pep508_text.specs.Class.{holds}
use Rattle.pep508_text.specs.Run.{run_of, after_run, Run, none}
use Rattle.pep508_text.specs.declared.classes.Class.{Class}
use Rattle.pep508_text.specs.declared.classes.Class.TheVariants.{KeyPart, Comparison, NotQuote}
use Rattle.pep508_text.proofs.RunLaws.{run_of-holds, after_run-holds}
use Rattle.marker_words.specs.declared.key.MarkerValueVersion.{MarkerValueVersion}
use Rattle.marker_words.specs.declared.key.MarkerValueVersion.TheVariants as version_keys
use Rattle.marker_words.specs.declared.key.MarkerValueString.{MarkerValueString}
use Rattle.marker_words.specs.declared.key.MarkerValueString.TheVariants as text_keys
use Rattle.marker_words.specs.declared.operator.MarkerOperator.{MarkerOperator}
use Rattle.marker_words.specs.declared.operator.MarkerOperator.TheVariants.{In, NotIn}
use Rattle.marker_words.specs.Key.{key_name, version_key_name}
use Rattle.marker_words.specs.Lexical.{version_key, text_key, extra, quoted, IsQuote, IsValue, is_quoted, is_version_key, is_text_key, is_extra, IsOperator, is_symbol, is_in, is_not_in, symbol_text}
use Rattle.marker_grammar.proofs.Printed.{IsBehind}

-- no character of the class is next
pub record Stops (p : Class) (o : List ℕ) : Type 0 where
  pub run : run_of p o ≡ []
  pub rest : after_run p o ≡ o

-- characters of the class, before one that is not in it
pub run_before : (p : Class) (r o : List ℕ) → list_all (holds p) r ≡ true → Stops p o → Run p (r ++ o) r o
run_before p [] o h s = record { run_is = s.run; rest_is = s.rest }
run_before p (c ∷ r) o h s =
    let q = and_parts _ _ h in
    let g = run_before p r o q.1 s in
    record { run_is = run_of-holds p c (r ++ o) q.0 ∙ ap (λ (x : List ℕ). c ∷ x) g.run_is; rest_is = after_run-holds p c (r ++ o) q.0 ∙ g.rest_is }

stops_name : (o : List ℕ) → IsBehind o → Stops KeyPart o
stops_name o h1 = grind arith

stops_quote : (q : ℕ) (o : List ℕ) → Stops (NotQuote q) (q ∷ o)
stops_quote q o = grind arith

name_all : (key : MarkerValueString) → list_all (holds KeyPart) (key_name key) ≡ true
name_all key = grind arith

version_name_all : (key : MarkerValueVersion) → list_all (holds KeyPart) (version_key_name key) ≡ true
version_name_all key = grind arith

pub name_read : (key : MarkerValueString) (o : List ℕ) → IsBehind o → IsValue (key_name key ++ o) o (text_key key)
name_read key o b = is_text_key (run_before KeyPart (key_name key) o (name_all key) (stops_name o b))

pub version_name_read : (key : MarkerValueVersion) (o : List ℕ) → IsBehind o → IsValue (version_key_name key ++ o) o (version_key key)
version_name_read key o b = is_version_key (run_before KeyPart (version_key_name key) o (version_name_all key) (stops_name o b))

pub extra_read : (o : List ℕ) → IsBehind o → IsValue (codes "extra" ++ o) o extra
extra_read o b = is_extra (run_before KeyPart (codes "extra") o refl (stops_name o b))

-- a text in quotes that it does not hold
pub quoted_read : (q : ℕ) (cs o : List ℕ) → IsQuote q → list_all (holds (NotQuote q)) cs ≡ true → IsValue (q ∷ (cs ++ (q ∷ o))) o (quoted (encode_utf8_all cs))
quoted_read q cs o s h = is_quoted s (run_before (NotQuote q) cs (q ∷ o) h (stops_quote q o))

-- if a byte below 128 is not among the bytes, the character is not
pub unquoted : (q : ℕ) (cs : List ℕ) → encode_utf8 q ≡ q ∷ [] → list_any (λ c. c == q) (encode_utf8_all cs) ≡ false → list_all (holds (NotQuote q)) cs ≡ true
unquoted q [] e h = refl
unquoted q (c ∷ cs) e h = by_test (eqb c q) refl (λ k. unquoted q cs e k)
  where
    parts : (list_any (λ c. c == q) (encode_utf8 c) ≡ false) × (list_any (λ c. c == q) (encode_utf8_all cs) ≡ false)
    parts = or_parts _ _ (sym (list_any-append (λ c. c == q) (encode_utf8 c) (encode_utf8_all cs)) ∙ h)

    by_test : (b : Bool) → eqb c q ≡ b → (list_any (λ c. c == q) (encode_utf8_all cs) ≡ false → list_all (holds (NotQuote q)) cs ≡ true) → (not (eqb c q) && list_all (holds (NotQuote q)) cs) ≡ true
    by_test false f k = ap (λ b. not b && list_all (holds (NotQuote q)) cs) f ∙ k parts.1
    by_test true f k = absurd (both_ways _ parts.0 (ap (λ (z : ℕ). list_any (λ c. c == q) (encode_utf8 z)) (eqb-true c q f) ∙ ap (λ (z : List ℕ). list_any (λ c. c == q) z) e ∙ ap (λ b. b || false) (eq-eqb q q refl)))

-- ---- operators

-- how an operator is printed
abbrev pub printed_operator : MarkerOperator → List ℕ → Type 0
printed_operator operator text = (o : List ℕ) → IsOperator (text ++ 32 ∷ o) (32 ∷ o) operator

pub symbol_read : (operator : MarkerOperator) (text : List ℕ) → symbol_text operator ≡ Some text → list_all (holds Comparison) text ≡ true → printed_operator operator text
symbol_read operator text e h o = is_symbol e (run_before Comparison text (32 ∷ o) h (record { run = refl; rest = refl }))

pub in_read : printed_operator In (codes "in")
in_read o = is_in (record { run_is = refl; rest_is = refl })

pub not_in_read : printed_operator NotIn (codes "not in")
not_in_read o = is_not_in (record { run_is = refl; rest_is = refl }) refl none
