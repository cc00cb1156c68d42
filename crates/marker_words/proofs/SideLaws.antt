-- A comparison parsed part by part. Each text is the rest after white space.
use Rattle.std.proofs.Common.{◌≡◌, ℕ, List, sym, ap, ◌∙◌, subst, arith}
use Rattle.pep508_text.specs.Run.{after_space}
use Rattle.marker_words.specs.declared.operator.MarkerOperator.{MarkerOperator}
use Rattle.marker_words.specs.Lexical.{Value, IsValue, IsOperator, Sides}
use Rattle.marker_words.proofs.ValueLaws.{value_same}
use Rattle.marker_words.proofs.OperatorLaws.{operator_same}
use Rattle.marker_words.proofs.LexicalLaws.{sides_at, sides_from}

at_value : {t x o : List ℕ} {v : Value} → t ≡ x → IsValue x o v → IsValue t o v
at_value {o = o} {v = v} e h = subst (λ (x : List ℕ). IsValue x o v) (sym e) h

at_operator : {t x o : List ℕ} {s : MarkerOperator} → t ≡ x → IsOperator x o s → IsOperator t o s
at_operator {o = o} {s = s} e h = subst (λ (x : List ℕ). IsOperator x o s) (sym e) h

abbrev NoValue : List ℕ → Type 0
NoValue t = (output : List ℕ) (value : Value) → IsValue t output value → ⊥

abbrev NoOperator : List ℕ → Type 0
NoOperator t = (output : List ℕ) (operator : MarkerOperator) → IsOperator t output operator → ⊥

pub no_left : {t i o : List ℕ} {l r : Value} {s : MarkerOperator} → t ≡ after_space i → NoValue t → Sides i o l s r → ⊥
no_left e none d = none _ _ (at_value e (sides_at d).left_at)

second_is : {t i b o : List ℕ} {l m r : Value} {s : MarkerOperator} → t ≡ after_space i → IsValue t b m → (d : Sides i o l s r) → (sides_at d).second ≡ b
second_is e v d = (value_same (at_value e (sides_at d).left_at) v).0

pub no_operator : {t u i b o : List ℕ} {l m r : Value} {s : MarkerOperator} → t ≡ after_space i → IsValue t b m → u ≡ after_space b → NoOperator u → Sides i o l s r → ⊥
no_operator e v f none d = none _ _ (at_operator (f ∙ ap after_space (sym (second_is e v d))) (sides_at d).operator_at)

pub no_right : {t u w i b c o : List ℕ} {l m r : Value} {s q : MarkerOperator} → t ≡ after_space i → IsValue t b m → u ≡ after_space b → IsOperator u c q → w ≡ after_space c → NoValue w → Sides i o l s r → ⊥
no_right e v f p g none d =
    let third = (operator_same (at_operator (f ∙ ap after_space (sym (second_is e v d))) (sides_at d).operator_at) p).0 in
    none _ _ (at_value (g ∙ ap after_space (sym third)) (sides_at d).right_at)

pub all_sides : {t u w i b c o : List ℕ} {l r : Value} {s : MarkerOperator} → t ≡ after_space i → IsValue t b l → u ≡ after_space b → IsOperator u c s → w ≡ after_space c → IsValue w o r → Sides i o l s r
all_sides h1 h2 h3 h4 h5 h6 = grind (arith, sides_from)
