-- A text is parsed in one way at each place.
use Rattle.std.proofs.Common.{◌≡◌, ℕ, ◌≤◌, ◌<◌, List, ◌∷◌, sym, subst, arith, lit<, ◌⊎◌}
use Rattle.pep508_text.specs.Run.{after_space, Spaces}
use Rattle.pep508_text.proofs.RunLaws.{spaces_end, spaces_all}
use Rattle.marker_words.specs.declared.operator.MarkerOperator.{MarkerOperator}
use Rattle.marker_words.specs.Lexical.{Value, IsValue, IsOperator, Sides, sides}
use Rattle.marker_words.proofs.ValueLaws.{value_same, value_trimmed, value_begins}
use Rattle.marker_words.proofs.OperatorLaws.{operator_same, operator_trimmed}

-- a comparison, with all white space before its parts skipped
pub record SidesAt (i o : List ℕ) (left : Value) (operator : MarkerOperator) (right : Value) : Type 0 where
  pub second : List ℕ
  pub third : List ℕ
  pub left_at : IsValue (after_space i) second left
  pub operator_at : IsOperator (after_space second) third operator
  pub right_at : IsValue (after_space third) o right

value_skip : {i a b : List ℕ} {v : Value} → Spaces i a → IsValue a b v → IsValue (after_space i) b v
value_skip {b = b} {v = v} s h = subst (λ (x : List ℕ). IsValue x b v) (sym (spaces_end s (value_trimmed h))) h

operator_skip : {i a b : List ℕ} {p : MarkerOperator} → Spaces i a → IsOperator a b p → IsOperator (after_space i) b p
operator_skip {b = b} {p = p} s h = subst (λ (x : List ℕ). IsOperator x b p) (sym (spaces_end s (operator_trimmed h))) h

pub sides_at : {i o : List ℕ} {l r : Value} {p : MarkerOperator} → Sides i o l p r → SidesAt i o l p r
sides_at (sides sa va sb ob sc vb) = record { second = _; third = _; left_at = value_skip sa va; operator_at = operator_skip sb ob; right_at = value_skip sc vb }

pub sides_from : {i b d o : List ℕ} {l r : Value} {p : MarkerOperator} → IsValue (after_space i) b l → IsOperator (after_space b) d p → IsValue (after_space d) o r → Sides i o l p r
sides_from {i} {b} {d} va ob vb = sides (spaces_all i) va (spaces_all b) ob (spaces_all d) vb

-- at most one comparison is at a place
pub record SidesSame (o p : List ℕ) (l m : Value) (s t : MarkerOperator) (r q : Value) : Type 0 where
  pub rest : o ≡ p
  pub left : l ≡ m
  pub operator : s ≡ t
  pub right : r ≡ q

pub sides_same : {i o p : List ℕ} {l m r q : Value} {s t : MarkerOperator} → Sides i o l s r → Sides i p m t q → SidesSame o p l m s t r q
sides_same {o = o} {l = l} {r = r} {s = s} a b =
    let x = sides_at a in
    let y = sides_at b in
    let h = value_same x.left_at y.left_at in
    let k = operator_same (subst (λ (z : List ℕ). IsOperator (after_space z) x.third s) h.0 x.operator_at) y.operator_at in
    let n = value_same (subst (λ (z : List ℕ). IsValue (after_space z) o r) k.0 x.right_at) y.right_at in
    record { rest = n.0; left = h.1; operator = k.1; right = n.1 }

-- no comparison begins with a parenthesis
between : (c : ℕ) → (c ≤ 39) ⊎ (97 ≤ c) → 39 < c → c < 97 → ⊥
between c h1 h2 h3 = grind arith

pub sides_begins : {i o a : List ℕ} {l r : Value} {p : MarkerOperator} → Sides i o l p r → after_space i ≡ 40 ∷ a → ⊥
sides_begins h1 h2 = grind (arith, sides_at, between, value_begins, lit<)
