-- Truths with extras that are granted.
use Rattle.std.specs.Prelude.{◌≡◌, ℕ, Bool, ◌||◌, List}
use Rattle.marker_environment.specs.Valuation.{Valuation}

-- the valuation with every valid extra that passes a test set true, and all else as it is
abbrev pub with_extras : (List ℕ → Bool) → Valuation → Valuation
with_extras granted v = record v { extra = λ name. granted name || v.extra name }

-- the truth after every valid extra that passes a test is set true
abbrev pub grant : (List ℕ → Bool) → (Valuation → Bool) → Valuation → Bool
grant granted f v = f (with_extras granted v)

-- Whether an extra is active is answered by a fixed set of names: each answer is that of the test.
abbrev pub AnswersBy : (List ℕ → Bool → Type 0) → (List ℕ → Bool) → Type 0
AnswersBy Answers test = (name : List ℕ) (answer : Bool) → Answers name answer → answer ≡ test name
