-- What a marker is where some values of an environment are known.
use Rattle.std.specs.Prelude.{◌≡◌, ◌≢◌, ⊤, ℕ, Bool, true, All, List}
use Rattle.std.specs.List.{list_all}
use Rattle.std.specs.Ordering.{is_eq}
use Rattle.marker_environment.specs.Valuation.{Valuation}
use Rattle.marker_parts.specs.Expression.{Test, holds}
use Rattle.marker_nodes.specs.Variable.{Variable, variable_cmp, mix}
use Rattle.marker_walks.specs.declared.keys.EnvironmentKey.{EnvironmentKey}
use Rattle.marker_walks.specs.Keys.{is_about, DependsOnKey}
use Rattle.marker_answers.specs.declared.evaluating.Evaluation.{Evaluation}
use Rattle.marker_answers.specs.declared.evaluating.Evaluation.TheVariants.{Known, Depends, TooComplex}
use Rattle.marker_answers.specs.declared.known.KnownValues.{KnownValues}
use Rattle.marker_answers.specs.Known.{IsFact}

-- whether all comparisons hold
abbrev pub all_hold : List Test → Valuation → Bool
all_hold tests v = list_all (λ test. holds test v) tests

-- The truth depends on the key where the comparisons hold: two valuations where they hold, which
-- differ in one variable of the key alone, get different answers.
pub record DependsUnder (tests : List Test) (f : Valuation → Bool) (key : EnvironmentKey) :
    Type 0 where
  pub variable : Variable
  pub about : is_about key variable ≡ true
  pub v : Valuation
  pub w : Valuation
  pub here : all_hold tests (mix (λ y. is_eq (variable_cmp variable y)) v w) ≡ true
  pub there : all_hold tests w ≡ true
  pub differ : f (mix (λ y. is_eq (variable_cmp variable y)) v w) ≢ f w

-- What a truth is where these comparisons hold. Where that is open, it depends on each of the keys.
abbrev pub IsSettled : (Valuation → Bool) → List Test → Evaluation → Type 0
IsSettled f tests (Known b) = (v : Valuation) → all_hold tests v ≡ true → f v ≡ b
IsSettled f tests (Depends keys) = All (DependsUnder tests f) keys.items
IsSettled f tests TooComplex = ⊤

-- The truth f depends on each of the keys, and the truth g on none of them.
abbrev pub DependAlone : (Valuation → Bool) → (Valuation → Bool) → Evaluation → Type 0
DependAlone f g (Known b) = ⊥
DependAlone f g (Depends keys) =
    All (λ key. DependsOnKey f key × ¬ DependsOnKey g key) keys.items
DependAlone f g TooComplex = ⊤

-- What a truth is where these values are known and exactly these extras are asked for: settled by
-- comparisons that hold there.
abbrev pub IsEvaluation : (Valuation → Bool) → KnownValues → List (List ℕ) → Evaluation → Type 0
IsEvaluation f known asked e = (tests : List Test) × All (IsFact known asked) tests
    × IsSettled f tests e
