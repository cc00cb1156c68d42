-- Each comparison depends on one variable.
use Rattle.std.proofs.Common.{◌≡◌, ℕ, Bool, List, cond, arith}
use Rattle.marker_words.specs.declared.key.MarkerValueString.{MarkerValueString}
use Rattle.marker_words.specs.declared.operator.MarkerOperator.{MarkerOperator}
use Rattle.marker_words.specs.declared.operator.MarkerOperator.TheVariants.{In, NotIn, Contains, NotContains}
use Rattle.marker_words.specs.declared.operator.ExtraOperator.TheVariants as extra_operators
use Rattle.marker_words.specs.Key.{variable_of}
use Rattle.marker_environment.specs.Valuation.{Valuation}
use Rattle.marker_parts.specs.Expression.{Test, version, version_in, text, extra, Extra, name, arbitrary, version_variable_of, holds}
use Rattle.marker_nodes.specs.Variable.{Variable, mix, of_version, of_text, of_inside, of_contains, of_extra, of_arbitrary}
use Rattle.marker_view.specs.Readable.{IsPlainTest, IsPlainVariable}

abbrev pub text_asked : MarkerOperator → MarkerValueString → List ℕ → Variable
text_asked In key t = of_inside (variable_of key) t
text_asked NotIn key t = of_inside (variable_of key) t
text_asked Contains key t = of_contains (variable_of key) t
text_asked NotContains key t = of_contains (variable_of key) t
text_asked operator key t = of_text (variable_of key)

abbrev pub extra_asked : Extra → Variable
extra_asked (name n) = of_extra n
extra_asked (arbitrary t) = of_arbitrary t

abbrev pub asked : Test → Variable
asked (version key s) = of_version (version_variable_of key)
asked (version_in key versions negated) = of_version (version_variable_of key)
asked (text key operator t) = text_asked operator key t
asked (extra operator x) = extra_asked x

module _ (first : Variable → Bool) (v w : Valuation) where
  -- a comparison depends only on its variable
  pub mixed : (t : Test) → holds t (mix first v w) ≡ cond (first (asked t)) (holds t v) (holds t w)
  mixed t = grind arith

text_plain : (operator : MarkerOperator) (key : MarkerValueString) (t : List ℕ) → IsPlainTest (text key operator t) → IsPlainVariable (text_asked operator key t)
text_plain operator key t h1 = grind arith

-- a plain comparison depends on a variable that can be printed
pub asked_plain : (t : Test) → IsPlainTest t → IsPlainVariable (asked t)
asked_plain t h1 = grind arith
