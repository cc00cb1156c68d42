-- What is left of a marker where a range of Python versions and extras are granted.
use Rattle.std.specs.Prelude.{◌≡◌, ℕ, Bool, true, false, List, string_bytes}
use Rattle.std.specs.declared.ops.Bound.{Bound}
use Rattle.version_ranges.specs.Clamp.{bound_of}
use Rattle.pep440_version.specs.Parts.{Parts}
use Rattle.marker_environment.specs.Valuation.{Valuation}
use Rattle.marker_simplifications.specs.Extras.{grant}
use Rattle.marker_simplifications.specs.Python.{Assumes, require}
use Rattle.marker_walks.specs.Possible.{is_listed}
use Rattle.marker_view.specs.Text.{IsTextOf}
use Rattle.marker_answers.specs.declared.simplifying.Granted.{Granted}
use Rattle.marker_answers.specs.declared.simplifying.MarkerAnswer.{MarkerAnswer}
use Rattle.marker_answers.specs.declared.simplifying.MarkerAnswer.TheVariants.{Always, Never, Text}

-- The truth g is the truth f with the granted extras, where the Python version is taken to lie in
-- the range; or, where the range is required, that and the range.
abbrev pub GrantsBy : Bool → (Valuation → Bool) → Bound Parts → Bound Parts → List (List ℕ)
    → (Valuation → Bool) → Type 0
GrantsBy true f lower upper extras g =
    (v : Valuation) → g v ≡ require lower upper (grant (is_listed extras) f) v
GrantsBy false f lower upper extras g = Assumes lower upper (grant (is_listed extras) f) g

abbrev pub IsGranted : (Valuation → Bool) → Granted → (Valuation → Bool) → Type 0
IsGranted f granted g = GrantsBy granted.requires_python f (bound_of granted.lower)
    (bound_of granted.upper) granted.extras.now g

-- this is how people read the truth: a text parses back to it if it is readable
abbrev pub Shows : (Valuation → Bool) → MarkerAnswer → Type 0
Shows g Always = (v : Valuation) → g v ≡ true
Shows g Never = (v : Valuation) → g v ≡ false
Shows g (Text text) = ((v : Valuation) × (g v ≡ true)) × IsTextOf g (string_bytes text)

-- what is left of the truth f is shown so
abbrev pub IsSimplified : (Valuation → Bool) → Granted → MarkerAnswer → Type 0
IsSimplified f granted answer = (g : Valuation → Bool) × IsGranted f granted g × Shows g answer
