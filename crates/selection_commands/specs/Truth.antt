-- What a truth is in a target.
use Rattle.std.specs.Prelude.{◌≡◌, ℕ, Bool, true, false, List, length, Some, slice_get, codes}
use Rattle.marker_environment.specs.Valuation.{Valuation}
use Rattle.selection_commands.specs.declared.target.Target.{Target}
use Rattle.selection_commands.specs.declared.truth.Truth.{Truth}
use Rattle.selection_commands.specs.declared.truth.Truth.TheVariants.{Yes, No, Open}
use Rattle.selection_commands.specs.Target.{Agrees}

-- each environment of the target has this answer
abbrev pub IsAlways : Target → (Valuation → Bool) → Bool → Type 0
IsAlways target f b = (v : Valuation) → Agrees target v → f v ≡ b

-- some environment of the target has this answer
abbrev pub MayBe : Target → (Valuation → Bool) → Bool → Type 0
MayBe target f b = (v : Valuation) × Agrees target v × (f v ≡ b)

-- what a truth is in a target: true in each environment, in none, or in some of them
abbrev pub IsTruth : Target → (Valuation → Bool) → Truth → Type 0
IsTruth target f Yes = MayBe target f true × IsAlways target f true
IsTruth target f No = MayBe target f false × IsAlways target f false
IsTruth target f Open = MayBe target f true × MayBe target f false

-- the truth that may be true or not, and false or not
abbrev pub truth_of : Bool → Bool → Truth
truth_of true true = Open
truth_of true false = Yes
truth_of false b = No

-- the cell of a table for a truth
abbrev pub cell_text : Truth → List ℕ
cell_text Yes = codes "yes"
cell_text No = codes "no"
cell_text Open = codes "?"

-- what a truth is in each of several targets, in their order
pub record AreTruths (f : Valuation → Bool) (targets : List Target) (truths : List Truth) : Type 0
  where
    pub one_each : length truths ≡ length targets
    pub each : (i : ℕ) (target : Target) (t : Truth) → slice_get targets i ≡ Some target
        → slice_get truths i ≡ Some t → IsTruth target f t
