-- What shows how two markers relate.
use Rattle.std.specs.Prelude.{◌≡◌, ◌&&◌, ℕ, Bool, false, not, List, [], ◌∷◌, ◌++◌, IfSome, Option, None, Some, codes, string_bytes}
use Rattle.std.specs.List.{flat_map}
use Rattle.marker_environment.specs.Valuation.{Valuation}
use Rattle.marker_graph.specs.declared.relation.MarkerRelation.{MarkerRelation}
use Rattle.marker_graph.specs.declared.relation.MarkerRelation.TheVariants.{Equal, Disjoint, FirstImpliesSecond, SecondImpliesFirst, Overlapping}
use Rattle.marker_witnesses.specs.declared.sides.ShownWitness.{ShownWitness}
use Rattle.marker_witnesses.specs.declared.sides.Side.{Side}
use Rattle.marker_witnesses.specs.declared.sides.Side.TheVariants.{Both, OnlyFirst, OnlySecond}
use Rattle.marker_witnesses.specs.declared.example.Example.{Example}
use Rattle.marker_witnesses.specs.Text.{example_text}
use Rattle.marker_witnesses.specs.Witness.{Satisfies}

-- the truth of a side: both of two truths, or one of them without the other
abbrev pub side_truth : Side → (Valuation → Bool) → (Valuation → Bool) → Valuation → Bool
side_truth Both f g v = f v && g v
side_truth OnlyFirst f g v = f v && not (g v)
side_truth OnlySecond f g v = g v && not (f v)

-- how an example is written
abbrev pub or_any : List ℕ → List ℕ
or_any [] = codes "any environment"
or_any (c ∷ text) = c ∷ text

-- the example that is shown, if there is one, is on its side, and is written as a marker
pub record IsExampleOf (f : Valuation → Bool) (g : Valuation → Bool) (shown : ShownWitness)
    (example : Example) : Type 0 where
  pub satisfies : Satisfies (side_truth shown.side f g) example
  pub text : string_bytes shown.text ≡ or_any (example_text example)

abbrev pub IsShown : (Valuation → Bool) → (Valuation → Bool) → ShownWitness → Type 0
IsShown f g shown = IfSome shown.example (IsExampleOf f g shown)

-- what is shown of a side; nothing only where no valuation is on it
abbrev pub Shows : (Valuation → Bool) → (Valuation → Bool) → Side → Option ShownWitness → Type 0
Shows f g side None = (v : Valuation) → side_truth side f g v ≡ false
Shows f g side (Some shown) = (shown.side ≡ side) × IsShown f g shown

-- the sides that a relation is about
abbrev pub sides_of : MarkerRelation → List Side
sides_of Equal = Both ∷ []
sides_of Disjoint = OnlyFirst ∷ OnlySecond ∷ []
sides_of FirstImpliesSecond = OnlySecond ∷ []
sides_of SecondImpliesFirst = OnlyFirst ∷ []
sides_of Overlapping = Both ∷ OnlyFirst ∷ OnlySecond ∷ []

-- what is shown of each side, in their order
pub data ShowsEach (f : Valuation → Bool) (g : Valuation → Bool) : List Side → List ShownWitness
    → Type 0 where
  no_more : ShowsEach f g [] []
  nothing : {side : Side} {sides : List Side} {shown : List ShownWitness}
      → Shows f g side None → ShowsEach f g sides shown → ShowsEach f g (side ∷ sides) shown
  witness : {side : Side} {sides : List Side} (one : ShownWitness) {shown : List ShownWitness}
      → Shows f g side (Some one) → ShowsEach f g sides shown
      → ShowsEach f g (side ∷ sides) (one ∷ shown)

abbrev pub side_name : Side → List ℕ
side_name Both = codes "both"
side_name OnlyFirst = codes "only first"
side_name OnlySecond = codes "only second"

-- a line for each side
abbrev pub line_text : ShownWitness → List ℕ
line_text shown = side_name shown.side ++ codes ": " ++ string_bytes shown.text ++ 10 ∷ []

abbrev pub lines_text : List ShownWitness → List ℕ
lines_text shown = flat_map line_text shown
