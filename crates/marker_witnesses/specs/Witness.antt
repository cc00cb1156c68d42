-- What satisfies a marker.
use Rattle.std.specs.Prelude.{◌≡◌, Bool, true, Option, None, Some}
use Rattle.marker_environment.specs.Environment.{valuation_of, values_of}
use Rattle.marker_environment.specs.Valuation.{Valuation}
use Rattle.marker_graph.specs.declared.tree.MarkerTree.{MarkerTree}
use Rattle.marker_graph.specs.declared.tree.TheConstants.MarkerTree.{FALSE}
use Rattle.marker_graph.specs.Contents.{Contents, truth}
use Rattle.marker_witnesses.specs.declared.example.Example.{Example}
use Rattle.marker_witnesses.specs.declared.witness.Witness.{Witness}
use Rattle.marker_witnesses.specs.declared.witness.Witness.TheVariants as witnesses
use Rattle.marker_witnesses.specs.Path.{LeadsToTrue}

-- the valuation of the environment with exactly the extras
abbrev pub example_valuation : Example → Valuation
example_valuation example = valuation_of (values_of example.environment) example.extras.items

-- the example satisfies the truth
abbrev pub Satisfies : (Valuation → Bool) → Example → Type 0
Satisfies f example = f (example_valuation example) ≡ true

-- the witness satisfies the truth: an environment with extras, or each valuation of the path
abbrev pub IsWitness : (Valuation → Bool) → Witness → Type 0
IsWitness f (witnesses.Example example) = Satisfies f example
IsWitness f (witnesses.Path path) = LeadsToTrue f path.items

-- only FALSE has no witness
abbrev pub IsWitnessOf : Contents → MarkerTree → Option Witness → Type 0
IsWitnessOf c t None = t ≡ FALSE
IsWitnessOf c t (Some witness) = IsWitness (truth c t) witness
