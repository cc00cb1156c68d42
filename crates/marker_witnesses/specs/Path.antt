-- Paths in a decision diagram: the values with which each step goes on.
use Rattle.std.specs.Prelude.{◌≡◌, ◌≢◌, ◌<◌, Bool, true, All, List, Option, None, Some, Vec, string_bytes}
use Rattle.std.specs.Global.{Global}
use Rattle.version_ranges.specs.Clamp.{IsBetween, bound_of}
use Rattle.version_ranges.specs.Point.{at}
use Rattle.pep440_version.specs.Order.{version_cmp}
use Rattle.pep440_version.specs.Parts.{Parts}
use Rattle.marker_words.specs.Compare.{text_bound, text_cmp}
use Rattle.marker_environment.specs.Valuation.{Valuation}
use Rattle.marker_diagrams.specs.Id.{place_of}
use Rattle.marker_nodes.specs.Variable.{answer}
use Rattle.marker_graph.specs.declared.tree.MarkerTree.{MarkerTree}
use Rattle.marker_graph.specs.declared.tree.TheConstants.MarkerTree.{FALSE}
use Rattle.marker_graph.specs.Contents.{Contents, IsHeld, truth}
use Rattle.marker_graph.specs.Kind.{extra_question}
use Rattle.marker_witnesses.specs.declared.step.Step.{Step}
use Rattle.marker_witnesses.specs.declared.step.Step.TheVariants.{Version, Text, In, Contains, Extra}
use Rattle.marker_witnesses.specs.declared.step.VersionStep.{VersionStep}

-- the version is between the bounds
abbrev pub HasVersion : VersionStep → Parts → Type 0
HasVersion step version =
    IsBetween version_cmp (bound_of step.lower) (bound_of step.upper) (at version)

-- the step goes on with the valuation's value of its variable
abbrev pub Follows : Valuation → Step → Type 0
Follows v (Version step) =
    IsBetween version_cmp (bound_of step.lower) (bound_of step.upper) (v.version step.variable)
Follows v (Text step) =
    IsBetween text_cmp (text_bound step.lower) (text_bound step.upper) (v.text step.variable)
Follows v (In view b) = v.inside view.variable (string_bytes view.text.now) ≡ b
Follows v (Contains view b) = v.contains view.variable (string_bytes view.text.now) ≡ b
Follows v (Extra view b) = answer (extra_question view.name) v ≡ b

-- each valuation with which all steps go on satisfies the truth
abbrev pub LeadsToTrue : (Valuation → Bool) → List Step → Type 0
LeadsToTrue f path = (v : Valuation) → All (Follows v) path → f v ≡ true

-- The step goes down from the marker t to the marker s, which is not FALSE: each valuation with
-- which the step goes on gives both the same truth.
pub record GoesDown (c : Contents) (t : MarkerTree) (step : Step) (s : MarkerTree) : Type 0 where
  pub held : IsHeld c s
  pub below : place_of s.id < place_of t.id
  pub live : s ≢ FALSE
  pub same : (v : Valuation) → Follows v step → truth c t v ≡ truth c s v

-- a path of a marker leads to TRUE; only FALSE has none
abbrev pub IsPathOf : Contents → MarkerTree → Option (Vec Step Global) → Type 0
IsPathOf c t None = t ≡ FALSE
IsPathOf c t (Some path) = LeadsToTrue (truth c t) path.items
