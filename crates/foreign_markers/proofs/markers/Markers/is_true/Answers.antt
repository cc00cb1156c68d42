use Rattle.std.proofs.Common.{List, ℕ, ◌∙◌, ap}
use Rattle.marker_environment.specs.Environment.{values_of, valuation_of}
use Rattle.marker_graph.specs.Contents.{truth}
use Rattle.foreign_markers.proofs.NumberLaws.{has_value_there}
use Rattle.foreign_markers.proofs.markers.Markers.is_true.Goals as goal

pub returns-in-Some-environment-clause-told : goal.returns-in-Some-environment-clause-told
returns-in-Some-environment-clause-told c =
    let known = c.in-Some-environment.known in
    has_value_there c.args.self.now.interner c.in-Some.tree known c.in-Some.ensures.found c.in-Some-environment.is
    (c.evaluate.ensures ∙ ap (λ (names : List (List ℕ)). truth c.args.self.now.interner c.in-Some.tree (valuation_of (values_of known.environment) names)) c.deref.ensures.value)
