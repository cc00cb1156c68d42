use Rattle.std.proofs.Common.{◌≡◌, sym, ◌∙◌}
use Rattle.version_ranges.specs.Clamp.{bound_of}
use Rattle.marker_environment.specs.Valuation.{Valuation}
use Rattle.marker_graph.specs.Contents.{truth}
use Rattle.marker_simplifications.specs.Extras.{grant, with_extras}
use Rattle.marker_simplifications.specs.Python.{Assumes}
use Rattle.marker_walks.specs.Possible.{is_listed}
use Rattle.marker_answers.specs.Simplified.{IsGranted}
use Rattle.marker_answers.proofs.GrantLaws.{assumes_same, granted_else}
use Rattle.marker_answers.proofs.KeptLaws.{if_ok, kept_held, kept_truth}
use Rattle.marker_answers.proofs.simplifying.grant.Goals as goal

pub returns-else-granted-clause-means : goal.returns-else-granted-clause-means
returns-else-granted-clause-means c =
    let held = kept_held c.args.interner.now c.simplify_extras.new.interner c.args.marker c.simplify_extras.ensures.kept c.requires in
    let same : (v : Valuation) → truth c.simplify_python_versions.new.interner c.in_ok-left.left v
    ≡ grant (is_listed c.args.granted.extras.now) (truth c.simplify_python_versions.new.interner c.args.marker) v =
    λ v. kept_truth c.simplify_extras.new.interner c.simplify_python_versions.new.interner c.in_ok-left.left c.simplify_python_versions.ensures.kept c.in_ok-left.ensures.held v
    ∙ c.in_ok-left.ensures.means v
    ∙ sym (kept_truth c.simplify_extras.new.interner c.simplify_python_versions.new.interner c.args.marker c.simplify_python_versions.ensures.kept held (with_extras (is_listed c.args.granted.extras.now) v)) in
    if_ok (λ t. Assumes (bound_of c.args.granted.lower) (bound_of c.args.granted.upper) (truth c.simplify_python_versions.new.interner c.in_ok-left.left) (truth c.simplify_python_versions.new.interner t))
    (λ t. IsGranted (truth c.simplify_python_versions.new.interner c.args.marker) c.args.granted (truth c.simplify_python_versions.new.interner t))
    c.simplify_python_versions.result c.simplify_python_versions.ensures.means
    (λ t a. granted_else (truth c.simplify_python_versions.new.interner c.args.marker) (bound_of c.args.granted.lower) (bound_of c.args.granted.upper) c.args.granted.requires_python c.args.granted.extras.now
    (truth c.simplify_python_versions.new.interner t) c.if-granted.false
    (assumes_same (bound_of c.args.granted.lower) (bound_of c.args.granted.upper) (truth c.simplify_python_versions.new.interner c.in_ok-left.left)
    (grant (is_listed c.args.granted.extras.now) (truth c.simplify_python_versions.new.interner c.args.marker)) (truth c.simplify_python_versions.new.interner t) same a))
