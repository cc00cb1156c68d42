use Rattle.std.proofs.Common.{◌≡◌, ◌&&◌, ℕ, Bool, true, false, Some, take}
use Rattle.std.specs.Prelude.{slice_get}
use Rattle.std.specs.List.{list_any}
use Rattle.version_ranges.specs.Bounds.{all_cuts}
use Rattle.version_ranges.specs.Ranges.{contains_point}
use Rattle.pep440_version.specs.Order.{version_cmp}
use Rattle.pep440_rs.specs.Bounds.{is_release}
use Rattle.marker_environment.specs.Valuation.{Valuation}
use Rattle.marker_graph.specs.Edges.{child_of}
use Rattle.marker_graph.specs.declared.tree.MarkerTree.{MarkerTree}
use Rattle.marker_graph.specs.declared.tree.TheConstants.MarkerTree.{FALSE}
use Rattle.marker_view.specs.declared.branch.Branch.{Branch}
use Rattle.marker_view.specs.Branch.{reaches, HavePrintableBranches}
use Rattle.marker_view.proofs.branch.version_branches.Given as goal

abbrev pub invariant-loop-child : goal.invariant-loop-child
invariant-loop-child l =
    ((i : ℕ) (b : Branch) → slice_get l.branches.items i ≡ Some b → (j : ℕ) × (q : _) × (slice_get l.child-items j ≡ Some q) × (b.child ≡ child_of l.view.tree q.0.now))
    × (all_cuts is_release l.view.cuts.now ≡ true → (v : Valuation) (test : MarkerTree → Bool) → test FALSE ≡ false →
    list_any (λ b. reaches v test b) l.branches.items ≡ list_any (λ q. contains_point version_cmp q.1 (v.version l.view.variable) && test (child_of l.view.tree q.0.now)) (take l.child-index l.child-items))
    × HavePrintableBranches l.branches.items
