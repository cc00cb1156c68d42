use Rattle.std.proofs.Common.{◌≡◌, ◌&&◌, ℕ, Bool, true, false, Some, take, string_bytes}
use Rattle.std.specs.Prelude.{slice_get}
use Rattle.std.specs.List.{list_any}
use Rattle.version_ranges.specs.Bounds.{all_cuts}
use Rattle.version_ranges.specs.Ranges.{contains_by}
use Rattle.marker_words.specs.Compare.{text_cmp}
use Rattle.marker_environment.specs.Valuation.{Valuation}
use Rattle.marker_terms.specs.Plain.{is_plain}
use Rattle.marker_graph.specs.Edges.{child_of}
use Rattle.marker_graph.specs.declared.tree.MarkerTree.{MarkerTree}
use Rattle.marker_graph.specs.declared.tree.TheConstants.MarkerTree.{FALSE}
use Rattle.marker_view.specs.declared.branch.Branch.{Branch}
use Rattle.marker_view.specs.Branch.{reaches, HavePrintableBranches}
use Rattle.marker_view.proofs.branch.text_branches.Given as goal

abbrev pub invariant-loop-child : goal.invariant-loop-child
invariant-loop-child l =
    ((i : ℕ) (b : Branch) → slice_get l.branches.items i ≡ Some b → (j : ℕ) × (q : _) × (slice_get l.child-items j ≡ Some q) × (b.child ≡ child_of l.view.tree q.0.now))
    × ((v : Valuation) (test : MarkerTree → Bool) → test FALSE ≡ false →
    list_any (λ b. reaches v test b) l.branches.items ≡ list_any (λ q. contains_by string_bytes text_cmp q.1 (v.text l.view.variable) && test (child_of l.view.tree q.0.now)) (take l.child-index l.child-items))
    × (all_cuts (λ t. is_plain (string_bytes t)) l.view.cuts.now ≡ true → HavePrintableBranches l.branches.items)
