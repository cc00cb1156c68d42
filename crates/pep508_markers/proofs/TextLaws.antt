-- The trees of texts.
use Rattle.std.proofs.Common.{◌≡◌, List, [], length, sym, subst}
use Rattle.std.specs.Prelude.{ℕ, Option}
use Rattle.std.proofs.lemmas.List.{nil_from_length}
use Rattle.pep508_errors.specs.declared.warning.MarkerWarningKind.{MarkerWarningKind}
use Rattle.marker_parts.specs.Expression.{Overflows}
use Rattle.marker_graph.specs.declared.tree.MarkerTree.{MarkerTree}
use Rattle.marker_graph.specs.Contents.{Contents, IsHeld}
use Rattle.marker_graph.specs.Texts.{IsMarkerOfText, IsTreeOf}
use Rattle.marker_grammar.specs.Formula.{Formula}
use Rattle.marker_grammar.specs.Grammar.{Reads}
use Rattle.marker_grammar.specs.HasTest.{Says}
use Rattle.pep508_markers.specs.FormulaTree.{Means}

module _ (c : Contents) (text : List ℕ) (t : MarkerTree) where
  -- the tree of what a text was read as
  pub tree_of_text : (f : Option Formula) (kinds : List MarkerWarningKind) → Reads text f kinds → ¬ Says Overflows f → Means c f t → IsTreeOf c text t kinds
  tree_of_text f kinds reads no_overflow means = record { formula = f; reads = reads; no_overflow = no_overflow; means = means }

  -- without warnings it is remembered
  pub marker_of_text : (kinds : List MarkerWarningKind) → length kinds ≡ 0 → IsHeld c t → IsTreeOf c text t kinds → IsMarkerOfText c text t
  marker_of_text kinds none held tree = (held, subst (IsTreeOf c text t) (nil_from_length kinds none) tree)

  -- and found again
  pub known_tree : (kinds : List MarkerWarningKind) → kinds ≡ [] → IsMarkerOfText c text t → IsTreeOf c text t kinds
  known_tree kinds none marker = subst (IsTreeOf c text t) (sym none) marker.1
