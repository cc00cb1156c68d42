-- The markers of texts, and those that an interner remembers. (PEP 508.)
use Rattle.std.specs.Prelude.{◌≡◌, ℕ, List, [], Option}
use Rattle.pep508_errors.specs.declared.warning.MarkerWarningKind.{MarkerWarningKind}
use Rattle.marker_environment.specs.Valuation.{Valuation}
use Rattle.marker_parts.specs.Expression.{Overflows}
use Rattle.marker_diagrams.specs.declared.node_id.NodeId.{NodeId}
use Rattle.marker_conjunctions.specs.Contents.{IsWellKept}
use Rattle.marker_texts.specs.declared.known_texts.KnownTexts.{KnownTexts}
use Rattle.marker_texts.specs.Known.{IsKnown}
use Rattle.marker_grammar.specs.Formula.{Formula}
use Rattle.marker_grammar.specs.Formula as formulas
use Rattle.marker_grammar.specs.Grammar.{Reads}
use Rattle.marker_grammar.specs.HasTest.{Says}
use Rattle.marker_graph.specs.declared.tree.MarkerTree.{MarkerTree}
use Rattle.marker_graph.specs.Contents.{Contents, IsHeld, truth}

-- the tree has the truth of the text, no bound of which is above 2^64 - 1, and these are the kinds
-- of its warnings
pub record IsTreeOf (c : Contents) (text : List ℕ) (t : MarkerTree)
    (kinds : List MarkerWarningKind) : Type 0 where
  pub formula : Option Formula
  pub reads : Reads text formula kinds
  pub no_overflow : ¬ Says Overflows formula
  pub means : (v : Valuation) → truth c t v ≡ formulas.truth formula v

-- the interner has the tree of the text, which has no warnings
abbrev pub IsMarkerOfText : Contents → List ℕ → MarkerTree → Type 0
IsMarkerOfText c text t = IsHeld c t × IsTreeOf c text t []

-- what an interner holds is well kept, and so are the markers of the texts that it remembers
pub record IsInOrder (c : Contents) (remembered : KnownTexts) : Type 0 where
  pub kept : IsWellKept c
  pub texts : (text : List ℕ) (id : NodeId) → IsKnown remembered text id
      → IsMarkerOfText c text (record { id = id })
