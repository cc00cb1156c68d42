-- The clauses of a marker.
use Rattle.std.specs.Prelude.{◌≡◌, ◌≢◌, ◌⊎◌, List, [], Option, Some, None}
use Rattle.marker_words.specs.declared.operator.ExtraOperator.TheVariants as operators
use Rattle.marker_environment.specs.Valuation.{Valuation}
use Rattle.marker_parts.specs.Expression.{Extra, extra, test_of}
use Rattle.marker_parts.specs.declared.expression.MarkerExpression.{MarkerExpression}
use Rattle.marker_terms.specs.Clauses.{clauses_hold}
use Rattle.marker_terms.specs.Extra.{HasCommonExtra}
use Rattle.marker_terms.specs.Plain.{ArePrintable, HavePrintableTerms}
use Rattle.marker_terms.specs.Numbering.{IsReductionOf}
use Rattle.marker_graph.specs.declared.tree.MarkerTree.{MarkerTree}
use Rattle.marker_graph.specs.declared.tree.TheConstants.MarkerTree.{TRUE, FALSE}
use Rattle.marker_graph.specs.Contents.{Contents, truth}
use Rattle.marker_view.specs.Branch.{HasReleases}
use Rattle.marker_view.specs.PlainNodes.{IsReadable}

-- The clauses of the paths of a marker: they mean the marker, and those of a readable one can be
-- printed.
pub record ArePathsOf (c : Contents) (t : MarkerTree) (paths : List (List MarkerExpression))
    : Type 0 where
  pub mean : HasReleases c t → (v : Valuation) → clauses_hold paths v ≡ truth c t v
  pub printable : IsReadable c t → HavePrintableTerms paths

-- The clauses are those of the paths without redundant terms and clauses. They mean the marker,
-- unless it is `TRUE`, if its bounds of versions are releases; there are none for `TRUE` and
-- `FALSE`. The clauses of a readable marker can be printed, and parse back: there is at least one,
-- each has a term, and each term is printable.
pub record AreClausesOf (c : Contents) (t : MarkerTree) (clauses : List (List MarkerExpression))
    : Type 0 where
  pub reduced : t ≢ TRUE → t ≢ FALSE → (paths : List (List MarkerExpression))
      × ArePathsOf c t paths × IsReductionOf clauses paths
  pub mean : HasReleases c t → t ≢ TRUE → (v : Valuation) → clauses_hold clauses v ≡ truth c t v
  pub constants : (t ≡ TRUE) ⊎ (t ≡ FALSE) → clauses ≡ []
  pub printable : IsReadable c t → t ≢ TRUE → t ≢ FALSE → ArePrintable clauses

-- the first extra that each clause has, as a comparison, or nothing if there is none
abbrev pub TellsExtra : List (List MarkerExpression) → Option MarkerExpression → Type 0
TellsExtra clauses (Some term) = (x : Extra) × (test_of term ≡ extra operators.Equal x)
    × HasCommonExtra clauses x
TellsExtra clauses None = (x : Extra) → ¬ HasCommonExtra clauses x
