-- Which edge of a node a path follows.
use Rattle.std.specs.Prelude.{◌≡◌, ◌≢◌, ◌⊎◌, ℕ, true, false, List, Option, None, Some, slice_get}
use Rattle.std.specs.declared.cmp.Ordering.{Ordering}
use Rattle.version_ranges.specs.Parts.{Part, IsIn}
use Rattle.version_ranges.specs.Point.{Point}
use Rattle.pep440_version.specs.Order.{version_cmp}
use Rattle.marker_words.specs.Compare.{text_cmp}
use Rattle.marker_environment.specs.Valuation.{Valuation}
use Rattle.marker_graph.specs.declared.kind.ContainsMarkerTree.{ContainsMarkerTree}
use Rattle.marker_graph.specs.declared.kind.ExtraMarkerTree.{ExtraMarkerTree}
use Rattle.marker_graph.specs.declared.kind.InMarkerTree.{InMarkerTree}
use Rattle.marker_graph.specs.declared.kind.StringMarkerTree.{StringMarkerTree}
use Rattle.marker_graph.specs.declared.kind.VersionMarkerTree.{VersionMarkerTree}
use Rattle.marker_graph.specs.declared.tree.MarkerTree.{MarkerTree}
use Rattle.marker_graph.specs.declared.tree.TheConstants.MarkerTree.{FALSE, TRUE}
use Rattle.marker_graph.specs.Contents.{Contents}
use Rattle.marker_graph.specs.Kind.{string_edges, version_edges}
use Rattle.marker_witnesses.specs.declared.choice.Choice.{Choice}
use Rattle.marker_witnesses.specs.declared.step.Step.{Step}
use Rattle.marker_witnesses.specs.declared.step.Step.TheVariants.{In, Contains, Extra}
use Rattle.marker_witnesses.specs.Path.{Follows, GoesDown}

-- the choice after a further edge: an edge to FALSE changes nothing; else it is one of the two
abbrev pub Chooses : Option Choice → Step → MarkerTree → Option Choice → Type 0
Chooses old step s new = ((s ≡ FALSE) × (new ≡ old))
    ⊎ ((c : Choice) × (new ≡ Some c)
    × ((old ≡ Some c) ⊎ ((c.step ≡ step) × (c.subtree ≡ s) × (s ≢ FALSE))))

module _ {T : Type 0} (cmp : T → T → Ordering) (place : Valuation → Point T) where
  -- the choice is an edge, which does not lead to FALSE
  pub record IsEdgeOf (edges : List (Part T MarkerTree)) (c : Choice) : Type 0 where
    pub index : ℕ
    pub edge : Part T MarkerTree
    pub is : slice_get edges index ≡ Some edge
    pub leads : edge.value ≡ c.subtree
    pub live : c.subtree ≢ FALSE
    pub follows : (v : Valuation) → Follows v c.step → IsIn cmp edge (place v)

  -- the choice among edges; there is none only where all lead to FALSE
  abbrev pub Picks : List (Part T MarkerTree) → Option Choice → Type 0
  Picks edges None = (i : ℕ) (e : Part T MarkerTree) → slice_get edges i ≡ Some e → e.value ≡ FALSE
  Picks edges (Some c) = IsEdgeOf edges c

abbrev pub PicksVersion : VersionMarkerTree → Option Choice → Type 0
PicksVersion view found =
    Picks version_cmp (λ v. v.version view.variable) (version_edges view) found

abbrev pub PicksText : StringMarkerTree → Option Choice → Type 0
PicksText view found = Picks text_cmp (λ v. v.text view.variable) (string_edges view) found

-- the choice between the edges for false and for true
abbrev pub PicksAnswer : Step → MarkerTree → Step → MarkerTree → Option Choice → Type 0
PicksAnswer denied low confirmed high None = (low ≡ FALSE) × (high ≡ FALSE)
PicksAnswer denied low confirmed high (Some c) = (c.subtree ≢ FALSE)
    × (((c.step ≡ denied) × (c.subtree ≡ low)) ⊎ ((c.step ≡ confirmed) × (c.subtree ≡ high)))

abbrev pub PicksIn : InMarkerTree → Option Choice → Type 0
PicksIn view = PicksAnswer (In view false) view.low (In view true) view.high

abbrev pub PicksContains : ContainsMarkerTree → Option Choice → Type 0
PicksContains view = PicksAnswer (Contains view false) view.low (Contains view true) view.high

abbrev pub PicksExtra : ExtraMarkerTree → Option Choice → Type 0
PicksExtra view = PicksAnswer (Extra view false) view.low (Extra view true) view.high

-- the choice goes down from the marker; only a constant has none
abbrev pub GoesOn : Contents → MarkerTree → Option Choice → Type 0
GoesOn c t None = (t ≡ TRUE) ⊎ (t ≡ FALSE)
GoesOn c t (Some choice) = GoesDown c t choice.step choice.subtree
