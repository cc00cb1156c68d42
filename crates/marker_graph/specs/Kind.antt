-- The variable on which a marker branches, and what its edges mean.
use Rattle.std.specs.Prelude.{◌≡◌, ◌≢◌, ◌⊎◌, ℕ, ◌+◌, ◌<◌, ⊤, Bool, true, false, ◌&&◌, List, [], ◌∷◌, map, Some, slice_get}
use Rattle.std.specs.List.{list_all}
use Rattle.std.specs.Ordering.{is_lt}
use Rattle.std.specs.declared.cmp.Ordering.{Ordering}
use Rattle.std.specs.declared.cmp.Ordering.TheVariants.{Less}
use Rattle.version_ranges.specs.Bounds.{passes_at}
use Rattle.version_ranges.specs.Point.{Point, point_cmp}
use Rattle.version_ranges.specs.Parts.{Part, parts_of, IsIn}
use Rattle.pep440_version.specs.Parts.{Parts}
use Rattle.pep440_version.specs.Order.{version_cmp}
use Rattle.pep440_rs.specs.Intervals.{is_trimmed}
use Rattle.marker_words.specs.Compare.{text_cmp}
use Rattle.marker_words.specs.declared.key.MarkerValueString.{MarkerValueString}
use Rattle.marker_words.specs.declared.key.MarkerValueString.TheVariants as keys
use Rattle.marker_words.specs.declared.key.TextVariable.{TextVariable}
use Rattle.marker_words.specs.declared.key.TextVariable.TheVariants.{ImplementationName, OsName, PlatformMachine, PlatformPythonImplementation, PlatformRelease, PlatformSystem, PlatformVersion, SysPlatform}
use Rattle.marker_environment.specs.Valuation.{Valuation}
use Rattle.marker_diagrams.specs.declared.node_id.NodeId.{NodeId}
use Rattle.marker_diagrams.specs.Diagram as diagram
use Rattle.marker_diagrams.specs.Id.{place_of}
use Rattle.marker_nodes.specs.declared.node.Branches.TheVariants as nodes
use Rattle.marker_nodes.specs.declared.variable.TruthVariable.{TruthVariable}
use Rattle.marker_nodes.specs.declared.variable.TruthVariable.TheVariants as questions
use Rattle.marker_nodes.specs.Node.{markers}
use Rattle.marker_nodes.specs.Variable.{Variable, answer, of_text, of_version, truth_variable, variable_cmp}
use Rattle.marker_graph.specs.declared.kind.MarkerTreeKind.{MarkerTreeKind}
use Rattle.marker_graph.specs.declared.kind.MarkerTreeKind.TheVariants.{True, False, Version, String, In, Contains, Extra}
use Rattle.marker_graph.specs.declared.kind.MarkerValueExtraRef.{MarkerValueExtraRef}
use Rattle.marker_graph.specs.declared.kind.MarkerValueExtraRef.TheVariants as extras
use Rattle.marker_graph.specs.declared.kind.StringMarkerTree.{StringMarkerTree}
use Rattle.marker_graph.specs.declared.kind.VersionMarkerTree.{VersionMarkerTree}
use Rattle.marker_graph.specs.declared.tree.MarkerTree.{MarkerTree}
use Rattle.marker_graph.specs.declared.tree.TheConstants.MarkerTree.{TRUE, FALSE}
use Rattle.marker_graph.specs.Contents.{Contents, IsHeld, truth}
use Rattle.marker_graph.specs.Edges.{by_bytes, child_of, under}
use Rattle.marker_graph.specs.Tree.{node_of, DependsOn, IsSubtree}

-- the modern key of a variable
abbrev pub modern_key : TextVariable → MarkerValueString
modern_key ImplementationName = keys.ImplementationName
modern_key OsName = keys.OsName
modern_key PlatformMachine = keys.PlatformMachine
modern_key PlatformPythonImplementation = keys.PlatformPythonImplementation
modern_key PlatformRelease = keys.PlatformRelease
modern_key PlatformSystem = keys.PlatformSystem
modern_key PlatformVersion = keys.PlatformVersion
modern_key SysPlatform = keys.SysPlatform

-- the edges of a view, in order: those of texts by their bytes, and the one for true before the one
-- for false
abbrev pub version_edges : VersionMarkerTree → List (Part Parts MarkerTree)
version_edges view = map (under view.tree) (parts_of view.cuts.now)

abbrev pub string_edges : StringMarkerTree → List (Part (List ℕ) MarkerTree)
string_edges view = map (λ p. by_bytes (under view.tree p)) (parts_of view.cuts.now)

abbrev pub boolean_edges : MarkerTree → MarkerTree → List (Bool × MarkerTree)
boolean_edges high low = (true, high) ∷ (false, low) ∷ []

-- whether both bounds of an edge are written without zeros at the end of their releases
abbrev pub has_trimmed_bounds : Part Parts MarkerTree → Bool
has_trimmed_bounds edge = passes_at is_trimmed edge.lower && passes_at is_trimmed edge.upper

-- so are those of all edges, if the marker branches on a version
abbrev pub HasTrimmedEdges : MarkerTreeKind → Type 0
HasTrimmedEdges (Version view) = list_all has_trimmed_bounds (version_edges view) ≡ true
HasTrimmedEdges other = ⊤

-- the variable of `extra` and a name or text
abbrev pub extra_question : MarkerValueExtraRef → TruthVariable
extra_question (extras.Extra name) = questions.Extra name.now
extra_question (extras.Arbitrary text) = questions.Arbitrary text.now

-- ---- which node is shown

-- the marker's node branches on a substring test or an extra, and has these subtrees
abbrev pub AsksForTruth : Contents → MarkerTree → TruthVariable → MarkerTree → MarkerTree → Type 0
AsksForTruth c t x high low = (so : NodeId) × (other : NodeId)
    × (node_of c t ≡ Some (nodes.Truth x so other))
    × (high ≡ child_of t so) × (low ≡ child_of t other)

-- the kind shows the marker: the constant that it is, or its node
abbrev pub IsKind : Contents → MarkerTree → MarkerTreeKind → Type 0
IsKind c t True = t ≡ TRUE
IsKind c t False = t ≡ FALSE
IsKind c t (Version view) = (node_of c t ≡ Some (nodes.Version view.variable view.cuts.now))
    × (view.tree ≡ t)
IsKind c t (String view) = (node_of c t ≡ Some (nodes.Text view.variable view.cuts.now))
    × (view.tree ≡ t)
IsKind c t (In view) = AsksForTruth c t (questions.In view.variable view.text.now)
    view.high view.low
IsKind c t (Contains view) = AsksForTruth c t (questions.Contains view.variable view.text.now)
    view.high view.low
IsKind c t (Extra view) = AsksForTruth c t (extra_question view.name) view.high view.low

-- ---- what the edges mean

-- the truth f depends on the variable x, and on none before it
pub record IsFirstVariable (f : Valuation → Bool) (x : Variable) : Type 0 where
  pub depends : DependsOn f x
  pub none_before : (y : Variable) → DependsOn f y → is_lt (variable_cmp y x) ≡ false

-- the marker s is a subtree of t that depends only on variables after x
pub record IsBehind (c : Contents) (t : MarkerTree) (x : Variable) (s : MarkerTree) : Type 0 where
  pub subtree : IsSubtree c t s
  pub held : IsHeld c s
  -- its node is an older one, so a walk down ends
  pub below : place_of s.id < place_of t.id
  pub later : (y : Variable) → DependsOn (truth c s) y → variable_cmp x y ≡ Less

-- the marker s means what t means with the variable x at its value in the valuation v
abbrev pub IsFixed : Contents → MarkerTree → Variable → Valuation → MarkerTree → Type 0
IsFixed c t x v s = (w : Valuation)
    → truth c s w ≡ truth c t (diagram.with_variable markers x v w)

-- The edges of a marker that branches on the variable x, whose values are points. Their ranges are
-- not empty, ascend, are disjoint and cover all points. Each subtree is the marker's truth with the
-- variable fixed there, and depends only on later variables. Neighbors have different subtrees.
pub record AreEdges {T : Type 0} (cmp : T → T → Ordering) (place : Valuation → Point T)
    (c : Contents) (t : MarkerTree) (x : Variable) (edges : List (Part T MarkerTree)) : Type 0 where
  pub first : IsFirstVariable (truth c t) x
  pub covers : (p : Point T) → (i : ℕ) × (e : Part T MarkerTree)
      × (slice_get edges i ≡ Some e) × IsIn cmp e p
  pub apart : (i j : ℕ) (e f : Part T MarkerTree) (p : Point T) → slice_get edges i ≡ Some e
      → slice_get edges j ≡ Some f → IsIn cmp e p → IsIn cmp f p → i ≡ j
  pub nonempty : (i : ℕ) (e : Part T MarkerTree) → slice_get edges i ≡ Some e
      → (p : Point T) × IsIn cmp e p
  pub ascending : (i j : ℕ) (e f : Part T MarkerTree) (p q : Point T) → slice_get edges i ≡ Some e
      → slice_get edges j ≡ Some f → i < j → IsIn cmp e p → IsIn cmp f q
      → point_cmp cmp p q ≡ Less
  pub behind : (i : ℕ) (e : Part T MarkerTree) → slice_get edges i ≡ Some e
      → IsBehind c t x e.value
  pub means : (i : ℕ) (e : Part T MarkerTree) (v : Valuation) → slice_get edges i ≡ Some e
      → IsIn cmp e (place v) → IsFixed c t x v e.value
  pub here : (i : ℕ) (e : Part T MarkerTree) (v : Valuation) → slice_get edges i ≡ Some e
      → IsIn cmp e (place v) → truth c t v ≡ truth c e.value v
  pub neighbors : (i : ℕ) (e f : Part T MarkerTree) → slice_get edges i ≡ Some e
      → slice_get edges (i + 1) ≡ Some f → e.value ≢ f.value

-- The two edges of a marker that branches on a substring test or an extra: for true, and for false.
pub record AreBooleanEdges (c : Contents) (t : MarkerTree) (x : TruthVariable)
    (high low : MarkerTree) : Type 0 where
  pub first : IsFirstVariable (truth c t) (truth_variable x)
  pub high_behind : IsBehind c t (truth_variable x) high
  pub low_behind : IsBehind c t (truth_variable x) low
  pub high_means : (v : Valuation) → answer x v ≡ true → IsFixed c t (truth_variable x) v high
  pub low_means : (v : Valuation) → answer x v ≡ false → IsFixed c t (truth_variable x) v low
  pub high_here : (v : Valuation) → answer x v ≡ true → truth c t v ≡ truth c high v
  pub low_here : (v : Valuation) → answer x v ≡ false → truth c t v ≡ truth c low v
  pub differ : high ≢ low

-- the edges of a kind mean what the marker's truth says
abbrev pub AreItsEdges : Contents → MarkerTree → MarkerTreeKind → Type 0
AreItsEdges c t True = ⊤
AreItsEdges c t False = ⊤
AreItsEdges c t (Version view) =
    AreEdges version_cmp (λ v. v.version view.variable) c t (of_version view.variable)
    (version_edges view)
AreItsEdges c t (String view) =
    AreEdges text_cmp (λ v. v.text view.variable) c t (of_text view.variable) (string_edges view)
AreItsEdges c t (In view) =
    AreBooleanEdges c t (questions.In view.variable view.text.now) view.high view.low
AreItsEdges c t (Contains view) =
    AreBooleanEdges c t (questions.Contains view.variable view.text.now) view.high view.low
AreItsEdges c t (Extra view) =
    AreBooleanEdges c t (extra_question view.name) view.high view.low

-- the kind is of a substring test or an extra, and has these subtrees
abbrev pub IsKindOfTruth : TruthVariable → MarkerTree → MarkerTree → MarkerTreeKind → Type 0
IsKindOfTruth x high low True = ⊥
IsKindOfTruth x high low False = ⊥
IsKindOfTruth x high low (Version view) = ⊥
IsKindOfTruth x high low (String view) = ⊥
IsKindOfTruth x high low (In view) = (x ≡ questions.In view.variable view.text.now)
    × (view.high ≡ high) × (view.low ≡ low)
IsKindOfTruth x high low (Contains view) = (x ≡ questions.Contains view.variable view.text.now)
    × (view.high ≡ high) × (view.low ≡ low)
IsKindOfTruth x high low (Extra view) = (x ≡ extra_question view.name)
    × (view.high ≡ high) × (view.low ≡ low)

-- ---- the subtrees that are shown

-- an edge of the kind leads to the marker s
abbrev pub LeadsTo : MarkerTreeKind → MarkerTree → Type 0
LeadsTo True s = ⊥
LeadsTo False s = ⊥
LeadsTo (Version view) s = (i : ℕ) × (e : Part Parts MarkerTree)
    × (slice_get (version_edges view) i ≡ Some e) × (e.value ≡ s)
LeadsTo (String view) s = (i : ℕ) × (e : Part (List ℕ) MarkerTree)
    × (slice_get (string_edges view) i ≡ Some e) × (e.value ≡ s)
LeadsTo (In view) s = (view.high ≡ s) ⊎ (view.low ≡ s)
LeadsTo (Contains view) s = (view.high ≡ s) ⊎ (view.low ≡ s)
LeadsTo (Extra view) s = (view.high ≡ s) ⊎ (view.low ≡ s)

-- the marker s is shown under t: it is t, or the subtree at an edge of a marker that is shown
pub data IsShown (c : Contents) (t : MarkerTree) : MarkerTree → Type 0 where
  itself : IsShown c t t
  edge : (s u : MarkerTree) (kind : MarkerTreeKind) → IsShown c t s → IsKind c s kind
      → LeadsTo kind u → IsShown c t u
