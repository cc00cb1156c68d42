-- The laws of markers, each as a fact about what an interner holds.
use Rattle.std.specs.Prelude.{◌≡◌, ◌≢◌, ◌≤◌, ◌+◌, ◌*◌, ◌&&◌, ℕ, Bool, true, false, List, [], ◌∷◌, length}
use Rattle.std.specs.declared.ops.Bound.{Bound}
use Rattle.std.specs.Range.Bound.{bound_map}
use Rattle.pep440_version.specs.Parts.{Parts}
use Rattle.pep440_version.specs.Order.{trimmed_parts}
use Rattle.marker_words.specs.declared.key.MarkerValueString.{MarkerValueString}
use Rattle.marker_environment.specs.Valuation.{Valuation}
use Rattle.marker_nodes.specs.Branches.{piece, value_at}
use Rattle.marker_nodes.specs.Node.{Node}
use Rattle.marker_nodes.specs.Variable.{Variable}
use Rattle.marker_simplifications.specs.Python.{AgreeInside, is_python_in}
use Rattle.marker_graph.specs.declared.tree.MarkerTree.{MarkerTree}
use Rattle.marker_graph.specs.declared.tree.TheConstants.MarkerTree.{TRUE, FALSE}
use Rattle.marker_graph.specs.Contents.{Contents, IsHeld, truth}
use Rattle.marker_graph.specs.Meaning.{IsTrueWhere, MeanTheSame}
use Rattle.marker_graph.specs.Everywhere.{DependsFirstOn, HasThreeSubtrees}
use Rattle.marker_graph.specs.Kind.{IsShown}
use Rattle.marker_graph.specs.Ranged.{IsAssumption, IsRequirement}
use Rattle.marker_graph.specs.Tree.{negation, text_is, extra_is, HasExactly, HasSubtrees, IsConjunction, IsMarkerOf, IsResidue, IsSubtree, LooksAt}

-- markers that mean the same are the same
abbrev pub HasOneMarkerForEachTruth : Contents → Type 0
HasOneMarkerForEachTruth c =
    (a b : MarkerTree) → IsHeld c a → IsHeld c b → MeanTheSame c a b → a ≡ b

-- a marker that joins two markers joins them later too
abbrev pub StaysJoined : (Contents → MarkerTree → MarkerTree → MarkerTree → Type 0)
    → Contents → Contents → Type 0
StaysJoined Joins old new =
    (a b t : MarkerTree) → IsHeld old a → IsHeld old b → Joins old a b t → Joins new a b t

-- the negation of two markers joined one way is their negations joined the other way
abbrev pub NegatesInto : (Contents → MarkerTree → MarkerTree → MarkerTree → Type 0)
    → (Contents → MarkerTree → MarkerTree → MarkerTree → Type 0) → Contents → Type 0
NegatesInto Joins JoinsOtherwise c = (a b t u : MarkerTree) → Joins c a b t
    → JoinsOtherwise c (negation a) (negation b) u → negation t ≡ u

-- a list of two for each node of the interner, and two more, has each subtree of the marker
abbrev pub HasTwoForEachNode : Contents → MarkerTree → Type 0
HasTwoForEachNode c t = (trees : List MarkerTree) × HasSubtrees c t trees
    × (length trees ≡ 2 * length c.nodes + 2)

-- a list of exactly the subtrees of the marker is as short as any that has them all
abbrev pub ExactListsAreShortest : Contents → MarkerTree → Type 0
ExactListsAreShortest c t = (exact trees : List MarkerTree) → HasExactly c t exact
    → HasSubtrees c t trees → length exact ≤ length trees

-- the marker s means a residue of the truth of t
abbrev pub MeansResidue : Contents → MarkerTree → MarkerTree → Type 0
MeansResidue c t s = (x : Variable) × (held : Valuation) × IsResidue (truth c t) x held (truth c s)

-- each residue of the marker's truth is what one of its subtrees means
abbrev pub HasEachResidue : Contents → MarkerTree → Type 0
HasEachResidue c t = (x : Variable) (held : Valuation)
    → (s : MarkerTree) × IsSubtree c t s × IsResidue (truth c t) x held (truth c s)

-- no other subtree of the marker t means what the marker s does
abbrev pub IsAloneInMeaning : Contents → MarkerTree → MarkerTree → Type 0
IsAloneInMeaning c t s = (u : MarkerTree) → IsSubtree c t u → MeanTheSame c s u → s ≡ u

-- what is shown under a marker is a subtree of it
abbrev pub ShowsOnlySubtrees : Contents → Type 0
ShowsOnlySubtrees c = (t s : MarkerTree) → IsHeld c t → IsShown c t s → IsSubtree c t s

-- the truth depends on a variable, and on none before it
abbrev pub HasFirstVariable : (Valuation → Bool) → Type 0
HasFirstVariable f = (x : Variable) × DependsFirstOn f x

-- the children of neighboring pieces of the node differ
abbrev pub NeighborsDiffer : Node → Type 0
NeighborsDiffer n =
    (v w : Valuation) → piece n w ≡ piece n v + 1 → value_at n v ≢ value_at n w

-- a test of one variable, true somewhere and false elsewhere, has a marker of three subtrees
abbrev pub OneVariableHasThreeSubtrees : Contents → Type 0
OneVariableHasThreeSubtrees c = (x : Variable) (test : Valuation → Bool) → LooksAt x test
    → (v w : Valuation) → test v ≡ true → test w ≡ false → HasThreeSubtrees c test

-- the marker of `key == 'value'` has three subtrees
abbrev pub TextsHaveThreeSubtrees : Contents → Type 0
TextsHaveThreeSubtrees c =
    (key : MarkerValueString) (value : List ℕ) → HasThreeSubtrees c (text_is key value)

-- whether `key == 'value' and extra == 'name'` holds
abbrev pub text_and_extra_are : MarkerValueString → List ℕ → List ℕ → Valuation → Bool
text_and_extra_are key value name = λ v. text_is key value v && extra_is name v

-- beside a marker of `key == 'value' and extra == 'name'` there is one of the extra
abbrev pub ExtraStandsBehindText : Contents → Type 0
ExtraStandsBehindText c = (key : MarkerValueString) (value name : List ℕ) (t : MarkerTree)
    → IsMarkerOf c (text_and_extra_are key value name) t
    → (e : MarkerTree) × IsMarkerOf c (extra_is name) e

-- the subtrees of such a marker are itself, the marker of the extra, `TRUE` and `FALSE`
abbrev pub TextAndExtraHaveFourSubtrees : Contents → Type 0
TextAndExtraHaveFourSubtrees c = (key : MarkerValueString) (value name : List ℕ)
    (t e : MarkerTree) → IsMarkerOf c (text_and_extra_are key value name) t
    → IsMarkerOf c (extra_is name) e → HasExactly c t (t ∷ e ∷ TRUE ∷ FALSE ∷ [])

-- markers that agree in a range are the same when simplified for it
abbrev pub AgreeingAreSimplifiedAlike : Contents → Type 0
AgreeingAreSimplifiedAlike c = (lower upper : Bound Parts) (a b s t : MarkerTree)
    → IsAssumption c lower upper a s → IsAssumption c lower upper b t
    → AgreeInside lower upper (truth c a) (truth c b) → s ≡ t

-- markers that are the same when simplified for a range agree in it
abbrev pub SimplifiedAlikeAgree : Contents → Type 0
SimplifiedAlikeAgree c = (lower upper : Bound Parts) (a b s t : MarkerTree)
    → IsAssumption c lower upper a s → IsAssumption c lower upper b t
    → s ≡ t → AgreeInside lower upper (truth c a) (truth c b)

-- what a marker is to another in a range of Python versions, it is later too
abbrev pub StaysInRanges : (Contents → Bound Parts → Bound Parts → MarkerTree → MarkerTree → Type 0)
    → Contents → Contents → Type 0
StaysInRanges Is old new = (lower upper : Bound Parts) (a t : MarkerTree) → IsHeld old a
    → Is old lower upper a t → Is new lower upper a t

-- requiring a range of Python versions of a marker gives its conjunction with the range's marker
abbrev pub RequiringIsJoining : Contents → Type 0
RequiringIsJoining c = (lower upper : Bound Parts) (a range s t : MarkerTree)
    → IsTrueWhere c (is_python_in lower upper) range
    → IsRequirement c lower upper a s → IsConjunction c a range t → s ≡ t

-- the range of the bounds without zeros at the end of their releases has the same Python versions
abbrev pub ZerosDoNotCount : Bound Parts → Bound Parts → Type 0
ZerosDoNotCount lower upper = (v : Valuation)
    → is_python_in (bound_map trimmed_parts lower) (bound_map trimmed_parts upper) v
    ≡ is_python_in lower upper v
