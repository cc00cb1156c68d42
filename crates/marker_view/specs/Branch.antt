-- The clauses that lead to each subtree of a marker.
use Rattle.std.specs.Prelude.{◌≡◌, ◌≢◌, ◌⊎◌, ◌<◌, ◌&&◌, ◌||◌, ◌++◌, ℕ, Vec, ⊤, Bool, true, false, IfOk, IfSome, List, [], ◌∷◌, Option, Result, Some, slice_get, string_bytes}
use Rattle.std.specs.List.{AllByRecursion, list_any}
use Rattle.std.specs.declared.cmp.Ordering.{Ordering}
use Rattle.version_ranges.specs.Bounds.{all_cuts}
use Rattle.version_ranges.specs.Cuts.{value_by, value_of}
use Rattle.version_ranges.specs.Parts.{Part, is_in, IsIn}
use Rattle.version_ranges.specs.Point.{Point}
use Rattle.pep440_version.specs.Order.{version_cmp}
use Rattle.pep440_rs.specs.Bounds.{is_release}
use Rattle.marker_words.specs.Compare.{text_cmp}
use Rattle.marker_words.specs.declared.key.MarkerValueString.{MarkerValueString}
use Rattle.marker_words.specs.declared.operator.ExtraOperator.{ExtraOperator}
use Rattle.marker_words.specs.declared.operator.ExtraOperator.TheVariants as operators
use Rattle.marker_words.specs.declared.operator.MarkerOperator.{MarkerOperator}
use Rattle.marker_environment.specs.Valuation.{Valuation}
use Rattle.marker_parts.specs.Expression as asked
use Rattle.marker_parts.specs.Expression.{test_of}
use Rattle.marker_parts.specs.declared.expression.MarkerExpression.{MarkerExpression}
use Rattle.marker_terms.specs.Clauses.{clause_holds, clauses_hold, clauses_of}
use Rattle.marker_terms.specs.Plain.{AllPrintable, HavePrintableTerms, IsPlainExtra, is_plain}
use Rattle.marker_diagrams.specs.Id.{place_of}
use Rattle.marker_nodes.specs.Node.{Node}
use Rattle.marker_nodes.specs.declared.node.Branches.TheVariants.{Version, Text, Truth}
use Rattle.marker_nodes.specs.Variable.{truth_variable}
use Rattle.marker_graph.specs.declared.kind.MarkerValueExtraRef.{MarkerValueExtraRef}
use Rattle.marker_graph.specs.declared.kind.MarkerValueExtraRef.TheVariants as extras
use Rattle.marker_graph.specs.declared.kind.StringMarkerTree.{StringMarkerTree}
use Rattle.marker_graph.specs.declared.kind.VersionMarkerTree.{VersionMarkerTree}
use Rattle.marker_graph.specs.declared.tree.MarkerTree.{MarkerTree}
use Rattle.marker_graph.specs.declared.tree.TheConstants.MarkerTree.{FALSE, TRUE}
use Rattle.marker_graph.specs.Contents.{Contents, IsHeld, truth}
use Rattle.marker_graph.specs.Edges.{child_of}
use Rattle.marker_graph.specs.Kind.{extra_question, string_edges, version_edges}
use Rattle.marker_graph.specs.Tree.{node_of, IsSubtree}
use Rattle.marker_view.specs.declared.branch.Branch.{Branch}
use Rattle.marker_view.specs.PlainNodes.{IsPlainVariable, IsReadable}

-- a node that branches on a version has its bounds at releases
abbrev pub IsReleaseNode : Node → Type 0
IsReleaseNode (Version x cuts) = all_cuts is_release cuts ≡ true
IsReleaseNode (Text x cuts) = ⊤
IsReleaseNode (Truth x high low) = ⊤

-- all bounds of versions in a marker are only release numbers
abbrev pub HasReleases : Contents → MarkerTree → Type 0
HasReleases c t = (s : MarkerTree) (n : Node) → IsSubtree c t s → node_of c s ≡ Some n
    → IsReleaseNode n

-- whether one of the clauses of a branch holds, and it leads to a marker that passes a test
abbrev pub reaches : Valuation → (MarkerTree → Bool) → Branch → Bool
reaches v test b = clauses_hold (clauses_of b.clauses.items) v && test b.child

-- Each branch leads to one of these children. If the premise is true, the clauses that are true at
-- a valuation lead to the child there, for every property of it that `FALSE` does not have, so that
-- none needs to lead to `FALSE`.
pub record LeadTo (Premise : Type 0) (child : Valuation → MarkerTree) (branches : List Branch)
    : Type 0 where
  pub each : (i : ℕ) (b : Branch) → slice_get branches i ≡ Some b
      → (v : Valuation) × (b.child ≡ child v)
  pub leads : Premise → (v : Valuation) (test : MarkerTree → Bool) → test FALSE ≡ false
      → list_any (λ b. reaches v test b) branches ≡ test (child v)

-- each point is in exactly one of these edges
pub record DividePoints {T : Type 0} (cmp : T → T → Ordering) (edges : List (Part T MarkerTree))
    : Type 0 where
  pub covers : (p : Point T) → (i : ℕ) × (e : Part T MarkerTree)
      × (slice_get edges i ≡ Some e) × IsIn cmp e p
  pub apart : (i j : ℕ) (e f : Part T MarkerTree) (p : Point T) → slice_get edges i ≡ Some e
      → slice_get edges j ≡ Some f → IsIn cmp e p → IsIn cmp f p → i ≡ j

-- Each branch leads where one of these edges does, and where the premise holds, the clauses that
-- hold at a valuation lead to the marker of the edge there, whatever is asked of it that `FALSE`
-- does not pass, so that none need lead to `FALSE`.
pub record FollowEdges {T : Type 0} (cmp : T → T → Ordering) (place : Valuation → Point T)
    (Premise : Type 0) (edges : List (Part T MarkerTree)) (branches : List Branch) : Type 0 where
  pub each : (i : ℕ) (b : Branch) → slice_get branches i ≡ Some b
      → (j : ℕ) × (e : Part T MarkerTree) × (slice_get edges j ≡ Some e) × (b.child ≡ e.value)
  pub leads : Premise → (v : Valuation) (test : MarkerTree → Bool) → test FALSE ≡ false
      → list_any (λ b. reaches v test b) branches
      ≡ list_any (λ e. is_in cmp e (place v) && test e.value) edges

-- all bounds of the view are releases
abbrev pub HasReleaseCuts : VersionMarkerTree → Type 0
HasReleaseCuts view = all_cuts is_release view.cuts.now ≡ true

-- one branch for each edge of a version, if its bounds are releases
abbrev pub FollowVersionEdges : VersionMarkerTree → List Branch → Type 0
FollowVersionEdges view branches = FollowEdges version_cmp (λ v. v.version view.variable)
    (HasReleaseCuts view) (version_edges view) branches

-- the branches lead to the subtree of each version, if the bounds are releases
abbrev pub LeadToVersions : VersionMarkerTree → List Branch → Type 0
LeadToVersions view branches = LeadTo (HasReleaseCuts view) (λ v. child_of view.tree
    (value_of version_cmp view.cuts.now (v.version view.variable))) branches

-- the branches lead to the subtree of each text
abbrev pub LeadToTexts : StringMarkerTree → List Branch → Type 0
LeadToTexts view branches = LeadTo ⊤ (λ v. child_of view.tree
    (value_by string_bytes text_cmp view.cuts.now (v.text view.variable))) branches

-- the branches follow the edges of a version, if its bounds are releases and each version is on one
-- edge
abbrev pub FollowVersions : VersionMarkerTree → List Branch → Type 0
FollowVersions view branches = FollowEdges version_cmp (λ v. v.version view.variable)
    ((all_cuts is_release view.cuts.now ≡ true) × DividePoints version_cmp (version_edges view))
    (version_edges view) branches

-- the branches follow the edges of a text, if each text is on one edge
abbrev pub FollowTexts : StringMarkerTree → List Branch → Type 0
FollowTexts view branches = FollowEdges text_cmp (λ v. v.text view.variable)
    (⊤ × DividePoints text_cmp (string_edges view)) (string_edges view) branches

-- one branch for each edge of a text
abbrev pub FollowTextEdges : StringMarkerTree → List Branch → Type 0
FollowTextEdges view branches =
    FollowEdges text_cmp (λ v. v.text view.variable) ⊤ (string_edges view) branches

-- no bound of a text has both quotes
abbrev pub HasPlainBounds : StringMarkerTree → Type 0
HasPlainBounds view = all_cuts (λ t. is_plain (string_bytes t)) view.cuts.now ≡ true

-- each term of each clause of the branches parses back from its text
abbrev pub HavePrintableBranches : List Branch → Type 0
HavePrintableBranches branches =
    AllByRecursion (λ b. HavePrintableTerms (clauses_of b.clauses.items)) branches

-- the same, if no bound of the text has both quotes
abbrev pub HavePrintableTexts : StringMarkerTree → List Branch → Type 0
HavePrintableTexts view branches = HasPlainBounds view → HavePrintableBranches branches

-- a fact of the branches that were made, if any were
abbrev pub IfFound : {A E : Type 0} → Result (Option (Vec Branch A)) E
    → (List Branch → Type 0) → Type 0
IfFound result P = IfOk result (λ found. IfSome found (λ branches. P branches.items))

-- a subtree of a marker, whose node is older
abbrev pub IsBelow : Contents → MarkerTree → MarkerTree → Type 0
IsBelow c t s = IsHeld c s × IsSubtree c t s × (place_of s.id < place_of t.id)

-- The branches of a marker: each leads to a subtree, and together they mean what the marker means.
-- Those of a readable marker have printable terms.
pub record AreBranches (c : Contents) (t : MarkerTree) (branches : List Branch) : Type 0 where
  pub each : (i : ℕ) (b : Branch) → slice_get branches i ≡ Some b → IsBelow c t b.child
  pub mean : HasReleases c t → t ≢ TRUE → (v : Valuation)
      → list_any (λ b. reaches v (λ s. truth c s v) b) branches ≡ truth c t v
  pub printable : IsReadable c t → HavePrintableBranches branches

-- a branch of one term
abbrev pub IsOne : Branch → MarkerExpression → MarkerTree → Type 0
IsOne b term t = (clauses_of b.clauses.items ≡ (term ∷ []) ∷ []) × (b.child ≡ t)

-- one more branch, of one comparison, if it does not lead to `FALSE`
abbrev pub IsAnswered : asked.Test → MarkerTree → List Branch → List Branch → Type 0
IsAnswered test t old new = ((t ≡ FALSE) × (new ≡ old))
    ⊎ ((b : Branch) × (term : MarkerExpression) × (new ≡ old ++ b ∷ [])
    × (test_of term ≡ test) × IsOne b term t)

-- the branches grow by the one of a comparison with a text, if it does not lead to `FALSE`
abbrev pub AddsTextTest : {A : Type 0} → MarkerValueString → MarkerOperator → List ℕ → MarkerTree
    → Vec Branch A → Vec Branch A → Type 0
AddsTextTest key operator text t old new =
    IsAnswered (asked.text key operator text) t old.items new.items

-- the branches of two comparisons
abbrev pub AreAnswers : asked.Test → MarkerTree → asked.Test → MarkerTree → List Branch → Type 0
AreAnswers positive high negative low branches = (first : List Branch)
    × IsAnswered positive high [] first × IsAnswered negative low first branches

-- the branches of a comparison with a text and of its negation
abbrev pub AreTextAnswers : MarkerValueString → List ℕ → MarkerOperator × MarkerTree
    → MarkerOperator × MarkerTree → List Branch → Type 0
AreTextAnswers key text positive negative branches = AreAnswers
    (asked.text key positive.0 text) positive.1 (asked.text key negative.0 text) negative.1 branches

-- the text that `extra` is compared with, borrowed
abbrev pub extra_of_ref : MarkerValueExtraRef → asked.Extra
extra_of_ref (extras.Extra n) = asked.name n.now
extra_of_ref (extras.Arbitrary t) = asked.arbitrary (string_bytes t.now)

-- the branches grow by the one of a comparison with an extra, if it does not lead to `FALSE`
abbrev pub AddsExtraTest : {A : Type 0} → ExtraOperator → MarkerValueExtraRef → MarkerTree
    → Vec Branch A → Vec Branch A → Type 0
AddsExtraTest operator extra t old new =
    IsAnswered (asked.extra operator (extra_of_ref extra)) t old.items new.items

-- the text that `extra` is compared with can be printed if the variable can
abbrev pub IsPlainAsVariable : MarkerValueExtraRef → Type 0
IsPlainAsVariable extra =
    IsPlainVariable (truth_variable (extra_question extra)) → IsPlainExtra (extra_of_ref extra)

-- the branches of a comparison with an extra and of its negation
abbrev pub AreExtraAnswers : MarkerValueExtraRef → MarkerTree → MarkerTree → List Branch → Type 0
AreExtraAnswers extra high low branches = AreAnswers
    (asked.extra operators.Equal (extra_of_ref extra)) high
    (asked.extra operators.NotEqual (extra_of_ref extra)) low branches

-- the clauses are true where the others are, and where a condition is
abbrev pub HoldAlso : List (List MarkerExpression) → List (List MarkerExpression)
    → (Valuation → Bool) → Type 0
HoldAlso new old condition = (v : Valuation)
    → clauses_hold new v ≡ (clauses_hold old v || condition v)

-- the clauses are true where the others are, and where the path and the marker are, if all bounds
-- of the marker are releases
abbrev pub HoldAlsoBehind : {A : Type 0} → Contents → MarkerTree → List MarkerExpression
    → List (Vec MarkerExpression A) → List (Vec MarkerExpression A) → Type 0
HoldAlsoBehind c t path old new = HasReleases c t
    → HoldAlso (clauses_of new) (clauses_of old) (λ v. clause_holds path v && truth c t v)

-- clauses that grow stay printable
abbrev pub StayPrintable : {A : Type 0} → List (Vec MarkerExpression A)
    → List (Vec MarkerExpression A) → Type 0
StayPrintable old new = HavePrintableTerms (clauses_of old) → HavePrintableTerms (clauses_of new)

-- two clauses hold at the same valuations
abbrev pub HoldTogether : List MarkerExpression → List MarkerExpression → Type 0
HoldTogether a b = (v : Valuation) → clause_holds a v ≡ clause_holds b v

-- the terms can be printed if those of a path and its last ones can
abbrev pub AllPrintableIfBoth : List MarkerExpression → List MarkerExpression
    → List MarkerExpression → Type 0
AllPrintableIfBoth path terms all = AllPrintable path → AllPrintable terms → AllPrintable all

-- the clauses grow by one that has these terms
abbrev pub AddsClause : {A B : Type 0} → List MarkerExpression
    → Vec (Vec MarkerExpression A) B → Vec (Vec MarkerExpression A) B → Type 0
AddsClause terms old new =
    HoldAlso (clauses_of new.items) (clauses_of old.items) (clause_holds terms)

-- the clauses stay printable if the terms of a path and its last ones can be printed
abbrev pub StayPlainWith : {A B : Type 0} → List MarkerExpression → List MarkerExpression
    → Vec (Vec MarkerExpression A) B → Vec (Vec MarkerExpression A) B → Type 0
StayPlainWith path terms old new =
    AllPrintable path → AllPrintable terms → StayPrintable old.items new.items

-- the clauses grow by those of the marker's paths, each behind the terms of a path to the marker
abbrev pub AddsPaths : {A B : Type 0} → Contents → MarkerTree → Vec MarkerExpression A
    → Vec (Vec MarkerExpression A) B → Vec (Vec MarkerExpression A) B → Type 0
AddsPaths c t path old new = HoldAlsoBehind c t path.items old.items new.items

-- the clauses stay printable behind a path that can be printed to a readable marker
abbrev pub StayPlain : {A B : Type 0} → Contents → MarkerTree → Vec MarkerExpression A
    → Vec (Vec MarkerExpression A) B → Vec (Vec MarkerExpression A) B → Type 0
StayPlain c t path old new =
    IsReadable c t → AllPrintable path.items → StayPrintable old.items new.items
