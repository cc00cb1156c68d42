-- Where a choice leads, and why only a constant has none.
use Rattle.std.proofs.Common.{◌≡◌, ◌≢◌, ℕ, All, Bool, true, false, List, [], ◌∷◌, ◌++◌, Option, Some, None, sym, ap, subst, ◌∙◌, inl, inr}
use Rattle.std.specs.Prelude.{slice_get, ◌⊎◌, IfOk, Result}
use Rattle.std.proofs.lemmas.Result.{IfOk-weaker}
use Rattle.std.specs.declared.cmp.Ordering.{Ordering}
use Rattle.std.proofs.lemmas.List.Elements.{All-pop}
use Rattle.version_ranges.specs.Parts.{Part}
use Rattle.version_ranges.specs.Point.{Point}
use Rattle.pep440_version.specs.Order.{version_cmp}
use Rattle.marker_words.specs.Compare.{text_cmp}
use Rattle.marker_environment.specs.Valuation.{Valuation}
use Rattle.marker_nodes.specs.declared.variable.TruthVariable.{TruthVariable}
use Rattle.marker_nodes.specs.declared.variable.TruthVariable.TheVariants as questions
use Rattle.marker_nodes.specs.Variable.{Variable, answer, of_text, of_version}
use Rattle.marker_nodes.proofs.Firsts.{false_is, true_is}
use Rattle.marker_graph.specs.declared.kind.ContainsMarkerTree.{ContainsMarkerTree}
use Rattle.marker_graph.specs.declared.kind.ExtraMarkerTree.{ExtraMarkerTree}
use Rattle.marker_graph.specs.declared.kind.InMarkerTree.{InMarkerTree}
use Rattle.marker_graph.specs.declared.kind.MarkerTreeKind.TheVariants as kinds
use Rattle.marker_graph.specs.declared.kind.StringMarkerTree.{StringMarkerTree}
use Rattle.marker_graph.specs.declared.kind.VersionMarkerTree.{VersionMarkerTree}
use Rattle.marker_graph.specs.declared.tree.MarkerTree.{MarkerTree}
use Rattle.marker_graph.specs.declared.tree.TheConstants.MarkerTree.{FALSE, TRUE}
use Rattle.marker_graph.specs.Contents.{Contents, truth}
use Rattle.marker_graph.specs.Kind.{extra_question, string_edges, version_edges, AreBooleanEdges, AreEdges, AreItsEdges, IsFirstVariable}
use Rattle.marker_witnesses.specs.declared.choice.Choice.{Choice}
use Rattle.marker_witnesses.specs.declared.step.Step.{Step}
use Rattle.marker_witnesses.specs.declared.step.Step.TheVariants as steps
use Rattle.marker_witnesses.specs.Choice.{GoesOn, IsEdgeOf, Picks, PicksAnswer, PicksContains, PicksExtra, PicksIn, PicksText, PicksVersion}
use Rattle.marker_witnesses.specs.Path.{Follows, GoesDown, LeadsToTrue}

false_is_false : (c : Contents) (s : MarkerTree) (v : Valuation) → s ≡ FALSE → truth c s v ≡ false
false_is_false c s v e = ap (λ (x : MarkerTree). truth c x v) e ∙ false_is c.nodes v

-- a truth that is the same everywhere depends on nothing
never_first : {G : Type 0} (f : Valuation → Bool) (x : Variable) → ((v : Valuation) → f v ≡ false) → IsFirstVariable f x → G
never_first f x always first = absurd (first.depends.2 (always _ ∙ sym (always _)))

module _ {T : Type 0} (cmp : T → T → Ordering) (place : Valuation → Point T) (c : Contents) (t : MarkerTree) (x : Variable) (edges : List (Part T MarkerTree)) (are : AreEdges cmp place c t x edges) where
  edge_goes_down : (choice : Choice) → IsEdgeOf cmp place edges choice → GoesDown c t choice.step choice.subtree
  edge_goes_down choice e =
      let b = are.behind e.index e.edge e.is in
      subst (GoesDown c t choice.step) e.leads (record {
        held = b.held;
        below = b.below;
        live = λ f. e.live (sym e.leads ∙ f);
        same = λ v u. are.here e.index e.edge v e.is (e.follows v u);
      })

  never : ((i : ℕ) (e : Part T MarkerTree) → slice_get edges i ≡ Some e → e.value ≡ FALSE) → (v : Valuation) → truth c t v ≡ false
  never h v = let k = are.covers (place v) in are.here k.0 k.1 v k.2 k.3 ∙ false_is_false c (k.1.value) v (h k.0 k.1 k.2)

  pub edges_go_on : (found : Option Choice) → Picks cmp place edges found → GoesOn c t found
  edges_go_on None h = never_first (truth c t) x (never h) are.first
  edges_go_on (Some choice) h = edge_goes_down choice h

module _ (c : Contents) (t : MarkerTree) (x : TruthVariable) (denied confirmed : Step) (high low : MarkerTree) (are : AreBooleanEdges c t x high low)
    (is_denied : (v : Valuation) → Follows v denied → answer x v ≡ false) (is_confirmed : (v : Valuation) → Follows v confirmed → answer x v ≡ true) where
  goes_low : low ≢ FALSE → GoesDown c t denied low
  goes_low live = record {
    held = are.low_behind.held;
    below = are.low_behind.below;
    live = live;
    same = λ v u. are.low_here v (is_denied v u);
  }

  goes_high : high ≢ FALSE → GoesDown c t confirmed high
  goes_high live = record {
    held = are.high_behind.held;
    below = are.high_behind.below;
    live = live;
    same = λ v u. are.high_here v (is_confirmed v u);
  }

  pub answers_go_on : (found : Option Choice) → PicksAnswer denied low confirmed high found → GoesOn c t found
  answers_go_on None (l, h) = absurd (are.differ (h ∙ sym l))
  answers_go_on (Some choice) (live, inl (is, leads)) =
      subst (λ (z : Step). GoesDown c t z choice.subtree) (sym is) (subst (GoesDown c t denied) (sym leads) (goes_low (λ f. live (leads ∙ f))))
  answers_go_on (Some choice) (live, inr (is, leads)) =
      subst (λ (z : Step). GoesDown c t z choice.subtree) (sym is) (subst (GoesDown c t confirmed) (sym leads) (goes_high (λ f. live (leads ∙ f))))

-- ---- kinds

-- the edges as a call gave them
given : (denied confirmed : Step) (found : Option Choice) (l h low high : MarkerTree) → l ≡ low → h ≡ high → PicksAnswer denied l confirmed h found → PicksAnswer denied low confirmed high found
given denied confirmed found l h low high e f p =
    subst (λ (x : MarkerTree). PicksAnswer denied low confirmed x found) f (subst (λ (x : MarkerTree). PicksAnswer denied x confirmed h found) e p)

pub picks_given : {E : Type 0} (r : Result (Option Choice) E) (denied confirmed : Step) (l h low high : MarkerTree) → l ≡ low → h ≡ high → IfOk r (PicksAnswer denied l confirmed h)
    → IfOk r (PicksAnswer denied low confirmed high)
picks_given r denied confirmed l h low high e f p =
    IfOk-weaker r (PicksAnswer denied l confirmed h) (PicksAnswer denied low confirmed high) (λ found q. given denied confirmed found l h low high e f q) p

pub version_goes_on : {E : Type 0} (r : Result (Option Choice) E) (c : Contents) (t : MarkerTree) (view : VersionMarkerTree) → AreItsEdges c t (kinds.Version view) → IfOk r (PicksVersion view) → IfOk r (GoesOn c t)
version_goes_on r c t view are p =
    IfOk-weaker r (PicksVersion view) (GoesOn c t) (edges_go_on version_cmp (λ (v : Valuation). v.version view.variable) c t (of_version view.variable) (version_edges view) are) p

pub text_goes_on : {E : Type 0} (r : Result (Option Choice) E) (c : Contents) (t : MarkerTree) (view : StringMarkerTree) → AreItsEdges c t (kinds.String view) → IfOk r (PicksText view) → IfOk r (GoesOn c t)
text_goes_on r c t view are p =
    IfOk-weaker r (PicksText view) (GoesOn c t) (edges_go_on text_cmp (λ (v : Valuation). v.text view.variable) c t (of_text view.variable) (string_edges view) are) p

pub in_goes_on : {E : Type 0} (r : Result (Option Choice) E) (c : Contents) (t : MarkerTree) (view : InMarkerTree) → AreItsEdges c t (kinds.In view) → IfOk r (PicksIn view) → IfOk r (GoesOn c t)
in_goes_on r c t view are p =
    IfOk-weaker r (PicksIn view) (GoesOn c t)
    (answers_go_on c t (questions.In view.variable view.text.now) (steps.In view false) (steps.In view true) view.high view.low are (λ v u. u) (λ v u. u)) p

pub contains_goes_on : {E : Type 0} (r : Result (Option Choice) E) (c : Contents) (t : MarkerTree) (view : ContainsMarkerTree) → AreItsEdges c t (kinds.Contains view) → IfOk r (PicksContains view) → IfOk r (GoesOn c t)
contains_goes_on r c t view are p =
    IfOk-weaker r (PicksContains view) (GoesOn c t)
    (answers_go_on c t (questions.Contains view.variable view.text.now) (steps.Contains view false) (steps.Contains view true) view.high view.low are (λ v u. u) (λ v u. u)) p

pub extra_goes_on : {E : Type 0} (r : Result (Option Choice) E) (c : Contents) (t : MarkerTree) (view : ExtraMarkerTree) → AreItsEdges c t (kinds.Extra view) → IfOk r (PicksExtra view) → IfOk r (GoesOn c t)
extra_goes_on r c t view are p =
    IfOk-weaker r (PicksExtra view) (GoesOn c t)
    (answers_go_on c t (extra_question view.name) (steps.Extra view false) (steps.Extra view true) view.high view.low are (λ v u. u) (λ v u. u)) p

-- ---- paths

pub leads_to_true : (c : Contents) (t at : MarkerTree) (path : List Step) → at ≢ FALSE → (at ≡ TRUE) ⊎ (at ≡ FALSE) → ((v : Valuation) → All (Follows v) path → truth c t v ≡ truth c at v) → LeadsToTrue (truth c t) path
leads_to_true c t at path live (inl e) same v a = same v a ∙ ap (λ (x : MarkerTree). truth c x v) e ∙ true_is c.nodes v
leads_to_true c t at path live (inr e) same v a = absurd (live e)
