-- Choices, edge by edge.
use Rattle.std.proofs.Common.{◌≡◌, ◌≢◌, ℕ, zero, suc, List, [], ◌∷◌, ◌++◌, append-nil, append_assoc, length, Option, Some, None, refl, sym, ap, subst, ◌∙◌, inl, inr, true, string_bytes}
use Rattle.std.specs.Prelude.{slice_get, ◌⊎◌}
use Rattle.std.specs.Prelude.{String}
use Rattle.std.specs.Borrow.{Bor}
use Rattle.std.specs.Global.{Global}
use Rattle.std.specs.Range.Bound.{bound_map}
use Rattle.std.specs.declared.cmp.Ordering.{Ordering}
use Rattle.std.specs.declared.ops.Bound.{Bound}
use Rattle.std.specs.declared.ops.Bound.TheVariants.{Included, Excluded, Unbounded}
use Rattle.version_ranges.specs.Parts.{Part, IsIn}
use Rattle.version_ranges.specs.Clamp.{bound_of}
use Rattle.version_ranges.specs.Point.{Point, is_in_bounds}
use Rattle.pep440_version.specs.Order.{version_cmp}
use Rattle.pep440_version.specs.Parts.{Parts}
use Rattle.marker_words.specs.Compare.{text_bound, text_cmp}
use Rattle.marker_words.specs.declared.key.TextVariable.{TextVariable}
use Rattle.marker_words.specs.declared.key.VersionVariable.{VersionVariable}
use Rattle.marker_environment.specs.Valuation.{Valuation}
use Rattle.marker_diagrams.proofs.NodeLaws.{none_some, same_some}
use Rattle.marker_graph.specs.declared.kind.StringMarkerTree.{StringMarkerTree}
use Rattle.marker_graph.specs.declared.kind.VersionMarkerTree.{VersionMarkerTree}
use Rattle.marker_graph.specs.Edges.{string_edge, version_edge}
use Rattle.marker_graph.specs.Kind.{string_edges, version_edges}
use Rattle.marker_graph.specs.declared.tree.MarkerTree.{MarkerTree}
use Rattle.marker_graph.specs.declared.tree.TheConstants.MarkerTree.{FALSE}
use Rattle.marker_witnesses.specs.declared.choice.Choice.{Choice}
use Rattle.marker_witnesses.specs.declared.choice.Rank.{Rank}
use Rattle.marker_witnesses.specs.declared.step.Step.TheVariants.{Version, Text}
use Rattle.marker_witnesses.specs.declared.step.Step.{Step}
use Rattle.marker_witnesses.specs.Choice.{Chooses, IsEdgeOf, Picks, PicksAnswer}
use Rattle.marker_witnesses.specs.Path.{Follows}

-- ---- one edge

pub passed : (old : Option Choice) (step : Step) (s : MarkerTree) → s ≡ FALSE → Chooses old step s old
passed old step s e = inl (e, refl)

-- the better one of two choices
abbrev made_choice : Step → MarkerTree → Rank → Choice
made_choice step s rank = record { step = step; subtree = s; rank = rank }

pub chosen : (old : Option Choice) (step : Step) (s : MarkerTree) (rank : Rank) (best : Choice) → s ≢ FALSE → (old ≡ Some best) ⊎ (made_choice step s rank ≡ best) → Chooses old step s (Some best)
chosen old step s rank best live (inl e) = inr (best, refl, inl e)
chosen old step s rank best live (inr e) = inr (best, refl, inr (ap (λ (c : Choice). c.step) (sym e), ap (λ (c : Choice). c.subtree) (sym e), live))

-- ---- elements of lists

at_end : {X : Type 0} (xs : List X) (y : X) (ys : List X) → slice_get (xs ++ y ∷ ys) (length xs) ≡ Some y
at_end [] y ys = refl
at_end (x ∷ xs) y ys = at_end xs y ys

last_or_before : {X : Type 0} (xs : List X) (y : X) (i : ℕ) (x : X) → slice_get (xs ++ y ∷ []) i ≡ Some x → (slice_get xs i ≡ Some x) ⊎ (x ≡ y)
last_or_before [] y zero x e = inr (sym (same_some y x e))
last_or_before [] y (suc i) x e = none_some x e
last_or_before (z ∷ xs) y zero x e = inl e
last_or_before (z ∷ xs) y (suc i) x e = last_or_before xs y i x e

-- ---- edges by points
module _ {T : Type 0} (cmp : T → T → Ordering) (place : Valuation → Point T) where
  -- what is known after some of the edges
  pub record Looked (edges left : List (Part T MarkerTree)) (found : Option Choice) : Type 0 where
    pub seen : List (Part T MarkerTree)
    pub split : edges ≡ seen ++ left
    pub none : found ≡ None → (i : ℕ) (e : Part T MarkerTree) → slice_get seen i ≡ Some e → e.value ≡ FALSE
    pub some : (c : Choice) → found ≡ Some c → IsEdgeOf cmp place edges c

  pub looked_none : (edges left : List (Part T MarkerTree)) → left ≡ edges → Looked edges left None
  looked_none edges left e = record {
    seen = [];
    split = sym e;
    none = λ _ i x h. none_some x h;
    some = λ c h. none_some c h;
  }

  pub looked_one : (edges left rest : List (Part T MarkerTree)) (edge : Part T MarkerTree) (step : Step) (s : MarkerTree) (old new : Option Choice) → left ≡ edge ∷ rest → edge.value ≡ s
      → ((v : Valuation) → Follows v step → IsIn cmp edge (place v)) → Chooses old step s new → Looked edges left old → Looked edges rest new
  looked_one edges left rest edge step s old new e leads follows chooses l = record {
    seen = l.seen ++ edge ∷ [];
    split = split;
    none = none chooses;
    some = some chooses;
  }
    where
      split : edges ≡ (l.seen ++ edge ∷ []) ++ rest
      split = l.split ∙ ap (λ r. l.seen ++ r) e ∙ sym (append_assoc l.seen (edge ∷ []) rest)

      here : slice_get edges (length l.seen) ≡ Some edge
      here = ap (λ es. slice_get es (length l.seen)) (l.split ∙ ap (λ r. l.seen ++ r) e) ∙ at_end l.seen edge rest

      none : Chooses old step s new → new ≡ None → (i : ℕ) (x : Part T MarkerTree) → slice_get (l.seen ++ edge ∷ []) i ≡ Some x → x.value ≡ FALSE
      none (inl (f, same)) n i x h = elim (last_or_before l.seen edge i x h) [
        | inl g ↦ l.none (sym same ∙ n) i x g
        | inr g ↦ ap (λ (p : Part T MarkerTree). p.value) g ∙ leads ∙ f
      ]
      none (inr (c, is, which)) n i x h = none_some c (sym n ∙ is)

      some : Chooses old step s new → (c : Choice) → new ≡ Some c → IsEdgeOf cmp place edges c
      some (inl (f, same)) c h = l.some c (sym same ∙ h)
      some (inr (d, is, inl kept)) c h = l.some c (kept ∙ sym is ∙ h)
      some (inr (d, is, inr (steps, subtree, live))) c h =
          let k : d ≡ c = same_some d c (sym is ∙ h) in
          subst (IsEdgeOf cmp place edges) k (record {
            index = length l.seen;
            edge = edge;
            is = here;
            leads = leads ∙ sym subtree;
            live = λ f. live (sym subtree ∙ f);
            follows = λ v u. follows v (subst (Follows v) steps u);
          })

  pub looked_all : (edges left : List (Part T MarkerTree)) (found : Option Choice) → left ≡ [] → Looked edges left found → Picks cmp place edges found
  looked_all edges left None e l = λ i x h. l.none refl i x (ap (λ es. slice_get es i) (sym (l.split ∙ ap (λ r. l.seen ++ r) e ∙ append-nil l.seen)) ∙ h)
  looked_all edges left (Some c) e l = l.some c refl

-- ---- edges of views

pub version_looked : (view : VersionMarkerTree) (left rest : List (Part Parts MarkerTree)) (e : Bound (Bor Parts) × Bound (Bor Parts) × MarkerTree) (x : VersionVariable) (old new : Option Choice) → x ≡ view.variable
    → left ≡ version_edge e ∷ rest → Chooses old (Version (record { variable = x; lower = e.0; upper = e.1 })) e.2 new
    → Looked version_cmp (λ v. v.version view.variable) (version_edges view) left old → Looked version_cmp (λ v. v.version view.variable) (version_edges view) rest new
version_looked view left rest e x old new same split chooses l =
    looked_one version_cmp (λ (v : Valuation). v.version view.variable) (version_edges view) left rest (version_edge e) (Version (record { variable = x; lower = e.0; upper = e.1 })) e.2 old new split refl
    (λ v u. subst (λ (y : VersionVariable). is_in_bounds version_cmp (bound_of e.0) (bound_of e.1) (v.version y) ≡ true) same u) chooses l

-- the bytes of a bound
bytes_of : (b : Bound (Bor (String Global))) → text_bound b ≡ bound_map string_bytes (bound_map (λ v. v.now) b)
bytes_of (Included v) = refl
bytes_of (Excluded v) = refl
bytes_of Unbounded = refl

pub text_looked : (view : StringMarkerTree) (left rest : List (Part (List ℕ) MarkerTree)) (e : Bound (Bor (String Global)) × Bound (Bor (String Global)) × MarkerTree) (x : TextVariable) (old new : Option Choice) → x ≡ view.variable
    → left ≡ string_edge e ∷ rest → Chooses old (Text (record { variable = x; lower = e.0; upper = e.1 })) e.2 new
    → Looked text_cmp (λ v. v.text view.variable) (string_edges view) left old → Looked text_cmp (λ v. v.text view.variable) (string_edges view) rest new
text_looked view left rest e x old new same split chooses l =
    looked_one text_cmp (λ (v : Valuation). v.text view.variable) (string_edges view) left rest (string_edge e) (Text (record { variable = x; lower = e.0; upper = e.1 })) e.2 old new split refl
    (λ v u. subst (λ (z : Bound (List ℕ)). is_in_bounds text_cmp z (bound_map string_bytes (bound_map (λ w. w.now) e.1)) (v.text view.variable) ≡ true) (bytes_of e.0)
    (subst (λ (z : Bound (List ℕ)). is_in_bounds text_cmp (text_bound e.0) z (v.text view.variable) ≡ true) (bytes_of e.1)
    (subst (λ (y : TextVariable). is_in_bounds text_cmp (text_bound e.0) (text_bound e.1) (v.text y) ≡ true) same u))) chooses l

-- ---- two edges

pub picked : (denied : Step) (low : MarkerTree) (confirmed : Step) (high : MarkerTree) (first found : Option Choice) → Chooses None denied low first → Chooses first confirmed high found → PicksAnswer denied low confirmed high found
picked denied low confirmed high first found a b = by_found found refl
  where
    from_first : (c : Choice) → first ≡ Some c → PicksAnswer denied low confirmed high (Some c)
    from_first c e = by a
      where
        by : Chooses None denied low first → PicksAnswer denied low confirmed high (Some c)
        by (inl (f, same)) = none_some c (sym same ∙ e)
        by (inr (d, is, inl k)) = none_some d k
        by (inr (d, is, inr (steps, subtree, live))) =
            let k : d ≡ c = same_some d c (sym is ∙ e) in
            (λ f. live (sym subtree ∙ ap (λ (x : Choice). x.subtree) k ∙ f), inl (sym (ap (λ (x : Choice). x.step) k) ∙ steps, sym (ap (λ (x : Choice). x.subtree) k) ∙ subtree))

    low_false : first ≡ None → low ≡ FALSE
    low_false e = by a
      where
        by : Chooses None denied low first → low ≡ FALSE
        by (inl (f, same)) = f
        by (inr (d, is, k)) = none_some d (sym e ∙ is)

    by_found : (o : Option Choice) → found ≡ o → PicksAnswer denied low confirmed high o
    by_found None e = by b
      where
        by : Chooses first confirmed high found → (low ≡ FALSE) × (high ≡ FALSE)
        by (inl (f, same)) = (low_false (sym same ∙ e), f)
        by (inr (d, is, k)) = none_some d (sym e ∙ is)
    by_found (Some c) e = by b
      where
        by : Chooses first confirmed high found → PicksAnswer denied low confirmed high (Some c)
        by (inl (f, same)) = from_first c (sym same ∙ e)
        by (inr (d, is, inl k)) = from_first c (k ∙ sym is ∙ e)
        by (inr (d, is, inr (steps, subtree, live))) =
            let k : d ≡ c = same_some d c (sym is ∙ e) in
            (λ f. live (sym subtree ∙ ap (λ (x : Choice). x.subtree) k ∙ f), inr (sym (ap (λ (x : Choice). x.step) k) ∙ steps, sym (ap (λ (x : Choice). x.subtree) k) ∙ subtree))
