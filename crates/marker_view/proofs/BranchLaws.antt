-- Branches that lead to the children of a node are those of its marker.
use Rattle.std.proofs.Common.{◌≡◌, ◌≢◌, ◌⊎◌, inl, inr, ◌++◌, get_or, string_bytes, ℕ, ◌<◌, Bool, true, false, not, cond, ◌&&◌, ◌||◌, List, [], ◌∷◌, length, Some, refl, sym, ap, ◌∙◌, subst, arith}
use Rattle.std.specs.Prelude.{slice_get, String, Result, Ok, Err, IfOk, Vec, ⊤}
use Rattle.std.specs.Borrow.{Bor}
use Rattle.std.specs.Global.{Global}
use Rattle.std.specs.Cmp.Lexicographic.{nat_list_cmp_total}
use Rattle.std.specs.String.{string_cmp, string_cmp_total}
use Rattle.std.specs.declared.alloc.AllocError.{AllocError}
use Rattle.std.proofs.lemmas.Option.{slice_get-get_or}
use Rattle.version_ranges.specs.declared.cuts.Cuts.{Cuts}
use Rattle.version_ranges.specs.declared.ranges.Ranges.{Ranges}
use Rattle.version_ranges.specs.Cuts.{value_by, value_of}
use Rattle.version_ranges.specs.Gather.{IsGathered}
use Rattle.version_ranges.specs.Parts.{Part, parts_of, IsIn}
use Rattle.version_ranges.specs.Point.{Point, point_map}
use Rattle.version_ranges.specs.Ranges.{contains_by, contains_point}
use Rattle.version_ranges.proofs.Elsewhere.{value_by_name}
use Rattle.pep440_version.specs.Order.{version_cmp}
use Rattle.pep440_version.specs.Parts.{Parts}
use Rattle.marker_words.specs.declared.key.MarkerValueString.{MarkerValueString}
use Rattle.marker_words.specs.declared.key.TextVariable.{TextVariable}
use Rattle.marker_words.specs.declared.key.TextVariable.TheVariants as texts
use Rattle.marker_words.specs.declared.key.VersionVariable.{VersionVariable}
use Rattle.marker_words.specs.declared.operator.ExtraOperator.{ExtraOperator}
use Rattle.marker_words.specs.declared.operator.MarkerOperator.{MarkerOperator}
use Rattle.marker_words.specs.Compare.{text_cmp}
use Rattle.marker_words.specs.Key.{variable_of}
use Rattle.marker_parts.specs.Expression as asked
use Rattle.marker_terms.proofs.PlainLaws.{each_pushed}
use Rattle.std.proofs.lemmas.List.Folds.{list_any-append}
use Rattle.marker_parts.specs.Expression.{holds, holds_extra, holds_text, test_of}
use Rattle.std.specs.List.{list_any}
use Rattle.version_ranges.specs.Bounds.{all_cuts}
use Rattle.pep440_rs.specs.Bounds.{is_release}
use Rattle.marker_environment.specs.Valuation.{Valuation}
use Rattle.marker_parts.specs.declared.expression.MarkerExpression.{MarkerExpression}
use Rattle.marker_terms.specs.Plain.{IsPlainExtra, IsPrintable, is_plain}
use Rattle.marker_diagrams.specs.Id.{is_negated, place_of, same_id, signed_id}
use Rattle.marker_diagrams.specs.Diagram.{IsStore}
use Rattle.marker_diagrams.specs.Residue as residue
use Rattle.marker_diagrams.specs.declared.node_id.NodeId.{NodeId}
use Rattle.marker_diagrams.proofs.Canonicity.{descends}
use Rattle.marker_diagrams.proofs.NodeLaws.{none_some, truth_child}
use Rattle.marker_nodes.specs.Branches.{value_at}
use Rattle.marker_nodes.specs.Node.{Node, lowest, markers}
use Rattle.marker_nodes.specs.Variable.{answer, truth_variable}
use Rattle.marker_nodes.specs.declared.node.Branches.TheVariants.{Text, Truth, Version}
use Rattle.marker_nodes.specs.declared.variable.TruthVariable.{TruthVariable}
use Rattle.marker_nodes.proofs.Firsts.{false_is}
use Rattle.marker_nodes.proofs.NodeLaws.{at_text, at_version, denied, lawful}
use Rattle.marker_graph.specs.Contents.{Contents, IsHeld, truth}
use Rattle.marker_graph.specs.Edges.{child_of}
use Rattle.marker_graph.specs.Kind.{extra_question, modern_key, AsksForTruth, IsKind}
use Rattle.marker_graph.specs.declared.kind.MarkerTreeKind.TheVariants.{Version as VersionKind, String as StringKind}
use Rattle.marker_graph.specs.declared.kind.MarkerValueExtraRef.{MarkerValueExtraRef}
use Rattle.marker_graph.specs.declared.kind.MarkerValueExtraRef.TheVariants as extras
use Rattle.marker_graph.specs.declared.kind.StringMarkerTree.{StringMarkerTree}
use Rattle.marker_graph.specs.declared.kind.VersionMarkerTree.{VersionMarkerTree}
use Rattle.marker_graph.specs.Tree.{node_of}
use Rattle.marker_graph.specs.declared.tree.MarkerTree.{MarkerTree}
use Rattle.marker_graph.specs.declared.tree.TheConstants.MarkerTree.{FALSE, TRUE}
use Rattle.marker_view.proofs.JoinLaws.{gathered_part, get_last, joined_leads, text_found, text_sets}
use Rattle.marker_view.specs.declared.branch.Branch.{Branch}
use Rattle.marker_view.specs.PlainNodes.{IsPlainNode, IsPlainVariable}
use Rattle.marker_view.specs.Branch.{extra_of_ref, reaches, AreAnswers, AreBranches, HasReleases, HavePrintableBranches, IsAnswered, IsBelow, IsReleaseNode, LeadTo}

module _ (c : Contents) (store : IsStore markers c.nodes) (t : MarkerTree) (held : IsHeld c t) (n : Node) (node : node_of c t ≡ Some n) where
  child_below : (v : Valuation) → IsBelow c t (child_of t (value_at n v))
  child_below v =
      let l : place_of (value_at n v) < place_of t.id = (store.node (place_of t.id) n node).below v in
      (omega (arith, l, held), residue.child t.id (signed_id (is_negated t.id) (value_at n v)) n v residue.itself node refl, l)

  pub lead_branches : (branches : List Branch) (Premise : Type 0) → (HasReleases c t → Premise) → (IsPlainNode n → HavePrintableBranches branches) → LeadTo Premise (λ v. child_of t (value_at n v)) branches → AreBranches c t branches
  lead_branches branches Premise premise plain h = record {
    each = λ i b e. let q = h.each i b e in subst (λ s. IsBelow c t s) (sym q.1) (child_below q.0);
    mean = λ r ne v. h.leads (premise r) v (λ s. truth c s v) (false_is c.nodes v) ∙ sym (truth_child markers c.nodes t.id n v (descends markers lawful c.nodes store) node);
    printable = λ r. plain (r t n residue.itself node);
  }

  -- the premise of a node that branches on a version
  pub node_releases : HasReleases c t → IsReleaseNode n
  node_releases r = r t n residue.itself node

-- ---- truths

ends : (x y : Bool) → ((((x && true) || false) && y) ≡ (x && y))
ends x y = grind arith

or_end : (x : Bool) → (x || false) ≡ x
or_end x = grind arith

and_no : (x : Bool) → (x && false) ≡ false
and_no x = grind arith

-- nothing that `FALSE` does not pass is reached through it
pub skipped : (x : Bool) (test : MarkerTree → Bool) (t : MarkerTree) → t ≡ FALSE → test FALSE ≡ false → (x && test t) ≡ false
skipped x test t f z = ap (λ s. x && test s) f ∙ ap (λ b. x && b) z ∙ and_no x

module _ (q : asked.Test) (t : MarkerTree) (old new : List Branch) where
  -- what the branches reach with one more
  answered_reach : IsAnswered q t old new → (v : Valuation) (test : MarkerTree → Bool) → test FALSE ≡ false → list_any (λ b. reaches v test b) new ≡ (list_any (λ b. reaches v test b) old || (holds q v && test t))
  answered_reach h1 v test h2 = grind (arith, and_no, or_end, list_any-append, ends)

  -- where they lead
  answered_each : IsAnswered q t old new → (i : ℕ) (b : Branch) → slice_get new i ≡ Some b → (slice_get old i ≡ Some b) ⊎ (b.child ≡ t)
  answered_each h1 i b h2 = grind (arith, get_last)

  -- what can be printed
  answered_printable : IsAnswered q t old new → ((term : MarkerExpression) → test_of term ≡ q → IsPrintable term) → HavePrintableBranches old → HavePrintableBranches new
  answered_printable h1 h2 h3 = grind (arith, each_pushed)

so_lowest : (x : TruthVariable) → answer x lowest ≡ true
so_lowest x = grind arith

not_denied : (x : TruthVariable) → answer x denied ≡ false
not_denied x = grind arith

chosen : {X : Type 0} (x : Bool) (f : X → Bool) (p q : X) → ((x && f p) || (not x && f q)) ≡ f (cond x p q)
chosen x f p q = grind arith

two_lead : (x : TruthVariable) (t : MarkerTree) (so other : NodeId) (none one two : List Branch) (p n : asked.Test) (high low : MarkerTree) →
    none ≡ [] → IsAnswered p high none one → IsAnswered n low one two → high ≡ child_of t so → low ≡ child_of t other →
    ((v : Valuation) → holds p v ≡ answer x v) → ((v : Valuation) → holds n v ≡ not (answer x v)) →
    LeadTo (Unit {0}) (λ v. child_of t (value_at (Truth x so other) v)) two
two_lead x t so other none one two p n high low z a b h l ph nh = record {
  each = λ i d e. by_second i d (answered_each n low one two b i d e);
  leads = λ u v test f.
      answered_reach n low one two b v test f ∙ ap (λ y. y || (holds n v && test low)) (answered_reach p high none one a v test f ∙ ap (λ bs. list_any (λ b. reaches v test b) bs || (holds p v && test high)) z)
      ∙ ap (λ b. (b && test high) || (holds n v && test low)) (ph v) ∙ ap (λ b. (answer x v && test high) || (b && test low)) (nh v)
      ∙ ap (λ s. (answer x v && test s) || (not (answer x v) && test low)) h ∙ ap (λ s. (answer x v && test (child_of t so)) || (not (answer x v) && test s)) l
      ∙ chosen (answer x v) (λ i. test (child_of t i)) so other;
}
  where
    by_first : (i : ℕ) (d : Branch) → (slice_get none i ≡ Some d) ⊎ (d.child ≡ high) → (v : Valuation) × (d.child ≡ child_of t (value_at (Truth x so other) v))
    by_first i d (inl e) = none_some d (ap (λ bs. slice_get bs i) (sym z) ∙ e)
    by_first i d (inr e) = (lowest, e ∙ h ∙ ap (λ y. child_of t (cond y so other)) (sym (so_lowest x)))

    by_second : (i : ℕ) (d : Branch) → (slice_get one i ≡ Some d) ⊎ (d.child ≡ low) → (v : Valuation) × (d.child ≡ child_of t (value_at (Truth x so other) v))
    by_second i d (inl e) = by_first i d (answered_each p high none one a i d e)
    by_second i d (inr e) = (denied, e ∙ l ∙ ap (λ y. child_of t (cond y so other)) (sym (not_denied x)))

module _ (c : Contents) (store : IsStore markers c.nodes) (t : MarkerTree) (held : IsHeld c t) where
  -- the branches of a marker that branches on a version, or on a text
  pub version_result : {A : Type 0} (view : VersionMarkerTree) → IsKind c t (VersionKind view) → (r : Result (Vec Branch A) AllocError) →
      IfOk r (λ bs. LeadTo (all_cuts is_release view.cuts.now ≡ true) (λ v. child_of view.tree (value_of version_cmp view.cuts.now (v.version view.variable))) bs.items) → IfOk r (λ bs. HavePrintableBranches bs.items) → IfOk r (λ bs. AreBranches c t bs.items)
  version_result view k (Err e) h p = h
  version_result view k (Ok bs) h p =
      lead_branches c store t held (Version view.variable view.cuts.now) k.0 bs.items (all_cuts is_release view.cuts.now ≡ true) (node_releases c store t held (Version view.variable view.cuts.now) k.0) (λ plain. p)
      (subst (λ s. LeadTo (all_cuts is_release view.cuts.now ≡ true) (λ v. child_of s (value_of version_cmp view.cuts.now (v.version view.variable))) bs.items) k.1 h)

  pub text_result : {A : Type 0} (view : StringMarkerTree) → IsKind c t (StringKind view) → (r : Result (Vec Branch A) AllocError) →
      IfOk r (λ bs. LeadTo ⊤ (λ v. child_of view.tree (value_by string_bytes text_cmp view.cuts.now (v.text view.variable))) bs.items) →
      IfOk r (λ bs. all_cuts (λ t. is_plain (string_bytes t)) view.cuts.now ≡ true → HavePrintableBranches bs.items) → IfOk r (λ bs. AreBranches c t bs.items)
  text_result view k (Err e) h p = h
  text_result view k (Ok bs) h p =
      lead_branches c store t held (Text view.variable view.cuts.now) k.0 bs.items ⊤ (λ r. tt) p
      (subst (λ s. LeadTo ⊤ (λ v. child_of s (value_by string_bytes text_cmp view.cuts.now (v.text view.variable))) bs.items) k.1 h)

  -- the branches of a marker that branches on a substring test or an extra
  pub truth_result : {A : Type 0} (x : TruthVariable) (high low so other : MarkerTree) → AsksForTruth c t x so other → high ≡ so → low ≡ other → (p n : asked.Test) →
      ((v : Valuation) → holds p v ≡ answer x v) → ((v : Valuation) → holds n v ≡ not (answer x v)) →
      (IsPlainVariable (truth_variable x) → (term : MarkerExpression) → test_of term ≡ p → IsPrintable term) → (IsPlainVariable (truth_variable x) → (term : MarkerExpression) → test_of term ≡ n → IsPrintable term) →
      (r : Result (Vec Branch A) AllocError) → IfOk r (λ bs. AreAnswers p high n low bs.items) → IfOk r (λ bs. AreBranches c t bs.items)
  truth_result x high low so other asks e f p n ph nh pp np (Err z) h = h
  truth_result x high low so other asks e f p n ph nh pp np (Ok bs) h =
      lead_branches c store t held (Truth x asks.0 asks.1) asks.2 bs.items (Unit {0}) (λ r. tt)
      (λ plain. answered_printable n low h.0 bs.items h.2 (np plain) (answered_printable p high [] h.0 h.1 (pp plain) tt))
      (two_lead x t asks.0 asks.1 [] h.0 bs.items p n high low refl h.1 h.2 (e ∙ asks.3) (f ∙ asks.4) ph nh)

-- a marker without branches
pub no_branches : (c : Contents) (t : MarkerTree) (branches : List Branch) → branches ≡ [] → (t ≢ TRUE → (v : Valuation) → truth c t v ≡ false) → AreBranches c t branches
no_branches c t branches e h = record {
  each = λ i b f. none_some b (ap (λ bs. slice_get bs i) (sym e) ∙ f);
  mean = λ r ne v. ap (list_any (λ b. reaches v (λ s. truth c s v) b)) e ∙ sym (h ne v);
  printable = λ r. subst HavePrintableBranches (sym e) tt;
}

pub false_means : (c : Contents) (t : MarkerTree) → t ≡ FALSE → (v : Valuation) → truth c t v ≡ false
false_means c t e v = ap (λ s. truth c s v) e ∙ false_is c.nodes v

-- ---- terms of truths

pub modern_is : (x : TextVariable) → variable_of (modern_key x) ≡ x
modern_is x = grind arith

pub test_holds : (o : MarkerOperator) (key : MarkerValueString) (x : TextVariable) (value bytes : List ℕ) → key ≡ modern_key x → value ≡ bytes → (v : Valuation) → holds (asked.text key o value) v ≡ holds_text o (modern_key x) bytes v
test_holds o key x value bytes k b v = ap (λ z. holds_text o z value v) k ∙ ap (λ z. holds_text o (modern_key x) z v) b

pub inside_is : (x : TextVariable) (bytes : List ℕ) (v : Valuation) → v.inside (variable_of (modern_key x)) bytes ≡ v.inside x bytes
inside_is x bytes v = ap (λ y. v.inside y bytes) (modern_is x)

pub contains_is : (x : TextVariable) (bytes : List ℕ) (v : Valuation) → v.contains (variable_of (modern_key x)) bytes ≡ v.contains x bytes
contains_is x bytes v = ap (λ y. v.contains y bytes) (modern_is x)

pub extra_is : (name ref : MarkerValueExtraRef) (v : Valuation) → name ≡ ref → holds_extra (extra_of_ref name) v ≡ answer (extra_question ref) v
extra_is name ref v h1 = grind arith

-- a comparison of `extra` with what can be printed
pub extra_printable : (term : MarkerExpression) (o : ExtraOperator) (name last ref : MarkerValueExtraRef) → test_of term ≡ asked.extra o (extra_of_ref name) → name ≡ ref → last ≡ ref →
    (IsPlainVariable (truth_variable (extra_question last)) → IsPlainExtra (extra_of_ref last)) → IsPlainVariable (truth_variable (extra_question ref)) → IsPrintable term
extra_printable term o name last ref h1 h2 h3 h4 h5 = grind arith

-- ---- branches of joined edges

pub each_more : {Q : Type 0} (qs : List Q) (child : Q → MarkerTree) (old new : List Branch) (b : Branch) (k : ℕ) (q : Q) → new ≡ old ++ (b ∷ []) → k < length qs → q ≡ get_or qs k q → b.child ≡ child q →
    ((i : ℕ) (d : Branch) → slice_get old i ≡ Some d → (j : ℕ) × (q : Q) × (slice_get qs j ≡ Some q) × (d.child ≡ child q)) →
    (i : ℕ) (d : Branch) → slice_get new i ≡ Some d → (j : ℕ) × (q : Q) × (slice_get qs j ≡ Some q) × (d.child ≡ child q)
each_more qs child old new b k q h1 h2 h3 h4 h5 i d h6 = grind (arith, get_last, slice_get-get_or)

module _ (tree : MarkerTree) (branches : List Branch) {a : _} {b : _} {c : _} {a' : _} {b' : _} {c' : _} where
  pub version_lead : (x : VersionVariable) (cuts : Cuts Parts NodeId a b c) (pairs : List (Bor NodeId × Ranges Parts a' b' c')) → IsGathered version_cmp same_id cuts pairs →
      ((i : ℕ) (part : Part Parts NodeId) → slice_get (parts_of cuts) i ≡ Some part → (p : Point Parts) × IsIn version_cmp part p × (value_of version_cmp cuts p ≡ part.value)) →
      ((i : ℕ) (d : Branch) → slice_get branches i ≡ Some d → (j : ℕ) × (q : Bor NodeId × Ranges Parts a' b' c') × (slice_get pairs j ≡ Some q) × (d.child ≡ child_of tree q.0.now)) →
      (all_cuts is_release cuts ≡ true → (v : Valuation) (test : MarkerTree → Bool) → test FALSE ≡ false →
      list_any (λ b. reaches v test b) branches ≡ list_any (λ q. contains_point version_cmp q.1 (v.version x) && test (child_of tree q.0.now)) pairs) →
      LeadTo (all_cuts is_release cuts ≡ true) (λ v. child_of tree (value_of version_cmp cuts (v.version x))) branches
  version_lead x cuts pairs h inhabited each leads = record {
    each = λ i d e.
        let r = each i d e in
        let m = gathered_part version_cmp cuts pairs h r.0 r.1 r.2 in
        let p = inhabited m.0 m.1 m.2 in
        (at_version p.0, r.3 ∙ ap (child_of tree) (sym m.3 ∙ sym p.2));
    leads = λ r v test z.
        let k = h.covers (v.version x) in
        leads r v test z ∙ joined_leads pairs (λ q. contains_point version_cmp q.1 (v.version x)) (λ q. q.0.now) (value_of version_cmp cuts (v.version x)) (λ i q e. h.sets i q e (v.version x)) k.0 k.1 k.2 k.3 (λ w. test (child_of tree w));
  }

  pub text_lead : (x : TextVariable) (cuts : Cuts (String Global) NodeId a b c) (pairs : List (Bor NodeId × Ranges (String Global) a' b' c')) → IsGathered string_cmp same_id cuts pairs →
      ((i : ℕ) (part : Part (String Global) NodeId) → slice_get (parts_of cuts) i ≡ Some part → (p : Point (String Global)) × IsIn string_cmp part p × (value_of string_cmp cuts p ≡ part.value)) →
      ((i : ℕ) (d : Branch) → slice_get branches i ≡ Some d → (j : ℕ) × (q : Bor NodeId × Ranges (String Global) a' b' c') × (slice_get pairs j ≡ Some q) × (d.child ≡ child_of tree q.0.now)) →
      ((v : Valuation) (test : MarkerTree → Bool) → test FALSE ≡ false →
      list_any (λ b. reaches v test b) branches ≡ list_any (λ q. contains_by string_bytes text_cmp q.1 (v.text x) && test (child_of tree q.0.now)) pairs) →
      LeadTo ⊤ (λ v. child_of tree (value_by string_bytes text_cmp cuts (v.text x))) branches
  text_lead x cuts pairs h inhabited each leads = record {
    each = λ i d e.
        let r = each i d e in
        let m = gathered_part string_cmp cuts pairs h r.0 r.1 r.2 in
        let p = inhabited m.0 m.1 m.2 in (
          at_text (point_map string_bytes p.0),
          r.3 ∙ ap (child_of tree) (sym m.3 ∙ sym p.2 ∙ sym (value_by_name string_bytes string_cmp text_cmp string_cmp_total nat_list_cmp_total (λ y z. refl) cuts p.0)),
        );
    leads = λ r v test z.
        let k = text_found cuts pairs h (v.text x) in
        leads v test z ∙ joined_leads pairs (λ q. contains_by string_bytes text_cmp q.1 (v.text x)) (λ q. q.0.now) (value_by string_bytes text_cmp cuts (v.text x)) (λ i q e. text_sets cuts pairs h (v.text x) i q e) k.0 k.1 k.2 k.3 (λ w. test (child_of tree w));
  }
