-- Branches that follow the edges of a marker are those of the marker.
use Rattle.std.proofs.Common.{◌≡◌, ◌⊎◌, inl, inr, ℕ, suc, Bool, true, false, not, ◌&&◌, ◌||◌, List, [], ◌∷◌, ◌++◌, map, Some, string_bytes, refl, sym, ap, ◌∙◌, subst, arith}
use Rattle.std.specs.Prelude.{slice_get, String, Result, Ok, Err, IfOk, IfSome, None, Option, Vec, ⊤}
use Rattle.std.specs.Global.{Global}
use Rattle.std.specs.List.{list_all, list_any, Any}
use Rattle.std.specs.Range.Bound.{bound_map}
use Rattle.std.specs.declared.alloc.AllocError.{AllocError}
use Rattle.std.specs.declared.cmp.Ordering.{Ordering}
use Rattle.std.specs.declared.ops.Bound.{Bound}
use Rattle.std.proofs.lemmas.Bool.{and_parts, and_from}
use Rattle.std.proofs.lemmas.List.Folds.{Any-from_list_any, list_any-append, list_any_at}
use Rattle.std.proofs.lemmas.Option.{get_or_from_slice_get, slice_get-get_or, slice_get_within}
use Rattle.version_ranges.specs.declared.cut.Cut.{Cut}
use Rattle.version_ranges.specs.Bounds.{all_cuts, passes_at}
use Rattle.version_ranges.specs.Cut.{upper_of, lower_of}
use Rattle.version_ranges.specs.Parts.{Part, is_in, parts_from}
use Rattle.version_ranges.specs.Point.{Point}
use Rattle.pep440_version.specs.Order.{version_cmp}
use Rattle.pep440_rs.specs.Bounds.{is_release}
use Rattle.marker_words.specs.Compare.{text_cmp}
use Rattle.marker_environment.specs.Valuation.{Valuation}
use Rattle.marker_diagrams.specs.Residue as residue
use Rattle.marker_diagrams.specs.Id.{same_id}
use Rattle.marker_diagrams.specs.declared.node_id.NodeId.{NodeId}
use Rattle.marker_nodes.proofs.Firsts.{false_is}
use Rattle.marker_nodes.specs.Variable.{Variable, of_text, of_version}
use Rattle.marker_nodes.specs.declared.node.Branches.TheVariants.{Text, Version}
use Rattle.marker_parts.specs.declared.expression.MarkerExpression.{MarkerExpression}
use Rattle.marker_terms.specs.Clauses.{clauses_hold, clauses_of, term_holds}
use Rattle.marker_terms.specs.Plain.{is_plain}
use Rattle.marker_graph.specs.Contents.{Contents, truth}
use Rattle.marker_graph.specs.Edges.{by_bytes, under}
use Rattle.marker_graph.specs.Kind.{string_edges, version_edges, AreEdges, AreItsEdges, IsKind}
use Rattle.marker_graph.specs.declared.kind.MarkerTreeKind.TheVariants.{Version as VersionKind, String as StringKind}
use Rattle.marker_graph.specs.declared.kind.StringMarkerTree.{StringMarkerTree}
use Rattle.marker_graph.specs.declared.kind.VersionMarkerTree.{VersionMarkerTree}
use Rattle.marker_graph.specs.declared.tree.MarkerTree.{MarkerTree}
use Rattle.marker_graph.specs.declared.tree.TheConstants.MarkerTree.{FALSE}
use Rattle.marker_view.proofs.JoinLaws.{get_last, iff_same}
use Rattle.marker_view.specs.declared.branch.Branch.{Branch}
use Rattle.marker_view.specs.PlainNodes.{IsReadable}
use Rattle.marker_view.specs.Branch.{reaches, AreBranches, DividePoints, FollowEdges, HasReleases, HavePrintableBranches, IsBelow, IsOne}

or_end : (x : Bool) → (x || false) ≡ x
or_end x = grind arith

or_assoc : (a b c : Bool) → ((a || b) || c) ≡ (a || (b || c))
or_assoc a b c = grind arith

and_no : (x : Bool) → (x && false) ≡ false
and_no x = grind arith

module _ {T : Type 0} (cmp : T → T → Ordering) (place : Valuation → Point T) where
  -- whether the edge at a valuation passes a test
  abbrev pub leads_on : Valuation → (MarkerTree → Bool) → Part T MarkerTree → Bool
  leads_on v test e = is_in cmp e (place v) && test e.value

  module _ (c : Contents) (t : MarkerTree) (x : Variable) (edges : List (Part T MarkerTree)) (a : AreEdges cmp place c t x edges) where
    -- the edge at a valuation leads to what the marker means there
    means_here : (v : Valuation) → list_any (leads_on v (λ s. truth c s v)) edges ≡ truth c t v
    means_here v = iff_same _ _ (λ g. by_any (Any-from_list_any (leads_on v (λ s. truth c s v)) edges g)) by_value
      where
        by_any : Any (λ e. leads_on v (λ s. truth c s v) e ≡ true) edges → truth c t v ≡ true
        by_any r =
            let m = and_parts _ _ r.4 in
            a.here r.0 r.1 v (slice_get-get_or edges r.0 r.1 r.2 ∙ ap Some r.3) m.0 ∙ m.1

        by_value : truth c t v ≡ true → list_any (leads_on v (λ s. truth c s v)) edges ≡ true
        by_value g =
            let k = a.covers (place v) in
            list_any_at (leads_on v (λ s. truth c s v)) edges k.0 k.1 (slice_get_within edges k.0 k.1 k.2)
            (ap (leads_on v (λ s. truth c s v)) (get_or_from_slice_get edges k.0 k.1 k.1 k.2) ∙ and_from _ _ k.3 (sym (a.here k.0 k.1 v k.2 k.3) ∙ g))

    pub edge_branches : (branches : List Branch) (Premise : Type 0) → (HasReleases c t → Premise) → (IsReadable c t → HavePrintableBranches branches) → FollowEdges cmp place Premise edges branches → AreBranches c t branches
    edge_branches branches Premise premise printable f = record {
      each = λ i b e. let q = f.each i b e in let s = a.behind q.0 q.1 q.2 in subst (λ s. IsBelow c t s) (sym q.3) (s.held, s.subtree, s.below);
      mean = λ r ne v. f.leads (premise r) v (λ s. truth c s v) (false_is c.nodes v) ∙ means_here v;
      printable = printable;
    }

  -- ---- one edge after another

  -- the branches of the edges that were passed, while others are left
  pub record Passed (Premise : Type 0) (edges left : List (Part T MarkerTree)) (branches : List Branch) : Type 0 where
    pub each : (i : ℕ) (b : Branch) → slice_get branches i ≡ Some b → (j : ℕ) × (e : Part T MarkerTree) × (slice_get edges j ≡ Some e) × (b.child ≡ e.value)
    pub there : (i : ℕ) (e : Part T MarkerTree) → slice_get left i ≡ Some e → (j : ℕ) × (slice_get edges j ≡ Some e)
    pub leads : Premise → (v : Valuation) (test : MarkerTree → Bool) → test FALSE ≡ false → (list_any (λ b. reaches v test b) branches || list_any (leads_on v test) left) ≡ list_any (leads_on v test) edges

  module _ (Premise : Type 0) (edges : List (Part T MarkerTree)) where
    pub none_passed : (left : List (Part T MarkerTree)) (branches : List Branch) → left ≡ edges → branches ≡ [] → Passed Premise edges left branches
    none_passed left branches h1 h2 = grind arith

    later : (left rest : List (Part T MarkerTree)) (e : Part T MarkerTree) → left ≡ e ∷ rest → ((i : ℕ) (e : Part T MarkerTree) → slice_get left i ≡ Some e → (j : ℕ) × (slice_get edges j ≡ Some e)) →
        (i : ℕ) (d : Part T MarkerTree) → slice_get rest i ≡ Some d → (j : ℕ) × (slice_get edges j ≡ Some d)
    later left rest e l h i d g = h (suc i) d (ap (λ es. slice_get es (suc i)) l ∙ g)

    -- an edge that leads to `FALSE` has no branch
    pub edge_skipped : (left rest : List (Part T MarkerTree)) (branches : List Branch) (e : Part T MarkerTree) → left ≡ e ∷ rest → e.value ≡ FALSE → Passed Premise edges left branches → Passed Premise edges rest branches
    edge_skipped left rest branches e l f p = record {
      each = p.each;
      there = later left rest e l p.there;
      leads = λ r v test z.
          ap (λ b. list_any (λ b. reaches v test b) branches || (b || list_any (leads_on v test) rest)) (sym (ap (λ s. is_in cmp e (place v) && test s) f ∙ ap (λ b. is_in cmp e (place v) && b) z ∙ and_no (is_in cmp e (place v))))
          ∙ ap (λ es. list_any (λ b. reaches v test b) branches || list_any (leads_on v test) es) (sym l) ∙ p.leads r v test z;
    }

    -- another edge has one
    pub edge_taken : (left rest : List (Part T MarkerTree)) (old new : List Branch) (e : Part T MarkerTree) (b : Branch) → left ≡ e ∷ rest → new ≡ old ++ (b ∷ []) → b.child ≡ e.value →
        (Premise → (v : Valuation) → clauses_hold (clauses_of b.clauses.items) v ≡ is_in cmp e (place v)) → Passed Premise edges left old → Passed Premise edges rest new
    edge_taken left rest old new e b l n s h p = record {
      each = λ i d g. by_place i d (get_last old b i d (ap (λ xs. slice_get xs i) (sym n) ∙ g));
      there = later left rest e l p.there;
      leads = λ r v test z.
          ap (λ bs. list_any (λ b. reaches v test b) bs || list_any (leads_on v test) rest) n
          ∙ ap (λ x. x || list_any (leads_on v test) rest) (list_any-append (λ b. reaches v test b) old (b ∷ []) ∙ ap (λ x. list_any (λ b. reaches v test b) old || x) (or_end (reaches v test b)))
          ∙ or_assoc (list_any (λ b. reaches v test b) old) (reaches v test b) (list_any (leads_on v test) rest)
          ∙ ap (λ x. list_any (λ b. reaches v test b) old || ((x && test b.child) || list_any (leads_on v test) rest)) (h r v)
          ∙ ap (λ s. list_any (λ b. reaches v test b) old || ((is_in cmp e (place v) && test s) || list_any (leads_on v test) rest)) s
          ∙ ap (λ es. list_any (λ b. reaches v test b) old || list_any (leads_on v test) es) (sym l) ∙ p.leads r v test z;
    }
      where
        first : (j : ℕ) × (slice_get edges j ≡ Some e)
        first = p.there 0 e (ap (λ es. slice_get es 0) l)

        by_place : (i : ℕ) (d : Branch) → (slice_get old i ≡ Some d) ⊎ (b ≡ d) → (j : ℕ) × (e : Part T MarkerTree) × (slice_get edges j ≡ Some e) × (d.child ≡ e.value)
        by_place i d (inl g) = p.each i d g
        by_place i d (inr g) = (first.0, e, first.1, ap (λ (y : Branch). y.child) (sym g) ∙ s)

    pub all_passed : (left : List (Part T MarkerTree)) (branches : List Branch) → left ≡ [] → Passed Premise edges left branches → FollowEdges cmp place Premise edges branches
    all_passed left branches h1 h2 = grind arith

-- ---- two branches of three edges, of which the first and the last one lead to one marker

ends : (x t : Bool) → (((x && true) || false) && t) ≡ (x && t)
ends x t = grind arith

-- a point that is in one of three edges, and in no two neighbors, is in an outer one or in the inner one
parted : (x y z : Bool) → (x || (y || (z || false))) ≡ true → (x ≡ true → y ≡ true → ⊥) → (z ≡ true → y ≡ true → ⊥) → (x || z) ≡ not y
parted x y z h1 h2 h3 = grind arith

joined_outer : (x y z a b : Bool) → (x || z) ≡ not y → ((not y && a) || (y && b)) ≡ ((x && a) || ((y && b) || ((z && a) || false)))
joined_outer x y z a b h1 = grind arith

-- markers that are not told apart are one
pub same_tree : (a b : MarkerTree) (told : Bool) → told ≡ not (same_id a.id b.id) → told ≡ false → a ≡ b
same_tree a b told h1 h2 = grind arith

module _ {T : Type 0} (cmp : T → T → Ordering) (place : Valuation → Point T) (Premise : Type 0)
    (edges : List (Part T MarkerTree)) (first second third : Part T MarkerTree) (three : edges ≡ first ∷ second ∷ third ∷ []) (same : first.value ≡ third.value) where
  -- the inner edge has a point exactly where the outer ones do not
  outer : DividePoints cmp edges → (p : Point T) → (is_in cmp first p || is_in cmp third p) ≡ not (is_in cmp second p)
  outer d p =
      let k = d.covers p in
      parted (is_in cmp first p) (is_in cmp second p) (is_in cmp third p)
      (ap (list_any (λ e. is_in cmp e p)) (sym three)
      ∙ list_any_at (λ e. is_in cmp e p) edges k.0 k.1 (slice_get_within edges k.0 k.1 k.2) (ap (λ e. is_in cmp e p) (get_or_from_slice_get edges k.0 k.1 k.1 k.2) ∙ k.3))
      (λ a b. let q : 0 ≡ 1 = d.apart 0 1 first second p (at 0) (at 1) a b in cc q) (λ a b. let q : 2 ≡ 1 = d.apart 2 1 third second p (at 2) (at 1) a b in cc q)
    where
      at : (i : ℕ) → slice_get edges i ≡ slice_get (first ∷ second ∷ third ∷ []) i
      at i = ap (λ es. slice_get es i) three

  module _ (none one : List Branch) (b : Branch) (term : MarkerExpression) (n : none ≡ []) (o : one ≡ none ++ (b ∷ [])) (is : IsOne b term first.value)
      (excludes : Premise → (v : Valuation) → term_holds term v ≡ not (is_in cmp second (place v))) where
    reach_outer : Premise → (v : Valuation) (test : MarkerTree → Bool) → list_any (λ b. reaches v test b) one ≡ (not (is_in cmp second (place v)) && test first.value)
    reach_outer h1 v test = grind (arith, or_end, ends)

    each_outer : (i : ℕ) (d : Branch) → slice_get one i ≡ Some d → (j : ℕ) × (e : Part T MarkerTree) × (slice_get edges j ≡ Some e) × (d.child ≡ e.value)
    each_outer i d g = by_place (get_last [] b i d (ap (λ xs. slice_get xs i) (ap (λ xs. xs ++ (b ∷ [])) (sym n) ∙ sym o) ∙ g))
      where
        by_place : (slice_get [] i ≡ Some d) ⊎ (b ≡ d) → (j : ℕ) × (e : Part T MarkerTree) × (slice_get edges j ≡ Some e) × (d.child ≡ e.value)
        by_place (inl h) = cc h
        by_place (inr h) = (0, first, ap (λ es. slice_get es 0) three, ap (λ (y : Branch). y.child) (sym h) ∙ is.1)

    -- what the edges lead to, by the inner and the outer ones
    meets : DividePoints cmp edges → (v : Valuation) (test : MarkerTree → Bool) →
        ((not (is_in cmp second (place v)) && test first.value) || (is_in cmp second (place v) && test second.value)) ≡ list_any (leads_on cmp place v test) edges
    meets h1 v test = grind (arith, joined_outer, outer)

    -- the inner edge leads to `FALSE`
    pub around_false : second.value ≡ FALSE → FollowEdges cmp place (Premise × DividePoints cmp edges) edges one
    around_false f = record {
      each = each_outer;
      leads = λ r v test z.
          reach_outer r.0 v test ∙ sym (or_end (not (is_in cmp second (place v)) && test first.value))
          ∙ ap (λ x. (not (is_in cmp second (place v)) && test first.value) || x) (sym (ap (λ s. is_in cmp second (place v) && test s) f ∙ ap (λ x. is_in cmp second (place v) && x) z ∙ and_no (is_in cmp second (place v))))
          ∙ meets r.1 v test;
    }

    -- it leads to another marker
    pub around_one : (two : List Branch) (d : Branch) → two ≡ one ++ (d ∷ []) → d.child ≡ second.value → (Premise → (v : Valuation) → clauses_hold (clauses_of d.clauses.items) v ≡ is_in cmp second (place v)) →
        FollowEdges cmp place (Premise × DividePoints cmp edges) edges two
    around_one two d t s h = record {
      each = λ i x g. by_place i x (get_last one d i x (ap (λ xs. slice_get xs i) (sym t) ∙ g));
      leads = λ r v test z.
          ap (list_any (λ b. reaches v test b)) t ∙ list_any-append (λ b. reaches v test b) one (d ∷ []) ∙ ap (λ x. list_any (λ b. reaches v test b) one || x) (or_end (reaches v test d))
          ∙ ap (λ x. x || reaches v test d) (reach_outer r.0 v test)
          ∙ ap (λ x. (not (is_in cmp second (place v)) && test first.value) || (x && test d.child)) (h r.0 v)
          ∙ ap (λ m. (not (is_in cmp second (place v)) && test first.value) || (is_in cmp second (place v) && test m)) s ∙ meets r.1 v test;
    }
      where
        by_place : (i : ℕ) (x : Branch) → (slice_get one i ≡ Some x) ⊎ (d ≡ x) → (j : ℕ) × (e : Part T MarkerTree) × (slice_get edges j ≡ Some e) × (x.child ≡ e.value)
        by_place i x (inl g) = each_outer i x g
        by_place i x (inr g) = (1, second, ap (λ es. slice_get es 1) three, ap (λ (y : Branch). y.child) (sym g) ∙ s)

-- ---- bounds of edges

-- whether the values of both bounds of an edge pass a test
abbrev pub edge_passes : {T : Type 0} → (T → Bool) → Part T MarkerTree → Bool
edge_passes test e = passes_at test e.lower && passes_at test e.upper

module _ {T K : Type 0} (name : T → K) (test : K → Bool) where
  lower_passes : (c : Cut T) → test (name c.value) ≡ true → passes_at test (bound_map name (lower_of c)) ≡ true
  lower_passes c h1 = grind arith

  upper_passes : (c : Cut T) → test (name c.value) ≡ true → passes_at test (bound_map name (upper_of c)) ≡ true
  upper_passes c h1 = grind arith

bound_same : {T : Type 0} (b : Bound T) → bound_map (λ v. v) b ≡ b
bound_same b = grind arith

-- three edges, one after another
pub three_edges : {T : Type 0} (edges l m r n : List (Part T MarkerTree)) (first second third : Part T MarkerTree) → edges ≡ l → l ≡ first ∷ m → m ≡ second ∷ r → r ≡ third ∷ n → n ≡ [] → edges ≡ first ∷ second ∷ third ∷ []
three_edges edges l m r n first second third a b c d e = a ∙ b ∙ ap (λ es. first ∷ es) (c ∙ ap (λ es. second ∷ es) (d ∙ ap (λ es. third ∷ es) e))

-- the bounds of the second one pass what those of all do
pub second_passes : {T : Type 0} (test : T → Bool) (edges : List (Part T MarkerTree)) (first second third : Part T MarkerTree) → edges ≡ first ∷ second ∷ third ∷ [] → list_all (edge_passes test) edges ≡ true →
    (passes_at test second.lower ≡ true) × (passes_at test second.upper ≡ true)
second_passes test edges first second third h1 h2 = grind arith

-- the values at the cuts of a function are those at the bounds of its edges
module _ {T : Type 0} (test : T → Bool) (t : MarkerTree) where
  pub edges_pass : (low : Bound T) (v : NodeId) (xs : List (Cut T × NodeId)) → passes_at test low ≡ true → list_all (λ s. test s.0.value) xs ≡ true → list_all (edge_passes test) (map (under t) (parts_from low v xs)) ≡ true
  edges_pass low v [] l h = and_from _ _ (and_from _ _ l refl) refl
  edges_pass low v (x ∷ xs) l h =
      let q = and_parts _ _ h in
      and_from _ _ (and_from _ _ l (sym (ap (passes_at test) (bound_same (upper_of x.0))) ∙ upper_passes (λ v. v) test x.0 q.0)) (edges_pass (lower_of x.0) x.1 xs (sym (ap (passes_at test) (bound_same (lower_of x.0))) ∙ lower_passes (λ v. v) test x.0 q.0) q.1)

module _ (test : List ℕ → Bool) (t : MarkerTree) where
  pub text_edges_pass : (low : Bound (String Global)) (v : NodeId) (xs : List (Cut (String Global) × NodeId)) → passes_at test (bound_map string_bytes low) ≡ true → list_all (λ s. test (string_bytes s.0.value)) xs ≡ true →
      list_all (edge_passes test) (map (λ p. by_bytes (under t p)) (parts_from low v xs)) ≡ true
  text_edges_pass low v [] l h = and_from _ _ (and_from _ _ l refl) refl
  text_edges_pass low v (x ∷ xs) l h =
      let q = and_parts _ _ h in
      and_from _ _ (and_from _ _ l (upper_passes string_bytes test x.0 q.0)) (text_edges_pass (lower_of x.0) x.1 xs (lower_passes string_bytes test x.0 q.0) q.1)

-- ---- the branches of a marker that asks about a version, or about a text

module _ (c : Contents) (t : MarkerTree) where
  pub version_edges_result : {A : Type 0} (view : VersionMarkerTree) → IsKind c t (VersionKind view) → AreItsEdges c t (VersionKind view) → (r : Result (Vec Branch A) AllocError) →
      IfOk r (λ bs. FollowEdges version_cmp (λ v. v.version view.variable) (all_cuts is_release view.cuts.now ≡ true) (version_edges view) bs.items) → IfOk r (λ bs. HavePrintableBranches bs.items) → IfOk r (λ bs. AreBranches c t bs.items)
  version_edges_result view k a (Err e) h p = h
  version_edges_result view k a (Ok bs) h p =
      edge_branches version_cmp (λ v. v.version view.variable) c t (of_version view.variable) (version_edges view) a bs.items (all_cuts is_release view.cuts.now ≡ true)
      (λ r. r t (Version view.variable view.cuts.now) residue.itself k.0) (λ r. p) h

  pub text_edges_result : {A : Type 0} (view : StringMarkerTree) → IsKind c t (StringKind view) → AreItsEdges c t (StringKind view) → (r : Result (Vec Branch A) AllocError) →
      IfOk r (λ bs. FollowEdges text_cmp (λ v. v.text view.variable) ⊤ (string_edges view) bs.items) → IfOk r (λ bs. all_cuts (λ t. is_plain (string_bytes t)) view.cuts.now ≡ true → HavePrintableBranches bs.items) →
      IfOk r (λ bs. AreBranches c t bs.items)
  text_edges_result view k a (Err e) h p = h
  text_edges_result view k a (Ok bs) h p =
      edge_branches text_cmp (λ v. v.text view.variable) c t (of_text view.variable) (string_edges view) a bs.items ⊤ (λ r. tt) (λ r. p (r t (Text view.variable view.cuts.now) residue.itself k.0)) h

  -- the same of the branches that were found, with a premise that the edges divide the points
  pub version_around_result : {A : Type 0} (view : VersionMarkerTree) → IsKind c t (VersionKind view) → AreItsEdges c t (VersionKind view) → (found : Option (Vec Branch A)) (bs : Vec Branch A) → found ≡ Some bs →
      IfSome found (λ bs. FollowEdges version_cmp (λ v. v.version view.variable) ((all_cuts is_release view.cuts.now ≡ true) × DividePoints version_cmp (version_edges view)) (version_edges view) bs.items) →
      IfSome found (λ bs. HavePrintableBranches bs.items) → AreBranches c t bs.items
  version_around_result view k a None bs e h p = cc e
  version_around_result {A} view k a (Some b) bs e h p =
      let q : b ≡ bs = cc e in
      subst (λ (x : Vec Branch A). AreBranches c t x.items) q
      (edge_branches version_cmp (λ v. v.version view.variable) c t (of_version view.variable) (version_edges view) a b.items ((all_cuts is_release view.cuts.now ≡ true) × DividePoints version_cmp (version_edges view))
      (λ r. (r t (Version view.variable view.cuts.now) residue.itself k.0, record { covers = a.covers; apart = a.apart })) (λ r. p) h)

  pub text_around_result : {A : Type 0} (view : StringMarkerTree) → IsKind c t (StringKind view) → AreItsEdges c t (StringKind view) → (found : Option (Vec Branch A)) (bs : Vec Branch A) → found ≡ Some bs →
      IfSome found (λ bs. FollowEdges text_cmp (λ v. v.text view.variable) (⊤ × DividePoints text_cmp (string_edges view)) (string_edges view) bs.items) →
      IfSome found (λ bs. all_cuts (λ t. is_plain (string_bytes t)) view.cuts.now ≡ true → HavePrintableBranches bs.items) → AreBranches c t bs.items
  text_around_result view k a None bs e h p = cc e
  text_around_result {A} view k a (Some b) bs e h p =
      let q : b ≡ bs = cc e in
      subst (λ (x : Vec Branch A). AreBranches c t x.items) q
      (edge_branches text_cmp (λ v. v.text view.variable) c t (of_text view.variable) (string_edges view) a b.items (⊤ × DividePoints text_cmp (string_edges view))
      (λ r. (tt, record { covers = a.covers; apart = a.apart })) (λ r. p (r t (Text view.variable view.cuts.now) residue.itself k.0)) h)
