-- Walks that look for a valuation with given extras.
use Rattle.std.proofs.Common.{◌≡◌, ℕ, zero, suc, ◌<◌, ◌≤◌, Bool, true, false, not, cond, ◌||◌, List, [], ◌∷◌, length, Option, Some, None, replicate, string_bytes, refl, sym, ap, ◌∙◌, subst, arith}
use Rattle.std.specs.Prelude.{slice_get, String}
use Rattle.std.specs.Borrow.{Bor}
use Rattle.std.specs.List.{list_any, Contains}
use Rattle.std.specs.Ordering.{is_eq}
use Rattle.std.specs.Global.{Global}
use Rattle.std.specs.declared.cmp.Ordering.{Ordering}
use Rattle.std.specs.declared.ops.Bound.{Bound}
use Rattle.std.specs.Cmp.Lexicographic.{nat_list_cmp_total}
use Rattle.std.specs.String.{string_cmp, string_cmp_total}
use Rattle.std.proofs.lemmas.Bool.{true≢false, false≢true}
use Rattle.std.proofs.lemmas.Cmp.{tied_itself}
use Rattle.std.proofs.lemmas.List.Elements.{All-replicate}
use Rattle.std.proofs.lemmas.List.Folds.{list_any_at}
use Rattle.version_ranges.specs.declared.cuts.Cuts.{Cuts}
use Rattle.version_ranges.specs.Point.{Point, bottom, at, point_map, is_in_bounds}
use Rattle.version_ranges.specs.Cuts.{value_of, value_by, piece_of}
use Rattle.version_ranges.specs.Parts.{Part, IsIn, ArePieces}
use Rattle.version_ranges.proofs.Elsewhere.{at_names, value_by_name}
use Rattle.pep440_version.specs.Parts.{Parts}
use Rattle.pep440_version.specs.Order.{version_cmp}
use Rattle.marker_words.specs.declared.key.TextVariable.{TextVariable}
use Rattle.marker_words.specs.declared.key.VersionVariable.{VersionVariable}
use Rattle.marker_words.specs.declared.key.VersionVariable.TheVariants.{ImplementationVersion, PythonFullVersion}
use Rattle.marker_environment.specs.Valuation.{Valuation}
use Rattle.marker_diagrams.specs.declared.node_id.NodeId.{NodeId}
use Rattle.marker_diagrams.specs.declared.node_id.TheConstants.NodeId.{TRUE, FALSE}
use Rattle.marker_diagrams.specs.Id.{place_of, is_negated, signed_id}
use Rattle.marker_diagrams.specs.Diagram.{node_of, IsHeld, IsStore, truth, with_variable}
use Rattle.marker_diagrams.proofs.NodeLaws.{truth_child, none_some, same_some}
use Rattle.marker_diagrams.proofs.Canonicity.{child_seen}
use Rattle.marker_nodes.specs.declared.variable.TruthVariable.{TruthVariable}
use Rattle.marker_nodes.specs.declared.variable.TruthVariable.TheVariants as truths
use Rattle.marker_nodes.specs.declared.node.Branches.TheVariants.{Truth}
use Rattle.marker_nodes.specs.Variable.{Variable, answer, mix, variable_cmp}
use Rattle.marker_words.specs.Compare.{text_cmp}
use Rattle.marker_nodes.specs.Branches.{variable, value_at as pick}
use Rattle.marker_nodes.specs.Node.{Node, markers}
use Rattle.marker_nodes.proofs.VariableLaws.{variable_total}
use Rattle.marker_nodes.proofs.NodeLaws.{lawful}
use Rattle.marker_walks.specs.Possible.{is_listed}
use Rattle.marker_walks.specs.Search.{AreOut, IsKept, IsMemory, IsSearch}
use Rattle.marker_walks.specs.Search as searches
use Rattle.marker_walks.specs.declared.looks.Looks.{Looks}
use Rattle.marker_nodes.specs.Python.{python_of, with_python}
use Rattle.marker_walks.specs.Possible.{HasExtras, HasSome, IsAmong, IsPossible, IsImpossible, IsPossibleAt, IsImpossibleAt, AnswersPossible, listed_versions, may_lie_in, may_be_so, may_not_be_so}
use Rattle.marker_nodes.proofs.Descents.{end_means}
use Rattle.marker_nodes.proofs.Firsts.{true_is, false_is}

-- ---- an element that passes a test
abbrev Passes : (Parts → Bool) → List Parts → Type 0
Passes test xs = (x : Parts) × Contains xs x × (test x ≡ true)

passes_more : (test : Parts → Bool) (y : Parts) (ys : List Parts) → (list_any test ys ≡ true → Passes test ys) → (b : Bool) → test y ≡ b → (b || list_any test ys) ≡ true → Passes test (y ∷ ys)
passes_more test y ys h true e f = (y, (0, omega arith, refl), e)
passes_more test y ys h false e f =
    let r = h f in
    let k : r.1.0 < length ys = r.1.1 in
    (r.0, (suc r.1.0, omega arith, r.1.2), r.2)

passes : (test : Parts → Bool) (xs : List Parts) → list_any test xs ≡ true → Passes test xs
passes test [] e = absurd (false≢true e)
passes test (y ∷ ys) e = passes_more test y ys (passes test ys) (test y) refl e

-- ---- the value of a piece is that of each of its points
piece_value : {T : Type 0} {a : _} {b : _} {c : _} (cmp : T → T → Ordering) (cuts : Cuts T NodeId a b c) (parts : List (Part T NodeId)) → ArePieces cmp cuts parts →
    (k : ℕ) (part : Part T NodeId) (p : Point T) → slice_get parts k ≡ Some part → IsIn cmp part p → value_of cmp cuts p ≡ part.value
piece_value {T} cmp cuts parts are k part p e i =
    let h = are.covers p in
    sym h.3 ∙ ap (λ (x : Part T NodeId). x.value) (same_some h.0 part (sym h.1 ∙ ap (slice_get parts) (are.apart k part p e i) ∙ e))

-- ---- what holds of the value of each piece that a test lets in
module _ {T : Type 0} (may : Part T NodeId → Bool) where
  abbrev pub EachValue : (NodeId → Type 0) → List (Part T NodeId) → Type 0
  EachValue P [] = Unit {0}
  EachValue P (q ∷ qs) = (may q ≡ true → P q.value) × EachValue P qs

  module _ (P : NodeId → Type 0) where
    each_from : (qs : List (Part T NodeId)) → ((i : ℕ) (q : Part T NodeId) → slice_get qs i ≡ Some q → may q ≡ true → P q.value) → EachValue P qs
    each_from [] h = tt
    each_from (q ∷ qs) h = (h 0 q refl, each_from qs (λ i. h (suc i)))

    each_at : (qs : List (Part T NodeId)) → EachValue P qs → (i : ℕ) (q : Part T NodeId) → slice_get qs i ≡ Some q → may q ≡ true → P q.value
    each_at [] h i q e = none_some q e
    each_at (r ∷ qs) h zero q e = subst (λ (x : Part T NodeId). may x ≡ true → P x.value) (same_some r q e) h.0
    each_at (r ∷ qs) h (suc i) q e = each_at qs h.1 i q e

-- ---- which pieces may be entered
abbrev pub enters : VersionVariable → Option (List Parts) → Part Parts NodeId → Bool
enters x versions part = may_lie_in x versions part.lower part.upper

abbrev pub always : {T : Type 0} → Part T NodeId → Bool
always part = true

-- the Python version may be where one of the listed ones is
pub listed_enter : (x : VersionVariable) (versions : Option (Bor (List Parts))) (list : Bor (List Parts)) (lower upper : Bound Parts) (z : Bool) → x ≡ PythonFullVersion → versions ≡ Some list →
    z ≡ list_any (λ version. is_in_bounds version_cmp lower upper (at version)) list.now → z ≡ may_lie_in x (listed_versions versions) lower upper
listed_enter x versions list lower upper z h1 h2 h3 = grind arith

-- ---- valuations that are looked at

-- the Python version is the same in another valuation
among_same : (versions : Option (List Parts)) (v w : Valuation) → python_of w ≡ python_of v → IsAmong versions v → IsAmong versions w
among_same versions v w h1 h2 = grind arith

-- a valuation with these extras, and the versions at a point
abbrev plain_at : List (List ℕ) → Point Parts → Valuation
plain_at extras p = record { version = λ x. p; text = λ x. bottom; inside = λ x s. true; contains = λ x s. true; extra = is_listed extras; arbitrary = λ s. false }

-- there is a valuation to visit
pub some_sought : (extras : List (List ℕ)) (versions : Option (Bor (List Parts))) → HasSome versions → (v : Valuation) × HasExtras extras v × IsAmong (listed_versions versions) v
some_sought extras None h = (plain_at extras bottom, record { valid = λ name. refl; arbitrary = λ text. refl }, tt)
some_sought extras (Some versions) h = by_list versions.now h
  where
    by_list : (list : List Parts) → 0 < length list → (v : Valuation) × HasExtras extras v × IsAmong (Some list) v
    by_list [] l = absurd (omega arith)
    by_list (version ∷ list) l = (plain_at extras (at version), record { valid = λ name. refl; arbitrary = λ text. refl }, (version, (0, omega arith, refl), refl))

abbrev versions_with_implementation : Point Parts → Valuation → VersionVariable → Point Parts
versions_with_implementation p v ImplementationVersion = p
versions_with_implementation p v PythonFullVersion = v.version PythonFullVersion

-- the valuation with the implementation's version at a point, and all else as it is
abbrev with_implementation : Point Parts → Valuation → Valuation
with_implementation p v = record v { version = versions_with_implementation p v }

-- the valuation with all texts at a point, and all else as it is
abbrev with_text : Point (List ℕ) → Valuation → Valuation
with_text p v = record v { text = λ x. p }

-- the valuation with one value for all substring tests, and all else as it is
abbrev with_answer : Bool → Valuation → Valuation
with_answer b v = record v { inside = λ x s. b; contains = λ x s. b }

-- the pieces in which the version of such a valuation lies may be entered
entered : (versions : Option (List Parts)) (x : VersionVariable) (v : Valuation) → IsAmong versions v → (lower upper : Bound Parts) → is_in_bounds version_cmp lower upper (v.version x) ≡ true → may_lie_in x versions lower upper ≡ true
entered versions x v h1 lower upper h2 = grind (arith, list_any_at)

module _ (extras : List (List ℕ)) where
  -- a part of the Python versions that may be entered has a point of such a valuation
  python_inside : (versions : Option (List Parts)) (v : Valuation) → HasExtras extras v → IsAmong versions v → (part : Part Parts NodeId) → ((p : Point Parts) × IsIn version_cmp part p) → may_lie_in PythonFullVersion versions part.lower part.upper ≡ true →
      (s : Valuation) × HasExtras extras s × IsAmong versions s × IsIn version_cmp part (python_of s)
  python_inside None v h k part p m = (with_python p.0 v, record { valid = h.valid; arbitrary = h.arbitrary }, tt, p.1)
  python_inside (Some list) v h k part p m =
      let r = passes (λ version. is_in_bounds version_cmp part.lower part.upper (at version)) list m in
      (with_python (at r.0) v, record { valid = h.valid; arbitrary = h.arbitrary }, (r.0, r.1, refl), r.2)

  version_inside : (versions : Option (List Parts)) (x : VersionVariable) (v : Valuation) → HasExtras extras v → IsAmong versions v → (part : Part Parts NodeId) → ((p : Point Parts) × IsIn version_cmp part p) → may_lie_in x versions part.lower part.upper ≡ true →
      (s : Valuation) × HasExtras extras s × IsAmong versions s × IsIn version_cmp part (s.version x)
  version_inside versions ImplementationVersion v h k part p m = (with_implementation p.0 v, record { valid = h.valid; arbitrary = h.arbitrary }, among_same versions v (with_implementation p.0 v) refl k, p.1)
  version_inside versions PythonFullVersion v h k part p m = python_inside versions v h k part p m

  -- ---- whether something may be so
  so_answered : (v : Valuation) → HasExtras extras v → (x : TruthVariable) → may_be_so extras x ≡ true → answer x (with_answer true v) ≡ true
  so_answered v h1 x h2 = grind arith

  otherwise_answered : (v : Valuation) → HasExtras extras v → (x : TruthVariable) → may_not_be_so extras x ≡ true → answer x (with_answer false v) ≡ false
  otherwise_answered v h1 x h2 = grind arith

  so_entered : (v : Valuation) → HasExtras extras v → (x : TruthVariable) → answer x v ≡ true → may_be_so extras x ≡ true
  so_entered v h1 x h2 = grind arith

  otherwise_entered : (v : Valuation) → HasExtras extras v → (x : TruthVariable) → answer x v ≡ false → may_not_be_so extras x ≡ true
  otherwise_entered v h1 x h2 = grind arith

  -- what may not be so may be otherwise
  pub otherwise_may : (x : TruthVariable) → may_be_so extras x ≡ false → may_not_be_so extras x ≡ true
  otherwise_may x h1 = grind arith

one_of : (b x y z : Bool) → x ≡ z → y ≡ z → cond b x y ≡ z
one_of b x y z h1 h2 = grind arith

-- ---- walks
module _ (extras : List (List ℕ)) (versions : Option (List Parts)) where
  -- the valuation is looked at
  abbrev IsSought : Valuation → Type 0
  IsSought v = HasExtras extras v × IsAmong versions v

  among_mixed : (t : Variable → Bool) (v w : Valuation) → IsAmong versions v → IsAmong versions w → IsAmong versions (mix t v w)
  among_mixed t v w h1 h2 = grind (arith, among_same, cond)

  -- if two valuations are in the search, each mixture of them is
  mixed_sought : (t : Variable → Bool) (v w : Valuation) → IsSought v → IsSought w → IsSought (mix t v w)
  mixed_sought t v w h1 h2 = grind (arith, one_of, among_mixed)

  pub tells_yes : (f : Valuation → Bool) (v : Valuation) → HasExtras extras v → IsAmong versions v → f v ≡ true → AnswersPossible extras versions f true
  tells_yes f v h k e = record { possible = λ z. (v, h, k, e); impossible = λ z. absurd (true≢false z) }

  pub tells_no : (f : Valuation → Bool) → ((v : Valuation) → HasExtras extras v → IsAmong versions v → f v ≡ false) → AnswersPossible extras versions f false
  tells_no f h = record { possible = λ z. absurd (false≢true z); impossible = λ z. h }

  module _ (nodes : List Node) where
    -- a valuation that is looked at satisfies the id
    abbrev pub IsSatisfied : NodeId → Type 0
    IsSatisfied t = (v : Valuation) × HasExtras extras v × IsAmong versions v × (truth markers nodes t v ≡ true)

    -- none does
    abbrev pub IsOut : NodeId → Type 0
    IsOut t = (v : Valuation) → HasExtras extras v → IsAmong versions v → truth markers nodes t v ≡ false

    module _ (t : NodeId) where
      -- a child, up to the sign of the id, is below the id, and if it is satisfied, the id is
      pub record Leads (c : NodeId) : Type 0 where
        pub below : place_of c < place_of t
        pub satisfied : IsSatisfied (signed_id (is_negated t) c) → IsSatisfied t

      -- a child, before the sign of the id, is out of reach
      abbrev pub IsClosed : NodeId → Type 0
      IsClosed c = IsOut (signed_id (is_negated t) c)

      module _ {T : Type 0} (may : Part T NodeId → Bool) where
        -- the pieces that are left of a walk: each possible one leads on, and if all of them are
        -- impossible, the id is
        pub record Walks (left : List (Part T NodeId)) : Type 0 where
          pub leads : EachValue may Leads left
          pub rest : EachValue may IsClosed left → IsOut t

        module _ (now later : List (Part T NodeId)) (q : Part T NodeId) (e : now ≡ q ∷ later) (w : Walks now) where
          pub walk_leads : may q ≡ true → Leads q.value
          walk_leads = (subst (EachValue may Leads) e w.leads).0

          pub walk_next : (may q ≡ true → IsClosed q.value) → Walks later
          walk_next k = record { leads = (subst (EachValue may Leads) e w.leads).1; rest = λ h. w.rest (subst (EachValue may IsClosed) (sym e) (k, h)) }

        pub walk_end : (now : List (Part T NodeId)) → now ≡ [] → Walks now → AnswersPossible extras versions (truth markers nodes t) false
        walk_end now e w = tells_no (truth markers nodes t) (w.rest (subst (EachValue may IsClosed) (sym e) tt))

      module _ (c u : NodeId) (u_is : u ≡ signed_id (is_negated t) c) where
        -- the child is below
        pub child_below : IsHeld nodes t → Leads c → (place_of u < place_of t) × IsHeld nodes u
        child_below h1 h2 = grind arith

        -- if the child is possible, the id is
        pub child_found : Leads c → (z : Bool) → AnswersPossible extras versions (truth markers nodes u) z → z ≡ true → AnswersPossible extras versions (truth markers nodes t) true
        child_found h1 z h2 h3 = grind arith

        -- and else it is out
        pub child_closed : (z : Bool) → AnswersPossible extras versions (truth markers nodes u) z → z ≡ false → IsClosed c
        child_closed z k e v i j = ap (λ x. truth markers nodes x v) (sym u_is) ∙ k.impossible e v i j

    -- ---- from nodes
    module _ (store : IsStore markers nodes) (t : NodeId) (n : Node) (stands : node_of nodes t ≡ Some n) where
      -- a child that a valuation selects which is looked at leads on
      leads_from : (s : Valuation) → IsSought s → Leads t (pick n s)
      leads_from s h = record {
        below = (store.node (place_of t) n stands).below s;
        satisfied = λ w.
            let m = mixed_sought (λ y. is_eq (variable_cmp (variable n) y)) s w.0 h (w.1, w.2) in
            (with_variable markers (variable n) s w.0, m.0, m.1, child_seen markers lawful nodes store t n (variable n) s w.0 stands (tied_itself variable_total (variable n)) ∙ w.3);
      }

      -- if all of these are impossible, the id is
      out_from : ((v : Valuation) → IsSought v → IsClosed t (pick n v)) → IsOut t
      out_from h v i j = truth_child markers nodes t n v (λ k m e. (store.node k m e).below) stands ∙ h v (i, j) v i j

      walks_from : {T : Type 0} (may : Part T NodeId → Bool) (parts : List (Part T NodeId)) →
          ((k : ℕ) (part : Part T NodeId) → slice_get parts k ≡ Some part → may part ≡ true → (s : Valuation) × IsSought s × (pick n s ≡ part.value)) →
          ((P : NodeId → Type 0) → EachValue may P parts → (v : Valuation) → IsSought v → P (pick n v)) → Walks t may parts
      walks_from may parts found covered = record {
        leads = each_from may (Leads t) parts (λ k part e m. let r = found k part e m in subst (Leads t) r.2 (leads_from r.0 r.1));
        rest = λ h. out_from (covered (IsClosed t) h);
      }

    module _ (store : IsStore markers nodes) (t : NodeId) (start : Valuation) (ready : HasExtras extras start) (among : IsAmong versions start) where
      -- ---- a node of versions, by the function of its edges
      module _ {a : _} {b : _} {c : _} (x : VersionVariable) (edges : Cuts Parts NodeId a b c) (parts : List (Part Parts NodeId)) (are : ArePieces version_cmp edges parts) (n : Node) (picks : (v : Valuation) → pick n v ≡ value_of version_cmp edges (v.version x)) where
        version_found : (k : ℕ) (part : Part Parts NodeId) → slice_get parts k ≡ Some part → enters x versions part ≡ true → (s : Valuation) × IsSought s × (pick n s ≡ part.value)
        version_found k part e m =
            let s = version_inside extras versions x start ready among part (are.nonempty k part e) m in
            (s.0, (s.1, s.2), picks s.0 ∙ piece_value version_cmp edges parts are k part (s.0.version x) e s.3)

        version_covered : (P : NodeId → Type 0) → EachValue (enters x versions) P parts → (v : Valuation) → IsSought v → P (pick n v)
        version_covered P h v w =
            let r = are.covers (v.version x) in
            subst P (r.3 ∙ sym (picks v)) (each_at (enters x versions) P parts h (piece_of version_cmp edges (v.version x)) r.0 r.1 (entered versions x v w.1 r.0.lower r.0.upper r.2))

        pub version_walks : node_of nodes t ≡ Some n → Walks t (enters x versions) parts
        version_walks stands = walks_from store t n stands (enters x versions) parts version_found version_covered

      -- ---- a node of texts, by the function of its edges
      module _ {a : _} {b : _} {c : _} (x : TextVariable) (edges : Cuts (String Global) NodeId a b c) (parts : List (Part (String Global) NodeId)) (are : ArePieces string_cmp edges parts) (n : Node) (picks : (v : Valuation) → pick n v ≡ value_by string_bytes text_cmp edges (v.text x)) where
        text_found : (k : ℕ) (part : Part (String Global) NodeId) → slice_get parts k ≡ Some part → true ≡ true → (s : Valuation) × IsSought s × (pick n s ≡ part.value)
        text_found k part e m =
            let p = are.nonempty k part e in
            let s = with_text (point_map string_bytes p.0) start in
            (s, (record { valid = ready.valid; arbitrary = ready.arbitrary }, among_same versions start s refl among), picks s ∙ value_by_name string_bytes string_cmp text_cmp string_cmp_total nat_list_cmp_total (λ v w. refl) edges p.0 ∙ piece_value string_cmp edges parts are k part p.0 e p.1)

        text_covered : (P : NodeId → Type 0) → EachValue always P parts → (v : Valuation) → IsSought v → P (pick n v)
        text_covered P h v w =
            subst P (sym (picks v))
            (at_names string_bytes string_cmp text_cmp string_cmp_total nat_list_cmp_total (λ y z. refl) edges edges edges (λ l i m j n k. P l)
            (λ p. let r = are.covers p in subst P r.3 (each_at always P parts h (piece_of string_cmp edges p) r.0 r.1 refl)) (v.text x))

        pub text_walks : node_of nodes t ≡ Some n → Walks t always parts
        text_walks stands = walks_from store t n stands always parts text_found text_covered

      -- ---- for true and for false
      module _ (x : TruthVariable) (high low : NodeId) (stands : node_of nodes t ≡ Some (Truth x high low)) where
        answering_sought : (b : Bool) → IsSought (with_answer b start)
        answering_sought b = (record { valid = ready.valid; arbitrary = ready.arbitrary }, among_same versions start (with_answer b start) refl among)

        pub high_leads : may_be_so extras x ≡ true → Leads t high
        high_leads m = subst (Leads t) (ap (λ b. cond b high low) (so_answered extras start ready x m)) (leads_from store t (Truth x high low) stands (with_answer true start) (answering_sought true))

        pub low_leads : may_not_be_so extras x ≡ true → Leads t low
        low_leads m = subst (Leads t) (ap (λ b. cond b high low) (otherwise_answered extras start ready x m)) (leads_from store t (Truth x high low) stands (with_answer false start) (answering_sought false))

        -- if each child for a possible value is impossible, the id is
        pub halves_out : (may_be_so extras x ≡ true → IsClosed t high) → (may_not_be_so extras x ≡ true → IsClosed t low) → AnswersPossible extras versions (truth markers nodes t) false
        halves_out h k = tells_no (truth markers nodes t) (out_from store t (Truth x high low) stands (λ v w. by_test v w (answer x v) refl))
          where
            by_test : (v : Valuation) → IsSought v → (b : Bool) → answer x v ≡ b → IsClosed t (cond b high low)
            by_test v w true e = h (so_entered extras v w.0 x e)
            by_test v w false e = k (otherwise_entered extras v w.0 x e)

        -- if the child for true is impossible, the id is possible if the other one is
        pub low_tells : (may_be_so extras x ≡ true → IsClosed t high) → may_not_be_so extras x ≡ true → (u : NodeId) → u ≡ signed_id (is_negated t) low → (z : Bool) → AnswersPossible extras versions (truth markers nodes u) z → AnswersPossible extras versions (truth markers nodes t) z
        low_tells h m u u_is true k = child_found t low u u_is (low_leads m) true k refl
        low_tells h m u u_is false k = halves_out h (λ e. child_closed t low u u_is false k refl)

        -- and the same with the other child
        pub high_tells : (may_not_be_so extras x ≡ true → IsClosed t low) → may_be_so extras x ≡ true → (u : NodeId) → u ≡ signed_id (is_negated t) high → (z : Bool) → AnswersPossible extras versions (truth markers nodes u) z → AnswersPossible extras versions (truth markers nodes t) z
        high_tells h m u u_is true k = child_found t high u u_is (high_leads m) true k refl
        high_tells h m u u_is false k = halves_out (λ e. child_closed t high u u_is false k refl) h

      -- ---- without a node
      pub end_tells : None ≡ node_of nodes t → (z : Bool) → z ≡ not (is_negated t) → AnswersPossible extras versions (truth markers nodes t) z
      end_tells h1 z h2 = grind (arith, tells_yes, end_means, tells_no)

-- at first the only remembered id is FALSE
pub nothing_out : (extras : List (List ℕ)) (versions : Option (Bor (List Parts))) (nodes : List Node) (n : ℕ) → AreOut extras versions nodes (replicate n FALSE)
nothing_out extras versions nodes n = All-replicate (searches.IsOut extras versions nodes) n FALSE (λ v i j. false_is nodes v)

-- a search goes on from another id of the nodes
pub sought_from : {nodes : List Node} {versions : Option (Bor (List Parts))} {t u : NodeId} → IsSearch nodes versions t → IsHeld nodes u → IsSearch nodes versions u
sought_from s held = record { rules = s.rules; some = s.some; held = held }

-- what is remembered, as it is and after visits
module _ {extras : List (List ℕ)} {versions : Option (Bor (List Parts))} {nodes : List Node} {looks : Looks} {ids : List NodeId} where
  pub starts : IsMemory extras versions nodes ids → IsKept extras versions nodes looks ids looks ids
  starts m = record { unbounded = λ u. u; places = refl; out = m.out }

  module _ {looks' : Looks} {ids' : List NodeId} (g : IsKept extras versions nodes looks ids looks' ids') where
    pub still_right : IsMemory extras versions nodes ids → IsMemory extras versions nodes ids'
    still_right m = record { places = subst (λ (n : ℕ). 2 ≤ n) (sym g.places) m.places; out = g.out }

    pub goes_further : {looks'' : Looks} {ids'' : List NodeId} → IsKept extras versions nodes looks' ids' looks'' ids'' → IsKept extras versions nodes looks ids looks'' ids''
    goes_further h = record { unbounded = λ u. h.unbounded (g.unbounded u); places = h.places ∙ g.places; out = h.out }

-- what is satisfied by nothing that is looked for answers no
pub out_tells : (extras : List (List ℕ)) (versions : Option (Bor (List Parts))) (nodes : List Node) (t : NodeId) → searches.IsOut extras versions nodes t → AnswersPossible extras (listed_versions versions) (truth markers nodes t) false
out_tells extras versions nodes t out = tells_no extras (listed_versions versions) (truth markers nodes t) out

pub false_out : (extras : List (List ℕ)) (versions : Option (Bor (List Parts))) (nodes : List Node) (t : NodeId) → t ≡ FALSE → searches.IsOut extras versions nodes t
false_out extras versions nodes t e v i j = ap (λ u. truth markers nodes u v) e ∙ false_is nodes v

-- and an id that answers as it does is out with it
pub child_out : (extras : List (List ℕ)) (versions : Option (Bor (List Parts))) (nodes : List Node) (t u : NodeId) → ((answer : Bool) → searches.Answers extras versions nodes u answer → searches.Answers extras versions nodes t answer) →
    searches.IsOut extras versions nodes t → searches.IsOut extras versions nodes u
child_out extras versions nodes t u tells out v h k = by_value (truth markers nodes u v) refl
  where
    by_value : (z : Bool) → truth markers nodes u v ≡ z → truth markers nodes u v ≡ false
    by_value false e = e
    by_value true e =
        let s = (tells true (tells_yes extras (listed_versions versions) (truth markers nodes u) v h k e)).possible refl in
        absurd (true≢false (sym s.3 ∙ out s.0 s.1 s.2))

-- a constant
module _ (extras : List (List ℕ)) (versions : Option (Bor (List Parts))) (ready : HasSome versions) (nodes : List Node) where
  pub true_tells : (t : NodeId) → t ≡ TRUE → AnswersPossible extras (listed_versions versions) (truth markers nodes t) true
  true_tells t e =
      let s = some_sought extras versions ready in
      tells_yes extras (listed_versions versions) (truth markers nodes t) s.0 s.1 s.2 (ap (λ u. truth markers nodes u s.0) e ∙ true_is nodes s.0)

-- the children of a node that branches on a substring test or an extra
module _ (extras : List (List ℕ)) (versions : Option (Bor (List Parts))) (ready : HasSome versions) (nodes : List Node) (store : IsStore markers nodes) (t : NodeId) (held : IsHeld nodes t)
    (x : TruthVariable) (high low : NodeId) (stands : node_of nodes t ≡ Some (Truth x high low)) where
  abbrev Answers : NodeId → Bool → Type 0
  Answers u z = AnswersPossible extras (listed_versions versions) (truth markers nodes u) z

  abbrev Stands : NodeId → Type 0
  Stands u = (place_of u < place_of t) × IsHeld nodes u

  to_high : may_be_so extras x ≡ true → Leads extras (listed_versions versions) nodes t high
  to_high m = let s = some_sought extras versions ready in high_leads extras (listed_versions versions) nodes store t s.0 s.1 s.2 x high low stands m

  to_low : may_not_be_so extras x ≡ true → Leads extras (listed_versions versions) nodes t low
  to_low m = let s = some_sought extras versions ready in low_leads extras (listed_versions versions) nodes store t s.0 s.1 s.2 x high low stands m

  module _ (u : NodeId) (u_is : u ≡ signed_id (is_negated t) high) where
    pub high_below : may_be_so extras x ≡ true → Stands u
    high_below m = child_below extras (listed_versions versions) nodes t high u u_is held (to_high m)

    pub high_found : may_be_so extras x ≡ true → (z : Bool) → Answers u z → z ≡ true → Answers t true
    high_found m = child_found extras (listed_versions versions) nodes t high u u_is (to_high m)

    -- the other value is impossible
    pub high_alone : may_be_so extras x ≡ true → may_not_be_so extras x ≡ false → (z : Bool) → Answers u z → Answers t z
    high_alone m k = let s = some_sought extras versions ready in high_tells extras (listed_versions versions) nodes store t s.0 s.1 s.2 x high low stands (λ e. absurd (true≢false (sym e ∙ k))) m u u_is

    -- the other child is impossible
    pub high_after : may_be_so extras x ≡ true → (w : NodeId) → w ≡ signed_id (is_negated t) low → (y : Bool) → Answers w y → y ≡ false → (z : Bool) → Answers u z → Answers t z
    high_after m w w_is y k e = let s = some_sought extras versions ready in
        high_tells extras (listed_versions versions) nodes store t s.0 s.1 s.2 x high low stands (λ l. child_closed extras (listed_versions versions) nodes t low w w_is y k e) m u u_is

  module _ (u : NodeId) (u_is : u ≡ signed_id (is_negated t) low) where
    pub low_below : may_not_be_so extras x ≡ true → Stands u
    low_below m = child_below extras (listed_versions versions) nodes t low u u_is held (to_low m)

    pub low_found : may_not_be_so extras x ≡ true → (z : Bool) → Answers u z → z ≡ true → Answers t true
    low_found m = child_found extras (listed_versions versions) nodes t low u u_is (to_low m)

    pub low_alone : may_be_so extras x ≡ false → (z : Bool) → Answers u z → Answers t z
    low_alone m = let s = some_sought extras versions ready in
        low_tells extras (listed_versions versions) nodes store t s.0 s.1 s.2 x high low stands (λ e. absurd (true≢false (sym e ∙ m))) (otherwise_may extras x m) u u_is

    pub low_after : may_not_be_so extras x ≡ true → (w : NodeId) → w ≡ signed_id (is_negated t) high → (y : Bool) → Answers w y → y ≡ false → (z : Bool) → Answers u z → Answers t z
    low_after m w w_is y k e = let s = some_sought extras versions ready in
        low_tells extras (listed_versions versions) nodes store t s.0 s.1 s.2 x high low stands (λ l. child_closed extras (listed_versions versions) nodes t high w w_is y k e) m u u_is

-- ---- markers of an interner
module _ (extras : List (List ℕ)) (nodes given : List Node) (same : given ≡ nodes) (t : NodeId) (z : Bool) where
  pub told_possible : AnswersPossible extras None (truth markers given t) z → z ≡ true → IsPossible extras (truth markers nodes t)
  told_possible h e = let w = h.possible e in (w.0, w.1, ap (λ l. truth markers l t w.0) (sym same) ∙ w.3)

  pub told_impossible : AnswersPossible extras None (truth markers given t) z → z ≡ false → IsImpossible extras (truth markers nodes t)
  told_impossible h e v i = ap (λ l. truth markers l t v) (sym same) ∙ h.impossible e v i tt

  module _ (versions : List Parts) where
    pub told_possible_at : AnswersPossible extras (Some versions) (truth markers given t) z → z ≡ true → IsPossibleAt extras versions (truth markers nodes t)
    told_possible_at h e = let w = h.possible e in (w.0, w.1, w.2, ap (λ l. truth markers l t w.0) (sym same) ∙ w.3)

    pub told_impossible_at : AnswersPossible extras (Some versions) (truth markers given t) z → z ≡ false → IsImpossibleAt extras versions (truth markers nodes t)
    told_impossible_at h e v i j = ap (λ l. truth markers l t v) (sym same) ∙ h.impossible e v i j

-- no valuation has a version of an empty list
pub none_listed : (extras : List (List ℕ)) (versions : List Parts) (f : Valuation → Bool) → length versions ≡ 0 → IsImpossibleAt extras versions f
none_listed extras versions f e v i j = let k : j.1.0 < length versions = j.1.1 in absurd (omega arith)
