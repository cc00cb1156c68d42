-- The order of two diagrams is what their turns come to.
use Rattle.std.proofs.Common.{◌≡◌, ℕ, suc, ◌<◌, ◌≤◌, ◌==◌, Bool, true, false, cond, List, [], ◌∷◌, ◌++◌, length, Some, None, refl, sym, ap, ◌∙◌, subst, arith, string_bytes}
use Rattle.std.specs.Prelude.{⊤}
use Rattle.std.specs.Ordering.{ordering_then, bool_cmp}
use Rattle.std.specs.declared.cmp.Ordering.{Ordering}
use Rattle.std.specs.declared.cmp.Ordering.TheVariants.{Less, Equal, Greater}
use Rattle.std.specs.declared.ops.Bound.{Bound}
use Rattle.std.specs.declared.ops.Bound.TheVariants.{Included, Excluded, Unbounded}
use Rattle.std.specs.Range.Bound.{bound_map}
use Rattle.std.specs.String.{string_cmp, string_cmp_total}
use Rattle.std.specs.Prelude.{slice_get, String}
use Rattle.std.specs.Global.{Global}
use Rattle.std.specs.Cmp.Lexicographic.{nat_list_cmp_total, slice_cmp}
use Rattle.std.proofs.lemmas.Bool.{eq-eqb, ne_eqb}
use Rattle.version_ranges.specs.Point.{at, above, point_cmp, point_map}
use Rattle.version_ranges.specs.Parts.{Part, parts_of}
use Rattle.version_ranges.proofs.EachPiece.{at_each_piece}
use Rattle.version_ranges.proofs.Elsewhere.{value_by_name}
use Rattle.version_ranges.proofs.PartLaws.{are_pieces}
use Rattle.pep440_version.specs.Parts.{Parts}
use Rattle.pep440_version.specs.Order.{version_cmp}
use Rattle.pep440_version.specs.OrderLaws.{version_total}
use Rattle.marker_words.specs.Compare.{text_cmp}
use Rattle.marker_environment.specs.Valuation.{Valuation}
use Rattle.marker_diagrams.specs.declared.node_id.NodeId.{NodeId}
use Rattle.marker_diagrams.specs.Id.{place_of, is_negated, signed_id}
use Rattle.marker_diagrams.specs.Diagram.{IsStore, node_at, node_of}
use Rattle.marker_diagrams.proofs.NodeLaws.{same_some, none_some, node_bounds, node_kept}
use Rattle.marker_nodes.specs.declared.node.Branches.TheVariants as nodes
use Rattle.marker_nodes.specs.Branches.{value_at, variable}
use Rattle.marker_nodes.specs.Node.{Node, markers, lowest}
use Rattle.marker_nodes.specs.Variable.{Variable, of_text, of_version, truth_variable, variable_cmp}
use Rattle.marker_nodes.proofs.NodeLaws.{at_text, at_version, denied, high_picked, low_picked, other_sorts, sort_truth}
use Rattle.marker_order.specs.declared.turns.Turn.{Turn}
use Rattle.marker_order.specs.declared.turns.Turn.TheVariants.{Told, Below}
use Rattle.marker_order.specs.Order.{Mark, mark_cmp, asks, constant, edges_marks, end, node_marks, marks_of, diagram_cmp, text_lower, text_upper, version_lower, version_upper, Tells}
use Rattle.marker_order.specs.Turns.{edge_turns, lower_cmp, turn_by, turns_cmp, turns_of, upper_cmp}
use Rattle.marker_order.proofs.OrderLaws.{diagrams_tell}

-- the order of the children of two ids, before their signs
abbrev pub child_cmp : List Node → List Node → NodeId → NodeId → NodeId → NodeId → Ordering
child_cmp a b s t c d = diagram_cmp (a, signed_id (is_negated s) c) (b, signed_id (is_negated t) d)

-- the children that are still to be compared are below the ids
abbrev pub AreBelow : NodeId → NodeId → List Turn → Type 0
AreBelow s t [] = ⊤
AreBelow s t (Told r ∷ turns) = AreBelow s t turns
AreBelow s t (Below c d ∷ turns) = (place_of c < place_of s) × (place_of d < place_of t) × AreBelow s t turns

-- the order of two ids is what these turns come to
pub record Continues (a b : List Node) (s t : NodeId) (turns : List Turn) : Type 0 where
  pub order : diagram_cmp (a, s) (b, t) ≡ turns_cmp (child_cmp a b s t) turns
  pub below : AreBelow s t turns

-- ---- marks of an id

-- all children of a node
abbrev pub EachPart : {T : Type 0} → (NodeId → Type 0) → List (Part T NodeId) → Type 0
EachPart P [] = ⊤
EachPart P (p ∷ ps) = P p.value × EachPart P ps

abbrev pub EachChild : (NodeId → Type 0) → Node → Type 0
EachChild P (nodes.Version x es) = EachPart P (parts_of es)
EachChild P (nodes.Text x es) = EachPart P (parts_of es)
EachChild P (nodes.Truth x high low) = P high × P low

each_part : {T : Type 0} (P : NodeId → Type 0) (ps : List (Part T NodeId)) → ((i : ℕ) (p : Part T NodeId) → slice_get ps i ≡ Some p → P p.value) → EachPart P ps
each_part P [] h = tt
each_part P (p ∷ ps) h = (h 0 p refl, each_part P ps (λ i q e. h (suc i) q e))

-- what holds of the children that are selected holds of all
pub each_child : (P : NodeId → Type 0) (n : Node) → ((v : Valuation) → P (value_at n v)) → EachChild P n
each_child P (nodes.Version x es) h =
    each_part P (parts_of es)
    (at_each_piece version_cmp es (are_pieces version_cmp version_total es es.ascending (omega (arith, es.rest.ok.0))) P (λ p. h (at_version p)))
each_child P (nodes.Text x es) h =
    each_part P (parts_of es)
    (at_each_piece string_cmp es (are_pieces string_cmp string_cmp_total es es.ascending (omega (arith, es.rest.ok.0))) P
    (λ p. subst P (value_by_name string_bytes string_cmp text_cmp string_cmp_total nat_list_cmp_total (λ a b. refl) es p) (h (at_text (point_map string_bytes p)))))
each_child P (nodes.Truth x high low) h = (subst P (high_picked x high low) (h lowest), subst P (low_picked x high low) (h denied))

-- a node has the same marks if its children have
edges_same : {T : Type 0} (lower upper : Bound T → Mark) (one two : NodeId → List Mark) (ps : List (Part T NodeId)) → EachPart (λ c. one c ≡ two c) ps → edges_marks lower upper one ps ≡ edges_marks lower upper two ps
edges_same lower upper one two [] h = refl
edges_same lower upper one two (p ∷ ps) h = grind (arith, edges_same lower upper one two ps h.1)

marks_same : (one two : NodeId → List Mark) (n : Node) → EachChild (λ c. one c ≡ two c) n → node_marks one n ≡ node_marks two n
marks_same one two n h1 = grind (arith, edges_same, string_bytes)

marks_kept : (n : Node) (list : List Node) (t : NodeId) → place_of t ≤ length list → marks_of (n ∷ list) t ≡ marks_of list t
marks_kept n list t h = ap (λ b. cond b (node_marks (λ c. marks_of list (signed_id (is_negated t) c)) n) (marks_of list t)) (ne_eqb (place_of t) (suc (length list)) (λ e. omega arith))

-- an id without a node is a constant
pub marks_none : (list : List Node) (t : NodeId) → node_of list t ≡ None → marks_of list t ≡ constant (is_negated t) ∷ []
marks_none [] t e = refl
marks_none (n ∷ older) t e = grind (arith, length, cond, none_some, marks_none older t)

abbrev pub Descends : List Node → Type 0
Descends list = (i : ℕ) (n : Node) → node_at list i ≡ Some n → (v : Valuation) → place_of (value_at n v) < i

older_descends : (n : Node) (older : List Node) → Descends (n ∷ older) → Descends older
older_descends n older d i m e v = d i m (node_kept n older i ((node_bounds older i m e).1) ∙ e) v

-- an id of a node has the marks of the node
marks_down : (list : List Node) → Descends list → (t : NodeId) (n : Node) → node_of list t ≡ Some n → marks_of list t ≡ node_marks (λ c. marks_of list (signed_id (is_negated t) c)) n
marks_down [] d t n e = none_some n e
marks_down (m ∷ older) d t n e = by_test (marks_down older (older_descends m older d) t n) (place_of t == suc (length older)) refl e
  where
    by_test : (node_of older t ≡ Some n → marks_of older t ≡ node_marks (λ c. marks_of older (signed_id (is_negated t) c)) n) →
        (b : Bool) → (place_of t == suc (length older)) ≡ b → cond b (Some m) (node_at older (place_of t)) ≡ Some n →
        cond b (node_marks (λ c. marks_of older (signed_id (is_negated t) c)) m) (marks_of older t) ≡ node_marks (λ c. marks_of (m ∷ older) (signed_id (is_negated t) c)) n
    by_test ih true f g =
        marks_same (λ c. marks_of older (signed_id (is_negated t) c)) (λ c. marks_of (m ∷ older) (signed_id (is_negated t) c)) m
        (each_child (λ c. marks_of older (signed_id (is_negated t) c) ≡ marks_of (m ∷ older) (signed_id (is_negated t) c)) m (λ v.
        let l : place_of (value_at m v) < suc (length older) = d (suc (length older)) m (ap (λ b. cond b (Some m) (node_at older (suc (length older)))) (eq-eqb (suc (length older)) (suc (length older)) refl)) v in
        sym (marks_kept m older (signed_id (is_negated t) (value_at m v)) (omega arith))))
        ∙ ap (node_marks (λ c. marks_of (m ∷ older) (signed_id (is_negated t) c))) (same_some m n g)
    by_test ih false f g =
        let b = node_bounds older (place_of t) n g in
        ih g
        ∙ marks_same (λ c. marks_of older (signed_id (is_negated t) c)) (λ c. marks_of (m ∷ older) (signed_id (is_negated t) c)) n
        (each_child (λ c. marks_of older (signed_id (is_negated t) c) ≡ marks_of (m ∷ older) (signed_id (is_negated t) c)) n (λ v.
        let l : place_of (value_at n v) < place_of t = older_descends m older d (place_of t) n g v in
        let k : place_of t ≤ length older = b.1 in
        sym (marks_kept m older (signed_id (is_negated t) (value_at n v)) (omega arith))))

pub marks_node : (list : List Node) → IsStore markers list → (t : NodeId) (n : Node) → node_of list t ≡ Some n → marks_of list t ≡ node_marks (λ c. marks_of list (signed_id (is_negated t) c)) n
marks_node list store t n e = marks_down list (λ i m f. (store.node i m f).below) t n e

-- ---- marks side by side

pub then_equal : (r : Ordering) → ordering_then r Equal ≡ r
then_equal r = grind arith

-- the order of variables
pub asks_order : (x y : Variable) → mark_cmp (asks x) (asks y) ≡ variable_cmp x y
asks_order x y = then_equal (variable_cmp x y)

-- the order of bounds
version_lowers : (l m : Bound Parts) → mark_cmp (version_lower l) (version_lower m) ≡ lower_cmp version_cmp l m
version_lowers l m = then_equal (lower_cmp version_cmp l m)

version_uppers : (l m : Bound Parts) → mark_cmp (version_upper l) (version_upper m) ≡ upper_cmp version_cmp l m
version_uppers Unbounded Unbounded = refl
version_uppers Unbounded (Included w) = refl
version_uppers Unbounded (Excluded w) = refl
version_uppers (Included v) Unbounded = refl
version_uppers (Included v) (Included w) = then_equal (point_cmp version_cmp (above v) (above w))
version_uppers (Included v) (Excluded w) = then_equal (point_cmp version_cmp (above v) (at w))
version_uppers (Excluded v) Unbounded = refl
version_uppers (Excluded v) (Included w) = then_equal (point_cmp version_cmp (at v) (above w))
version_uppers (Excluded v) (Excluded w) = then_equal (point_cmp version_cmp (at v) (at w))

string_lowers : (l m : Bound (String Global)) → mark_cmp (text_lower (bound_map string_bytes l)) (text_lower (bound_map string_bytes m)) ≡ lower_cmp string_cmp l m
string_lowers l m = grind arith

string_uppers : (l m : Bound (String Global)) → mark_cmp (text_upper (bound_map string_bytes l)) (text_upper (bound_map string_bytes m)) ≡ upper_cmp string_cmp l m
string_uppers l m = grind arith

-- edge by edge
module _ {T : Type 0} (cmp : T → T → Ordering) (lower upper : Bound T → Mark)
    (lowers : (l m : Bound T) → mark_cmp (lower l) (lower m) ≡ lower_cmp cmp l m) (uppers : (l m : Bound T) → mark_cmp (upper l) (upper m) ≡ upper_cmp cmp l m)
    (first : (b : Bound T) → (mark_cmp end (lower b) ≡ Less) × (mark_cmp (lower b) end ≡ Greater))
    (one two : NodeId → List Mark) (tell : (c d : NodeId) → Tells (one c) (two d)) where
  by_turn : (r s k z : Ordering) (c d : NodeId) (turns : List Turn) → slice_cmp mark_cmp (one c) (two d) ≡ k → turns_cmp (λ c d. slice_cmp mark_cmp (one c) (two d)) turns ≡ z →
      ordering_then r (ordering_then s (ordering_then k z)) ≡ turns_cmp (λ c d. slice_cmp mark_cmp (one c) (two d)) (turn_by (ordering_then r s) c d ∷ turns)
  by_turn r s k z c d turns h1 h2 = grind arith

  edges_order : (ps qs : List (Part T NodeId)) → slice_cmp mark_cmp (edges_marks lower upper one ps) (edges_marks lower upper two qs) ≡ turns_cmp (λ c d. slice_cmp mark_cmp (one c) (two d)) (edge_turns cmp ps qs)
  edges_order [] [] = refl
  edges_order [] (q ∷ qs) = ap (λ r. ordering_then r (slice_cmp mark_cmp [] (upper q.upper ∷ (two q.value ++ edges_marks lower upper two qs)))) (first q.lower).0
  edges_order (p ∷ ps) [] = ap (λ r. ordering_then r (slice_cmp mark_cmp (upper p.upper ∷ (one p.value ++ edges_marks lower upper one ps)) [])) (first p.lower).1
  edges_order (p ∷ ps) (q ∷ qs) =
      ap (λ r. ordering_then r (ordering_then (mark_cmp (upper p.upper) (upper q.upper)) (slice_cmp mark_cmp (one p.value ++ edges_marks lower upper one ps) (two q.value ++ edges_marks lower upper two qs)))) (lowers p.lower q.lower)
      ∙ ap (λ r. ordering_then (lower_cmp cmp p.lower q.lower) (ordering_then r (slice_cmp mark_cmp (one p.value ++ edges_marks lower upper one ps) (two q.value ++ edges_marks lower upper two qs)))) (uppers p.upper q.upper)
      ∙ ap (λ r. ordering_then (lower_cmp cmp p.lower q.lower) (ordering_then (upper_cmp cmp p.upper q.upper) r)) ((tell p.value q.value).goes_on (edges_marks lower upper one ps) (edges_marks lower upper two qs))
      ∙ by_turn (lower_cmp cmp p.lower q.lower) (upper_cmp cmp p.upper q.upper) (slice_cmp mark_cmp (one p.value) (two q.value)) (slice_cmp mark_cmp (edges_marks lower upper one ps) (edges_marks lower upper two qs)) p.value q.value
      (edge_turns cmp ps qs) refl (sym (edges_order ps qs))

abbrev pub node_rest : (NodeId → List Mark) → Node → List Mark
node_rest marks (nodes.Version x es) = edges_marks version_lower version_upper marks (parts_of es)
node_rest marks (nodes.Text x es) = edges_marks (λ b. text_lower (bound_map string_bytes b)) (λ b. text_upper (bound_map string_bytes b)) marks (parts_of es)
node_rest marks (nodes.Truth x high low) = marks high ++ marks low

-- a node's marks begin with its variable
asked_first : (marks : NodeId → List Mark) (n : Node) → node_marks marks n ≡ asks (variable n) ∷ node_rest marks n
asked_first marks n = grind arith

module _ (one two : NodeId → List Mark) (tell : (c d : NodeId) → Tells (one c) (two d)) where
  -- nodes on one variable are ordered as their turns
  pub rests_order : (n m : Node) → variable_cmp (variable n) (variable m) ≡ Equal → slice_cmp mark_cmp (node_rest one n) (node_rest two m) ≡ turns_cmp (λ c d. slice_cmp mark_cmp (one c) (two d)) (turns_of n m)
  rests_order (nodes.Version x es) (nodes.Version y fs) e = edges_order version_cmp version_lower version_upper version_lowers version_uppers (λ b. (refl, refl)) one two tell (parts_of es) (parts_of fs)
  rests_order (nodes.Text x es) (nodes.Text y fs) e = grind (arith, edges_order, string_bytes, string_lowers, string_uppers)
  rests_order (nodes.Truth x i j) (nodes.Truth y k l) e = (tell i k).goes_on (one j) (two l) ∙ ap (ordering_then (slice_cmp mark_cmp (one i) (two k))) (sym (then_equal (slice_cmp mark_cmp (one j) (two l))))
  rests_order (nodes.Version x es) (nodes.Text y fs) e = other_sorts (of_version x) (of_text y) 0 1 e refl refl (λ z. omega arith)
  rests_order (nodes.Text y fs) (nodes.Version x es) e = other_sorts (of_text y) (of_version x) 1 0 e refl refl (λ z. omega arith)
  rests_order (nodes.Version x es) (nodes.Truth y k l) e = other_sorts (of_version x) (truth_variable y) 0 2 e refl (sort_truth y) (λ z. omega arith)
  rests_order (nodes.Truth y k l) (nodes.Version x es) e = other_sorts (truth_variable y) (of_version x) 2 0 e (sort_truth y) refl (λ z. omega arith)
  rests_order (nodes.Text x es) (nodes.Truth y k l) e = other_sorts (of_text x) (truth_variable y) 1 2 e refl (sort_truth y) (λ z. omega arith)
  rests_order (nodes.Truth y k l) (nodes.Text x es) e = other_sorts (truth_variable y) (of_text x) 2 1 e (sort_truth y) refl (λ z. omega arith)

-- ---- the order of two ids
module _ (a b : List Node) (rules : IsStore markers a) (other_rules : IsStore markers b) (s t : NodeId) where
  abbrev one : NodeId → List Mark
  one c = marks_of a (signed_id (is_negated s) c)

  abbrev two : NodeId → List Mark
  two c = marks_of b (signed_id (is_negated t) c)

  -- constants
  pub constants_order : (x y : Bool) → slice_cmp mark_cmp (constant x ∷ []) (constant y ∷ []) ≡ bool_cmp x y
  constants_order x y = grind arith

  pub on_constants : node_of a s ≡ None → node_of b t ≡ None → diagram_cmp (a, s) (b, t) ≡ bool_cmp (is_negated s) (is_negated t)
  on_constants e f = ap (λ l. slice_cmp mark_cmp l (marks_of b t)) (marks_none a s e) ∙ ap (slice_cmp mark_cmp (constant (is_negated s) ∷ [])) (marks_none b t f) ∙ constants_order (is_negated s) (is_negated t)

  later : (x : Variable) (n : Bool) → mark_cmp (asks x) (constant n) ≡ Greater
  later x n = grind arith

  earlier : (x : Variable) (n : Bool) → mark_cmp (constant n) (asks x) ≡ Less
  earlier x n = grind arith

  marks_left : (n : Node) → node_of a s ≡ Some n → marks_of a s ≡ asks (variable n) ∷ node_rest one n
  marks_left n e = marks_node a rules s n e ∙ asked_first one n

  marks_right : (m : Node) → node_of b t ≡ Some m → marks_of b t ≡ asks (variable m) ∷ node_rest two m
  marks_right m f = marks_node b other_rules t m f ∙ asked_first two m

  pub on_first_constant : (m : Node) → node_of a s ≡ None → node_of b t ≡ Some m → diagram_cmp (a, s) (b, t) ≡ Less
  on_first_constant m e f =
      ap (λ l. slice_cmp mark_cmp l (marks_of b t)) (marks_none a s e) ∙ ap (slice_cmp mark_cmp (constant (is_negated s) ∷ [])) (marks_right m f)
      ∙ ap (λ r. ordering_then r (slice_cmp mark_cmp [] (node_rest two m))) (earlier (variable m) (is_negated s))

  pub on_second_constant : (n : Node) → node_of a s ≡ Some n → node_of b t ≡ None → diagram_cmp (a, s) (b, t) ≡ Greater
  on_second_constant n e f =
      ap (λ l. slice_cmp mark_cmp l (marks_of b t)) (marks_left n e) ∙ ap (slice_cmp mark_cmp (asks (variable n) ∷ node_rest one n)) (marks_none b t f)
      ∙ ap (λ r. ordering_then r (slice_cmp mark_cmp (node_rest one n) [])) (later (variable n) (is_negated t))

  -- nodes
  module _ (n m : Node) (e : node_of a s ≡ Some n) (f : node_of b t ≡ Some m) where
    pub by_variable : diagram_cmp (a, s) (b, t) ≡ ordering_then (variable_cmp (variable n) (variable m)) (slice_cmp mark_cmp (node_rest one n) (node_rest two m))
    by_variable = grind (arith, marks_left, marks_right, asks_order)

    pub on_lesser : variable_cmp (variable n) (variable m) ≡ Less → diagram_cmp (a, s) (b, t) ≡ Less
    on_lesser h = by_variable ∙ ap (λ r. ordering_then r (slice_cmp mark_cmp (node_rest one n) (node_rest two m))) h

    pub on_greater : variable_cmp (variable n) (variable m) ≡ Greater → diagram_cmp (a, s) (b, t) ≡ Greater
    on_greater h = by_variable ∙ ap (λ r. ordering_then r (slice_cmp mark_cmp (node_rest one n) (node_rest two m))) h

    edges_below : {T : Type 0} (cmp : T → T → Ordering) (ps qs : List (Part T NodeId)) → EachPart (λ c. place_of c < place_of s) ps → EachPart (λ c. place_of c < place_of t) qs → AreBelow s t (edge_turns cmp ps qs)
    edges_below cmp [] [] h k = tt
    edges_below cmp [] (q ∷ qs) h k = edges_below cmp [] qs h k.1
    edges_below cmp (p ∷ ps) [] h k = edges_below cmp ps [] h.1 k
    edges_below cmp (p ∷ ps) (q ∷ qs) h k = grind (arith, edges_below cmp ps qs h.1 k.1)

    turns_below : (n m : Node) → EachChild (λ c. place_of c < place_of s) n → EachChild (λ c. place_of c < place_of t) m → AreBelow s t (turns_of n m)
    turns_below n m h1 h2 = grind (arith, edges_below)

    pub begins : variable_cmp (variable n) (variable m) ≡ Equal → Continues a b s t (turns_of n m)
    begins h = record {
      order =
          by_variable ∙ ap (λ r. ordering_then r (slice_cmp mark_cmp (node_rest one n) (node_rest two m))) h
          ∙ rests_order one two (λ c d. diagrams_tell a b (signed_id (is_negated s) c) (signed_id (is_negated t) d)) n m h;
      below = turns_below n m (each_child (λ c. place_of c < place_of s) n ((rules.node (place_of s) n e).below)) (each_child (λ c. place_of c < place_of t) m ((other_rules.node (place_of t) m f).below));
    }

  -- ---- turn by turn

  decided : (r o : Ordering) → (r ≡ Equal → ⊥) → ordering_then r o ≡ r
  decided r o h1 = grind arith
