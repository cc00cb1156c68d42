-- Two diagrams are equal in the order exactly if they mean the same.
use Rattle.std.proofs.Common.{◌≡◌, ℕ, zero, suc, ◌<◌, Bool, true, false, not, cond, ◌&&◌, List, [], ◌∷◌, map, Option, Some, None, refl, sym, ap, ◌∙◌, arith, string_bytes}
use Rattle.std.specs.Ordering.{bool_cmp, eq_by_cmp, is_eq, ordering_then}
use Rattle.std.specs.declared.cmp.Ordering.{Ordering}
use Rattle.std.specs.declared.cmp.Ordering.TheVariants.{Less, Equal, Greater}
use Rattle.std.specs.declared.ops.Bound.{Bound}
use Rattle.std.specs.declared.ops.Bound.TheVariants.{Included, Excluded, Unbounded}
use Rattle.std.specs.Cmp.{IsEquivalence, IsTotalOrder, bool_cmp_total}
use Rattle.std.specs.Cmp.Lexicographic.{lists_total, nat_list_cmp_total, slice_cmp}
use Rattle.std.specs.String.{string_cmp, string_cmp_total}
use Rattle.std.proofs.lemmas.Bool.{and_from, and_parts, false≢true}
use Rattle.std.proofs.lemmas.Cmp.{eq_by_cmp_equiv, tied_itself}
use Rattle.version_ranges.specs.declared.cut.Cut.{Cut}
use Rattle.version_ranges.specs.Point.{Point, point_map}
use Rattle.version_ranges.specs.Cut.{cut_cmp, lower_of, stands_before, upper_of}
use Rattle.version_ranges.specs.Steps.{ascends, is_merged, value_at}
use Rattle.version_ranges.specs.Cuts.{value_by, value_of}
use Rattle.version_ranges.specs.Parts.{parts_from}
use Rattle.version_ranges.proofs.StepLaws.{is_equal, same_steps}
use Rattle.version_ranges.proofs.EqualLaws.{cut_eq, equal_values, unequal_point}
use Rattle.version_ranges.proofs.Elsewhere.{at_names, value_by_name}
use Rattle.pep440_version.specs.Order.{version_cmp}
use Rattle.pep440_version.specs.OrderLaws.{version_total}
use Rattle.marker_words.specs.Compare.{text_cmp}
use Rattle.marker_environment.specs.Valuation.{Valuation}
use Rattle.marker_diagrams.specs.declared.node_id.NodeId.{NodeId}
use Rattle.marker_diagrams.specs.Id.{is_negated, place_of, same_id, signed_id}
use Rattle.marker_diagrams.specs.Diagram.{IsHeld, IsStore, node_of, truth}
use Rattle.marker_diagrams.proofs.IdLaws.{not_same_id, signed_id_back}
use Rattle.marker_diagrams.proofs.Canonicity.{one_truth}
use Rattle.marker_nodes.specs.declared.node.Branches.TheVariants as nodes
use Rattle.marker_nodes.specs.Branches.{value_at as pick, variable}
use Rattle.marker_nodes.specs.Node.{Node, is_constant, is_joined, markers, lowest}
use Rattle.marker_nodes.specs.Variable.{answer, of_text, of_version, truth_variable, variable_cmp}
use Rattle.marker_nodes.proofs.VariableLaws.{one_answer, one_variable}
use Rattle.marker_nodes.proofs.NodeLaws.{at_text, at_version, denied, high_picked, lawful, low_picked, other_sorts, same_text_variable, same_version, sort_truth}
use Rattle.marker_nodes.proofs.EdgeLaws.{not_true}
use Rattle.marker_order.specs.Order.{Mark, diagram_cmp, mark_cmp, marks_of}
use Rattle.marker_order.specs.declared.turns.Turn.{Turn}
use Rattle.marker_order.specs.Turns.{edge_turns, lower_cmp, turn_by, turns_cmp, turns_of, upper_cmp}
use Rattle.marker_order.proofs.AlikeLaws.{Alike, alike_same, constants, nodes as branches, same_alike}
use Rattle.marker_order.proofs.OrderLaws.{diagrams_tell, marks_total}
use Rattle.marker_order.proofs.TurnLaws.{EachChild, EachPart, by_variable, each_child, node_rest, on_constants, on_first_constant, on_second_constant, rests_order, then_equal}

-- ---- lists of marks that tie

abbrev marks_tie : List Mark → List Mark → Bool
marks_tie = eq_by_cmp (slice_cmp mark_cmp)

ties_equal : IsEquivalence marks_tie
ties_equal = eq_by_cmp_equiv (lists_total marks_total)

less_not : {G : Type 0} → Less ≡ Equal → G
less_not e = cc

greater_not : {G : Type 0} → Greater ≡ Equal → G
greater_not e = cc

then_parts : (r s : Ordering) → ordering_then r s ≡ Equal → (r ≡ Equal) × (s ≡ Equal)
then_parts r s h1 = grind arith

then_from : (r s : Ordering) → r ≡ Equal → s ≡ Equal → ordering_then r s ≡ Equal
then_from r s e f = ap (λ x. ordering_then x s) e ∙ f

-- ---- turns that tie

module _ (cmp : NodeId → NodeId → Ordering) where
  turn_parts : (r : Ordering) (c d : NodeId) (turns : List Turn) → turns_cmp cmp (turn_by r c d ∷ turns) ≡ Equal → (r ≡ Equal) × (cmp c d ≡ Equal) × (turns_cmp cmp turns ≡ Equal)
  turn_parts r c d turns h1 = grind arith

  turn_from : (r : Ordering) (c d : NodeId) (turns : List Turn) → r ≡ Equal → cmp c d ≡ Equal → turns_cmp cmp turns ≡ Equal → turns_cmp cmp (turn_by r c d ∷ turns) ≡ Equal
  turn_from r c d turns e f g = ap (λ x. turns_cmp cmp (turn_by x c d ∷ turns)) e ∙ then_from (cmp c d) (turns_cmp cmp turns) f g

-- bounds at cuts are equal if the cuts are
module _ {T : Type 0} (cmp : T → T → Ordering) where
  lowers_by : (v w : T) (x y : Bool) → lower_cmp cmp (cond x (Excluded v) (Included v)) (cond y (Excluded w) (Included w)) ≡ ordering_then (cmp v w) (bool_cmp x y)
  lowers_by v w x y = grind arith

  uppers_by : (v w : T) (x y : Bool) → upper_cmp cmp (cond x (Included v) (Excluded v)) (cond y (Included w) (Excluded w)) ≡ ordering_then (cmp v w) (bool_cmp x y)
  uppers_by v w x y = grind arith

  cut_lowers : (c d : Cut T) → lower_cmp cmp (lower_of c) (lower_of d) ≡ cut_cmp cmp c d
  cut_lowers c d = lowers_by c.value d.value c.above d.above

  cut_uppers : (c d : Cut T) → upper_cmp cmp (upper_of c) (upper_of d) ≡ cut_cmp cmp c d
  cut_uppers c d = uppers_by c.value d.value c.above d.above

  no_upper_by : (w : T) (y : Bool) → upper_cmp cmp Unbounded (cond y (Included w) (Excluded w)) ≡ Greater
  no_upper_by w y = grind arith

  upper_none_by : (v : T) (x : Bool) → upper_cmp cmp (cond x (Included v) (Excluded v)) Unbounded ≡ Less
  upper_none_by v x = grind arith

-- ---- edges that tie

-- the steps of a function of ids, with the marks of the ids
abbrev marked : {T : Type 0} → (NodeId → List Mark) → List (Cut T × NodeId) → List (Cut T × List Mark)
marked one xs = map (λ x. (x.0, one x.1)) xs

marked_value : {T : Type 0} (t : Cut T → Bool) (one : NodeId → List Mark) (v : NodeId) (xs : List (Cut T × NodeId)) → value_at t (one v) (marked one xs) ≡ one (value_at t v xs)
marked_value t one v [] = refl
marked_value t one v (x ∷ xs) = grind (arith, cond, marked_value t one x.1 xs)

marked_ascend : {T : Type 0} (cmp : Cut T → Cut T → Ordering) (one : NodeId → List Mark) (low : Option (Cut T)) (xs : List (Cut T × NodeId)) → ascends cmp low xs ≡ true → ascends cmp low (marked one xs) ≡ true
marked_ascend cmp one low [] h = refl
marked_ascend cmp one low (x ∷ xs) h = let q = and_parts _ _ h in and_from _ _ q.0 (marked_ascend cmp one (Some x.0) xs q.1)

module _ {T : Type 0} (cmp : T → T → Ordering) (one two : NodeId → List Mark) where
  abbrev child_cmp : NodeId → NodeId → Ordering
  child_cmp c d = slice_cmp mark_cmp (one c) (two d)

  -- whether the edges of two functions are equal, except for the first lower bound
  abbrev edges_tie : NodeId → NodeId → List (Cut T × NodeId) → List (Cut T × NodeId) → Bool
  edges_tie v w xs ys = marks_tie (one v) (two w) && same_steps (cut_eq (eq_by_cmp cmp)) marks_tie (marked one xs) (marked two ys)

  cuts_tie : (c d : Cut T) → cut_cmp cmp c d ≡ Equal → cut_eq (eq_by_cmp cmp) c d ≡ true
  cuts_tie c d h1 = grind arith

  tied_cuts : (c d : Cut T) → cut_eq (eq_by_cmp cmp) c d ≡ true → cut_cmp cmp c d ≡ Equal
  tied_cuts c d h1 = grind arith

  -- if the turns are equal, the edges are
  turns_tie : (low high : Bound T) (v w : NodeId) (xs ys : List (Cut T × NodeId)) → turns_cmp child_cmp (edge_turns cmp (parts_from low v xs) (parts_from high w ys)) ≡ Equal → edges_tie v w xs ys ≡ true
  turns_tie low high v w [] [] e = let q = turn_parts child_cmp (ordering_then (lower_cmp cmp low high) Equal) v w [] e in and_from _ _ (ap is_eq q.1) refl
  turns_tie low high v w [] (y ∷ ys) e =
      let q = turn_parts child_cmp (ordering_then (lower_cmp cmp low high) (upper_cmp cmp Unbounded (upper_of y.0))) v w (edge_turns cmp [] (parts_from (lower_of y.0) y.1 ys)) e in
      greater_not (sym (no_upper_by cmp y.0.value y.0.above) ∙ (then_parts _ _ q.0).1)
  turns_tie low high v w (x ∷ xs) [] e =
      let q = turn_parts child_cmp (ordering_then (lower_cmp cmp low high) (upper_cmp cmp (upper_of x.0) Unbounded)) v w (edge_turns cmp (parts_from (lower_of x.0) x.1 xs) []) e in
      less_not (sym (upper_none_by cmp x.0.value x.0.above) ∙ (then_parts _ _ q.0).1)
  turns_tie low high v w (x ∷ xs) (y ∷ ys) e =
      let q = turn_parts child_cmp (ordering_then (lower_cmp cmp low high) (upper_cmp cmp (upper_of x.0) (upper_of y.0))) v w (edge_turns cmp (parts_from (lower_of x.0) x.1 xs) (parts_from (lower_of y.0) y.1 ys)) e in
      let r = turns_tie (lower_of x.0) (lower_of y.0) x.1 y.1 xs ys q.2 in
      let s = and_parts _ _ r in
      and_from _ _ (ap is_eq q.1) (and_from _ _ (and_from _ _ (cuts_tie x.0 y.0 (sym (cut_uppers cmp x.0 y.0) ∙ (then_parts _ _ q.0).1)) s.0) s.1)

  -- and if the edges are equal, the turns are
  tied_turns : (low high : Bound T) (v w : NodeId) (xs ys : List (Cut T × NodeId)) → lower_cmp cmp low high ≡ Equal → edges_tie v w xs ys ≡ true → turns_cmp child_cmp (edge_turns cmp (parts_from low v xs) (parts_from high w ys)) ≡ Equal
  tied_turns low high v w [] [] l e = turn_from child_cmp (ordering_then (lower_cmp cmp low high) Equal) v w [] (then_from (lower_cmp cmp low high) Equal l refl) (is_equal _ ((and_parts _ _ e).0)) refl
  tied_turns low high v w [] (y ∷ ys) l e = absurd (false≢true ((and_parts _ _ e).1))
  tied_turns low high v w (x ∷ xs) [] l e = absurd (false≢true ((and_parts _ _ e).1))
  tied_turns low high v w (x ∷ xs) (y ∷ ys) l e =
      let q = and_parts _ _ e in
      let r = and_parts _ _ q.1 in
      let s = and_parts _ _ r.0 in
      let c = tied_cuts x.0 y.0 s.0 in
      turn_from child_cmp (ordering_then (lower_cmp cmp low high) (upper_cmp cmp (upper_of x.0) (upper_of y.0))) v w (edge_turns cmp (parts_from (lower_of x.0) x.1 xs) (parts_from (lower_of y.0) y.1 ys))
      (then_from (lower_cmp cmp low high) (upper_cmp cmp (upper_of x.0) (upper_of y.0)) l (cut_uppers cmp x.0 y.0 ∙ c))
      (is_equal _ q.0)
      (tied_turns (lower_of x.0) (lower_of y.0) x.1 y.1 xs ys (cut_lowers cmp x.0 y.0 ∙ c) (and_from _ _ s.1 r.1))

  module _ (o : IsTotalOrder cmp) where
    -- if the edges are equal, the children at each point are
    children_tie : (v w : NodeId) (xs ys : List (Cut T × NodeId)) → edges_tie v w xs ys ≡ true → (p : Point T) →
        marks_tie (one (value_at (stands_before (λ u. u) cmp p) v xs)) (two (value_at (stands_before (λ u. u) cmp p) w ys)) ≡ true
    children_tie v w xs ys e p =
        ap (λ l. marks_tie l (two (value_at (stands_before (λ u. u) cmp p) w ys))) (sym (marked_value (stands_before (λ u. u) cmp p) one v xs))
        ∙ ap (marks_tie (value_at (stands_before (λ u. u) cmp p) (one v) (marked one xs))) (sym (marked_value (stands_before (λ u. u) cmp p) two w ys))
        ∙ equal_values o ties_equal (eq_by_cmp cmp) (λ x y. refl) (one v) (two w) (marked one xs) (marked two ys) e p

    -- and if the children at each point are equal, and neighbors are not, the edges are equal
    tied_children : (v w : NodeId) (xs ys : List (Cut T × NodeId)) → ascends (cut_cmp cmp) None xs ≡ true → ascends (cut_cmp cmp) None ys ≡ true →
        is_merged marks_tie (one v) (marked one xs) ≡ true → is_merged marks_tie (two w) (marked two ys) ≡ true →
        ((p : Point T) → marks_tie (one (value_at (stands_before (λ u. u) cmp p) v xs)) (two (value_at (stands_before (λ u. u) cmp p) w ys)) ≡ true) → edges_tie v w xs ys ≡ true
    tied_children v w xs ys a b m n h = by_test (edges_tie v w xs ys) refl
      where
        by_test : (t : Bool) → edges_tie v w xs ys ≡ t → t ≡ true
        by_test true e = refl
        by_test false e =
            let d = unequal_point o ties_equal (eq_by_cmp cmp) (λ x y. refl) (one v) (two w) (marked one xs) (marked two ys) (marked_ascend (cut_cmp cmp) one None xs a) (marked_ascend (cut_cmp cmp) two None ys b) m n e in
            sym d.1
            ∙ ap (λ l. marks_tie l (value_at (stands_before (λ u. u) cmp d.0) (two w) (marked two ys))) (marked_value (stands_before (λ u. u) cmp d.0) one v xs)
            ∙ ap (marks_tie (one (value_at (stands_before (λ u. u) cmp d.0) v xs))) (marked_value (stands_before (λ u. u) cmp d.0) two w ys)
            ∙ h d.0

-- ---- diagrams that tie are alike

tied_same : (a b : Bool) → bool_cmp a b ≡ Equal → a ≡ b
tied_same a b h1 = grind arith

module _ (a b : List Node) (rules : IsStore markers a) (other_rules : IsStore markers b) where
  -- the marks of a child of an id
  abbrev under : List Node → NodeId → NodeId → List Mark
  under list s c = marks_of list (signed_id (is_negated s) c)

  -- the children at each valuation are equal if the turns of two nodes on one variable are
  picks_tie : (one two : NodeId → List Mark) (n m : Node) → variable_cmp (variable n) (variable m) ≡ Equal → turns_cmp (λ c d. slice_cmp mark_cmp (one c) (two d)) (turns_of n m) ≡ Equal →
      (v : Valuation) → slice_cmp mark_cmp (one (pick n v)) (two (pick m v)) ≡ Equal
  picks_tie one two (nodes.Version x es) (nodes.Version y fs) e h v =
      is_equal _
      (ap (λ z. marks_tie (one (value_of version_cmp es (v.version z))) (two (value_of version_cmp fs (v.version y)))) (same_version x y e)
      ∙ children_tie version_cmp one two version_total es.first fs.first es.rest.items fs.rest.items (turns_tie version_cmp one two Unbounded Unbounded es.first fs.first es.rest.items fs.rest.items h) (v.version y))
  picks_tie one two (nodes.Text x es) (nodes.Text y fs) e h v =
      is_equal _
      (ap (λ z. marks_tie (one (value_by string_bytes text_cmp es (v.text z))) (two (value_by string_bytes text_cmp fs (v.text y)))) (same_text_variable x y e)
      ∙ at_names string_bytes string_cmp text_cmp string_cmp_total nat_list_cmp_total (λ p q. refl) es fs es (λ c i d j k l. marks_tie (one c) (two d) ≡ true)
      (children_tie string_cmp one two string_cmp_total es.first fs.first es.rest.items fs.rest.items (turns_tie string_cmp one two Unbounded Unbounded es.first fs.first es.rest.items fs.rest.items h)) (v.text y))
  picks_tie one two (nodes.Truth x i j) (nodes.Truth y k l) e h v =
      let q = then_parts (slice_cmp mark_cmp (one i) (two k)) (ordering_then (slice_cmp mark_cmp (one j) (two l)) Equal) h in
      ap (λ t. slice_cmp mark_cmp (one (cond t i j)) (two (cond (answer y v) k l))) (one_answer x y v (one_variable (truth_variable x) (truth_variable y) e))
      ∙ by_answer q.0 ((then_parts _ _ q.1).0) (answer y v)
    where
      by_answer : slice_cmp mark_cmp (one i) (two k) ≡ Equal → slice_cmp mark_cmp (one j) (two l) ≡ Equal → (t : Bool) → slice_cmp mark_cmp (one (cond t i j)) (two (cond t k l)) ≡ Equal
      by_answer f g true = f
      by_answer f g false = g
  picks_tie one two (nodes.Version x es) (nodes.Text y fs) e h v = other_sorts (of_version x) (of_text y) 0 1 e refl refl (λ z. omega arith)
  picks_tie one two (nodes.Text y fs) (nodes.Version x es) e h v = other_sorts (of_text y) (of_version x) 1 0 e refl refl (λ z. omega arith)
  picks_tie one two (nodes.Version x es) (nodes.Truth y k l) e h v = other_sorts (of_version x) (truth_variable y) 0 2 e refl (sort_truth y) (λ z. omega arith)
  picks_tie one two (nodes.Truth y k l) (nodes.Version x es) e h v = other_sorts (truth_variable y) (of_version x) 2 0 e (sort_truth y) refl (λ z. omega arith)
  picks_tie one two (nodes.Text x es) (nodes.Truth y k l) e h v = other_sorts (of_text x) (truth_variable y) 1 2 e refl (sort_truth y) (λ z. omega arith)
  picks_tie one two (nodes.Truth y k l) (nodes.Text x es) e h v = other_sorts (truth_variable y) (of_text x) 2 1 e (sort_truth y) refl (λ z. omega arith)

  alike_by : (s t : NodeId) → diagram_cmp (a, s) (b, t) ≡ Equal → ((c d : NodeId) → place_of c < place_of s → diagram_cmp (a, c) (b, d) ≡ Equal → Alike markers a b c d) →
      (o p : Option Node) → node_of a s ≡ o → node_of b t ≡ p → Alike markers a b s t
  alike_by s t h ih None None e f = constants e f (tied_same (is_negated s) (is_negated t) (sym (on_constants a b rules other_rules s t e f) ∙ h))
  alike_by s t h ih (Some n) None e f = greater_not (sym (on_second_constant a b rules other_rules s t n e f) ∙ h)
  alike_by s t h ih None (Some m) e f = less_not (sym (on_first_constant a b rules other_rules s t m e f) ∙ h)
  alike_by s t h ih (Some n) (Some m) e f =
      let q = then_parts (variable_cmp (variable n) (variable m)) (slice_cmp mark_cmp (node_rest (under a s) n) (node_rest (under b t) m)) (sym (by_variable a b rules other_rules s t n m e f) ∙ h) in
      branches e f q.0 (λ v.
      ih (signed_id (is_negated s) (pick n v)) (signed_id (is_negated t) (pick m v)) ((rules.node (place_of s) n e).below v)
      (picks_tie (under a s) (under b t) n m q.0
      (sym (rests_order (under a s) (under b t) (λ c d. diagrams_tell a b (signed_id (is_negated s) c) (signed_id (is_negated t) d)) n m q.0) ∙ q.1) v))

  alike_below : (k : ℕ) (s t : NodeId) → place_of s < k → diagram_cmp (a, s) (b, t) ≡ Equal → Alike markers a b s t
  alike_below zero s t l h = absurd (omega arith)
  alike_below (suc k) s t l h = alike_by s t h (λ c d m. alike_below k c d (omega arith)) (node_of a s) (node_of b t) refl refl

  -- diagrams that tie are alike
  pub tied_alike : (s t : NodeId) → diagram_cmp (a, s) (b, t) ≡ Equal → Alike markers a b s t
  tied_alike s t h = alike_below (suc (place_of s)) s t (omega arith) h

  -- so they mean the same
  pub tied_mean : (s t : NodeId) → IsHeld a s → IsHeld b t → diagram_cmp (a, s) (b, t) ≡ Equal → (v : Valuation) → truth markers a s v ≡ truth markers b t v
  tied_mean s t i j h v = alike_same markers lawful a b rules other_rules s t i j (tied_alike s t h) v

-- ---- diagrams that are alike tie

-- neighbors of a node of a store do not tie
module _ (a : List Node) (rules : IsStore markers a) (s : NodeId) where
  abbrev ChildHeld : NodeId → Type 0
  ChildHeld c = IsHeld a (signed_id (is_negated s) c)

  abbrev child_marks : NodeId → List Mark
  child_marks c = marks_of a (signed_id (is_negated s) c)

  -- children with one list of marks are one
  untied : (c d : NodeId) → ChildHeld c → ChildHeld d → same_id c d ≡ false → marks_tie (child_marks c) (child_marks d) ≡ false
  untied c d i j e = by_test (marks_tie (child_marks c) (child_marks d)) refl
    where
      by_test : (t : Bool) → marks_tie (child_marks c) (child_marks d) ≡ t → t ≡ false
      by_test true f =
          absurd (not_same_id c d e
          (signed_id_back (is_negated s) c d
          (one_truth markers lawful a rules (signed_id (is_negated s) c) (signed_id (is_negated s) d) i j
          (tied_mean a a rules rules (signed_id (is_negated s) c) (signed_id (is_negated s) d) i j (is_equal _ f)))))
      by_test false f = refl

  merged_marks : {T : Type 0} (low : Bound T) (v : NodeId) (xs : List (Cut T × NodeId)) → EachPart ChildHeld (parts_from low v xs) → is_merged same_id v xs ≡ true → is_merged marks_tie (child_marks v) (marked child_marks xs) ≡ true
  merged_marks low v [] h m = refl
  merged_marks low v (x ∷ xs) h m =
      let q = and_parts _ _ m in
      and_from _ _ (ap not (untied v x.1 h.0 (first_held (lower_of x.0) x.1 xs h.1) (not_true (same_id v x.1) q.0))) (merged_marks (lower_of x.0) x.1 xs h.1 q.1)
    where
      first_held : {T : Type 0} (low : Bound T) (w : NodeId) (ys : List (Cut T × NodeId)) → EachPart ChildHeld (parts_from low w ys) → ChildHeld w
      first_held low w [] h = h.0
      first_held low w (y ∷ ys) h = h.0

module _ (a b : List Node) (rules : IsStore markers a) (other_rules : IsStore markers b) where
  -- nodes on one variable whose children tie at each valuation have turns that do
  turns_from : (s t : NodeId) (n m : Node) → variable_cmp (variable n) (variable m) ≡ Equal → EachChild (ChildHeld a rules s) n → EachChild (ChildHeld b other_rules t) m → is_joined n ≡ true → is_joined m ≡ true →
      ((v : Valuation) → slice_cmp mark_cmp (child_marks a rules s (pick n v)) (child_marks b other_rules t (pick m v)) ≡ Equal) →
      turns_cmp (λ c d. slice_cmp mark_cmp (child_marks a rules s c) (child_marks b other_rules t d)) (turns_of n m) ≡ Equal
  turns_from s t (nodes.Version x es) (nodes.Version y fs) e i j r q h =
      tied_turns version_cmp (child_marks a rules s) (child_marks b other_rules t) Unbounded Unbounded es.first fs.first es.rest.items fs.rest.items refl
      (tied_children version_cmp (child_marks a rules s) (child_marks b other_rules t) version_total es.first fs.first es.rest.items fs.rest.items es.ascending fs.ascending
      (merged_marks a rules s Unbounded es.first es.rest.items i r) (merged_marks b other_rules t Unbounded fs.first fs.rest.items j q)
      (λ p. ap is_eq (h (at_version p))))
  turns_from s t (nodes.Text x es) (nodes.Text y fs) e i j r q h =
      tied_turns string_cmp (child_marks a rules s) (child_marks b other_rules t) Unbounded Unbounded es.first fs.first es.rest.items fs.rest.items refl
      (tied_children string_cmp (child_marks a rules s) (child_marks b other_rules t) string_cmp_total es.first fs.first es.rest.items fs.rest.items es.ascending fs.ascending
      (merged_marks a rules s Unbounded es.first es.rest.items i r) (merged_marks b other_rules t Unbounded fs.first fs.rest.items j q)
      (λ p.
      ap (λ c. marks_tie (child_marks a rules s c) (child_marks b other_rules t (value_of string_cmp fs p))) (sym (value_by_name string_bytes string_cmp text_cmp string_cmp_total nat_list_cmp_total (λ u w. refl) es p))
      ∙ ap (λ d. marks_tie (child_marks a rules s (value_by string_bytes text_cmp es (point_map string_bytes p))) (child_marks b other_rules t d)) (sym (value_by_name string_bytes string_cmp text_cmp string_cmp_total nat_list_cmp_total (λ u w. refl) fs p))
      ∙ ap is_eq (h (at_text (point_map string_bytes p)))))
  turns_from s t (nodes.Truth x i' j') (nodes.Truth y k l) e i j r q h =
      then_from (slice_cmp mark_cmp (child_marks a rules s i') (child_marks b other_rules t k)) (ordering_then (slice_cmp mark_cmp (child_marks a rules s j') (child_marks b other_rules t l)) Equal)
      (ap (λ c. slice_cmp mark_cmp (child_marks a rules s c) (child_marks b other_rules t k)) (sym (high_picked x i' j')) ∙ ap (λ d. slice_cmp mark_cmp (child_marks a rules s (pick (nodes.Truth x i' j') lowest)) (child_marks b other_rules t d)) (sym (high_picked y k l)) ∙ h lowest)
      (then_equal (slice_cmp mark_cmp (child_marks a rules s j') (child_marks b other_rules t l))
      ∙ ap (λ c. slice_cmp mark_cmp (child_marks a rules s c) (child_marks b other_rules t l)) (sym (low_picked x i' j')) ∙ ap (λ d. slice_cmp mark_cmp (child_marks a rules s (pick (nodes.Truth x i' j') denied)) (child_marks b other_rules t d)) (sym (low_picked y k l)) ∙ h denied)
  turns_from s t (nodes.Version x es) (nodes.Text y fs) e i j r q h = refl
  turns_from s t (nodes.Text y fs) (nodes.Version x es) e i j r q h = refl
  turns_from s t (nodes.Version x es) (nodes.Truth y k l) e i j r q h = refl
  turns_from s t (nodes.Truth y k l) (nodes.Version x es) e i j r q h = refl
  turns_from s t (nodes.Text x es) (nodes.Truth y k l) e i j r q h = refl
  turns_from s t (nodes.Truth y k l) (nodes.Text x es) e i j r q h = refl

  joined : (list : List Node) → IsStore markers list → (t : NodeId) (n : Node) → node_of list t ≡ Some n → is_joined n ≡ true
  joined list store t n e = (and_parts (is_joined n) (not (is_constant n)) ((store.node (place_of t) n e).reduced)).0

  children_held : (list : List Node) → IsStore markers list → (t : NodeId) (n : Node) → IsHeld list t → node_of list t ≡ Some n → EachChild (λ c. IsHeld list (signed_id (is_negated t) c)) n
  children_held list store t n i e = each_child (λ c. IsHeld list (signed_id (is_negated t) c)) n (λ v. let l : place_of (pick n v) < place_of t = (store.node (place_of t) n e).below v in omega arith)

  -- diagrams that are alike tie
  alike_tie : (s t : NodeId) → IsHeld a s → IsHeld b t → Alike markers a b s t → diagram_cmp (a, s) (b, t) ≡ Equal
  alike_tie s t i j (constants e f g) = on_constants a b rules other_rules s t e f ∙ ap (bool_cmp (is_negated s)) (sym g) ∙ tied_itself bool_cmp_total (is_negated s)
  alike_tie s t i j (branches {n = n} {m = m} e f g h) =
      by_variable a b rules other_rules s t n m e f
      ∙ then_from (variable_cmp (variable n) (variable m)) (slice_cmp mark_cmp (node_rest (child_marks a rules s) n) (node_rest (child_marks b other_rules t) m)) g
      (rests_order (child_marks a rules s) (child_marks b other_rules t) (λ c d. diagrams_tell a b (signed_id (is_negated s) c) (signed_id (is_negated t) d)) n m g
      ∙ turns_from s t n m g (children_held a rules s n i e) (children_held b other_rules t m j f) (joined a rules s n e) (joined b other_rules t m f)
      (λ v.
      let l : place_of (pick n v) < place_of s = (rules.node (place_of s) n e).below v in
      let k : place_of (pick m v) < place_of t = (other_rules.node (place_of t) m f).below v in
      alike_tie (signed_id (is_negated s) (pick n v)) (signed_id (is_negated t) (pick m v)) (omega arith) (omega arith) (h v)))

  -- so diagrams that mean the same tie
  pub mean_tied : (s t : NodeId) → IsHeld a s → IsHeld b t → ((v : Valuation) → truth markers a s v ≡ truth markers b t v) → diagram_cmp (a, s) (b, t) ≡ Equal
  mean_tied s t i j same = alike_tie s t i j (same_alike markers lawful a b rules other_rules s t i j same)
