-- The order of diagrams is total, and the marks of no diagram are the beginning of another's.
use Rattle.std.proofs.Common.{◌≡◌, ◌==◌, suc, Bool, cond, List, [], ◌∷◌, ◌++◌, length, refl, sym, ap, ◌∙◌, arith}
use Rattle.std.specs.Ordering.{ordering_then}
use Rattle.std.specs.declared.cmp.Ordering.{Ordering}
use Rattle.std.specs.declared.cmp.Ordering.TheVariants.{Less, Equal, Greater}
use Rattle.std.specs.declared.ops.Bound.{Bound}
use Rattle.std.specs.Cmp.{IsTotalOrder}
use Rattle.std.specs.Cmp.Lexicographic.{slice_cmp, options_total, nat_list_cmp_total, lists_total}
use Rattle.std.proofs.lemmas.Cmp.{on_total, then_total, nat_cmp_total}
use Rattle.std.proofs.lemmas.List.{append_assoc}
use Rattle.version_ranges.specs.Parts.{Part, parts_of}
use Rattle.version_ranges.proofs.PartLaws.{point_total}
use Rattle.pep440_version.specs.Order.{version_cmp}
use Rattle.pep440_version.specs.OrderLaws.{version_total}
use Rattle.marker_diagrams.specs.declared.node_id.NodeId.{NodeId}
use Rattle.marker_diagrams.specs.Id.{place_of, is_negated, signed_id}
use Rattle.marker_words.specs.Compare.{text_cmp}
use Rattle.marker_nodes.specs.Node.{Node}
use Rattle.marker_nodes.specs.declared.node.Branches.TheVariants.{Version, Text, Truth}
use Rattle.marker_nodes.specs.declared.variable.TruthVariable.{TruthVariable}
use Rattle.marker_nodes.specs.declared.variable.TruthVariable.TheVariants as truths
use Rattle.marker_nodes.specs.Variable.{of_version, of_text, truth_variable}
use Rattle.std.specs.Prelude.{string_bytes}
use Rattle.std.specs.Range.Bound.{bound_map}
use Rattle.marker_words.specs.declared.key.VersionVariable.{VersionVariable}
use Rattle.marker_words.specs.declared.key.TextVariable.{TextVariable}
use Rattle.marker_order.specs.Order.{Mark, mark_cmp, end, constant, asks, version_lower, version_upper, text_lower, text_upper, edges_marks, node_marks, marks_of, diagram_cmp, Tells}

less_equal : {G : Type 0} → Less ≡ Equal → G
less_equal e = cc

greater_equal : {G : Type 0} → Greater ≡ Equal → G
greater_equal e = cc

tells_nothing : Tells [] []
tells_nothing = record { goes_on = λ x y. refl }

tells_more : {s t : Mark} {a b : List Mark} → (mark_cmp s t ≡ Equal → Tells a b) → Tells (s ∷ a) (t ∷ b)
tells_more {s} {t} {a} {b} h = record { goes_on = λ x y. by_order x y (mark_cmp s t) refl }
  where
    by_order : (x y : List Mark) (r : Ordering) → mark_cmp s t ≡ r → ordering_then (mark_cmp s t) (slice_cmp mark_cmp (a ++ x) (b ++ y)) ≡ ordering_then (ordering_then (mark_cmp s t) (slice_cmp mark_cmp a b)) (slice_cmp mark_cmp x y)
    by_order x y Less e = ap (λ r. ordering_then r (slice_cmp mark_cmp (a ++ x) (b ++ y))) e ∙ ap (λ r. ordering_then (ordering_then r (slice_cmp mark_cmp a b)) (slice_cmp mark_cmp x y)) (sym e)
    by_order x y Greater e = ap (λ r. ordering_then r (slice_cmp mark_cmp (a ++ x) (b ++ y))) e ∙ ap (λ r. ordering_then (ordering_then r (slice_cmp mark_cmp a b)) (slice_cmp mark_cmp x y)) (sym e)
    by_order x y Equal e = ap (λ r. ordering_then r (slice_cmp mark_cmp (a ++ x) (b ++ y))) e ∙ (h e).goes_on x y ∙ ap (λ r. ordering_then (ordering_then r (slice_cmp mark_cmp a b)) (slice_cmp mark_cmp x y)) (sym e)

tells_both : {a b c d : List Mark} → Tells a b → Tells c d → Tells (a ++ c) (b ++ d)
tells_both h1 h2 = grind (arith, append_assoc)

module _ {T : Type 0} (lower upper : Bound T → Mark) (first : (b : Bound T) → (mark_cmp end (lower b) ≡ Less) × (mark_cmp (lower b) end ≡ Greater)) (one two : NodeId → List Mark) (h : (c d : NodeId) → Tells (one c) (two d)) where
  edges_tell : (ps qs : List (Part T NodeId)) → Tells (edges_marks lower upper one ps) (edges_marks lower upper two qs)
  edges_tell [] [] = tells_more (λ e. tells_nothing)
  edges_tell [] (q ∷ qs) = tells_more (λ e. less_equal (sym (first q.lower).0 ∙ e))
  edges_tell (p ∷ ps) [] = tells_more (λ e. greater_equal (sym (first p.lower).1 ∙ e))
  edges_tell (p ∷ ps) (q ∷ qs) = grind (arith, tells_more, tells_both, edges_tell ps qs)

-- versions come before texts, and texts before substring tests and extras
version_truth : (x : VersionVariable) (y : TruthVariable) → mark_cmp (asks (of_version x)) (asks (truth_variable y)) ≡ Less
version_truth x y = grind arith

truth_version : (x : VersionVariable) (y : TruthVariable) → mark_cmp (asks (truth_variable y)) (asks (of_version x)) ≡ Greater
truth_version x y = grind arith

text_truth : (x : TextVariable) (y : TruthVariable) → mark_cmp (asks (of_text x)) (asks (truth_variable y)) ≡ Less
text_truth x y = grind arith

truth_text : (x : TextVariable) (y : TruthVariable) → mark_cmp (asks (truth_variable y)) (asks (of_text x)) ≡ Greater
truth_text x y = grind arith

nodes_tell : (one two : NodeId → List Mark) → ((c d : NodeId) → Tells (one c) (two d)) → (n m : Node) → Tells (node_marks one n) (node_marks two m)
nodes_tell one two h (Version x es) (Version y fs) = tells_more (λ e. edges_tell version_lower version_upper (λ b. (refl, refl)) one two h (parts_of es) (parts_of fs))
nodes_tell one two h (Version x es) (Text y fs) = tells_more (λ e. less_equal e)
nodes_tell one two h (Version x es) (Truth y k l) = tells_more (λ e. less_equal (sym (version_truth x y) ∙ e))
nodes_tell one two h (Text x es) (Version y fs) = tells_more (λ e. greater_equal e)
nodes_tell one two h (Text x es) (Text y fs) = tells_more (λ e. edges_tell (λ b. text_lower (bound_map string_bytes b)) (λ b. text_upper (bound_map string_bytes b)) (λ b. (refl, refl)) one two h (parts_of es) (parts_of fs))
nodes_tell one two h (Text x es) (Truth y k l) = tells_more (λ e. less_equal (sym (text_truth x y) ∙ e))
nodes_tell one two h (Truth x i j) (Version y fs) = tells_more (λ e. greater_equal (sym (truth_version y x) ∙ e))
nodes_tell one two h (Truth x i j) (Text y fs) = tells_more (λ e. greater_equal (sym (truth_text y x) ∙ e))
nodes_tell one two h (Truth x i j) (Truth y k l) = tells_more (λ e. tells_both (h i k) (h j l))

constant_node : (b : Bool) (n : Node) (marks : NodeId → List Mark) (rest : List Mark) → Tells (constant b ∷ rest) (node_marks marks n)
constant_node b n marks rest = grind (arith, tells_more, less_equal)

node_constant : (b : Bool) (n : Node) (marks : NodeId → List Mark) (rest : List Mark) → Tells (node_marks marks n) (constant b ∷ rest)
node_constant b n marks rest = grind arith

under_test : {a b c : List Mark} (t : Bool) → Tells a c → Tells b c → Tells (cond t a b) c
under_test t h1 h2 = grind arith

test_under : {a b c : List Mark} (t : Bool) → Tells c a → Tells c b → Tells c (cond t a b)
test_under t h1 h2 = grind arith

node_tells : (n : Node) (one : NodeId → List Mark) → ((b : List Node) (c d : NodeId) → Tells (one c) (marks_of b d)) → (b : List Node) (t : NodeId) → Tells (node_marks one n) (marks_of b t)
node_tells n one h [] t = node_constant (is_negated t) n one []
node_tells n one h (m ∷ b) t = test_under (place_of t == suc (length b)) (nodes_tell one (λ c. marks_of b (signed_id (is_negated t) c)) (λ c d. h b c (signed_id (is_negated t) d)) n m) (node_tells n one h b t)

constant_tells : (negated : Bool) (b : List Node) (t : NodeId) → Tells (constant negated ∷ []) (marks_of b t)
constant_tells negated [] t = tells_more (λ e. tells_nothing)
constant_tells negated (m ∷ b) t = test_under (place_of t == suc (length b)) (constant_node negated m (λ c. marks_of b (signed_id (is_negated t) c)) []) (constant_tells negated b t)

-- the marks of a diagram end where they end by themselves
pub diagrams_tell : (a b : List Node) (s t : NodeId) → Tells (marks_of a s) (marks_of b t)
diagrams_tell [] b s t = constant_tells (is_negated s) b t
diagrams_tell (n ∷ a) b s t =
    under_test (place_of s == suc (length a)) (node_tells n (λ c. marks_of a (signed_id (is_negated s) c)) (λ d c e. diagrams_tell a d (signed_id (is_negated s) c) e) b t) (diagrams_tell a b s t)

-- the order of marks is total, and so is that of diagrams
pub marks_total : IsTotalOrder mark_cmp
marks_total = then_total (on_total (λ (m : Mark). m.sort) nat_cmp_total) (then_total (on_total (λ (m : Mark). m.variable) nat_list_cmp_total) (then_total (on_total (λ (m : Mark). m.version) (options_total (point_total version_cmp version_total))) (on_total (λ (m : Mark). m.text) (options_total (point_total text_cmp nat_list_cmp_total)))))

pub diagrams_total : IsTotalOrder diagram_cmp
diagrams_total = on_total (λ (d : List Node × NodeId). marks_of d.0 d.1) (lists_total marks_total)
