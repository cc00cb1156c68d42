-- Sets of the values of one variable, and the ids that they come from.
use Rattle.std.proofs.Common.{◌≡◌, ℕ, ◌⊎◌, inl, inr, Bool, true, false, cond, ◌&&◌, List, [], ◌∷◌, ◌++◌, length, Some, slice_get, string_bytes, refl, sym, ap, ◌∙◌, arith}
use Rattle.std.proofs.lemmas.List.{nil_from_length}
use Rattle.std.specs.Prelude.{String}
use Rattle.std.specs.Borrow.{Bor}
use Rattle.std.specs.Global.{Global}
use Rattle.std.specs.Cmp.Lexicographic.{nat_list_cmp_total}
use Rattle.std.specs.String.{string_cmp, string_cmp_total}
use Rattle.std.specs.declared.cmp.Ordering.{Ordering}
use Rattle.std.proofs.lemmas.Bool.{and_parts}
use Rattle.version_ranges.specs.Bounds.{IsCloned, IsKeptByClones, all_bounds, all_cuts, all_sets}
use Rattle.version_ranges.specs.declared.cuts.Cuts.{Cuts}
use Rattle.version_ranges.specs.declared.ranges.Ranges.{Ranges}
use Rattle.version_ranges.specs.Point.{Point}
use Rattle.version_ranges.specs.Cuts.{value_by, value_of}
use Rattle.version_ranges.specs.Ranges.{contains_by, contains_point}
use Rattle.version_ranges.specs.Gather.{IsGathered}
use Rattle.version_ranges.proofs.Elsewhere.{at_names}
use Rattle.pep440_version.specs.Parts.{Parts}
use Rattle.pep440_version.specs.Order.{version_cmp}
use Rattle.marker_words.specs.declared.key.TextVariable.{TextVariable}
use Rattle.marker_words.specs.declared.key.VersionVariable.{VersionVariable}
use Rattle.marker_words.specs.Compare.{text_cmp}
use Rattle.marker_environment.specs.Valuation.{Valuation}
use Rattle.marker_diagrams.specs.declared.node_id.NodeId.{NodeId}
use Rattle.marker_diagrams.specs.declared.node_id.TheConstants.NodeId.{TRUE, FALSE}
use Rattle.marker_diagrams.specs.Id.{is_negated, opposite, same_id, signed_id}
use Rattle.marker_diagrams.specs.Diagram.{node_of, truth, IsStore}
use Rattle.marker_diagrams.proofs.IdLaws.{same_id_is}
use Rattle.marker_nodes.specs.Branches.{value_at}
use Rattle.marker_nodes.specs.Node.{Node, markers}
use Rattle.marker_nodes.proofs.Descents.{down_means}
use Rattle.marker_simplifications.proofs.TruthLaws.{constant_means}

-- the two last items of a list, if it has no others
pub two_left : {Q : Type 0} (old mid rest : List Q) (x y : Q) → old ≡ mid ++ (y ∷ []) → mid ≡ rest ++ (x ∷ []) → length rest ≡ 0 → old ≡ x ∷ y ∷ []
two_left old mid rest x y h1 h2 h3 = grind (arith, nil_from_length)

one_of_two : {Q : Type 0} (x y q : Q) (i : ℕ) → slice_get (x ∷ y ∷ []) i ≡ Some q → (x ≡ q) ⊎ (y ≡ q)
one_of_two x y q i h1 = grind arith

module _ {T : Type 0} {a : _} {b : _} {c : _} {a' : _} {b' : _} {c' : _} (cmp : T → T → Ordering) (edges : Cuts T NodeId a b c) (inside : NodeId) (pairs : List (Bor NodeId × Ranges T a' b' c')) where
  -- each value of a function is an id or its negation
  abbrev OneOrOther : Type 0
  OneOrOther = (i : ℕ) (q : Bor NodeId × Ranges T a' b' c') → slice_get pairs i ≡ Some q → (q.0.now ≡ inside) ⊎ (q.0.now ≡ opposite inside)

  module _ (h : IsGathered cmp same_id edges pairs) (each : OneOrOther) (j : ℕ) (z : Bor NodeId × Ranges T a' b' c') (found : slice_get pairs j ≡ Some z) (is : z.0.now ≡ inside) (p : Point T) where
    inside_set : contains_point cmp z.1 p ≡ true → value_of cmp edges p ≡ inside
    inside_set e = sym (same_id_is z.0.now (value_of cmp edges p) (sym (h.sets j z found p) ∙ e)) ∙ is

    outside_set : contains_point cmp z.1 p ≡ false → (v : NodeId) → value_of cmp edges p ≡ v → (v ≡ inside) ⊎ (v ≡ opposite inside) → value_of cmp edges p ≡ opposite inside
    outside_set h1 v h2 h3 = grind arith

    points_by : (s : Bool) → contains_point cmp z.1 p ≡ s → value_of cmp edges p ≡ cond s inside (opposite inside)
    points_by true e = inside_set e
    points_by false e =
        let k = h.covers p in
        outside_set e k.1.0.now (sym (same_id_is k.1.0.now (value_of cmp edges p) k.3)) (each k.0 k.1 k.2)

    points_at : value_of cmp edges p ≡ cond (contains_point cmp z.1 p) inside (opposite inside)
    points_at = points_by (contains_point cmp z.1 p) refl

  module _ (x y : Bor NodeId × Ranges T a' b' c') (two : pairs ≡ x ∷ y ∷ []) (h : IsGathered cmp same_id edges pairs) where
    at_two : (i : ℕ) (q : Bor NodeId × Ranges T a' b' c') → slice_get (x ∷ y ∷ []) i ≡ Some q → slice_get pairs i ≡ Some q
    at_two i q e = ap (λ (l : List (Bor NodeId × Ranges T a' b' c')). slice_get l i) two ∙ e

    of_two : (x.0.now ≡ inside) ⊎ (x.0.now ≡ opposite inside) → (y.0.now ≡ inside) ⊎ (y.0.now ≡ opposite inside) → OneOrOther
    of_two h1 h2 = grind arith

    -- the set of the first of two values, and of the last one
    pub first_points : x.0.now ≡ inside → y.0.now ≡ opposite inside → (p : Point T) → value_of cmp edges p ≡ cond (contains_point cmp x.1 p) inside (opposite inside)
    first_points f g p = points_at h (of_two (inl f) (inr g)) 0 x (at_two 0 x refl) f p

    pub last_points : x.0.now ≡ opposite inside → y.0.now ≡ inside → (p : Point T) → value_of cmp edges p ≡ cond (contains_point cmp y.1 p) inside (opposite inside)
    last_points f g p = points_at h (of_two (inr f) (inl g)) 1 y (at_two 1 y refl) g p

-- the bounds of the sets of two values
module _ {T : Type 0} {a : _} {b : _} {c : _} {a' : _} {b' : _} {c' : _} (C : T → T → Type 0) (edges : Cuts T NodeId a b c) (pairs : List (Bor NodeId × Ranges T a' b' c')) (x y : Bor NodeId × Ranges T a' b' c')
    (two : pairs ≡ x ∷ y ∷ []) (h : IsCloned C all_cuts edges all_sets pairs) where
  both_pass : (test : T → Bool) → IsKeptByClones C test → all_cuts test edges ≡ true → (all_bounds test x.1 && (all_bounds test y.1 && true)) ≡ true
  both_pass test k e = sym (ap (all_sets test) two) ∙ h test k e

  pub first_bounds : IsCloned C all_cuts edges all_bounds x.1
  first_bounds test k e = (and_parts (all_bounds test x.1) _ (both_pass test k e)).0

  pub last_bounds : IsCloned C all_cuts edges all_bounds y.1
  last_bounds test k e = (and_parts (all_bounds test y.1) _ ((and_parts (all_bounds test x.1) _ (both_pass test k e)).1)).0

-- children that are a constant or its negation
signed_constant : (s b : Bool) → signed_id s (cond b (signed_id s TRUE) (opposite (signed_id s TRUE))) ≡ cond b TRUE FALSE
signed_constant s b = grind arith

-- a set of texts by the bytes of the texts
pub text_points : {a : _} {b : _} {c : _} {a' : _} {b' : _} {c' : _} (edges : Cuts (String Global) NodeId a b c) (inside : Cuts (String Global) Bool a' b' c') (t : NodeId) →
    ((p : Point (String Global)) → value_of string_cmp edges p ≡ cond (value_of string_cmp inside p) t (opposite t)) →
    (q : Point (List ℕ)) → value_by string_bytes text_cmp edges q ≡ cond (value_by string_bytes text_cmp inside q) t (opposite t)
text_points edges inside t h q = at_names string_bytes string_cmp text_cmp string_cmp_total nat_list_cmp_total (λ a b. refl) edges inside inside (λ i k b j u l. i ≡ cond b t (opposite t)) h q

module _ (nodes : List Node) (store : IsStore markers nodes) (t inside : NodeId) (is : inside ≡ signed_id (is_negated t) TRUE) where
  points_truth : (n : Node) → Some n ≡ node_of nodes t → (v : Valuation) (b : Bool) → value_at n v ≡ cond b inside (opposite inside) → b ≡ truth markers nodes t v
  points_truth n stands v b e =
      sym (constant_means nodes v b)
      ∙ down_means nodes store t (cond b TRUE FALSE) n stands v
      (sym (signed_constant (is_negated t) b) ∙ ap (λ i. signed_id (is_negated t) (cond b i (opposite i))) (sym is) ∙ ap (signed_id (is_negated t)) (sym e))

  -- the set of an id's values says what the id says
  pub version_set_truth : {a : _} {b : _} {c : _} {a' : _} {b' : _} {c' : _} (n : Node) (x : VersionVariable) (edges : Cuts Parts NodeId a b c) (range : Ranges Parts a' b' c') → Some n ≡ node_of nodes t →
      ((v : Valuation) → value_at n v ≡ value_of version_cmp edges (v.version x)) →
      ((p : Point Parts) → value_of version_cmp edges p ≡ cond (contains_point version_cmp range p) inside (opposite inside)) → (v : Valuation) → contains_point version_cmp range (v.version x) ≡ truth markers nodes t v
  version_set_truth n x edges range stands children h v = points_truth n stands v (contains_point version_cmp range (v.version x)) (children v ∙ h (v.version x))

  pub text_set_truth : {a : _} {b : _} {c : _} {a' : _} {b' : _} {c' : _} (n : Node) (x : TextVariable) (edges : Cuts (String Global) NodeId a b c) (range : Ranges (String Global) a' b' c') → Some n ≡ node_of nodes t →
      ((v : Valuation) → value_at n v ≡ value_by string_bytes text_cmp edges (v.text x)) →
      ((p : Point (String Global)) → value_of string_cmp edges p ≡ cond (contains_point string_cmp range p) inside (opposite inside)) → (v : Valuation) → contains_by string_bytes text_cmp range (v.text x) ≡ truth markers nodes t v
  text_set_truth n x edges range stands children h v = points_truth n stands v (contains_by string_bytes text_cmp range (v.text x)) (children v ∙ text_points edges range.cuts inside h (v.text x))

-- the points that two sets of texts have together
pub texts_joined : {a : _} {b : _} {c : _} (left right both : Ranges (String Global) a b c) (joins : Bool → Bool → Bool) →
    ((p : Point (String Global)) → contains_point string_cmp both p ≡ joins (contains_point string_cmp left p) (contains_point string_cmp right p)) →
    (key other : TextVariable) → key ≡ other → (v : Valuation) →
    contains_by string_bytes text_cmp both (v.text key) ≡ joins (contains_by string_bytes text_cmp left (v.text key)) (contains_by string_bytes text_cmp right (v.text other))
texts_joined left right both joins h key other same v =
    at_names string_bytes string_cmp text_cmp string_cmp_total nat_list_cmp_total (λ a b. refl) left.cuts right.cuts both.cuts (λ x i y j z k. z ≡ joins x y) h (v.text key)
    ∙ ap (λ y. joins (contains_by string_bytes text_cmp left (v.text key)) (contains_by string_bytes text_cmp right (v.text y))) same
