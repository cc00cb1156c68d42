-- Ids that are true where a test of valuations is.
use Rattle.std.proofs.Common.{◌≡◌, ℕ, ◌⊎◌, Bool, true, not, cond, List, length, string_bytes, refl, sym, ap, ◌∙◌, subst, arith}
use Rattle.std.specs.Prelude.{Result, IfOk, String}
use Rattle.std.specs.Global.{Global}
use Rattle.std.specs.Cmp.Lexicographic.{nat_list_cmp_total}
use Rattle.std.specs.String.{string_cmp, string_cmp_total}
use Rattle.std.specs.declared.alloc.AllocError.{AllocError}
use Rattle.std.specs.Ordering.{is_eq, is_ne}
use Rattle.std.specs.declared.cmp.Ordering.{Ordering}
use Rattle.std.specs.declared.cmp.Ordering.TheVariants as order
use Rattle.version_ranges.specs.declared.cuts.Cuts.{Cuts}
use Rattle.version_ranges.specs.Point.{Point}
use Rattle.version_ranges.specs.Cuts.{value_by, value_of}
use Rattle.version_ranges.proofs.Elsewhere.{at_names}
use Rattle.version_ranges.proofs.FunctionLaws.{beside_by_name}
use Rattle.marker_words.specs.declared.key.TextVariable.{TextVariable}
use Rattle.marker_words.specs.declared.key.MarkerValueString.{MarkerValueString}
use Rattle.marker_words.specs.Key.{variable_of}
use Rattle.marker_words.specs.declared.operator.MarkerOperator.{MarkerOperator}
use Rattle.marker_words.specs.declared.operator.MarkerOperator.TheVariants.{Equal, NotEqual, GreaterThan, GreaterEqual, LessThan, LessEqual}
use Rattle.marker_words.specs.Compare.{beside, holds_beside}
use Rattle.marker_environment.specs.Valuation.{Valuation}
use Rattle.marker_parts.specs.Expression as asked
use Rattle.marker_parts.specs.Expression.{holds_text}
use Rattle.marker_diagrams.specs.declared.node_id.NodeId.{NodeId}
use Rattle.marker_diagrams.specs.declared.node_id.TheConstants.NodeId.{TRUE, FALSE}
use Rattle.marker_diagrams.specs.Id.{opposite, same_id}
use Rattle.marker_diagrams.specs.Diagram.{IsHeld, truth, IsAfter, IsChoice, AreChildren}
use Rattle.marker_diagrams.proofs.IdLaws.{same_id_is}
use Rattle.marker_diagrams.proofs.NodeLaws.{node_bounds, truth_signed}
use Rattle.marker_nodes.specs.Variable.{Variable}
use Rattle.marker_words.specs.Compare.{text_cmp}
use Rattle.marker_nodes.specs.Node.{Node, markers}
use Rattle.marker_simplifications.specs.Expression.{IsInvalid, IsTruthOf}
use Rattle.marker_nodes.proofs.Firsts.{true_is, false_is}

not_not : (b : Bool) → not (not b) ≡ b
not_not b = grind arith

-- children that are exchanged
pub exchanged : (b : Bool) → cond b FALSE TRUE ≡ cond (not b) TRUE FALSE
exchanged b = grind arith

module _ (nodes : List Node) where
  -- the constants are in every list, and depend on nothing
  constant_held : (b : Bool) → IsHeld nodes (cond b TRUE FALSE)
  constant_held b = grind arith

  constant_after : (x : Variable) (b : Bool) → IsAfter markers nodes x (cond b TRUE FALSE)
  constant_after x b = grind (arith, length, node_bounds)

  pub constant_means : (v : Valuation) (b : Bool) → truth markers nodes (cond b TRUE FALSE) v ≡ b
  constant_means v b = grind (arith, true_is, false_is)

  module _ (x : Variable) (test : Valuation → Bool) (child : Valuation → NodeId) (decided : (v : Valuation) → child v ≡ cond (test v) TRUE FALSE) where
    -- children that are constants may be those of each node
    pub decided_children : AreChildren markers nodes x child
    decided_children = record {
      held = λ v. subst (λ t. IsHeld nodes t) (sym (decided v)) (constant_held (test v));
      after = λ v. subst (λ t. IsAfter markers nodes x t) (sym (decided v)) (constant_after x (test v));
    }

    -- and it is true where they are
    pub decided_truth : (r : Result NodeId AllocError) → IfOk r (IsChoice markers nodes x child) → IfOk r (IsTruthOf nodes test)
    decided_truth r h1 = grind (arith, constant_means)

  -- the negation of an id that is true where the test is not
  pub negated_truth : (t : NodeId) (test : Valuation → Bool) → IsTruthOf nodes (λ v. not (test v)) t → IsTruthOf nodes test (opposite t)
  negated_truth t test h = record { held = h.held; means = λ v. truth_signed markers nodes true t v ∙ ap not (h.means v) ∙ not_not (test v) }

  -- the same test
  pub same_truth : (t : NodeId) (test other : Valuation → Bool) → IsTruthOf nodes test t → ((v : Valuation) → test v ≡ other v) → IsTruthOf nodes other t
  same_truth t test other h e = record { held = h.held; means = λ v. h.means v ∙ e v }

pub text_exchanged : {a : _} {b : _} {c : _} {a' : _} {b' : _} {c' : _} (edges : Cuts (String Global) NodeId a b c) (inside : Cuts (String Global) Bool a' b' c') →
    ((p : Point (String Global)) → same_id (value_of string_cmp edges p) (cond (value_of string_cmp inside p) FALSE TRUE) ≡ true) →
    (q : Point (List ℕ)) → value_by string_bytes text_cmp edges q ≡ cond (not (value_by string_bytes text_cmp inside q)) TRUE FALSE
text_exchanged edges inside h q =
    same_id_is (value_by string_bytes text_cmp edges q) (cond (value_by string_bytes text_cmp inside q) FALSE TRUE)
    (at_names string_bytes string_cmp text_cmp string_cmp_total nat_list_cmp_total (λ a b. refl) edges inside inside (λ t i b j u k. same_id t (cond b FALSE TRUE) ≡ true) h q)
    ∙ exchanged (value_by string_bytes text_cmp inside q)

-- the texts that are in this order to a text
pub texts_beside : {a : _} {b : _} {c : _} (operator : MarkerOperator) (text : String Global) (inside : Cuts (String Global) Bool a b c) →
    ((p : Point (String Global)) → value_of string_cmp inside p ≡ holds_beside operator (beside string_cmp p text)) →
    (q : Point (List ℕ)) → value_by string_bytes text_cmp inside q ≡ holds_beside operator (beside text_cmp q (string_bytes text))
texts_beside operator text inside h q = beside_by_name string_bytes string_cmp text_cmp string_cmp_total nat_list_cmp_total (λ a b. refl) inside (holds_beside operator) text h q

-- the id of such a set is that of the comparison
pub compared_truth : {a : _} {b : _} {c : _} (nodes : List Node) (t : NodeId) (operator : MarkerOperator) (key : MarkerValueString) (x : TextVariable) (text : String Global) (inside : Cuts (String Global) Bool a b c) → x ≡ variable_of key →
    ((p : Point (String Global)) → value_of string_cmp inside p ≡ holds_beside operator (beside string_cmp p text)) → IsTruthOf nodes (λ v. value_by string_bytes text_cmp inside (v.text x)) t →
    ((v : Valuation) → holds_beside operator (beside text_cmp (v.text (variable_of key)) (string_bytes text)) ≡ holds_text operator key (string_bytes text) v) → IsTruthOf nodes (holds_text operator key (string_bytes text)) t
compared_truth nodes t operator key x text inside e h asks plain =
    same_truth nodes t (λ v. value_by string_bytes text_cmp inside (v.text x)) (holds_text operator key (string_bytes text)) asks
    (λ v. texts_beside operator text inside h (v.text x) ∙ ap (λ y. holds_beside operator (beside text_cmp (v.text y) (string_bytes text))) e ∙ plain v)

unequal : (o : Ordering) → not (is_eq o) ≡ is_ne o
unequal o = grind arith

-- and the negated id of the set of the text alone is that of `!=`
pub differing_truth : {a : _} {b : _} {c : _} (nodes : List Node) (t : NodeId) (operator : MarkerOperator) (key : MarkerValueString) (x : TextVariable) (text : String Global) (inside : Cuts (String Global) Bool a b c) → operator ≡ NotEqual → x ≡ variable_of key →
    ((p : Point (String Global)) → value_of string_cmp inside p ≡ holds_beside Equal (beside string_cmp p text)) → IsTruthOf nodes (λ v. value_by string_bytes text_cmp inside (v.text x)) t →
    IsTruthOf nodes (holds_text operator key (string_bytes text)) (opposite t)
differing_truth nodes t operator key x text inside n e h asks =
    let same = compared_truth nodes t Equal key x text inside e h asks (λ v. refl) in
    subst (λ o. IsTruthOf nodes (holds_text o key (string_bytes text)) (opposite t)) (sym n) (record {
      held = same.held;
      means = λ v. truth_signed markers nodes true t v ∙ ap not (same.means v) ∙ unequal (beside text_cmp (v.text (variable_of key)) (string_bytes text));
    })

-- the operators about order but `!=`
abbrev Orders : MarkerOperator → Type 0
Orders o = (o ≡ Equal) ⊎ ((o ≡ GreaterThan) ⊎ ((o ≡ GreaterEqual) ⊎ ((o ≡ LessThan) ⊎ (o ≡ LessEqual))))

each_order : (P : MarkerOperator → Type 0) → P Equal → P GreaterThan → P GreaterEqual → P LessThan → P LessEqual → (o : MarkerOperator) → Orders o → P o
each_order P h1 h2 h3 h4 h5 o h6 = grind arith

pub order_holds : (o : MarkerOperator) → Orders o → (key : MarkerValueString) (value : List ℕ) (v : Valuation) → holds_beside o (beside text_cmp (v.text (variable_of key)) value) ≡ holds_text o key value v
order_holds o h key value v = each_order (λ p. holds_beside p (beside text_cmp (v.text (variable_of key)) value) ≡ holds_text p key value v) refl refl refl refl refl o h

pub order_is_valid : (o : MarkerOperator) → Orders o → (key : MarkerValueString) (value : List ℕ) → ¬ IsInvalid (asked.text key o value)
order_is_valid o h key value = each_order (λ p. ¬ IsInvalid (asked.text key p value)) (λ e. e) (λ e. e) (λ e. e) (λ e. e) (λ e. e) o h
