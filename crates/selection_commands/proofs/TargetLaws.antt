-- Valuations that agree with a target.
use Rattle.std.proofs.Common.{◌≡◌, ℕ, Bool, true, false, cond, List, Option, Some, None, refl, sym, ap, ◌∙◌, string_bytes}
use Rattle.std.specs.Prelude.{option_map}
use Rattle.version_ranges.specs.Cuts.{value_by, value_of}
use Rattle.version_ranges.specs.Point.{Point, at}
use Rattle.pep440_version.specs.Order.{version_cmp}
use Rattle.pep440_version.specs.Parts.{Parts}
use Rattle.marker_words.specs.Compare.{text_cmp}
use Rattle.marker_environment.specs.Substring.{is_part_of}
use Rattle.marker_environment.specs.Valuation.{Valuation}
use Rattle.marker_diagrams.specs.declared.node_id.NodeId.{NodeId}
use Rattle.marker_diagrams.proofs.NodeLaws.{none_some, same_some}
use Rattle.marker_nodes.specs.Branches.{value_at}
use Rattle.marker_nodes.specs.Node.{Node, lowest}
use Rattle.marker_nodes.specs.Variable.{Variable, of_version, of_text, of_inside, of_contains, of_extra, of_arbitrary, answer, mix}
use Rattle.marker_nodes.specs.declared.node.Branches.TheVariants.{Version, Text, Truth}
use Rattle.marker_nodes.specs.declared.variable.TruthVariable.{TruthVariable}
use Rattle.marker_nodes.specs.declared.variable.TruthVariable.TheVariants.{In, Contains, Extra, Arbitrary}
use Rattle.marker_walks.specs.Possible.{is_listed}
use Rattle.marker_answers.specs.Known.{known_text, known_version}
use Rattle.selection_commands.specs.declared.target.Target.{Target}
use Rattle.selection_commands.specs.Target.{Agrees, known_answer, known_child}

-- the known value, or another one
abbrev or_at : {T : Type 0} → Option T → Point T → Point T
or_at None p = p
or_at (Some x) p = at x

abbrev inside_or : Option (List ℕ) → List ℕ → Bool → Bool
inside_or None s b = b
inside_or (Some t) s b = is_part_of t s

abbrev contains_or : Option (List ℕ) → List ℕ → Bool → Bool
contains_or None s b = b
contains_or (Some t) s b = is_part_of s t

-- the valuation with what is known of the target, and all else as it is
abbrev pub given : Target → Valuation → Valuation
given target v = record {
  version = λ x. or_at (known_version target.known x) (v.version x);
  text = λ x. or_at (known_text target.known x) (v.text x);
  inside = λ x s. inside_or (known_text target.known x) s (v.inside x s);
  contains = λ x s. contains_or (known_text target.known x) s (v.contains x s);
  extra = λ name. is_listed target.extras.items name;
  arbitrary = λ s. false;
}

one_of : {A : Type 0} (b : Bool) (x y z : A) → x ≡ z → y ≡ z → cond b x y ≡ z
one_of true x y z e f = e
one_of false x y z e f = f

unmapped : {A B : Type 0} (f : A → B) (o : Option A) → option_map f o ≡ None → o ≡ None
unmapped f None e = refl
unmapped f (Some a) e = none_some (f a) (sym e)

module _ (target : Target) where
  pub given_agrees : (v : Valuation) → Agrees target (given target v)
  given_agrees v = record {
    versions = λ x p e. ap (λ o. or_at o (v.version x)) e;
    texts = λ x t e. ap (λ o. or_at o (v.text x)) e;
    inside = λ x t s e. ap (λ o. inside_or o s (v.inside x s)) e;
    contains = λ x t s e. ap (λ o. contains_or o s (v.contains x s)) e;
    extras = λ name. refl;
    arbitrary = λ s. refl;
  }

  -- there is an environment of the target
  pub some_agrees : (v : Valuation) × Agrees target v
  some_agrees = (given target lowest, given_agrees lowest)

  -- mixtures of two that agree agree
  pub mixed_agrees : (t : Variable → Bool) (v w : Valuation) → Agrees target v → Agrees target w → Agrees target (mix t v w)
  mixed_agrees t v w h k = record {
    versions = λ x p e. one_of (t (of_version x)) (v.version x) (w.version x) (at p) (h.versions x p e) (k.versions x p e);
    texts = λ x s e. one_of (t (of_text x)) (v.text x) (w.text x) (at s) (h.texts x s e) (k.texts x s e);
    inside = λ x u s e. one_of (t (of_inside x s)) (v.inside x s) (w.inside x s) (is_part_of u s) (h.inside x u s e) (k.inside x u s e);
    contains = λ x u s e. one_of (t (of_contains x s)) (v.contains x s) (w.contains x s) (is_part_of s u) (h.contains x u s e) (k.contains x u s e);
    extras = λ name. one_of (t (of_extra name)) (v.extra name) (w.extra name) (is_listed target.extras.items name) (h.extras name) (k.extras name);
    arbitrary = λ s. one_of (t (of_arbitrary s)) (v.arbitrary s) (w.arbitrary s) false (h.arbitrary s) (k.arbitrary s);
  }

  -- an answer that the target gives is that of each environment of it
  answered : (x : TruthVariable) (b : Bool) (v : Valuation) → known_answer target x ≡ Some b → Agrees target v → answer x v ≡ b
  answered (In x text) b v e h = by_value (known_text target.known x) refl e
    where
      by_value : (o : Option (List ℕ)) → known_text target.known x ≡ o → option_map (λ value. is_part_of value (string_bytes text)) o ≡ Some b → v.inside x (string_bytes text) ≡ b
      by_value None f g = none_some b g
      by_value (Some t) f g = h.inside x t (string_bytes text) f ∙ same_some (is_part_of t (string_bytes text)) b g
  answered (Contains x text) b v e h = by_value (known_text target.known x) refl e
    where
      by_value : (o : Option (List ℕ)) → known_text target.known x ≡ o → option_map (λ value. is_part_of (string_bytes text) value) o ≡ Some b → v.contains x (string_bytes text) ≡ b
      by_value None f g = none_some b g
      by_value (Some t) f g = h.contains x t (string_bytes text) f ∙ same_some (is_part_of (string_bytes text) t) b g
  answered (Extra name) b v e h = h.extras name ∙ same_some (is_listed target.extras.items name) b e
  answered (Arbitrary text) b v e h = h.arbitrary (string_bytes text) ∙ same_some false b e

  -- an answer that it does not give is open
  unanswered : (x : TruthVariable) (v : Valuation) → known_answer target x ≡ None → answer x (given target v) ≡ answer x v
  unanswered (In x text) v e =
      ap (λ o. inside_or o (string_bytes text) (v.inside x (string_bytes text))) (unmapped (λ value. is_part_of value (string_bytes text)) (known_text target.known x) e)
  unanswered (Contains x text) v e =
      ap (λ o. contains_or o (string_bytes text) (v.contains x (string_bytes text))) (unmapped (λ value. is_part_of (string_bytes text) value) (known_text target.known x) e)
  unanswered (Extra name) v e = none_some (is_listed target.extras.items name) (sym e)
  unanswered (Arbitrary text) v e = none_some false (sym e)

  -- the child that the target selects is that of each environment of it
  pub known_picks : (n : Node) (c : NodeId) (v : Valuation) → known_child target n ≡ Some c → Agrees target v → value_at n v ≡ c
  known_picks (Version x edges) c v e h = by_value (known_version target.known x) refl e
    where
      by_value : (o : Option Parts) → known_version target.known x ≡ o → option_map (λ value. value_of version_cmp edges (at value)) o ≡ Some c → value_of version_cmp edges (v.version x) ≡ c
      by_value None f g = none_some c g
      by_value (Some p) f g = ap (value_of version_cmp edges) (h.versions x p f) ∙ same_some (value_of version_cmp edges (at p)) c g
  known_picks (Text x edges) c v e h = by_value (known_text target.known x) refl e
    where
      by_value : (o : Option (List ℕ)) → known_text target.known x ≡ o → option_map (λ value. value_by string_bytes text_cmp edges (at value)) o ≡ Some c → value_by string_bytes text_cmp edges (v.text x) ≡ c
      by_value None f g = none_some c g
      by_value (Some t) f g = ap (value_by string_bytes text_cmp edges) (h.texts x t f) ∙ same_some (value_by string_bytes text_cmp edges (at t)) c g
  known_picks (Truth x high low) c v e h = by_answer (known_answer target x) refl e
    where
      by_answer : (o : Option Bool) → known_answer target x ≡ o → option_map (λ b. cond b high low) o ≡ Some c → cond (answer x v) high low ≡ c
      by_answer None f g = none_some c g
      by_answer (Some b) f g = ap (λ z. cond z high low) (answered x b v f h) ∙ same_some (cond b high low) c g

  -- each child of a node that it does not decide is that of an environment of it
  pub open_picks : (n : Node) (v : Valuation) → known_child target n ≡ None → value_at n (given target v) ≡ value_at n v
  open_picks (Version x edges) v e =
      ap (λ o. value_of version_cmp edges (or_at o (v.version x))) (unmapped (λ value. value_of version_cmp edges (at value)) (known_version target.known x) e)
  open_picks (Text x edges) v e =
      ap (λ o. value_by string_bytes text_cmp edges (or_at o (v.text x))) (unmapped (λ value. value_by string_bytes text_cmp edges (at value)) (known_text target.known x) e)
  open_picks (Truth x high low) v e = ap (λ z. cond z high low) (unanswered x v (unmapped (λ b. cond b high low) (known_answer target x) e))
