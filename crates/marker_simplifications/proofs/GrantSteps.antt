-- Steps of granting extras: what is known, and which ids wait.
use Rattle.std.proofs.Common.{◌≡◌, ℕ, zero, suc, ◌+◌, ◌-◌, ◌<◌, ◌≤◌, ◌==◌, Bool, true, false, cond, inl, inr, List, [], ◌∷◌, ◌++◌, length, get_or, Option, Some, None, is_some, refl, sym, ap, ◌∙◌, subst, arith}
use Rattle.std.specs.Prelude.{All, slice_get}
use Rattle.std.specs.Map.{lookup}
use Rattle.std.proofs.lemmas.Bool.{eqb-true, eqb-false}
use Rattle.std.proofs.lemmas.List.{length-append}
use Rattle.std.proofs.lemmas.List.Elements.{All-append, All-push, All-weaker}
use Rattle.std.proofs.lemmas.Option.{slice_get-get_or}
use Rattle.marker_diagrams.specs.declared.node_id.NodeId.{NodeId}
use Rattle.marker_diagrams.specs.Id.{place_of, index_of, is_negated, signed, signed_id, same_id}
use Rattle.marker_diagrams.specs.Diagram.{node_at, IsHeld, Keeps}
use Rattle.marker_diagrams.proofs.IdLaws.{same_id_itself, one_id}
use Rattle.marker_diagrams.proofs.NodeLaws.{none_some, same_some}
use Rattle.marker_environment.specs.Valuation.{Valuation}
use Rattle.marker_nodes.specs.Branches.{piece, value_at as pick}
use Rattle.marker_nodes.specs.Node.{Node, markers}
use Rattle.marker_nodes.proofs.Firsts.{first_none}
use Rattle.marker_simplifications.specs.Granting.{Known, plain, IsUnknown, AreSettled, IsFoundAs, AreFoundAs, IsPlain, IsWanted}
use Rattle.marker_simplifications.specs.Simplified.{AreGranted, AreKnown, IsGranted}
use Rattle.marker_simplifications.proofs.Grants.{granted_itself, granted_under}

-- ---- ids without signs
signed_itself : (s : Bool) → signed s s ≡ false
signed_itself s = grind arith

pub plain_is : (t u : NodeId) → u ≡ signed_id (is_negated t) t → u ≡ plain t
plain_is t u e = e ∙ ap (λ b. let r : NodeId = record { place = place_of t; complement = b } in r) (signed_itself (is_negated t))

plain_signed : (t : NodeId) → plain t ≡ signed_id (is_negated t) t
plain_signed t = sym (plain_is t (signed_id (is_negated t) t) refl)

pub first_plain : (n : ℕ) (t u : NodeId) → place_of t ≤ n → u ≡ signed_id (is_negated t) t → IsPlain n u
first_plain n t u h e = subst (IsPlain n) (sym (plain_is t u e)) (record { within = h; sign = refl })

-- an index is that of a node, and without one there is no node
index_by : (p : ℕ) (b : Bool) → (p == 0) ≡ b → None ≡ cond b None (Some (p - 1)) → p ≡ 0
index_by p b h1 h2 = grind arith

pub no_index : (t : NodeId) → None ≡ index_of t → place_of t ≡ 0
no_index t e = index_by (place_of t) (place_of t == 0) refl e

-- ---- what is found
module _ (known : Known) (id key : NodeId) (key_is : key ≡ signed_id (is_negated id) id) where
  at_plain : (o : Option NodeId) → o ≡ lookup (same_id key) known → lookup (same_id (plain id)) known ≡ o
  at_plain o e = ap (λ k. lookup (same_id k) known) (sym (plain_is id key key_is)) ∙ sym e

  pub found_settled : (found : NodeId) → Some found ≡ lookup (same_id key) known → ¬ IsUnknown known (plain id)
  found_settled found e h = none_some found (sym h.missing ∙ at_plain (Some found) e)

pub found_granted : (Answers : List ℕ → Bool → Type 0) (nodes : List Node) (known : Known) (a t : NodeId) → AreKnown nodes Answers known → IsHeld nodes a → IsFoundAs known a t → IsGranted nodes Answers a t
found_granted Answers nodes known a t w i h = elim h [
  | inl e ↦ subst (IsGranted nodes Answers a) (sym e.1) (granted_itself Answers nodes a i (first_none nodes ∙ ap (node_at nodes) (sym e.0)))
  | inr s ↦ granted_under Answers nodes a (plain a) s.0 t (plain_signed a) s.2 (w (plain a) s.0 s.1).1
]

pub each_granted : (Answers : List ℕ → Bool → Type 0) (nodes : List Node) (known : Known) (ids made : List NodeId) → AreKnown nodes Answers known → ((i : ℕ) (t : NodeId) → slice_get ids i ≡ Some t → IsHeld nodes t) → AreFoundAs known ids made → AreGranted nodes Answers ids made
each_granted Answers nodes known ids made w held h i a t e f = found_granted Answers nodes known a t w (held i a e) (h i a t e f)

-- ---- fewer ids are unknown
-- how many of the ids of the first n nodes are unknown
abbrev pub unknown_ids : ℕ → Known → ℕ
unknown_ids zero known = 0
unknown_ids (suc n) known = cond (is_some (lookup (same_id (record { place = suc n; complement = false })) known)) 0 1 + unknown_ids n known

-- an id is entered
module _ (old new : Known) (a t : NodeId) (u : (q : NodeId) → lookup (same_id q) new ≡ cond (same_id a q) (Some t) (lookup (same_id q) old)) where
  kept_or_less : (z : Bool) (o : Option NodeId) → cond (is_some (cond z (Some t) o)) 0 1 ≤ cond (is_some o) 0 1
  kept_or_less z o = grind arith

  not_more : (q : NodeId) → cond (is_some (lookup (same_id q) new)) 0 1 ≤ cond (is_some (lookup (same_id q) old)) 0 1
  not_more q = subst (λ o. cond (is_some o) 0 1 ≤ cond (is_some (lookup (same_id q) old)) 0 1) (sym (u q)) (kept_or_less (same_id a q) (lookup (same_id q) old))

  fewer_or_same : (n : ℕ) → unknown_ids n new ≤ unknown_ids n old
  fewer_or_same zero = omega arith
  fewer_or_same (suc n) = grind (arith, cond, is_some, not_more, fewer_or_same n)

  one_less : (q : NodeId) → same_id a q ≡ true → lookup (same_id q) old ≡ None → cond (is_some (lookup (same_id q) new)) 0 1 + 1 ≤ cond (is_some (lookup (same_id q) old)) 0 1
  one_less q h1 h2 = grind arith

  module _ (sign : is_negated a ≡ false) (missing : lookup (same_id a) old ≡ None) where
    fewer_at : (n : ℕ) → (place_of a ≤ n → unknown_ids n new < unknown_ids n old) → place_of a ≤ suc n → (b : Bool) → (place_of a == suc n) ≡ b → unknown_ids (suc n) new < unknown_ids (suc n) old
    fewer_at n h1 h2 b h3 = grind (arith, one_id, eqb-true, fewer_or_same, cond, is_some, one_less, same_id_itself, eqb-false, not_more)

    fewer_from : (n : ℕ) → 0 < place_of a → place_of a ≤ n → unknown_ids n new < unknown_ids n old
    fewer_from zero p h = absurd (omega arith)
    fewer_from (suc n) p h = fewer_at n (fewer_from n p) h (place_of a == suc n) refl

pub fewer_unknown : (old new : Known) (a t : NodeId) → ((q : NodeId) → lookup (same_id q) new ≡ cond (same_id a q) (Some t) (lookup (same_id q) old)) → (n : ℕ) → IsPlain n a → IsUnknown old a → unknown_ids n new < unknown_ids n old
fewer_unknown old new a t u n p h = fewer_from old new a t u p.sign h.missing n h.node p.within

-- ---- the way down
pub plain_longer : (old new : List Node) (t : NodeId) → Keeps markers old new → IsPlain (length old) t → IsPlain (length new) t
plain_longer old new t k h = record { within = let l = k.longer in let w = h.within in omega arith; sign = h.sign }

pub plain_below : (known : Known) (n : ℕ) (parent t : NodeId) → IsPlain n parent → IsWanted known parent t → IsPlain n t
plain_below known n parent t h w = record { within = let b = w.below in let l = h.within in omega arith; sign = w.sign }

pub plain_wait : (known : Known) (n : ℕ) (at : NodeId) (others pending pushed last : List NodeId) → IsPlain n at → All (IsWanted known at) others → All (IsPlain n) pending → pushed ≡ pending ++ at ∷ [] → last ≡ pushed ++ others → All (IsPlain n) last
plain_wait known n at others pending pushed last p w h e f =
    subst (All (IsPlain n)) (sym f)
    (All-append (IsPlain n) pushed others (subst (All (IsPlain n)) (sym e) (All-push (IsPlain n) pending at h p)) (All-weaker (IsWanted known at) (IsPlain n) (λ t. plain_below known n at t p) others w))

-- ---- the ids that a node waits for
pub wanted_below : (known : Known) (parent id t : NodeId) → place_of id < place_of parent → t ≡ signed_id (is_negated id) id → IsUnknown known (plain id) → IsWanted known parent t
wanted_below known parent id t b e h = subst (IsWanted known parent) (sym (plain_is id t e)) (record { below = b; sign = refl; unknown = h })

pub not_none : {X : Type 0} (xs more : List X) (x : X) → more ≡ xs ++ x ∷ [] → more ≡ [] → ⊥
not_none xs more x last none =
    let e : length (xs ++ x ∷ []) ≡ 0 = ap length (sym last ∙ none) in
    let f : length (xs ++ x ∷ []) ≡ length xs + length (x ∷ []) = length-append xs (x ∷ []) in
    let g : length (x ∷ []) ≡ 1 = refl in
    omega (arith, e, f, g)

module _ (known : Known) (ids : List NodeId) where
  pub settled_next : (index : ℕ) (d : NodeId) → index < length ids → ((i : ℕ) (t : NodeId) → i < index → slice_get ids i ≡ Some t → ¬ IsUnknown known (plain t)) → ¬ IsUnknown known (plain (get_or ids index d)) →
      (i : ℕ) (t : NodeId) → i < index + 1 → slice_get ids i ≡ Some t → ¬ IsUnknown known (plain t)
  settled_next index d h1 h2 h3 i t h4 h5 = grind (arith, same_some, get_or, slice_get-get_or, eqb-true, eqb-false)

  -- the children of a clone are those of the node
  pub settled_values : (listed values given : List NodeId) → listed ≡ ids → given ≡ values → (n copy : Node) → ((v : Valuation) → pick copy v ≡ pick n v) → ((v : Valuation) → slice_get ids (piece n v) ≡ Some (pick n v)) →
      ((i : ℕ) (t : NodeId) → slice_get values i ≡ Some t → (v : Valuation) × (pick copy v ≡ t)) → AreSettled known listed → AreSettled known given
  settled_values listed values given h1 h2 n copy h3 h4 h5 h6 = grind arith

pub nil_by : {X : Type 0} (xs : List X) → (0 < length xs → ⊥) → xs ≡ []
nil_by [] h = refl
nil_by (x ∷ xs) h = absurd (h (omega arith))
