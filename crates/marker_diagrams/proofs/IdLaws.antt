-- Signs and ids.
use Rattle.std.proofs.Common.{◌≡◌, ◌≢◌, ℕ, Bool, true, false, not, ◌==◌, refl, sym, ap, ◌∙◌, arith}
use Rattle.std.proofs.lemmas.Bool.{false≢true, and_from, eq-eqb}
use mathlib.Core.Bool.{beq}
use Rattle.marker_diagrams.specs.declared.node_id.NodeId.{NodeId}
use Rattle.marker_diagrams.specs.Id.{signed, place_of, is_negated, signed_id, same_id}

pub beq_itself : (a : Bool) → beq a a ≡ true
beq_itself a = grind arith

-- two signs are one
pub signed_twice : (s t b : Bool) → signed s (signed t b) ≡ signed (signed s t) b
signed_twice s t b = grind arith

-- a sign undoes itself
pub signed_undone : (s b : Bool) → signed s (signed s b) ≡ b
signed_undone s b = grind arith

pub signed_plain : (s n : Bool) → n ≡ false → signed s n ≡ s
signed_plain s n h1 = grind arith

pub not_itself : (b : Bool) → b ≡ not b → ⊥
not_itself b h1 = grind arith

id_by : (i j : ℕ) (s t : Bool) → i ≡ j → s ≡ t → (let a : NodeId = record { place = i; complement = s } in a) ≡ record { place = j; complement = t }
id_by i j s t e f = ap (λ x. let a : NodeId = record { place = x; complement = s } in a) e ∙ ap (λ x. let a : NodeId = record { place = j; complement = x } in a) f

-- ids are equal if `==` says so
pub same_id_is : (a b : NodeId) → same_id a b ≡ true → a ≡ b
same_id_is a b h1 = grind arith

pub same_id_itself : (a : NodeId) → same_id a a ≡ true
same_id_itself a = and_from (a.place == a.place) (beq a.complement a.complement) (eq-eqb a.place a.place refl) (beq_itself a.complement)

pub not_same_id : (a b : NodeId) → same_id a b ≡ false → a ≢ b
not_same_id a b e f = false≢true (sym e ∙ ap (same_id a) (sym f) ∙ same_id_itself a)

pub same_id_symm : (a b : NodeId) → same_id a b ≡ same_id b a
same_id_symm a b = grind arith

-- ids of one place and one sign
pub one_id : (a b : NodeId) → place_of a ≡ place_of b → is_negated a ≡ is_negated b → a ≡ b
one_id a b e f = id_by a.place b.place a.complement b.complement e f

pub signed_id_undone : (s : Bool) (t : NodeId) → signed_id s (signed_id s t) ≡ t
signed_id_undone s t = id_by t.place t.place (signed s (signed s t.complement)) t.complement refl (signed_undone s t.complement)

pub signed_id_twice : (s r : Bool) (t : NodeId) → signed_id s (signed_id r t) ≡ signed_id (signed s r) t
signed_id_twice s r t = id_by t.place t.place (signed s (signed r t.complement)) (signed (signed s r) t.complement) refl (signed_twice s r t.complement)

-- a sign does not make ids equal
pub signed_id_back : (s : Bool) (a b : NodeId) → signed_id s a ≡ signed_id s b → a ≡ b
signed_id_back s a b e = sym (signed_id_undone s a) ∙ ap (signed_id s) e ∙ signed_id_undone s b
