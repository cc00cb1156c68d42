-- What the relation of two trees says of their texts.
use Rattle.std.proofs.Common.{◌≡◌, ◌∙◌, ℕ, List, Bool, refl, sym, inl, inr}
use Rattle.marker_environment.specs.Valuation.{Valuation}
use Rattle.marker_graph.specs.declared.tree.MarkerTree.{MarkerTree}
use Rattle.marker_graph.specs.Contents.{Contents, IsHeld, IsKept, truth}
use Rattle.marker_graph.specs.declared.relation.MarkerRelation.{MarkerRelation}
use Rattle.marker_graph.specs.Relation.{Relates}
use Rattle.foreign_calls.proofs.KeptLaws.{truth_kept}
use Rattle.foreign_calls.specs.declared.answer.Answer.{Answer}
use Rattle.foreign_calls.specs.Marker.{Says, IsTreeFor}
use Rattle.foreign_calls.specs.Refused.{IsMarkerRefusal}
use Rattle.foreign_calls.specs.Relation.{AreRelated, IsRelationRefusal}

-- a truth that is the same everywhere is said by the same text
pub same_said : {text : List ℕ} {f g : Valuation → Bool} → Says text f → ((v : Valuation) → g v ≡ f v) → Says text g
same_said p same = record { formula = p.formula; kinds = p.kinds; reads = p.reads; no_overflow = p.no_overflow; means = λ v. same v ∙ p.means v }

-- the first tree means the same after the second text was read
pub related : {old new : Contents} {first second : List ℕ} {a b : MarkerTree} {relation : MarkerRelation}
    → IsTreeFor old first a → IsKept old new → IsTreeFor new second b → Relates (truth new a) (truth new b) relation → AreRelated first second relation
related {old = old} {new = new} {a = a} {b = b} p kept q r = record { one = truth new a; other = truth new b; first_says = same_said p.says (truth_kept old new a kept p.held); second_says = q.says; relates = r }

pub first_refused : {first second : List ℕ} {answer : Answer} → IsMarkerRefusal first answer → IsRelationRefusal first second answer
first_refused p = record { not_done = p.not_done; not_small = p.not_small; invalid = λ e. inl (p.invalid e); too_large = λ e. inl (p.too_large e) }

pub second_refused : {first second : List ℕ} {answer : Answer} → IsMarkerRefusal second answer → IsRelationRefusal first second answer
second_refused p = record { not_done = p.not_done; not_small = p.not_small; invalid = λ e. inr (p.invalid e); too_large = λ e. inr (p.too_large e) }
