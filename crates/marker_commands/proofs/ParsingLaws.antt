-- Markers that are parsed and stay in an interner, and texts that are refused.
use Rattle.std.proofs.Common.{◌≡◌, ◌∙◌, ℕ, List, Bool, Option, sym, ap, subst, inl, inr}
use Rattle.std.specs.Prelude.{◌⊎◌}
use Rattle.refusal.specs.declared.Refusal.{Refusal}
use Rattle.refusal.specs.declared.Refusal.TheVariants as refusals
use Rattle.pep508_errors.specs.declared.error.Pep508Error.{Pep508Error}
use Rattle.pep508_errors.specs.declared.warning.MarkerWarningKind.{MarkerWarningKind}
use Rattle.marker_environment.specs.Valuation.{Valuation}
use Rattle.marker_diagrams.specs.Id.{signed}
use Rattle.marker_graph.specs.declared.tree.MarkerTree.{MarkerTree}
use Rattle.marker_graph.specs.Contents.{Contents, IsHeld, IsKept, truth}
use Rattle.pep508_markers.specs.Text.{IsTreeOf, IsRefusal}
use Rattle.marker_commands.specs.declared.outcome.Outcome.{Outcome}
use Rattle.marker_commands.specs.declared.outcome.Outcome.TheVariants.{Invalid, TooLarge, TooComplex, OutOfMemory}
use Rattle.marker_commands.specs.declared.outcome.Reply.{Reply}
use Rattle.marker_commands.specs.Outcome.{HasNoAnswer, IsRefusalOf, IsRefused}
use Rattle.marker_commands.specs.Parsing.{IsTreeFor, ReadsAs, Told, Refuses}

-- the tree of a text means what the text says
pub parsed : {c : Contents} {text : List ℕ} {t : MarkerTree} {kinds : List MarkerWarningKind} → IsTreeOf c text t kinds → IsHeld c t → IsTreeFor c text t
parsed {kinds = kinds} p held = record { held = held; reads = record { formula = p.formula; kinds = kinds; reads = p.reads; means = p.means } }

-- a truth that is the same everywhere is said by the same text
pub same_read : {text : List ℕ} {f g : Valuation → Bool} → ReadsAs text f → ((v : Valuation) → g v ≡ f v) → ReadsAs text g
same_read p same = record { formula = p.formula; kinds = p.kinds; reads = p.reads; means = λ v. same v ∙ p.means v }

-- a tree that stays in an interner means what it meant
truth_kept : (c d : Contents) (t : MarkerTree) → IsKept c d → IsHeld c t → (v : Valuation) → truth d t v ≡ truth c t v
truth_kept c d t kept held v = ap (signed t.id.complement) (kept.nodes.truth t.id.place v held)

pub read_kept : {c d : Contents} {text : List ℕ} {t : MarkerTree} → IsTreeFor c text t → IsKept c d → ReadsAs text (truth d t)
read_kept {c = c} {d = d} {t = t} p kept = same_read p.reads (truth_kept c d t kept p.held)

-- an outcome without a message, and where memory ran out
pub short : (text : List ℕ) (outcome : Outcome) → Told TooComplex outcome → IsRefusalOf text outcome
short text outcome (inl e) = subst (λ (o : Outcome). IsRefusalOf text o) (sym e) tt
short text outcome (inr e) = subst (λ (o : Outcome). IsRefusalOf text o) (sym e) tt

-- the outcome of a refusal says why there is no answer
pub refused : {T E : Type 0} (text : List ℕ) (refusal : Refusal (Pep508Error T E)) (outcome : Outcome) → IsRefusal text refusal → Refuses refusal outcome → IsRefusalOf text outcome
refused text refusals.OutOfMemory outcome p told = short text outcome told
refused text refusals.SegmentAtEnd outcome p (inl e) = subst (λ (o : Outcome). IsRefusalOf text o) (sym e) p
refused text refusals.SegmentAtEnd outcome p (inr e) = subst (λ (o : Outcome). IsRefusalOf text o) (sym e) tt
refused text (refusals.Fault error) outcome p (inl e) = subst (λ (o : Outcome). IsRefusalOf text o) (sym e) p.0
refused text (refusals.Fault error) outcome p (inr e) = subst (λ (o : Outcome). IsRefusalOf text o) (sym e) tt

-- a refusal is a reply without an answer
pub no_answer : (text : List ℕ) (outcome : Outcome) (reply : Reply) → IsRefusalOf text outcome → HasNoAnswer outcome reply → IsRefused text reply
no_answer text outcome reply p q = (subst (λ (o : Outcome). IsRefusalOf text o) (sym q.0) p, q.1)

pub ruleset markers = (parsed, refused)
