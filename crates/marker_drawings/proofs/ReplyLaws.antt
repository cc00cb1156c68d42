-- What `draw` writes.
use Rattle.std.proofs.Common.{◌≡◌, ◌≤◌, ℕ, List, length, sym, subst, inl, inr}
use Rattle.std.specs.Prelude.{◌⊎◌}
use Rattle.marker_graph.specs.declared.tree.MarkerTree.{MarkerTree}
use Rattle.marker_graph.specs.Contents.{Contents}
use Rattle.marker_commands.specs.declared.outcome.Outcome.{Outcome}
use Rattle.marker_commands.specs.declared.outcome.Outcome.TheVariants.{Answered, TooComplex}
use Rattle.marker_commands.specs.declared.outcome.Reply.{Reply}
use Rattle.marker_commands.specs.Outcome.{IsRefusalOf, HasNoAnswer}
use Rattle.marker_commands.specs.Parsing.{IsTreeFor, Told}
use Rattle.marker_drawings.specs.declared.drawing.Drawing.{Drawing}
use Rattle.marker_drawings.specs.Drawing.{IsDrawing}
use Rattle.marker_drawings.specs.Reply.{IsDrawnText, IsDrawingReply}

-- the drawing of the marker of a text
pub drawn : {c : Contents} {text : List ℕ} {t : MarkerTree} {most : ℕ} (d : Drawing) → IsTreeFor c text t → IsDrawing c t d → length d.nodes.items ≤ most → IsDrawnText text most
drawn {c = c} {t = t} d reads is within = record { c = c; t = t; drawing = d; reads = reads; is = is; within = within }

pub written : (text : List ℕ) (most : ℕ) (reply : Reply) → IsDrawnText text most → reply.outcome ≡ Answered → IsDrawingReply text most reply
written text most reply p e = inl (p, e)

pub not_written : (text : List ℕ) (most : ℕ) (outcome : Outcome) (reply : Reply) → IsRefusalOf text outcome → HasNoAnswer outcome reply → IsDrawingReply text most reply
not_written text most outcome reply p h = inr (subst (λ (o : Outcome). IsRefusalOf text o) (sym h.0) p, h.1)

-- a drawing that is too large, and where memory ran out
pub refused : (text : List ℕ) (outcome : Outcome) → Told TooComplex outcome → IsRefusalOf text outcome
refused text outcome (inl e) = subst (λ (o : Outcome). IsRefusalOf text o) (sym e) tt
refused text outcome (inr e) = subst (λ (o : Outcome). IsRefusalOf text o) (sym e) tt

pub ruleset drawings = (drawn, refused)

pub ruleset replies = (written, not_written)
