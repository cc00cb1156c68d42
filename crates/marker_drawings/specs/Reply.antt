-- What `draw` writes.
use Rattle.std.specs.Prelude.{◌≡◌, ◌⊎◌, ℕ, ◌≤◌, List, length}
use Rattle.marker_graph.specs.declared.tree.MarkerTree.{MarkerTree}
use Rattle.marker_graph.specs.Contents.{Contents}
use Rattle.marker_commands.specs.declared.outcome.Outcome.TheVariants.{Answered}
use Rattle.marker_commands.specs.declared.outcome.Reply.{Reply}
use Rattle.marker_commands.specs.Outcome.{IsRefused}
use Rattle.marker_commands.specs.Parsing.{IsTreeFor}
use Rattle.marker_drawings.specs.declared.drawing.Drawing.{Drawing}
use Rattle.marker_drawings.specs.Drawing.{IsDrawing}

-- The text is a marker, whose drawing has at most so many nodes.
pub record IsDrawnText (text : List ℕ) (most : ℕ) : Type 0 where
  pub c : Contents
  pub t : MarkerTree
  pub drawing : Drawing
  pub reads : IsTreeFor c text t
  pub is : IsDrawing c t drawing
  pub within : length drawing.nodes.items ≤ most

-- the drawing of the marker is written, or the text gets no answer
abbrev pub IsDrawingReply : List ℕ → ℕ → Reply → Type 0
IsDrawingReply text most reply = (IsDrawnText text most × (reply.outcome ≡ Answered))
    ⊎ IsRefused text reply
