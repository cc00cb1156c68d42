use Rattle.std.proofs.Common.{◌≡◌, ◌∷◌, map, max, take}
use Rattle.selection_commands.specs.Cells.{texts_in}
use Rattle.selection_commands.specs.Table.{first_width, width_of}
use Rattle.selection_commands.proofs.tables.widths_of.Given as goal

abbrev pub invariant-loop-title : goal.invariant-loop-title
invariant-loop-title l = l.widths.items
    ≡ first_width l.rows ∷ map (λ title. max (width_of title) 3) (texts_in (take l.title-index l.titles))
