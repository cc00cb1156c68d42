use Rattle.std.proofs.Common.{◌≡◌, ◌∷◌, codes, take}
use Rattle.selection_commands.specs.Cells.{shown_in, texts_in}
use Rattle.selection_commands.proofs.tables.head_of.Given as goal

abbrev pub invariant-loop-title : goal.invariant-loop-title
invariant-loop-title l =
    shown_in l.cells.items ≡ codes "requirement" ∷ texts_in (take l.title-index l.titles)
