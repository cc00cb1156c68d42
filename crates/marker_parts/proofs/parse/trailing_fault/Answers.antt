use Rattle.marker_words.specs.declared.fault.FaultKind.TheVariants.{Trailing}
use Rattle.marker_words.proofs.FaultLaws.{fault_at_piece}
use Rattle.marker_parts.proofs.WholeLaws.{trailing_at}
use Rattle.marker_parts.proofs.parse.trailing_fault.Goals as goal

pub returns-clause-fault : goal.returns-clause-fault
returns-clause-fault c =
    fault_at_piece (Trailing c.in_ok-found.found) c.at.ensures.kind c.at.ensures.place c.at_run.ensures.piece c.at_run.ensures.left
    (trailing_at _ _ _ _ _ _ c.skip_space-text.ensures.suffix.utf8 c.skip_space-text.ensures.suffix c.skip_space-text.ensures.rest c.in_ok-found.ensures.bytes c.in_ok-piece.ensures.bytes c.in_ok-piece.ensures.characters)
