use Rattle.pep508_markers.proofs.DoneLaws.{made_unless}
use Rattle.pep508_markers.proofs.formula_tree.tree_of_valid.Goals as goal

pub unreachable-requires : goal.unreachable-requires
unreachable-requires c = made_unless _ c.in-Err-Fault.field-0 c.requires c.in-Err-Fault.ensures.err c.in-Err-Fault.field-0-0 c.in-Err-Fault.field-0-is
