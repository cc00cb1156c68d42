use Rattle.requirement_lines.proofs.PlaceLaws.{end_suffix, end_parts}
use Rattle.metadata_files.proofs.pieces.front_of.Goals as goal

pub before_end-requires : goal.before_end-requires
before_end-requires c = end_suffix c.requires

pub returns : goal.returns
returns c = end_parts _ c.before_end.utf8 c.requires c.before_end.ensures
