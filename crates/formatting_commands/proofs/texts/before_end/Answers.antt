use Rattle.requirement_lines.proofs.PlaceLaws.{suffix_boundary, suffix_parts}
use Rattle.formatting_commands.proofs.texts.before_end.Goals as goal

pub split_at-requires : goal.split_at-requires
split_at-requires c = suffix_boundary c.requires

pub returns : goal.returns
returns c = suffix_parts _ c.requires c.split_at.ensures.front
