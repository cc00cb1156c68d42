use Rattle.marker_lines.proofs.KeyLaws.{no_value_is_no_key}
use Rattle.marker_lines.proofs.key.EnvironmentKey.parse.Goals as goal

pub returns-in_default : goal.returns-in_default
returns-in_default c = no_value_is_no_key c.args.name.now c.in_default.ensures.none
