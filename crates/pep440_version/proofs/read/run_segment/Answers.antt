use Rattle.std.proofs.lemmas.Str.{IsUtf8-from_ascii}
use Rattle.pep440_version.proofs.read.run_segment.Goals as goal

pub from_utf8_unchecked-text-requires : goal.from_utf8_unchecked-text-requires
from_utf8_unchecked-text-requires c = IsUtf8-from_ascii c.args.run.now c.requires
