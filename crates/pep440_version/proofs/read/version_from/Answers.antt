use Rattle.std.proofs.Common.{sym}
use Rattle.std.proofs.lemmas.Bool.{eqb-true}
use Rattle.pep440_version.proofs.Cases.{small-text}
use Rattle.pep440_version.proofs.Heads.{suffixes-empty}
use Rattle.pep440_version.proofs.read.version_from.Goals as goal

pub returns-then-is_empty : goal.returns-then-is_empty
returns-then-is_empty c =
    rw c.released.ensures (suffixes-empty c.args.epoch c.args.release.items c.args.text.now (eqb-true _ 0 (sym c.if-is_empty.ensures)))

pub returns : goal.returns
returns c = rw (small-text c.args.text.now (sym c.if-has_capitals.ensures)) c.with_suffixes-2.ensures
