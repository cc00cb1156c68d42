use Rattle.std.proofs.Common.{subst}
use Rattle.pep440_version.specs.Valid.{IsValid}
use Rattle.pep440_version.specs.Text.{version_text}
use Rattle.pep440_version.proofs.ReadBack.{version-text}
use Rattle.pep440_version.proofs.Text.{valid-text}
use Rattle.pep440_version.proofs.laws.normal_text_reads_back.Goals as goal

pub returns-clause-reads_back : goal.returns-clause-reads_back
returns-clause-reads_back c = version-text (version_text c.args.version.now) c.args.version.now (valid-text c.args.version.now (subst IsValid c.version.view_is c.version.invariant))
