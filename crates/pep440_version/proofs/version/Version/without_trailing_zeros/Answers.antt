use Rattle.std.proofs.Common.{rules}
use Rattle.pep440_version.proofs.Trimmed.{trimmed-version}
use Rattle.pep440_version.proofs.version.Version.without_trailing_zeros.Goals as goal

pub returns-clause-same : goal.returns-clause-same
returns-clause-same c = trimmed-version _ c.args.self.now (search rules)
