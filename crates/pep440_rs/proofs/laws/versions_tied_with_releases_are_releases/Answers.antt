use Rattle.pep440_rs.proofs.Equals.{release-means, tied-release}
use Rattle.pep440_rs.proofs.laws.versions_tied_with_releases_are_releases.Goals as goal

pub returns : goal.returns
returns c = record { tied = tied-release; test = release-means }
