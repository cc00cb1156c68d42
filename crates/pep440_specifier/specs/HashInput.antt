-- What the hash of a specifier is made of: what the order compares, so that equal specifiers have
-- one hash.
use Rattle.std.specs.Prelude.{◌++◌, pos}
use Rattle.std.specs.Hash as fed
use Rattle.std.specs.Hash.{HashWrites}
use Rattle.pep440_version.specs.HashInput.{version_writes}
use Rattle.pep440_specifier.specs.Operator.{rank}
use Rattle.pep440_specifier.specs.Order.{number_count}
use Rattle.pep440_specifier.specs.Specifier.{Specifier}

abbrev pub specifier_writes : Specifier → HashWrites
specifier_writes s =
    fed.isize (pos (rank s.operator)) ++ (version_writes s.version ++ fed.usize (number_count s))
