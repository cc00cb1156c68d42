-- What a contract sees of a specifier.
use Rattle.pep440_specifier.specs.declared.specifier.VersionSpecifier.TheInside.{Inside}
use Rattle.pep440_specifier.specs.Specifier.{Specifier}

abbrev pub specifier_of : Inside → Specifier
specifier_of s = record { operator = s.operator; version = s.version }
