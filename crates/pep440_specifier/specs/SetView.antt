-- What a contract sees of a set of specifiers.
use Rattle.std.specs.Prelude.{List}
use Rattle.pep440_specifier.specs.declared.specifiers.VersionSpecifiers.TheInside.{Inside}
use Rattle.pep440_specifier.specs.Specifier.{Specifier}

abbrev pub list_of : Inside → List Specifier
list_of set = set.specifiers.items
