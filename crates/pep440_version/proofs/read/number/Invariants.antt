use Rattle.std.proofs.Common.{◌≡◌, drop}
use Rattle.pep440_version.specs.Reading.{digits_from}
use Rattle.pep440_version.proofs.read.number.Given as goal

abbrev pub invariant-digits : goal.invariant-digits
invariant-digits l = digits_from 0 l.text ≡ digits_from l.value (drop l.i l.text)
