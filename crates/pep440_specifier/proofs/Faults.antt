-- What is wrong with an operator and a pattern.
use Rattle.std.proofs.Common.{◌≡◌, ◌||◌, Bool, true, false, Some, Result, IfErr, arith}
use Rattle.pep440_version.specs.Parts.{Parts}
use Rattle.pep440_specifier.specs.declared.operator.Operator.{Operator}
use Rattle.pep440_specifier.specs.declared.error.SpecifierFault.TheVariants as fault
use Rattle.pep440_specifier.specs.declared.error.VersionSpecifierError.{VersionSpecifierError}
use Rattle.pep440_specifier.specs.Fault.{IsFault}
use Rattle.pep440_specifier.specs.Operator.{starred}

or_true : (a : Bool) → (a || true) ≡ true
or_true a = grind arith

pub why_starred : {T : Type 0} (r : Result T VersionSpecifierError) (a b : Operator) (v : Parts) → starred a ≡ Some b
    → IfErr r (λ e. IsFault e.fault b v false) → IfErr r (λ e. IsFault e.fault a v true)
why_starred r a b v h1 h2 = grind arith
