-- The environment that was read last.
use Rattle.std.specs.Prelude.{◌≡◌, Option, Some}
use Rattle.marker_environment.specs.Environment.{values_of}
use Rattle.foreign_calls.specs.declared.environment.Environment.{Environment}
use Rattle.foreign_calls.specs.Environment.{AreGiven}
use Rattle.foreign_markers.specs.declared.read.ReadEnvironment.{ReadEnvironment}

-- the environment that was read last has these values, however their texts are read
pub record IsLast (e : Environment) (last : Option ReadEnvironment) : Type 0 where
  pub read : ReadEnvironment
  pub is_there : last ≡ Some read
  pub given : ∥ AreGiven e (values_of read.environment) ∥₁
