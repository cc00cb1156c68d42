-- What a handle has: nothing if it is shut, and otherwise markers by number and an environment.
use Rattle.std.specs.Prelude.{◌≡◌, ℕ, List, [], Bool, Option, Some, None, option_map}
use Rattle.marker_environment.specs.Environment.{values_of, valuation_of}
use Rattle.pep508_markers.specs.Machine.{Truth, Cells, Holds}
use Rattle.foreign_calls.specs.declared.environment.Environment.{Environment}
use Rattle.foreign_calls.specs.Environment.{AreGiven, Names}
use Rattle.foreign_calls.specs.Marker.{HasValue}
use Rattle.foreign_markers.specs.declared.markers.KnownEnvironment.{KnownEnvironment}
use Rattle.foreign_markers.specs.declared.markers.Markers.{Markers}
use Rattle.foreign_markers.specs.Numbers.{truths_of}

-- the truths of its markers by number, and the environment that was set
pub record InternerState : Type 0 where
  pub cells : Cells
  pub environment : Option KnownEnvironment

-- those of an interner
abbrev pub state_of : Markers → InternerState
state_of m = record { cells = truths_of m; environment = m.environment }

-- what it has, if it is open
abbrev pub state : Option Markers → Option InternerState
state handle = option_map state_of handle

-- no marker, and no environment
abbrev pub empty_state : InternerState
empty_state = record { cells = []; environment = None }

-- the handle is open, before and after, and this holds of its markers then and now
pub record Becomes (P : Cells → Cells → Type 0) (old new : Option Markers) : Type 0 where
  pub before : InternerState
  pub after : InternerState
  pub was : state old ≡ Some before
  pub is : state new ≡ Some after
  pub step : P before.cells after.cells
  pub environment_stays : after.environment ≡ before.environment

-- the handle is open, and this holds of what it has
pub record Has (P : InternerState → Type 0) (handle : Option Markers) : Type 0 where
  pub now : InternerState
  pub is : state handle ≡ Some now
  pub this : P now

-- the environment that was set has these values and extras
pub record IsSetTo (e : Environment) (extras : List (List ℕ))
    (environment : Option KnownEnvironment) : Type 0 where
  pub known : KnownEnvironment
  pub is_there : environment ≡ Some known
  pub given : AreGiven e (values_of known.environment)
  pub names : Names extras known.extras.items

-- the marker of this number has the value in the environment with these extras, however the texts
-- of its versions are read: each says one version
pub record HasValueAt (number : ℕ) (e : Environment) (extras : List (List ℕ)) (value : Bool)
    (cells : Cells) : Type 0 where
  pub truth : Truth
  pub is_there : Holds cells number truth
  pub has_value : ∥ HasValue truth e extras value ∥₁

-- the marker of this number has the value in the environment that was set
pub record HasValueThere (number : ℕ) (value : Bool) (s : InternerState) : Type 0 where
  pub truth : Truth
  pub is_there : Holds s.cells number truth
  pub known : KnownEnvironment
  pub environment_is : s.environment ≡ Some known
  pub value_is : value ≡ truth (valuation_of (values_of known.environment) known.extras.items)
