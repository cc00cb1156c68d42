-- What the calls make of an open handle.
use Rattle.std.specs.Prelude.{◌≡◌, ℕ, List, [], Some, take}
use Rattle.std.specs.Borrow.{Bor}
use Rattle.pep508_markers.specs.Machine.{Making, Makes}
use Rattle.foreign_calls.specs.declared.environment.Environment.{Environment}
use Rattle.foreign_calls.specs.Environment.{bytes_of}
use Rattle.foreign_calls.specs.Marker.{Says}
use Rattle.foreign_markers.specs.declared.handle.Handle.{Handle}
use Rattle.foreign_markers.specs.Numbers.{Adds}
use Rattle.foreign_markers.specs.Interner.{InternerState, Becomes, IsSetTo, state}

-- it has one more marker, of this number and with the truth of the text, and the others as before
abbrev pub HasMarkerOf : List ℕ → ℕ → Handle → Handle → Type 0
HasMarkerOf text number old new =
    Becomes (λ before after. Adds (Says text) before after number) old.value new.value

-- it has one more, of this number and with the truth of the making, and the others as before
abbrev pub HasOneMore : Making → ℕ → Handle → Handle → Type 0
HasOneMore making number old new = Becomes
    (λ before after. Adds (λ f. Makes before making f []) before after number) old.value new.value

-- it has the first markers alone
abbrev pub HasFirst : ℕ → Handle → Handle → Type 0
HasFirst count old new = Becomes (λ before after. after ≡ take count before) old.value new.value

-- it has the markers as before, and an environment with these values and extras
pub record SetsEnvironment (e : Environment) (extras : List (Bor (List ℕ))) (old new : Handle)
    : Type 0 where
  pub before : InternerState
  pub after : InternerState
  pub was : state old.value ≡ Some before
  pub is : state new.value ≡ Some after
  pub cells_stay : after.cells ≡ before.cells
  pub is_set : IsSetTo e (bytes_of extras) after.environment
