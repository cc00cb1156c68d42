-- What the calls tell of an open handle.
use Rattle.std.specs.Prelude.{◌≡◌, ℕ, List, Bool, length}
use Rattle.std.specs.Borrow.{Bor}
use Rattle.pep508_markers.specs.Machine.{Question, Tells}
use Rattle.foreign_calls.specs.declared.environment.Environment.{Environment}
use Rattle.foreign_calls.specs.Environment.{bytes_of}
use Rattle.foreign_calls.specs.Buffer.{WouldWrite, Writes}
use Rattle.foreign_markers.specs.declared.handle.Handle.{Handle}
use Rattle.foreign_markers.specs.Numbers.{HasText}
use Rattle.foreign_markers.specs.Interner.{Has, HasValueAt, HasValueThere}

-- so many markers have a number
abbrev pub HasCount : ℕ → Handle → Type 0
HasCount count handle = Has (λ s. count ≡ length s.cells) handle.value

-- the question has this answer
abbrev pub HasAnswer : Question → Bool → Handle → Type 0
HasAnswer question answer handle = Has (λ s. Tells s.cells question answer) handle.value

-- the marker has this value in the environment with the extras
abbrev pub HasValueIn : ℕ → Environment → List (Bor (List ℕ)) → Bool → Handle → Type 0
HasValueIn number e extras value handle =
    Has (λ s. HasValueAt number e (bytes_of extras) value s.cells) handle.value

-- the marker has this value in the environment that was set
abbrev pub IsTrueThere : ℕ → Bool → Handle → Type 0
IsTrueThere number value handle = Has (HasValueThere number value) handle.value

-- the text of the marker is written
abbrev pub WritesText : ℕ → List ℕ → List ℕ → ℕ → Handle → Type 0
WritesText number old new needed handle =
    Has (λ s. Writes (HasText s.cells number) old new needed) handle.value

-- the buffer is too small for the text of the marker
abbrev pub WouldWriteText : ℕ → List ℕ → List ℕ → ℕ → Handle → Type 0
WouldWriteText number old new needed handle =
    Has (λ s. WouldWrite (HasText s.cells number) old new needed) handle.value
