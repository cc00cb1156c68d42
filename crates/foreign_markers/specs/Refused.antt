-- Why a call about markers by number has no result.
use Rattle.std.specs.Prelude.{◌≡◌, ℕ, ℤ, List, None}
use Rattle.pep508_markers.specs.Machine.{IsMissing}
use Rattle.foreign_calls.specs.Answer.{code_of}
use Rattle.foreign_calls.specs.Refused.{IsOfArguments, IsOutOfMemory}
use Rattle.foreign_calls.specs.declared.answer.Answer.{Answer}
use Rattle.foreign_calls.specs.declared.answer.Answer.TheVariants.{NoEnvironment, NoSuchMarker, Shut, TooComplex}
use Rattle.foreign_markers.specs.declared.handle.Handle.{Handle}
use Rattle.foreign_markers.specs.Interner.{InternerState, Has}

-- which other answers a call may give beside those to a missing marker
abbrev pub Others : Type 1
Others = InternerState → Answer → Type 0

-- one of the numbers has no marker, or each has one, and the call gives another answer
pub data IsRefused (P : Others) (numbers : List ℕ) (s : InternerState) (answer : Answer)
    : Type 0 where
  is_missing : answer ≡ NoSuchMarker → IsMissing s.cells numbers → IsRefused P numbers s answer
  is_other : P s answer → ¬ IsMissing s.cells numbers → IsRefused P numbers s answer

-- the handle is shut, or the call on what it has is refused
pub data Refuses (P : Others) (numbers : List ℕ) (handle : Handle) (answer : Answer)
    : Type 0 where
  is_shut : handle.value ≡ None → answer ≡ Shut → Refuses P numbers handle answer
  is_refused : Has (λ s. IsRefused P numbers s answer) handle.value
      → Refuses P numbers handle answer

-- the same of the number of an answer
abbrev pub RefusesBy : Others → List ℕ → Handle → ℤ → Type 0
RefusesBy P numbers handle code =
    (answer : Answer) × (code ≡ code_of answer) × Refuses P numbers handle answer

-- no other answer
abbrev pub Always : Others
Always s answer = ⊥

-- the question takes more looks at nodes than the options allow
abbrev pub TakesLooks : Others
TakesLooks s answer = answer ≡ TooComplex

-- memory ran out, or the interner has no room
abbrev pub TakesMemory : Others
TakesMemory s answer = IsOutOfMemory answer

-- another argument is invalid, or memory ran out
abbrev pub TakesArguments : Others
TakesArguments s answer = IsOfArguments answer

-- no environment was set
abbrev pub TakesEnvironment : Others
TakesEnvironment s answer = (answer ≡ NoEnvironment) × (s.environment ≡ None)
