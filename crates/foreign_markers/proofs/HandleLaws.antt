-- What becomes of a handle that is open.
use Rattle.std.proofs.Common.{◌≡◌, ◌∙◌, ℕ, List, [], Option, refl, sym, ap}
use Rattle.std.specs.Prelude.{Some, None}
use Rattle.std.specs.Borrow.{Bor}
use Rattle.pep508_markers.specs.Machine.{Cells}
use Rattle.foreign_calls.specs.declared.answer.Answer.{Answer}
use Rattle.foreign_calls.specs.declared.answer.Answer.TheVariants.{Shut}
use Rattle.foreign_calls.specs.Environment.{bytes_of}
use Rattle.foreign_calls.specs.Refused.{IsOfArguments}
use Rattle.foreign_calls.specs.declared.environment.Environment.{Environment}
use Rattle.foreign_markers.specs.declared.markers.Markers.{Markers}
use Rattle.foreign_markers.specs.declared.handle.Handle.{Handle}
use Rattle.foreign_markers.specs.Numbers.{truths_of}
use Rattle.foreign_markers.specs.Interner.{InternerState, state, state_of, Becomes, Has, IsSetTo}
use Rattle.foreign_markers.specs.Made.{SetsEnvironment}
use Rattle.foreign_markers.specs.Refused.{Others, IsRefused, is_other, Refuses, is_shut, is_refused, TakesArguments}

-- its markers are others then
pub becomes : {P : Cells → Cells → Type 0} {old new : Option Markers} (first last : Markers) → Some first ≡ old → new ≡ Some last → P (truths_of first) (truths_of last) → last.environment ≡ first.environment → Becomes P old new
becomes first last was is p e = record { before = state_of first; after = state_of last; was = ap state (sym was); is = ap state is; step = p; environment_stays = e }

-- it has this
pub has : {P : InternerState → Type 0} {old : Option Markers} (markers : Markers) → Some markers ≡ old → P (state_of markers) → Has P old
has markers was p = record { now = state_of markers; is = ap state (sym was); this = p }

-- it has the same as before
pub same : {old new : Option Markers} (first last : Markers) → Some first ≡ old → new ≡ Some last → truths_of last ≡ truths_of first → last.environment ≡ first.environment → state new ≡ state old
same first last was is p e = ap state is ∙ ap Some both ∙ ap state was
  where
    both : state_of last ≡ state_of first
    both i = record { cells = p i; environment = e i }

-- its environment is another then
pub sets : {e : Environment} {extras : List (Bor (List ℕ))} {old new : Handle} (first last : Markers) → Some first ≡ old.value → new.value ≡ Some last → truths_of last ≡ truths_of first → IsSetTo e (bytes_of extras) last.environment → SetsEnvironment e extras old new
sets first last was is p set = record { before = state_of first; after = state_of last; was = ap state (sym was); is = ap state is; cells_stay = p; is_set = set }

-- it is shut
pub shut : {P : Others} {numbers : List ℕ} {old : Handle} → old.value ≡ None → Refuses P numbers old Shut
shut none = is_shut none refl

-- the call on its markers is refused
pub refuses : {P : Others} {numbers : List ℕ} {old : Handle} {answer : Answer} (markers : Markers) → Some markers ≡ old.value → IsRefused P numbers (state_of markers) answer → Refuses P numbers old answer
refuses markers was p = is_refused (has markers was p)

-- the environment is not set
pub refuses_arguments : {old : Handle} {answer : Answer} (markers : Markers) → Some markers ≡ old.value → IsOfArguments answer → Refuses TakesArguments [] old answer
refuses_arguments markers was p = refuses markers was (is_other p (λ x. x))

pub ruleset laws = (becomes, has, same, sets, shut, refuses, refuses_arguments)
