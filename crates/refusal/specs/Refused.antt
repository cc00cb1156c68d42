-- What holds of a call that is refused.
use Rattle.std.specs.Prelude.{Result, IfErr, ⊤}
use Rattle.refusal.specs.declared.Refusal.{Refusal}
use Rattle.refusal.specs.declared.Refusal.TheVariants.{Fault, OutOfMemory, SegmentAtEnd}

-- a fact about the fault, if the refusal is one
abbrev pub IfFault : {E : Type 0} → Refusal E → (E → Type 0) → Type 0
IfFault OutOfMemory P = ⊤
IfFault SegmentAtEnd P = ⊤
IfFault (Fault fault) P = P fault

-- a fact about the fault, if the call is refused with one
abbrev pub FaultIs : {T E : Type 0} → Result T (Refusal E) → (E → Type 0) → Type 0
FaultIs result P = IfErr result (λ refusal. IfFault refusal P)
