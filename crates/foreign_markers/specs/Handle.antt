-- what a handle owns
use Rattle.std.specs.Prelude.{Bool, true, false, Option, Some, None}
use base.Fml.{Fml, feq}
use mir.Syntax.{Ty}
use denote.RattleType.{RattleType}
use denote.RawPtr.{Ptr}
use Rattle.std_alloc.specs.Box.Ownership.{box_owns}
use Rattle.std.specs.Global.{Global}
use Rattle.std.specs.contracts.impls.GlobalAllocator.TheImpl.{ghosts}

-- the heap of the C library, of which there is one
abbrev heap : Global
heap = record { memory = record { seal = tt } }

-- the right to free a block of it
abbrev pub chunk : Ty → Ptr → Fml
chunk = ghosts.dealloc_token heap

-- nothing where it is shut, and else the box
abbrev pub holds : (R : RattleType) → Bool → Ptr → Option R.Denot → Fml
holds R false p v = feq (Option R.Denot) v None
holds R true p None = feq Bool true false
holds R true p (Some x) = box_owns chunk R p x
