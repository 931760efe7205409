-- What a handle owns: nothing, or a value on the heap with the right to free it.
use Rattle.std.specs.Prelude.{Option, Some, None}
use Rattle.std.specs.Box.Ownership.{box_owns}
use Rattle.std.specs.Global.{Global}
use Rattle.std.specs.contracts.impls.GlobalAllocator.TheImpl.{ghosts}
use base.Fml.{Fml, ftrue}
use denote.RattleType.{RattleType}
use denote.RawPtr.{Ptr}

-- what a handle that holds this owns
abbrev pub handle_owned : (R : RattleType) → Global → Ptr → Option R.Denot → Fml
handle_owned R alloc at None = ftrue
handle_owned R alloc at (Some held) = box_owns (ghosts.dealloc_token alloc) R at held
