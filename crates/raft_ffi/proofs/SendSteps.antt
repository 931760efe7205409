-- A handle may go to another thread, as what it holds may.
use mir.Raw.{raw}
use Rattle.raft_ffi.proofs.Walks.{full_share, Keyless, RattleType, Exit, unchanged, leaves, hidden, under, lone, Ptr, block_ptr, null_ptr, lies_at, exits_of, shape, fields, to, IsSend, AllSend}
use Rattle.raft_ffi.proofs.Walks.{Quiet, part_keyless, owning_send, struct_send, sendable}
use Rattle.std.specs.Prelude.{Option, Some, None}
use Rattle.raft_ffi.proofs.Common.{Global, handle_owned}
use Rattle.std.proofs.Crossing as heap
use Rattle.std.proofs.alloc.Global.TheSendSync as global
use Rattle.raft_ffi.proofs.HandleSteps.{Handle, held, value, type, row}

quiet : {D X : Type 0} (to : D → X) (e : Exit X) → Quiet e → Quiet (hidden (under to e))
quiet to unchanged q = λ x w. tt
quiet to (leaves L l S s r₀) q = λ d. q (to d)

lies : (R : RattleType) → IsSend R → (p : Ptr) (x : R.Denot) → Keyless (lies_at R full_share p x)
lies R s (block_ptr b o) x = part_keyless R s full_share x b o
lies R s null_ptr x = tt

keyless : (R : RattleType) → IsSend R → (o : Option R.Denot) (at : Ptr) (alloc : Global) → Keyless (handle_owned R alloc at o)
keyless R s None at alloc = tt
keyless R s (Some x) at alloc = (lies R s at x, heap.frees.frees alloc (raw (lone R.mir)) at)

pub send : (h : Handle) → IsSend (held h) → IsSend (row h)
send h s =
    let all : AllSend (fields (type h)) = (search sendable, (global.the_field_send, tt)) in
    owning_send (type h) all (λ d. keyless (held h) s (value h d) (h.shown d).0 (h.shown d).1.0)
    (λ k. quiet (to (type h)) (exits_of k (fields (type h))) ((struct_send (shape (type h)) all).leaving k))
