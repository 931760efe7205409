use Rattle.raft_ffi.proofs.Common.{List, ◌++◌, Event, ReaderSeen, AreReadersUnsound, ReadersStand, ReadersStandExactly, err_from_is_err_and}
use Rattle.raft_base.specs.declared.pipe_log.LogQueue.{LogQueue}
use Rattle.raft_history.specs.Histories.{Apart, IsOfQueue, IsSmall, Sound}
use Rattle.raft_engine.specs.ReadQueues.{HaveBothRead, HaveBothReadExactly}
use Rattle.raft_ffi.proofs.queue_reader.QueueReader.merge.Goals as goal

stand : (newer old new : ReaderSeen) → ((h g : List Event) → IsSmall (h ++ g) → HaveBothRead old.read h → HaveBothRead newer.read g → HaveBothRead new.read (h ++ g)) → ReadersStand newer old new
unfolding ReadersStand
stand newer old new so = so

stand_exactly : (newer old new : ReaderSeen) → ((h g : List Event) → IsSmall (h ++ g) → Apart (h ++ g) → HaveBothReadExactly old.read h → HaveBothReadExactly newer.read g → HaveBothReadExactly new.read (h ++ g)) → ReadersStandExactly newer old new
unfolding ReadersStandExactly
stand_exactly newer old new so = so

unsound : (queue : LogQueue) (newer old : ReaderSeen) → ((h g : List Event) → IsSmall (h ++ g) → IsOfQueue queue (h ++ g) → HaveBothRead old.read h → HaveBothRead newer.read g → ¬ (Sound (h ++ g))) → AreReadersUnsound queue old newer
unfolding AreReadersUnsound
unsound queue newer old so = so

pub returns-clause-stands : goal.returns-clause-stands
returns-clause-stands c = rw (← c.self.view_is, ← c.newer.view_is) (stand _ _ _ c.in_ok-merge.ensures.stands)

pub returns-clause-exact : goal.returns-clause-exact
returns-clause-exact c = rw (← c.self.view_is, ← c.newer.view_is) (stand_exactly _ _ _ c.in_ok-merge.ensures.exact)

pub returns-in_err-merge-clause-refused : goal.returns-in_err-merge-clause-refused
returns-in_err-merge-clause-refused c =
    let p = err_from_is_err_and c.from_residual.result c.from_residual.ensures.1 in
    rw (← c.self.view_is, ← c.newer.view_is, p.1, p.2) (λ other. unsound c.args.queue _ _ (c.in_err-merge.ensures.refused other))
