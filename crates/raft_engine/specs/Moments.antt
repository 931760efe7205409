-- What was put and synced at one moment, and what is at each later one.
use Rattle.std.specs.Prelude.{◌≡◌, ℕ, List, ◌++◌}
use Rattle.std.specs.List.{AllByRecursion}
use Rattle.raft_base.specs.declared.entry_index.EntryIndex.{EntryIndex}
use Rattle.raft_files.specs.Asks.{Ask}
use Rattle.raft_engine_prefixes.specs.Prefixes.{AreFirstOf, GoesOn}
use Rattle.raft_engine.specs.KeptEngine.{KeptEngine}
use Rattle.raft_engine.specs.Lasting.{HaveBothBegun, IsLasting, IsLastingAfter}

-- by none of these asks files were found: so it is of all that an engine asks of found files, while it is opened and later
abbrev pub FindNoFiles : List Ask → Type 0
FindNoFiles asks = AllByRecursion (λ (a : Ask). GoesOn a.act) asks

-- of two moments of an engine, once files were begun or found in both queues: what was synced at the earlier one are the first batches of
-- those that are synced at the later one, and what was written then are the first of those that are written
abbrev pub MomentsGoOn : Type 0
MomentsGoOn =
    (content : EntryIndex → List ℕ) (engine : KeptEngine) (lasting : IsLasting content engine)
    (later mid earlier : List Ask) → engine.asks ≡ later ++ (mid ++ earlier) → HaveBothBegun earlier → FindNoFiles mid
    → (before : IsLastingAfter content engine.version lasting.base earlier) (after : IsLastingAfter content engine.version lasting.base (mid ++ earlier))
    → AreFirstOf before.synced after.synced × AreFirstOf before.batches after.batches

-- so what was synced when one call returned is synced when a later one does, where the engine has asked these in between
abbrev pub CallsGoOn : Type 0
CallsGoOn =
    (content : EntryIndex → List ℕ) (old new : KeptEngine) (before : IsLasting content old) (after : IsLasting content new)
    (mid : List Ask) → new.asks ≡ mid ++ old.asks → new.version ≡ old.version → FindNoFiles mid
    → AreFirstOf before.now.synced after.now.synced × AreFirstOf before.now.batches after.now.batches
