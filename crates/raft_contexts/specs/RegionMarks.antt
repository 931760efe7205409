-- The region marks of regions, and changes of one of them.
use Rattle.std.specs.Prelude.{◌≡◌, ◌≢◌, ◌⊎◌, ℕ, ◌<◌, ◌≤◌, true, false, List, [], ◌∷◌, replicate, Some, is_some, Result}
use Rattle.std.specs.declared.alloc.AllocError.{AllocError}
use Rattle.std.specs.Borrow.{MutBor}
use Rattle.std.specs.FinMap as finite
use Rattle.std.specs.Fn.{Once}
use Rattle.std.specs.Option.{unwrap_or}
use Rattle.std.specs.Result.{OnOk, OnErr}
use Rattle.raft_base.specs.declared.pipe_log.LogQueue.{LogQueue}
use Rattle.raft_history.specs.MarkedRegions.{Marks}
use Rattle.raft_table.specs.MarkJoins.{fresh, joined_at}
use Rattle.raft_table.specs.Marks.{Mark}

-- the region mark of a region, or that of no step where it has none
abbrev pub mark_in : Marks → ℕ → Mark
mark_in marks id = unwrap_or (finite.get marks id) fresh

-- the region mark of a run that starts here
abbrev pub run_at : ℕ → Mark
run_at start = record fresh { reach = Some start; cut = Some start }

-- a run leaves a region mark that is implied as one: its region had no entries (they end at 0), or it begins among them or right behind them
abbrev pub IsImpliedStill : ℕ → ℕ → ℕ → Type 0
IsImpliedStill start end first = (end ≡ 0) ⊎ ((0 < end) × (start ≤ first) × (first ≤ end))

-- kept region marks after a run from `first` on of a region whose entries went from `start` to `end`: the run is joined to the one that is kept; where none is, nothing is kept if it is implied still, else what is joined to that of one run from `start` on
pub record IsRunKept (queue : LogQueue) (id start end first : ℕ) (old new : Marks) : Type 0 where
  pub by : ((is_some (finite.get old id) ≡ true) × (new ≡ finite.insert old id (joined_at queue end (mark_in old id) (run_at first))))
      ⊎ ((is_some (finite.get old id) ≡ false) × (((new ≡ old) × IsImpliedStill start end first) ⊎ ((0 < end) × (new ≡ finite.insert old id (joined_at queue end (run_at start) (run_at first))))))

-- these slots, or 128 empty ones where there are none
abbrev pub with_slots : List Marks → List Marks
with_slots [] = replicate 128 finite.empty
with_slots (m ∷ ms) = m ∷ ms

-- a call that changes a region mark, or finds no memory for that
abbrev pub MarkChange : Type 0 → Type 1
MarkChange F = Once F (MutBor Mark × Unit {0}) (Result (Unit {0}) AllocError × (MutBor Mark × Unit {0}))

-- at a region mark, the call may answer r and leave that region mark
pub record ChangesMark {F : Type 0} (g : MarkChange F) (f : F) (old : Mark) (r : Result (Unit {0}) AllocError) (new : Mark) : Type 0 where
  pub mark : MutBor Mark
  pub shows : mark.now ≡ old
  pub left : MutBor Mark
  pub met : g.post f (mark, tt) (r, (left, tt))
  pub leaves : left.now ≡ new

-- the call may be made at a region mark
pub record MayChangeMark {F : Type 0} (g : MarkChange F) (f : F) (old : Mark) : Type 0 where
  pub pre : (mark : MutBor Mark) → mark.now ≡ old → g.pre f (mark, tt)

-- a region mark was changed by a call; where there was no memory it stays, if the call leaves it as it was
pub record IsOneUpdated {F : Type 0} (g : MarkChange F) (f : F) (old : Mark) (r : Result (Unit {0}) AllocError) (new : Mark) : Type 0 where
  pub changed : OnOk r (ChangesMark g f old r new)
  pub err : ((m : Mark) → ChangesMark g f old r m → OnErr r (m ≡ old)) → OnErr r (new ≡ old)

-- the region mark of a region, or that of no step where it had none, was changed by a call, and no other region mark was; where there was no memory, all region marks stay if the call leaves its own as it was
pub record IsMarkUpdated {F : Type 0} (g : MarkChange F) (f : F) (old : Marks) (id : ℕ) (r : Result (Unit {0}) AllocError) (new : Marks) : Type 0 where
  pub changed : OnOk r (ChangesMark g f (mark_in old id) r (mark_in new id))
  pub one : OnOk r (new ≡ finite.insert old id (mark_in new id))
  pub others : (q : ℕ) → q ≢ id → finite.get new q ≡ finite.get old q
  pub err : ((m : Mark) → ChangesMark g f (mark_in old id) r m → OnErr r (m ≡ mark_in old id)) → OnErr r (new ≡ old)
