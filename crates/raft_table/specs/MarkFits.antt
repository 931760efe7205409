-- What every region mark that stands for steps keeps beside its meaning, by which two of them can be joined.
use Rattle.std.specs.Prelude.{◌≡◌, ◌⊎◌, ℕ, ◌<◌, ◌≤◌, false, List, [], Option, Some, None}
use Rattle.std.specs.List.{AllByRecursion}
use Rattle.raft_base.specs.declared.pipe_log.LogQueue.{LogQueue}
use Rattle.raft_base.specs.declared.pipe_log.LogQueue.TheVariants.{Append, Rewrite}
use Rattle.raft_base.specs.declared.entry_index.EntryIndex.{EntryIndex}
use Rattle.raft_base.specs.Runs.{end_of}
use Rattle.raft_table.specs.Marks.{Mark}

-- at most the bound, if there is one
abbrev pub IsNotAbove : ℕ → Option ℕ → Type 0
IsNotAbove c None = Unit {0}
IsNotAbove c (Some d) = c ≤ d

-- there is a bound, and it is below the index
abbrev pub IsBelow : Option ℕ → ℕ → Type 0
IsBelow None i = ⊥
IsBelow (Some d) i = d < i

-- the barred indexes lie among those that the first run meets
abbrev pub LiesWithin : ℕ → Option ℕ → Option (ℕ × ℕ) → Type 0
LiesWithin floor cut None = Unit {0}
LiesWithin floor cut (Some p) = (floor ≤ p.0) × IsNotAbove p.1 cut

-- the older entries that stay are among the barred ones
abbrev pub BarsStaying : Option (ℕ × ℕ) → ℕ → ℕ → Type 0
BarsStaying None floor cut = Unit {0}
BarsStaying (Some p) floor cut = (p.0 ≤ floor) × (cut ≤ p.1)

-- there are barred indexes
abbrev pub IsBarring : Option (ℕ × ℕ) → Type 0
IsBarring None = ⊥
IsBarring (Some p) = Unit {0}

-- of a region that has a run and was not cleaned: the own entries end at the cut or above, but where there are none, no older ones stay, the first run leaves a hole after all that it meets, or what stays is barred
abbrev pub EndsAtCut : ℕ → ℕ → ℕ → Option ℕ → ℕ → Option (ℕ × ℕ) → Type 0
EndsAtCut cut end floor reach_cut reach barred = (end ≡ 0) ⊎ ((cut ≤ end) ⊎ ((cut ≤ floor) ⊎ (IsBelow reach_cut reach ⊎ IsBarring barred)))

-- how the numbers of a region mark with a first run and a cut stand to one another and to the own entries' end
pub record FitsRun (reach cut end reach_floor floor : ℕ) (reach_cut : Option ℕ) (barred : Option (ℕ × ℕ)) : Type 0 where
  pub cut_first : cut ≤ reach
  pub floor_rises : reach_floor ≤ floor
  pub cut_falls : IsNotAbove cut reach_cut
  pub covers : BarsStaying barred floor cut
  pub seated : EndsAtCut cut end floor reach_cut reach barred

-- without a run there are no own entries; with one there is a cut
abbrev pub FitsCut : Option ℕ → Option ℕ → Mark → List EntryIndex → Type 0
FitsCut None cut m own = own ≡ []
FitsCut (Some reach) None m own = ⊥
FitsCut (Some reach) (Some cut) m own = FitsRun reach cut (end_of own) m.reach_floor m.floor m.reach_cut m.barred

-- no entry is below the cut, if there is one
abbrev pub AreFromCut : Option ℕ → List EntryIndex → Type 0
AreFromCut None own = Unit {0}
AreFromCut (Some cut) own = AllByRecursion (λ (e : EntryIndex). cut ≤ e.index) own

-- in the rewrite queue no indexes are barred
abbrev pub BarsIn : LogQueue → Option (ℕ × ℕ) → Type 0
BarsIn Append barred = Unit {0}
BarsIn Rewrite barred = barred ≡ None

-- how a region mark and own entries that stand for steps fit: indexes are barred only where there is a first run, and among those that it meets; where the region was not cleaned, no own entry is below the cut
pub record Fits (queue : LogQueue) (m : Mark) (own : List EntryIndex) : Type 0 where
  pub bars : BarsIn queue m.barred
  pub behind : m.reach ≡ None → m.barred ≡ None
  pub within : LiesWithin m.reach_floor m.reach_cut m.barred
  pub uncleaned : m.cleaned ≡ false → FitsCut m.reach m.cut m own
  pub from_cut : m.cleaned ≡ false → AreFromCut m.cut own
