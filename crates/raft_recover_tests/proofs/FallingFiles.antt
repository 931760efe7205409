-- In a history that can be read no file is below the one before it.
use Rattle.std.proofs.Common.{ℕ, ◌≤◌, ◌<◌, List, [], ◌∷◌, ◌++◌, arith}
use Rattle.raft_base.specs.declared.pipe_log.LogQueue.{LogQueue}
use Rattle.raft_memtable.specs.Batches.{Event}
use Rattle.raft_memtable.specs.Histories.{FilesFrom, last_from, Sound}

-- files that follow one another do so after the first ones
files_back : (q : LogQueue) (n : ℕ) (h k : List Event) → FilesFrom q n (h ++ k) → FilesFrom q (last_from n h) k
files_back q n [] k a = a
files_back q n (e ∷ h) k a = files_back q e.file.seq h k a.2

-- the last number of what follows is no higher than that of the whole
pub last_behind : (n : ℕ) (h g : List Event) → last_from 0 g ≤ last_from n (h ++ g)
last_behind n [] [] = omega arith
last_behind n [] (e ∷ g) = omega arith
last_behind n (e ∷ h) g = last_behind e.file.seq h g

-- a batch in a file below this number can't follow a history that has it
pub falls : (n : ℕ) (h : List Event) (e : Event) → n ≤ last_from 0 h → e.file.seq < n → Sound (h ++ e ∷ []) → ⊥
falls n h e l b s = let back = files_back s.queue 0 h (e ∷ []) s.sound.files in omega (arith, l, b, back.1)
