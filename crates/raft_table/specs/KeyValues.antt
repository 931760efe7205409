-- The key values of one region.
use Rattle.std.specs.Prelude.{◌≡◌, ℕ, Bool, ◌&&◌, List, [], ◌∷◌, ◌++◌, Option, Some, None, length, filter, map, nat_le, min, option_map}
use Rattle.std.specs.declared.alloc.Global.{Global}
use Rattle.std.specs.declared.vec.Vec.{Vec}
use Rattle.std.specs.Ordering.{nat_cmp}
use Rattle.std.specs.Cmp.Lexicographic.{slice_cmp}
use Rattle.std.specs.FinMap as finite
use Rattle.raft_base.specs.declared.pipe_log.FileId.{FileId}
use Rattle.raft_base.specs.declared.pipe_log.LogQueue.{LogQueue}
use Rattle.raft_table.specs.Queues.{is_same, count_in}

-- the value of a key, and the file that the pair was written to
pub record Stored : Type 0 where
  pub value : List ℕ
  pub file : FileId

-- what is stored under each key, the keys in the order of their bytes
abbrev pub Keys : Type 0
Keys = finite.FinMap (slice_cmp nat_cmp) Stored

-- the value of a key
abbrev pub value_at : Keys → List ℕ → Option (List ℕ)
value_at keys key = option_map (λ s. s.value) (finite.get keys key)

-- the file of a key's pair
abbrev pub file_at : Keys → List ℕ → Option FileId
file_at keys key = option_map (λ s. s.file) (finite.get keys key)

-- what is stored moved to another file, under the same key
abbrev pub moved_to : FileId → Keys → List ℕ → Option Stored → Keys
moved_to file keys key None = keys
moved_to file keys key (Some s) = finite.insert keys key (record s { file = file })

-- the pair of a key, if there is one, moved to another file
abbrev pub with_moved : Keys → List ℕ → FileId → Keys
with_moved keys key file = moved_to file keys key (finite.get keys key)

-- how many pairs have their file in a queue
abbrev pub pair_count : LogQueue → Keys → ℕ
pair_count queue keys = length (filter (λ e. is_same queue e.1.file.queue) (finite.entries keys))

-- what the pair of a file, if there is one, counts in a queue
abbrev pub file_weight : LogQueue → Option FileId → ℕ
file_weight queue None = 0
file_weight queue (Some file) = count_in queue file.queue 1

-- the numbers of the files of the pairs in a queue
abbrev pub seqs_in : LogQueue → Keys → List ℕ
seqs_in queue keys =
    map (λ e. e.1.file.seq) (filter (λ e. is_same queue e.1.file.queue) (finite.entries keys))

-- the lesser of two numbers, where both are there
abbrev pub lesser : Option ℕ → Option ℕ → Option ℕ
lesser None m = m
lesser (Some n) None = Some n
lesser (Some n) (Some m) = Some (min n m)

-- the least of some numbers, if there are any
abbrev pub least : List ℕ → Option ℕ
least [] = None
least (n ∷ ns) = lesser (Some n) (least ns)

-- a key and its value
abbrev pub key_value : List ℕ × Stored → List ℕ × List ℕ
key_value e = (e.0, e.1.value)

-- whether a file is in a queue, and at or below the gate, if there is one
abbrev pub is_up_to : LogQueue → Option ℕ → FileId → Bool
is_up_to queue None file = is_same queue file.queue
is_up_to queue (Some gate) file = is_same queue file.queue && nat_le file.seq gate

-- the keys and values of the pairs in a queue whose file is at or below the gate, in the order of the keys
abbrev pub pairs_up_to : LogQueue → Option ℕ → Keys → List (List ℕ × List ℕ)
pairs_up_to queue gate keys = map key_value (filter (λ e. is_up_to queue gate e.1.file) (finite.entries keys))

-- vectors of keys and values, by their bytes
abbrev pub pairs_shown : List (Vec ℕ Global × Vec ℕ Global) → List (List ℕ × List ℕ)
pairs_shown pairs = map (λ p. (p.0.items, p.1.items)) pairs

-- pairs put in turn
abbrev pub with_pairs : Keys → List (List ℕ × Stored) → Keys
with_pairs keys [] = keys
with_pairs keys (e ∷ es) = with_pairs (finite.insert keys e.0 e.1) es

-- the newer pairs put over the older ones
abbrev pub pairs_over : Keys → Keys → Keys
pairs_over newer older = with_pairs older (finite.entries newer)

-- a merge of pairs that found no memory: the first of the newer pairs are put over the older ones, one is lost, and the rest is left
pub record ArePartlyOver (newer older keys left : Keys) : Type 0 where
  pub front : List (List ℕ × Stored)
  pub lost : List ℕ × Stored
  pub split : finite.entries newer ≡ front ++ lost ∷ finite.entries left
  pub put : keys ≡ with_pairs older front
