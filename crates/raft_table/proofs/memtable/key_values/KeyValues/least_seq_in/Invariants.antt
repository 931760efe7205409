use Rattle.raft_table.proofs.Facts.{◌≡◌, filter, map, is_same, seqs_in, lesser, least}
use Rattle.raft_table.proofs.memtable.key_values.KeyValues.least_seq_in.Given as goal

abbrev pub invariant-loop-pair : goal.invariant-loop-pair
invariant-loop-pair l =
    lesser l.least (least (map (λ s. s.file.seq) (filter (λ s. is_same l.queue s.file.queue) l.pair-iterator))) ≡ least (seqs_in l.queue l.self)
