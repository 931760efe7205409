use Rattle.raft_plain.proofs.Common.{◌≡◌, map, least, lesser}
use Rattle.raft_plain.proofs.LiveLemmas.{in_queue}
use Rattle.raft_plain.proofs.text.least_key_seq.Given as goal

abbrev pub invariant-loop-stored : goal.invariant-loop-stored
invariant-loop-stored l = lesser l.least (least (map (λ s. s.file.seq) (in_queue l.queue l.stored-iterator))) ≡ least (map (λ s. s.file.seq) (in_queue l.queue l.initial.stored-iterator))
