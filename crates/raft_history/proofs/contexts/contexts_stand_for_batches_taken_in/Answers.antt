use Rattle.raft_history.proofs.TakenLaws.{taken_stands, taken_exact, taken_none, next_sound}
use Rattle.raft_history.proofs.contexts.contexts_stand_for_batches_taken_in.Goals as goal

pub returns : goal.returns
returns c = record {
  stands = λ c d h e s f i t. taken_stands c d h e (record { suits = s; follows = f; in_file = i; status = t });
  exact = λ c d h e s f i t. taken_exact c d h e (record { suits = s; follows = f; in_file = i; status = t });
  refused = λ c h e s f i t. taken_none c h e (record { suits = s; follows = f; in_file = i; status = t });
  next = λ c h e a b. let n = next_sound c h e a b in (n.suits, n.follows, n.in_file, n.status);
}
