-- What is put and synced goes on.
use Rattle.raft_engine_prefixes.proofs.Common.{◌≡◌, List, [], ◌++◌, sym, ap, ◌∙◌, append-nil, LogQueue, Version, Event, Act, Put, Begin, Sync, Unsynced, Delete, Cut, Found, Read, begun, ArePut, PutsGoOn}
use Rattle.raft_engine_prefixes.proofs.TornLemmas.{one_reading, whole_torn}
use Rattle.raft_engine_prefixes.proofs.PrefixLemmas.{all_front, all_held}
use Rattle.raft_engine_prefixes.proofs.StepLemmas.{one_history}

-- the same lists
same : {a b : List Event} → a ≡ b → (more : List Event) × (a ≡ b ++ more)
same {a} {b} e = ([], e ∙ sym (append-nil b))

-- where all is synced, that are the batches before
all_of : (queue : LogQueue) (version : Version) (acts : List Act) (synced h synced' h' : List Event) → synced ≡ h → h ≡ h' → ArePut queue version acts synced' h'
    → ((more : List Event) × (h ≡ h' ++ more)) × ((more : List Event) × (synced ≡ synced' ++ more))
all_of queue version acts synced h synced' h' all is p = let f = all_front queue version acts synced' h' p in (same is, (f.more, all ∙ is ∙ f.least))

pub puts_go_on : PutsGoOn
puts_go_on queue version (Put bytes) acts synced h go p synced' h' q =
    let one = one_history queue version acts synced synced' p.old h' p.before q in
    ((p.more, p.split ∙ ap (λ (l : List Event). l ++ p.more) one.1), same one.0)
puts_go_on queue version (Begin seq) acts synced h go p synced' h' q =
    all_of queue version acts synced h synced' h' p.0 (one_reading queue version (begun acts) h h' (whole_torn queue version (begun acts) h p.1) (all_held queue version acts synced' h' q)) q
puts_go_on queue version Sync acts synced h go p synced' h' q =
    all_of queue version acts synced h synced' h' p.0 (one_reading queue version (begun acts) h h' p.1 (all_held queue version acts synced' h' q)) q
puts_go_on queue version Delete acts synced h go p synced' h' q = let one = one_history queue version acts synced synced' h h' p q in (same one.1, same one.0)
puts_go_on queue version (Cut len) acts synced h go p synced' h' q = let one = one_history queue version acts synced synced' h h' p.0 q in (same one.1, same one.0)
puts_go_on queue version (Found files) acts synced h go p synced' h' q = absurd go
puts_go_on queue version (Read place bytes) acts synced h go p synced' h' q = let one = one_history queue version acts synced synced' h h' p q in (same one.1, same one.0)
puts_go_on queue version Unsynced acts synced h go p synced' h' q = let one = one_history queue version acts synced synced' h h' p q in (same one.1, same one.0)
