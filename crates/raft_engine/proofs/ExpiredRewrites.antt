-- Files that no table needs are the same ones once the rewrite queue is told what was untold.
use Rattle.raft_engine.proofs.Common.{◌≡◌, ℕ, zero, suc, List, [], ◌∷◌, ◌++◌, drop, refl, sym, ap, ◌∙◌, subst, LogQueue, Append, Rewrite, Version, Item, Batch, Act, Ask, NumberedBytes, Sync, acts_on, ask, begun, deletions, files_of, numbers, numbers_on_last, bytes_for}
use Rattle.raft_engine.proofs.Common.{KeptEngine, IsTold, AreExpired, asks_of_items}
use Rattle.raft_engine.proofs.KeptPurges.{items_others, rewrite_file}

told_numbers : (version : Version) (seq : ℕ) (batch : Batch) (items : List Item) (asks : List Ask)
    → numbers (begun (acts_on Rewrite (asks_of_items (rewrite_file version seq) batch items ++ asks))) ≡ numbers (begun (acts_on Rewrite asks))
told_numbers version seq batch [] asks = refl
told_numbers version seq batch (item ∷ items) asks = numbers_on_last (λ (old : List ℕ). old ++ bytes_for (rewrite_file version seq) batch) (begun (acts_on Rewrite asks))

told_deletions : (version : Version) (seq : ℕ) (batch : Batch) (items : List Item) (asks : List Ask)
    → deletions (acts_on Rewrite (asks_of_items (rewrite_file version seq) batch items ++ asks)) ≡ deletions (acts_on Rewrite asks)
told_deletions version seq batch [] asks = refl
told_deletions version seq batch (item ∷ items) asks = refl

numbers_dropped : (n : ℕ) (files : List NumberedBytes) → numbers (drop n files) ≡ drop n (numbers files)
numbers_dropped zero files = refl
numbers_dropped (suc n) [] = refl
numbers_dropped (suc n) (x ∷ files) = numbers_dropped n files

-- the same files are expired
pub told_expired : (queue : LogQueue) (old told : KeptEngine) (count : ℕ) → IsTold old told → AreExpired queue old count → AreExpired queue told count
told_expired queue old told count t x =
    subst (λ (e : KeptEngine). AreExpired queue e count) (sym t.told) (record { expired = x.expired; rest = x.rest; split = same queue ∙ x.split; many = x.many; are = x.are; no_more = x.no_more })
  where
    synced : List Ask
    synced = ask Append Sync ∷ old.asks

    asks : List Ask
    asks = asks_of_items (rewrite_file old.version t.seq) old.untold old.untold.items ++ synced

    same : (q : LogQueue) → numbers (files_of q asks) ≡ numbers (files_of q old.asks)
    same Append = ap (λ (acts : List Act). numbers (drop (deletions acts) (begun acts))) (items_others old.version t.seq old.untold old.untold.items synced)
    same Rewrite =
        numbers_dropped (deletions (acts_on Rewrite asks)) (begun (acts_on Rewrite asks))
        ∙ ap (λ (n : ℕ). drop n (numbers (begun (acts_on Rewrite asks)))) (told_deletions old.version t.seq old.untold old.untold.items synced)
        ∙ ap (drop (deletions (acts_on Rewrite old.asks))) (told_numbers old.version t.seq old.untold old.untold.items synced)
        ∙ sym (numbers_dropped (deletions (acts_on Rewrite old.asks)) (begun (acts_on Rewrite old.asks)))
