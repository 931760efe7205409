-- Why nothing is asked for a batch.
use Rattle.raft_engine.proofs.Common.{◌≡◌, ◌≢◌, ◌⊎◌, ◌≤◌, ◌<◌, ◌-◌, ◌^◌, ℕ, Bool, true, List, inl, inr, subst, sym, Error, Append, Rewrite, Version, Batch, encoded_length, Accessor, IsAppendCheckFault, Ask, IsLastFile, KeptEngine, IsKeptBy, IsPurgeRefusal, IsLastFull, IsRefusal}
use Rattle.raft_engine.proofs.Common.{IsRotationRefusal, QueueFiles}
use Rattle.raft_base.specs.declared.errors.Error.TheVariants as errors
use Rattle.raft_engine.proofs.FilesLemmas.{files_last}

-- the tables would refuse it
pub test_refusal : (engine : KeptEngine) (batch : Batch) (e : Error) → engine.intact ≡ true → IsAppendCheckFault engine.accessor.tables batch.items e → IsRefusal engine batch e
test_refusal engine batch (errors.Corruption text) intact f = (intact, f)
test_refusal engine batch errors.Memory intact f = intact
test_refusal engine batch errors.Full intact f = absurd f
test_refusal engine batch (errors.InvalidArgument text) intact f = absurd f
test_refusal engine batch (errors.Io text) intact f = absurd f
test_refusal engine batch (errors.Codec text) intact f = absurd f
test_refusal engine batch (errors.Message text) intact f = absurd f
test_refusal engine batch (errors.TryAgain text) intact f = absurd f
test_refusal engine batch errors.EntryCompacted intact f = absurd f
test_refusal engine batch errors.EntryNotFound intact f = absurd f
test_refusal engine batch (errors.Other text) intact f = absurd f
test_refusal engine batch errors.Failed intact f = absurd f

-- it has too many bytes
pub bytes_refusal : (engine : KeptEngine) (batch : Batch) (e : Error) → engine.intact ≡ true
    → (e ≢ errors.Memory → (e ≡ errors.Full) × (2 ^ 56 ≤ encoded_length batch.items batch.entry_bytes)) → IsRefusal engine batch e
bytes_refusal engine batch errors.Memory intact f = intact
bytes_refusal engine batch errors.Full intact f = (intact, inl (f (λ p. cc)).1)
bytes_refusal engine batch (errors.Corruption text) intact f = let is = (f (λ p. cc)).0 in absurd cc
bytes_refusal engine batch (errors.InvalidArgument text) intact f = let is = (f (λ p. cc)).0 in absurd cc
bytes_refusal engine batch (errors.Io text) intact f = let is = (f (λ p. cc)).0 in absurd cc
bytes_refusal engine batch (errors.Codec text) intact f = let is = (f (λ p. cc)).0 in absurd cc
bytes_refusal engine batch (errors.Message text) intact f = let is = (f (λ p. cc)).0 in absurd cc
bytes_refusal engine batch (errors.TryAgain text) intact f = let is = (f (λ p. cc)).0 in absurd cc
bytes_refusal engine batch errors.EntryCompacted intact f = let is = (f (λ p. cc)).0 in absurd cc
bytes_refusal engine batch errors.EntryNotFound intact f = let is = (f (λ p. cc)).0 in absurd cc
bytes_refusal engine batch (errors.Other text) intact f = let is = (f (λ p. cc)).0 in absurd cc
bytes_refusal engine batch errors.Failed intact f = let is = (f (λ p. cc)).0 in absurd cc

-- the last file has too many
pub file_refusal : (version : Version) (asks : List Ask) (append rewrite : QueueFiles) (untold : Batch) (accessor : Accessor) (intact : Bool) (batch : Batch)
    → IsKeptBy version asks append rewrite untold accessor intact → intact ≡ true → 2 ^ 63 < append.len
    → IsRefusal (record { version = version; asks = asks; untold = untold; accessor = accessor; intact = intact }) batch errors.Full
file_refusal version asks append rewrite untold accessor intact batch k is many =
    let w = k.whole is in
    (is, inr (record { seq = append.seq; bytes = w.append_files.bytes; last = files_last Append asks append w.append_files; many = subst (λ (n : ℕ). 2 ^ 63 < n) w.append_files.ends many }))

-- the last file has the greatest number, or there is no memory
pub unclosed_refusal : (version : Version) (asks : List Ask) (append rewrite : QueueFiles) (untold : Batch) (accessor : Accessor) (intact : Bool) (e : Error)
    → IsKeptBy version asks append rewrite untold accessor intact → intact ≡ true → (e ≡ errors.Memory) ⊎ ((e ≡ errors.Full) × (append.seq ≡ 2 ^ 64 - 1))
    → IsRotationRefusal (record { version = version; asks = asks; untold = untold; accessor = accessor; intact = intact }) e
unclosed_refusal version asks append rewrite untold accessor intact e k is (inl memory) =
    subst (IsRotationRefusal (record { version = version; asks = asks; untold = untold; accessor = accessor; intact = intact })) (sym memory) is
unclosed_refusal version asks append rewrite untold accessor intact e k is (inr full) =
    let w = k.whole is in
    subst (IsRotationRefusal (record { version = version; asks = asks; untold = untold; accessor = accessor; intact = intact })) (sym full.0)
    (is, (w.append_files.bytes, subst (λ (n : ℕ). IsLastFile Append asks n w.append_files.bytes) full.1 (files_last Append asks append w.append_files)))

-- the last rewrite file has too many bytes
pub rewrite_full : (version : Version) (asks : List Ask) (append rewrite : QueueFiles) (untold : Batch) (accessor : Accessor) (intact : Bool)
    → IsKeptBy version asks append rewrite untold accessor intact → intact ≡ true → 2 ^ 63 < rewrite.len → IsLastFull Rewrite asks
rewrite_full version asks append rewrite untold accessor intact k is many =
    let w = k.whole is in
    record { seq = rewrite.seq; bytes = w.rewrite_files.bytes; last = files_last Rewrite asks rewrite w.rewrite_files; many = subst (λ (n : ℕ). 2 ^ 63 < n) w.rewrite_files.ends many }

-- so nothing can be told
pub rewrite_refusal : (version : Version) (asks : List Ask) (append rewrite : QueueFiles) (untold : Batch) (accessor : Accessor) (intact : Bool)
    → IsKeptBy version asks append rewrite untold accessor intact → intact ≡ true → 2 ^ 63 < rewrite.len
    → IsPurgeRefusal (record { version = version; asks = asks; untold = untold; accessor = accessor; intact = intact }) errors.Full
rewrite_refusal version asks append rewrite untold accessor intact k is many = (is, inr (rewrite_full version asks append rewrite untold accessor intact k is many))
