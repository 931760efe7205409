-- How many entries of a queue a run leaves, and so when it is refused as `Full`.
use Rattle.raft_table.proofs.Common.{◌≡◌, ℕ, ◌+◌, ◌≤◌, ◌^◌, ◌||◌, true, false, cond, List, [], ◌∷◌, ◌++◌, length, filter, Option, Some, None, refl, ap, subst, arith, length-append, LogQueue, EntryIndex, Counts, live, below, placed_in}
use Rattle.raft_table.proofs.Common.{is_placed_in, entry_count, entries_after_append, entries_after_replay, leaves_hole, starts_in_front, IsTableRunFault}
use Rattle.raft_base.specs.declared.pipe_log.LogQueue.TheVariants.{Append, Rewrite}
use Rattle.raft_table.proofs.RunLemmas.{placed_in-append, filter_comm}
use Rattle.raft_table.proofs.MarkEntries.{same_some}
use Rattle.raft_table.proofs.KeyValueCounts.{length-filter-le}
use Rattle.raft_base.specs.declared.errors.Error.TheVariants as errors

-- no more entries are in a queue than there are
pub entry_count-le : (q : LogQueue) (es : List EntryIndex) → entry_count q es ≤ length es
unfolding placed_in
entry_count-le q es = length-filter-le (is_placed_in q) es

-- nor are more of those below an index
pub entry_count-below : (q : LogQueue) (i : ℕ) (es : List EntryIndex) → entry_count q (below i es) ≤ entry_count q es
unfolding placed_in below
entry_count-below q i es = subst (λ n. n ≤ entry_count q es) (ap length (filter_comm _ (is_placed_in q) es)) (length-filter-le _ (filter (is_placed_in q) es))

behind-in : (q : LogQueue) (i : ℕ) (es run : List EntryIndex) → entry_count q (below i es ++ run) ≤ entry_count q es + entry_count q run
behind-in q i es run =
    omega (arith, ap length (placed_in-append q (below i es) run), length-append (placed_in q (below i es)) (placed_in q run), entry_count-below q i es)

-- a table with a new run has no more entries in a queue than both together
pub appended-in : (q : LogQueue) (es run after : List EntryIndex) → entries_after_append es run ≡ Some after → entry_count q after ≤ entry_count q es + entry_count q run
appended-in q es [] after e = subst (λ x. entry_count q x ≤ entry_count q es + entry_count q []) (same_some _ _ e) (omega arith)
appended-in q es (r ∷ run) after e =
    elim (starts_in_front es r.index || leaves_hole es r.index) as (λ b. cond b None (Some (below r.index es ++ r ∷ run)) ≡ Some after → entry_count q after ≤ entry_count q es + entry_count q (r ∷ run)) [
      | true ↦ λ e. absurd cc
      | false ↦ λ e. subst (λ x. entry_count q x ≤ entry_count q es + entry_count q (r ∷ run)) (same_some _ _ e) (behind-in q r.index es (r ∷ run))
    ] e

-- nor has one with a run that is read again
pub replayed-in : (rule q : LogQueue) (es run after : List EntryIndex) → entries_after_replay rule es run ≡ Some after → entry_count q after ≤ entry_count q es + entry_count q run
replayed-in rule q es [] after e = subst (λ x. entry_count q x ≤ entry_count q es + entry_count q []) (same_some _ _ e) (omega arith)
replayed-in Append q es (r ∷ run) after e =
    elim (leaves_hole es r.index) as (λ b. cond b None (Some (below r.index es ++ r ∷ run)) ≡ Some after → entry_count q after ≤ entry_count q es + entry_count q (r ∷ run)) [
      | true ↦ λ e. absurd cc
      | false ↦ λ e. subst (λ x. entry_count q x ≤ entry_count q es + entry_count q (r ∷ run)) (same_some _ _ e) (behind-in q r.index es (r ∷ run))
    ] e
replayed-in Rewrite q es (r ∷ run) after e =
    elim (leaves_hole es r.index) as (λ b. Some (cond b (r ∷ run) (below r.index es ++ r ∷ run)) ≡ Some after → entry_count q after ≤ entry_count q es + entry_count q (r ∷ run)) [
      | true ↦ λ e. subst (λ x. entry_count q x ≤ entry_count q es + entry_count q (r ∷ run)) (same_some _ _ e) (omega arith)
      | false ↦ λ e. subst (λ x. entry_count q x ≤ entry_count q es + entry_count q (r ∷ run)) (same_some _ _ e) (behind-in q r.index es (r ∷ run))
    ] e

-- where a run with an outcome is refused as `Full`, the live count of its queue and the run's length reach 2^64
full_by : (q : LogQueue) (counts : Counts) (es run : List EntryIndex) (outcome : Option (List EntryIndex)) →
    ((after : List EntryIndex) → outcome ≡ Some after → entry_count q after ≤ entry_count q es + entry_count q run) →
    IsTableRunFault q counts es outcome errors.Full → 2 ^ 64 ≤ live q counts + length run
full_by q counts es run None h f = absurd f
full_by q counts es run (Some after) h f = omega (arith, h after refl, f, entry_count-le q run)

pub append_full : (q : LogQueue) (counts : Counts) (es run : List EntryIndex) → IsTableRunFault q counts es (entries_after_append es run) errors.Full → 2 ^ 64 ≤ live q counts + length run
append_full q counts es run f = full_by q counts es run (entries_after_append es run) (λ after e. appended-in q es run after e) f

pub replay_full : (rule q : LogQueue) (counts : Counts) (es run : List EntryIndex) → IsTableRunFault q counts es (entries_after_replay rule es run) errors.Full → 2 ^ 64 ≤ live q counts + length run
replay_full rule q counts es run f = full_by q counts es run (entries_after_replay rule es run) (λ after e. replayed-in rule q es run after e) f
