use Rattle.raft_engine.proofs.Common.{List, ℕ, inr, subst, IsEntryBlockOf, IsLentBlockFault}
use Rattle.raft_engine.proofs.BlockReadLemmas.{unsound_read}
use Rattle.raft_engine.proofs.block_reads.read_block_of.Goals as goal

pub returns-in-Err-clause-err : goal.returns-in-Err-clause-err
returns-in-Err-clause-err g c =
    let same = c.as_slice.ensures.value in
    inr (
      c.in-Some.place,
      c.in-Some.is,
      unsound_read c.args.region c.args.entry.now.index c.in-Some.place c.in_ok-entries.entries.items _ _ c.in-Err.unsound c.name_entry_in_error.result c.in_ok-entries.ensures.ok
          (subst (λ (l : List ℕ). (entries : List ℕ) → IsEntryBlockOf c.in-Some.place.len l entries → ⊥) same c.in-Err.ensures.refused)
          (subst (λ (l : List ℕ). IsLentBlockFault c.in-Some.place.len l c.in-Err.unsound) same c.in-Err.ensures.fault)
          c.name_entry_in_error.ensures,
    )
