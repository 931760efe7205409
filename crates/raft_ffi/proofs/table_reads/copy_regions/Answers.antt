use Rattle.raft_ffi.proofs.Common.{IsPermutation-sym, IsPermutation-trans, IsNonDecreasingBy-from_sort}
use Rattle.raft_ffi.proofs.table_reads.copy_regions.Goals as goal

pub returns-clause-ok : goal.returns-clause-ok
returns-clause-ok c =
    let sorted = c.sort_unstable.new.self.items in
    record {
      regions = sorted;
      of_tables = record {
        all = IsPermutation-trans sorted _ _ (IsPermutation-sym _ _ c.sort_unstable.ensures.permutation) c.in_ok-regions.ensures.ok;
        rising = IsNonDecreasingBy-from_sort (λ x. x) sorted c.sort_unstable.ensures.sorted;
      };
      copied = rw (c.as_slice.ensures.value) at c.copy_front.ensures;
    }
