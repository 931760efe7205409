-- What a table has, in numbers.
use Rattle.std.specs.Prelude.{◌≡◌, ℕ, [], length, Option, Some, None, MatchOption, if◌then◌else◌}
use Rattle.std.specs.FinMap as finite
use Rattle.raft_base.specs.declared.pipe_log.LogQueue.TheVariants.{Append, Rewrite}
use Rattle.raft_table.specs.Least.{least_of}
use Rattle.raft_table.specs.Table.{Table}
use Rattle.raft_table.specs.TableEntries.{start_of}
use Rattle.raft_ffi.specs.declared.status.Maybe.{Maybe}
use Rattle.raft_ffi.specs.declared.table_reads.Summary.{Summary}

-- a number that may be there
abbrev pub number_in : Maybe → Option ℕ
number_in m = if m.is_some then Some m.number else None

-- the numbers are those of the table
pub record IsSummaryOf (t : Table) (s : Summary) : Type 0 where
  pub entries : s.entries ≡ length t.entries
  pub keys : s.keys ≡ finite.len t.keys
  pub first : MatchOption (number_in s.first) (t.entries ≡ []) (λ i. i ≡ start_of t.entries)
  pub append : number_in s.append_seq ≡ least_of Append t
  pub rewrite : number_in s.rewrite_seq ≡ least_of Rewrite t
