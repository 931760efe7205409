use Rattle.raft_ffi.proofs.Common.{◌≡◌, ◌∙◌, ℕ, [], Option, Some, None, ap, refl, table_of, moving_entries, placed_in}
use Rattle.raft_ffi.proofs.table_reads.copy_moving_entries.Goals as goal

none_moves : (gate : Option ℕ) (region : ℕ) → [] ≡ moving_entries gate (table_of region None).entries
unfolding placed_in
none_moves None region = refl
none_moves (Some gate) region = refl

pub returns-in-None-clause-ok : goal.returns-in-None-clause-ok
returns-in-None-clause-ok c = c.new.ensures.items ∙ none_moves c.args.gate c.args.region ∙ ap (λ t. moving_entries c.args.gate (table_of c.args.region t).entries) c.in-None.ensures.value
