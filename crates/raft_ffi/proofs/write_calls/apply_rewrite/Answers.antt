use Rattle.raft_accessor.specs.Writes.{Rewriting}
use Rattle.raft_ffi.proofs.DrainLemmas.{apply_so, stopped_so}
use Rattle.raft_ffi.proofs.write_calls.apply_rewrite.Goals as goal

pub returns-clause-ok : goal.returns-clause-ok
returns-clause-ok c =
    apply_so c.apply_rewrite_writes.result (Rewriting c.args.gate c.args.seq) c.into_items.result c.args.items c.args.accessor.now c.apply_rewrite_writes.new.self c.into_items.ensures.items c.into_items.ensures.len c.apply_rewrite_writes.ensures.ok

pub returns-clause-refused : goal.returns-clause-refused
returns-clause-refused c =
    stopped_so c.apply_rewrite_writes.result (Rewriting c.args.gate c.args.seq) c.into_items.result c.args.items c.args.accessor.now c.apply_rewrite_writes.new.self c.into_items.ensures.items c.apply_rewrite_writes.ensures.refused
