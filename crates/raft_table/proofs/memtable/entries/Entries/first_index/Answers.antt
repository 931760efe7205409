use Rattle.raft_table.proofs.Facts.{◌≡◌, [], length, arith, sym, ap, blocks_shown, entries_in_blocks, kept_facts}
use Rattle.raft_table.proofs.memtable.entries.Entries.first_index.Goals as goal

pub returns-then-self-eq0 : goal.returns-then-self-eq0
returns-then-self-eq0 c = rw (← c.self.view_is) ((kept_facts c.self.invariant.0).empty (omega arith))

pub returns : goal.returns
returns c =
    let f = (kept_facts c.self.invariant.0) in
    let es = entries_in_blocks c.self.inside.first (blocks_shown c.self.inside.blocks.items) in
    rw (← c.self.view_is) ((λ (e : es ≡ []). let l = f.length in let z = ap length e in absurd (omega arith)), sym (f.start (omega arith)))
