use Rattle.raft_table.proofs.Facts.{◌≡◌, ◌-◌, length, take, arith, length-take, length-drop, on_ok_weaker, IfErr-weaker, blocks_shown, entries_in_blocks, start_of, Found, IsFetchFault, range_answer, kept_facts, range_none, range_below}
use Rattle.raft_table.proofs.Facts.{range_behind, range_found, fetched_part}
use Rattle.raft_base.specs.declared.errors.Error.TheVariants as errors
use Rattle.raft_table.proofs.memtable.entries.Entries.fetch_to.Goals as goal

pub returns-then-self-eq0-clause-fault : goal.returns-then-self-eq0-clause-fault
returns-then-self-eq0-clause-fault c = rw (← c.self.view_is, (kept_facts c.self.invariant.0).empty (omega arith), range_none c.args.begin c.args.end (omega arith)) tt

pub returns-then-begin-self-clause-fault : goal.returns-then-begin-self-clause-fault
returns-then-begin-self-clause-fault c =
    let l = (kept_facts c.self.invariant.0).length in
    let s = (kept_facts c.self.invariant.0).start (omega arith) in
    rw (← c.self.view_is, range_below c.args.begin c.args.end (entries_in_blocks c.self.inside.first (blocks_shown c.self.inside.blocks.items)) (omega arith) (omega arith) (omega arith)) tt

pub returns-then-end-self-clause-fault : goal.returns-then-end-self-clause-fault
returns-then-end-self-clause-fault c =
    let l = (kept_facts c.self.invariant.0).length in
    let s = (kept_facts c.self.invariant.0).start (omega arith) in
    rw (← c.self.view_is, range_behind c.args.begin c.args.end (entries_in_blocks c.self.inside.first (blocks_shown c.self.inside.blocks.items)) c.self.invariant.0.table_entries (omega arith) (omega arith) (omega arith) (omega arith)) tt

pub count_within_limit-count-requires-clause-within : goal.count_within_limit-count-requires-clause-within
count_within_limit-count-requires-clause-within c = let l = (kept_facts c.self.invariant.0).length in rw (← c.self.view_is) (omega arith)

pub push_range_into-requires-clause-within : goal.push_range_into-requires-clause-within
push_range_into-requires-clause-within c =
    let l = (kept_facts c.self.invariant.0).length in
    let n = length-drop (c.args.begin - c.self.inside.first) (take (c.args.end - c.self.inside.first) c.args.self.now) in
    let m = length-take (c.args.end - c.self.inside.first) c.args.self.now in
    let v : length c.args.self.now ≡ c.self.inside.len = rw (← c.self.view_is) l in
    omega arith

is_found : (c : goal.After-push_range_into) → range_answer c.args.begin c.args.end c.args.self.now ≡ Found
is_found c =
    let l = (kept_facts c.self.invariant.0).length in
    let s = (kept_facts c.self.invariant.0).start (omega arith) in
    rw (← c.self.view_is) (range_found c.args.begin c.args.end (entries_in_blocks c.self.inside.first (blocks_shown c.self.inside.blocks.items)) c.self.invariant.0.table_entries (omega arith) (omega arith) (omega arith) (omega arith))

pub returns-clause-ok : goal.returns-clause-ok
returns-clause-ok c =
    let s : start_of (entries_in_blocks c.self.inside.first (blocks_shown c.self.inside.blocks.items)) ≡ c.self.inside.first = (kept_facts c.self.invariant.0).start (omega arith) in
    let w = rw (← c.self.view_is) at c.count_within_limit-count.ensures in
    rw (is_found c, ← c.self.view_is)
    (on_ok_weaker c.push_range_into.result (λ h. fetched_part c.args.limit c.args.begin c.args.end c.count_within_limit-count.result
    (entries_in_blocks c.self.inside.first (blocks_shown c.self.inside.blocks.items)) c.args.vec.now.items c.push_range_into.new.vec.items
    c.self.invariant.0.table_entries (omega arith) (omega arith) (rw s w) (rw (s, c.self.view_is) h)) c.push_range_into.ensures.ok)

pub returns-clause-fault : goal.returns-clause-fault
returns-clause-fault c =
    rw (is_found c)
    (IfErr-weaker c.push_range_into.result (λ e. e ≡ errors.Memory) (IsFetchFault Found) (λ e h. rw h tt) c.push_range_into.ensures.memory)
