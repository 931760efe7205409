use Rattle.raft_table.proofs.Facts.{ℕ, suc, ◌≡◌, ◌-◌, ◌<◌, ◌≤◌, length, get_or, arith, sym, subst, true, false, leb, rules, IsPartitionPoint, leb-true, leb-false, IsPartitionPoint-from_clause, IsPartitionedBy-leb}
use Rattle.raft_table.proofs.Facts.{at_start, index_some, index_rises, found_some}
use Rattle.raft_table.proofs.memtable.entries.block_deques.binary_search_spot.Goals as goal
use Rattle.raft_table.proofs.memtable.entries.block_deques.binary_search_spot.Goals.{After-partition_point-nth}

pub overflow_sub-last : goal.overflow_sub-last
overflow_sub-last c = let s = index_some c.args.starts.now.items c.args.index c.requires in omega (arith, c.args.starts.now.ok)

pub index-start-requires : goal.index-start-requires
index-start-requires c = let s = index_some c.args.starts.now.items c.args.index c.requires in omega (arith, c.args.starts.now.ok)

pub returns-then-start-index : goal.returns-then-start-index
returns-then-start-index c i bs e lo hi =
    let s = index_some c.args.starts.now.items c.args.index c.requires in
    at_start c.args.index i (c.len-last.result - 1) c.index-start.result.now bs c.args.starts.now.items e lo hi (omega (arith, c.args.starts.now.ok))
    c.index-start.ensures c.if-start-index.true (λ d l. absurd (omega (arith, c.args.starts.now.ok)))

point : (c : After-partition_point-nth) → IsPartitionPoint (λ (y : ℕ). leb y c.args.index ≡ true) (λ (y : ℕ). leb y c.args.index ≡ false) c.args.starts.now.items c.partition_point-nth.result
point c = IsPartitionPoint-from_clause (λ (y : ℕ). leb y c.args.index) _ _ c.partition_point-nth.ensures.partitioned
    (IsPartitionedBy-leb (λ (y : ℕ). y) c.args.starts.now.items c.args.index (index_rises c.args.starts.now.items c.args.index c.requires)) (λ a r q k. search rules)

below : (c : After-partition_point-nth) (j d : ℕ) → j < c.partition_point-nth.result → get_or c.args.starts.now.items j d ≤ c.args.index
below c j d l = leb-true _ _ ((point c).0 j d (omega arith) l)

above : (c : After-partition_point-nth) (j d : ℕ) → c.partition_point-nth.result ≤ j → j < length c.args.starts.now.items → c.args.index < get_or c.args.starts.now.items j d
above c j d l m = leb-false _ _ ((point c).1 j d l m)

some : (c : After-partition_point-nth) → 0 < c.partition_point-nth.result
some c = found_some c.args.starts.now.items c.args.index c.partition_point-nth.result c.requires (above c)

pub overflow_sub-nth : goal.overflow_sub-nth
overflow_sub-nth c = let p = some (goal.at.overflow_sub-nth c).After-partition_point-nth in omega arith

pub index-start-requires-2 : goal.index-start-requires-2
index-start-requires-2 c = let p = some (goal.at.index-start-requires-2 c).After-partition_point-nth in omega (arith, c.args.starts.now.ok)

pub overflow_sub-result-2 : goal.overflow_sub-result-2
overflow_sub-result-2 c =
    let p = (goal.at.overflow_sub-result-2 c).After-partition_point-nth in
    let s = some p in
    let b = below p (c.partition_point-nth.result - 1) c.index-start-2.result.now (omega arith) in
    let e = c.index-start-2.ensures in
    omega arith

pub returns : goal.returns
returns c i bs e lo hi =
    let p = (goal.at.returns c).After-partition_point-nth in
    let k = c.partition_point-nth.result in
    let start = c.index-start-2.result.now in
    let s = some p in
    let b = below p (k - 1) start (omega arith) in
    let f = c.index-start-2.ensures in
    let q : suc (k - 1) ≡ k = omega arith in
    at_start c.args.index i (k - 1) start bs c.args.starts.now.items e lo hi (omega (arith, c.args.starts.now.ok)) f (omega arith)
    (λ d l. subst (λ n. c.args.index < get_or c.args.starts.now.items n d) (sym q) (above p k d (omega arith) (omega arith)))
