use Rattle.raft_table.proofs.Facts.{empty_table, live_of_empty, arith, refl, sym, ap, ◌+◌, ◌<◌, ◌^◌, ◌∙◌, Some, err_from_is_err_and}
use Rattle.raft_table.proofs.Facts.{LogQueue, live, left_by, after_merge, newer_atomic_group, Table, live_of, misses, table_over, same_some, over_left, join_memory}
use Rattle.raft_table.proofs.Facts.{joined_uncleaned, own_alone}
use Rattle.raft_table.proofs.memtable.MemTable.join_under.Goals as goal

pub returns-then-is_blank-clause-ok : goal.returns-then-is_blank-clause-ok
returns-then-is_blank-clause-ok c = λ run.
    ap (table_over c.args.queue c.args.mark.now c.args.rhs.now) c.if-is_blank.ensures
    ∙ own_alone c.args.queue c.args.self.now.region_id c.args.mark.now c.args.rhs.now (sym c.requires.region)
    ∙ ap (λ (t : Table). Some t) (sym c.swap.ensures.x_after)

pub returns-then-is_blank-clause-emptied : goal.returns-then-is_blank-clause-emptied
returns-then-is_blank-clause-emptied c = c.swap.ensures.y_after ∙ c.if-is_blank.ensures ∙ ap empty_table c.requires.region

pub returns-then-is_blank-clause-few : goal.returns-then-is_blank-clause-few
returns-then-is_blank-clause-few c = λ q. omega (arith, ap (live_of q) c.swap.ensures.x_after)

pub returns-then-is_blank-clause-recounted : goal.returns-then-is_blank-clause-recounted
returns-then-is_blank-clause-recounted c = λ q. omega (
  arith,
  c.in_ok-add_table.ensures.live q,
  ap (live_of q) c.if-is_blank.ensures,
  live_of_empty q c.args.self.now.region_id,
  ap (live_of q) c.swap.ensures.x_after,
)

pub returns-then-is_blank-clause-regions : goal.returns-then-is_blank-clause-regions
returns-then-is_blank-clause-regions c = (ap (λ (t : Table). t.region_id) c.swap.ensures.x_after ∙ sym c.requires.region, ap (λ (t : Table). t.region_id) c.swap.ensures.y_after ∙ c.requires.region)

pub returns-in_err-merge_by_rule-clause-fault : goal.returns-in_err-merge_by_rule-clause-fault
returns-in_err-merge_by_rule-clause-fault c = λ run.
    let p = err_from_is_err_and c.from_residual-in_err-merge_by_rule.result c.from_residual-in_err-merge_by_rule.ensures.1 in
    let ok = c.in_ok-check_newer_mark.ensures.ok in
    let left = c.drop_by_mark.ensures.left ∙ ap (λ g. left_by g c.args.mark.now c.args.self.now) (c.leaves_hole_after.ensures ∙ ap (misses c.args.mark.now.reach) c.end_at_reach-end.ensures) in
    let over = over_left c.args.queue c.args.mark.now c.args.rhs.now c.args.self.now ok run in
    let room : (q : LogQueue) → live q c.drop_by_mark.new.stats + live_of q c.args.rhs.now < 2 ^ 64 = λ q. omega (arith, c.if-not-has_room.ensures q, c.drop_by_mark.ensures.fewer q, c.drop_by_mark.ensures.recounted q) in
    let memory = join_memory c.args.queue c.drop_by_mark.new.stats c.drop_by_mark.new.self c.args.rhs.now _ _ c.in_err-merge_by_rule.ensures.fault (ap (λ (t : Table). after_merge c.args.queue t c.args.rhs.now) left ∙ over.0) room in
    rw (p.1, p.2, memory) tt

pub returns-in_err-merge_by_rule-clause-err : goal.returns-in_err-merge_by_rule-clause-err
returns-in_err-merge_by_rule-clause-err c = λ run.
    let p = err_from_is_err_and c.from_residual-in_err-merge_by_rule.result c.from_residual-in_err-merge_by_rule.ensures.1 in
    let ok = c.in_ok-check_newer_mark.ensures.ok in
    let left = c.drop_by_mark.ensures.left ∙ ap (λ g. left_by g c.args.mark.now c.args.self.now) (c.leaves_hole_after.ensures ∙ ap (misses c.args.mark.now.reach) c.end_at_reach-end.ensures) in
    let over = over_left c.args.queue c.args.mark.now c.args.rhs.now c.args.self.now ok run in
    let room : (q : LogQueue) → live q c.drop_by_mark.new.stats + live_of q c.args.rhs.now < 2 ^ 64 = λ q. omega (arith, c.if-not-has_room.ensures q, c.drop_by_mark.ensures.fewer q, c.drop_by_mark.ensures.recounted q) in
    let memory = join_memory c.args.queue c.drop_by_mark.new.stats c.drop_by_mark.new.self c.args.rhs.now _ _ c.in_err-merge_by_rule.ensures.fault (ap (λ (t : Table). after_merge c.args.queue t c.args.rhs.now) left ∙ over.0) room in
    rw (p.1, p.2, memory) (λ n. absurd (n refl))

pub returns-clause-ok : goal.returns-clause-ok
returns-clause-ok c = λ run.
    let ok = c.in_ok-check_newer_mark.ensures.ok in
    let left = c.drop_by_mark.ensures.left ∙ ap (λ g. left_by g c.args.mark.now c.args.self.now) (c.leaves_hole_after.ensures ∙ ap (misses c.args.mark.now.reach) c.end_at_reach-end.ensures) in
    let over = over_left c.args.queue c.args.mark.now c.args.rhs.now c.args.self.now ok run in
    let joined = same_some _ _ (sym over.0 ∙ ap (λ (t : Table). after_merge c.args.queue t c.args.rhs.now) (sym left) ∙ c.in_ok-merge_by_rule.ensures.ok) in
    let atomic_group = ap (λ (t : Table). t.atomic_group) c.in_ok-merge_by_rule.ensures.emptied in
    over.1 ∙ ap (λ (t : Table). Some (record t { atomic_group = newer_atomic_group c.args.rhs.now.atomic_group t.atomic_group })) joined
    ∙ sym (ap (λ (t : Table). Some t) (c.take_atomic_group.ensures.atomic_group ∙ ap (λ s. record c.merge_by_rule.new.self { atomic_group = newer_atomic_group s c.merge_by_rule.new.self.atomic_group }) atomic_group))

pub returns-clause-few : goal.returns-clause-few
returns-clause-few c = λ q.
    omega (arith, c.drop_by_mark.ensures.fewer q, joined_uncleaned c.args.queue q c.drop_by_mark.new.self c.args.rhs.now _ c.in_ok-merge_by_rule.ensures.ok, ap (live_of q) c.take_atomic_group.ensures.atomic_group)
