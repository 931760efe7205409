use Rattle.raft_table.proofs.Facts.{◌≡◌, ◌+◌, ◌++◌, suc, take, drop, deque_len, arith, ap, sym, ◌∙◌, nil_from_length, replaced_all, replaced_more}
use Rattle.raft_table.proofs.memtable.entries.block_deques.overwrite_items.Goals as goal

pub loop-item-preserved : goal.loop-item-preserved
loop-item-preserved g c =
    let d = c.loop-item.deque.items in
    let m = c.pop_front.new.self in
    let counted = c.in-Some.ensures.cases in
    let within = c.loop-item.invariant.1 in
    let n : c.loop-item.next + deque_len c.loop-item.more ≡ c.loop-item.next + suc (deque_len m) = omega arith in (
      replaced_more c.loop-item.next (deque_len m) d m.items _ c.in-Some.item (omega (arith, c.loop-item.deque.ok.0))
          (ap (λ ys. (take c.loop-item.next d ++ ys) ++ drop (c.loop-item.next + suc (deque_len m)) d) (sym c.in-Some.ensures.items)
          ∙ ap (λ k. (take c.loop-item.next d ++ c.loop-item.more.items) ++ drop k d) (sym n) ∙ c.loop-item.invariant.0),
      omega arith,
    )

pub returns-clause-items : goal.returns-clause-items
returns-clause-items g c =
    let none = c.in_default.ensures.cases.0 in
    let empty = nil_from_length c.loop-item.more.items (omega (arith, none, c.loop-item.more.ok.0)) in
    replaced_all c.loop-item.next (deque_len c.loop-item.more) c.loop-item.deque.items c.loop-item.more.items _ empty none c.loop-item.invariant.0

pub returns-clause-emptied : goal.returns-clause-emptied
returns-clause-emptied g c =
    let none = c.in_default.ensures.cases.0 in
    sym c.in_default.ensures.items ∙ nil_from_length c.loop-item.more.items (omega (arith, none, c.loop-item.more.ok.0))
