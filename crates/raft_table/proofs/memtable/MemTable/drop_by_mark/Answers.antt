use Rattle.raft_table.proofs.Facts.{arith, refl, sym, ap, ◌∙◌, None, pair_count, Table, below_zero, none-fewer, kept-fewer, pair_count-empty}
use Rattle.raft_table.proofs.memtable.MemTable.drop_by_mark.Goals as goal

pub returns-then-is_cleaned-clause-left : goal.returns-then-is_cleaned-clause-left
returns-then-is_cleaned-clause-left c =
    ap (λ (t : Table). record t { atomic_group = None }) (c.self-then-is_cleaned.view_is ∙ c.drop_all_keys.ensures.dropped)
    ∙ (rw (← c.self.view_is, c.truncate_from.ensures.entries, below_zero, sym c.is_cleaned.ensures ∙ c.if-is_cleaned.true) refl)

pub returns-then-is_cleaned-clause-fewer : goal.returns-then-is_cleaned-clause-fewer
returns-then-is_cleaned-clause-fewer c = λ q.
    let t = c.self-then-is_cleaned.view_is ∙ c.drop_all_keys.ensures.dropped in
    let es = ap (λ (t : Table). t.entries) t ∙ c.truncate_from.ensures.entries ∙ below_zero c.self.inside.entries in
    let ks = ap (λ (t : Table). t.keys) t in
    rw (← c.self.view_is) (omega (arith, rw (← es) at (none-fewer q c.self.inside.entries), pair_count-empty q _ ks))

pub returns-clause-fewer : goal.returns-clause-fewer
returns-clause-fewer c = λ q.
    omega (
      arith,
      kept-fewer q c.args.gone c.args.mark.now.floor c.args.mark.now.cut c.args.self.now.entries c.drop_deleted_keys.new.self.entries
          (ap (λ (t : Table). t.entries) c.drop_deleted_keys.ensures.dropped ∙ ap (λ (t : Table). t.entries) c.drop_entries_by_mark.ensures.left),
      c.drop_deleted_keys.ensures.fewer q,
      ap (λ (t : Table). pair_count q t.keys) c.drop_entries_by_mark.ensures.left,
    )
