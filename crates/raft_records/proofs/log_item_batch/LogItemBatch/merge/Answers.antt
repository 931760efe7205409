use Rattle.raft_records.proofs.Common.{◌≡◌, ◌+◌, ◌^◌, ◌<◌, ◌++◌, map, ap, ◌∙◌, arith, map-append, item_of, raised_item}
use Rattle.raft_records.proofs.LayLemmas.{merged_kept}
use Rattle.raft_records.proofs.log_item_batch.LogItemBatch.merge.Goals as goal

pub invariant_of-self-2 : goal.invariant_of-self-2
invariant_of-self-2 c =
    let own = map item_of c.self.inside.items.items in
    let others = map item_of c.rhs.inside.items.items in
    let appended : c.append.new.self.items ≡ c.reserve.new.self.items ++ c.raise_item_offsets.new.items.items = rw (c.is_err.ensures.negation, c.if-is_err.false) at c.append.ensures.items in
    let items : map item_of c.append.new.self.items ≡ own ++ map (raised_item c.self.inside.entries_size) others = ap (map item_of) appended
    ∙ map-append item_of c.reserve.new.self.items c.raise_item_offsets.new.items.items
    ∙ ap (λ v. map item_of v ++ map item_of c.raise_item_offsets.new.items.items) c.in_ok-reserve.ensures.items
    ∙ ap (λ v. own ++ v) c.raise_item_offsets.ensures in
    let room = rw (← c.self.view_is, ← c.rhs.view_is) at c.requires in
    let fits : c.self.inside.entries_size + c.rhs.inside.entries_size < 2 ^ 32 = omega (arith, c.self.invariant.0.entry_bytes, c.rhs.invariant.0.entry_bytes, room) in
    rw items (
      (merged_kept own others c.self.inside.item_size c.rhs.inside.item_size c.self.inside.entries_size c.rhs.inside.entries_size
          c.saturating_add-self-inside.result c.self.inside.checksum c.rhs.inside.checksum c.self.invariant.0 c.rhs.invariant.0 fits
          c.saturating_add-self-inside.ensures),
      tt,
    )

pub raise_item_offsets-requires-clause-room : goal.raise_item_offsets-requires-clause-room
raise_item_offsets-requires-clause-room c =
    let room = rw (← c.self.view_is, ← c.rhs.view_is) at c.requires in
    omega (arith, c.self.invariant.0.entry_bytes, c.rhs.invariant.0.entry_bytes, room)
