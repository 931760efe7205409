-- The tests by which `==` compares batches are equivalences. These are proofs: nothing here is to be believed. They
-- stand here since the laws of an `impl` may cite `specs/` alone.
use Rattle.std.specs.Cmp.{IsEquivalence, on_equiv, and_equiv, nat_eq_equiv}
use Rattle.std.specs.Cmp.Lexicographic.{lists_equiv, options_equiv, nat_list_eq_equiv}
use Rattle.raft_base.specs.contracts.pipe_log.FileIdEq.TheImpl.Laws.{laws-law as file_id_laws}
use Rattle.raft_base.specs.contracts.entry_index.EntryIndexEq.TheImpl.Laws.{laws-law as entry_index_laws}
use Rattle.raft_records.specs.contracts.command.CommandEq.TheImpl.Laws.{laws-law as command_laws}
use Rattle.raft_records.specs.contracts.key_value.OpTypeEq.TheImpl.Laws.{laws-law as op_type_laws}
use Rattle.raft_records.specs.Item.{Item, Pair}
use Rattle.raft_records.specs.LogBatch.{Batch, stage_number}
use Rattle.raft_records.specs.Same.{entries_of_content, command_of_content, pair_of_content, same_pair, same_content, same_item, same_items, same_batch}

-- `same_pair` is reflexive, symmetric and transitive
same_pair_is_equivalence : IsEquivalence same_pair
same_pair_is_equivalence =
    and_equiv (on_equiv (λ (p : Pair). p.op_type) op_type_laws) (and_equiv (on_equiv (λ (p : Pair). p.key) nat_list_eq_equiv) (and_equiv (on_equiv (λ (p : Pair). p.value) (options_equiv nat_list_eq_equiv)) (on_equiv (λ (p : Pair). p.file_id) (options_equiv file_id_laws))))

-- so is `same_content`, by its three kinds
same_content_is_equivalence : IsEquivalence same_content
same_content_is_equivalence =
    and_equiv (on_equiv entries_of_content (options_equiv (lists_equiv entry_index_laws))) (and_equiv (on_equiv command_of_content (options_equiv command_laws)) (on_equiv pair_of_content (options_equiv same_pair_is_equivalence)))

-- so is `same_item`, by region and content
same_item_is_equivalence : IsEquivalence same_item
same_item_is_equivalence =
    and_equiv (on_equiv (λ (x : Item). x.raft_group_id) nat_eq_equiv) (on_equiv (λ (x : Item). x.content) same_content_is_equivalence)

-- so is `same_items`, item by item
pub same_items_is_equivalence : IsEquivalence same_items
same_items_is_equivalence = lists_equiv same_item_is_equivalence

-- so is `same_batch`, by items, entry bytes and stage
pub same_batch_is_equivalence : IsEquivalence same_batch
same_batch_is_equivalence =
    and_equiv (on_equiv (λ (b : Batch). b.items) same_items_is_equivalence) (and_equiv (on_equiv (λ (b : Batch). b.entry_bytes) nat_list_eq_equiv) (on_equiv (λ (b : Batch). stage_number b.stage) nat_eq_equiv))
