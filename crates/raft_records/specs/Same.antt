-- The tests by which `==` compares batches, one field after another.
use Rattle.std.specs.Prelude.{Bool, nat_eq, List, Option, Some, None}
use Rattle.std.specs.Option.{option_eq}
use Rattle.std.specs.Ordering.{on, eq_of_both}
use Rattle.std.specs.Cmp.Lexicographic.{pointwise}
use Rattle.raft_base.specs.contracts.pipe_log.FileIdPartialEq.TheImpl.{eq-value as file_ids}
use Rattle.raft_base.specs.contracts.entry_index.EntryIndexPartialEq.TheImpl.{eq-value as entry_indexes}
use Rattle.raft_base.specs.declared.entry_index.EntryIndex.{EntryIndex}
use Rattle.raft_records.specs.contracts.command.CommandPartialEq.TheImpl.{eq-value as commands}
use Rattle.raft_records.specs.contracts.key_value.OpTypePartialEq.TheImpl.{eq-value as op_types}
use Rattle.raft_records.specs.declared.command.Command.{Command}
use Rattle.raft_records.specs.Item.{Item, Content, entries, command, pair, Pair}
use Rattle.raft_records.specs.LogBatch.{Batch, stage_number}

-- the entries of a content, where it has entries
abbrev pub entries_of_content : Content → Option (List EntryIndex)
entries_of_content (entries es) = Some es
entries_of_content _ = None

-- the command of a content, where it has one
abbrev pub command_of_content : Content → Option Command
command_of_content (command c) = Some c
command_of_content _ = None

-- the change of a key of a content, where it has one
abbrev pub pair_of_content : Content → Option Pair
pair_of_content (pair p) = Some p
pair_of_content _ = None

-- op type, key, value and file are the same
abbrev pub same_pair : Pair → Pair → Bool
same_pair =
    eq_of_both (on (λ p. p.op_type) op_types.it) (eq_of_both (on (λ p. p.key) (pointwise nat_eq)) (eq_of_both (on (λ p. p.value) (option_eq (pointwise nat_eq))) (on (λ p. p.file_id) (option_eq file_ids.it))))

-- the entries, the command and the change of a key are the same, of which each content has one
abbrev pub same_content : Content → Content → Bool
same_content =
    eq_of_both (on entries_of_content (option_eq (pointwise entry_indexes.it))) (eq_of_both (on command_of_content (option_eq commands.it)) (on pair_of_content (option_eq same_pair)))

-- region and content are the same
abbrev pub same_item : Item → Item → Bool
same_item = eq_of_both (on (λ x. x.raft_group_id) nat_eq) (on (λ x. x.content) same_content)

-- as many items, the same ones in the same order
abbrev pub same_items : List Item → List Item → Bool
same_items = pointwise same_item

-- items, entry bytes and stage are the same, whatever the signature
abbrev pub same_batch : Batch → Batch → Bool
same_batch =
    eq_of_both (on (λ b. b.items) same_items) (eq_of_both (on (λ b. b.entry_bytes) (pointwise nat_eq)) (on (λ b. stage_number b.stage) nat_eq))
