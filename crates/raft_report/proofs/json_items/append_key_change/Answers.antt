use Rattle.raft_report.proofs.Common.{◌++◌, ℕ, List, ap, ◌∙◌, string_bytes, item_of, pair_of, key_member, trailed}
use Rattle.raft_report.proofs.ItemLemmas.{change_added}
use Rattle.raft_report.proofs.json_items.append_key_change.Goals as goal

pub returns-clause-ok : goal.returns-clause-ok
returns-clause-ok c =
    change_added c.args.selection.now (item_of c.args.item.now) (pair_of c.args.change.now) c.in_ok-status.status (string_bytes c.args.text.now) (string_bytes c.append_value_length.new.text)
    (string_bytes c.append_group_member.new.text) (string_bytes c.append_key_member.new.text) (string_bytes c.append_value_if_asked.new.text) (string_bytes c.append_op_type.new.text)
    c.in_ok-status.ensures.ok c.in_ok-append_value_length.ensures c.in_ok-append_group_member.ensures
    (c.in_ok-append_key_member.ensures ∙ ap (λ (k : List ℕ). string_bytes c.append_group_member.new.text ++ trailed (key_member k)) c.as_slice.ensures.value)
    c.in_ok-append_value_if_asked.ensures c.in_ok-append_op_type.ensures
