use Rattle.raft_report.proofs.Common.{string_bytes, on_ok_weaker, table_back, table_front}
use Rattle.raft_report.proofs.LineLemmas.{three_pieces}
use Rattle.raft_report.proofs.json_tables.append_table_line.Goals as goal

pub returns : goal.returns
returns c =
    on_ok_weaker c.append_members_after_pairs.result
    (λ ended. three_pieces (string_bytes c.args.text.now) (table_front c.args.table.now) c.args.pairs.now (table_back c.args.table.now) (string_bytes c.append_members_before_pairs.new.text) (string_bytes c.push_str.new.self) (string_bytes c.append_members_after_pairs.new.text)
    c.in_ok-append_members_before_pairs.ensures c.in_ok-push_str.ensures.bytes ended)
    c.append_members_after_pairs.ensures
