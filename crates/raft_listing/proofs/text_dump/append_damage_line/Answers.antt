use Rattle.raft_listing.proofs.Common.{◌++◌, codes, string_bytes, on_ok_weaker, file_words, reason_text}
use Rattle.raft_listing.proofs.TextLemmas.{four_added, if_appended}
use Rattle.raft_listing.proofs.text_dump.append_damage_line.Goals as goal

pub returns : goal.returns
returns c =
    on_ok_weaker c.push_str-2.result
    (λ ended. four_added (string_bytes c.args.text.now) (file_words c.args.part.now c.args.at) (codes " unreadable: ") (reason_text c.args.reason.now) (codes "\n") (string_bytes c.append_file_and_offset.new.text)
    (string_bytes c.push_str.new.self) (string_bytes c.append_reason.new.text) (string_bytes c.push_str-2.new.self) c.in_ok-append_file_and_offset.ensures c.in_ok-push_str.ensures.bytes c.in_ok-append_reason.ensures ended)
    (if_appended c.push_str-2.result (string_bytes c.push_str-2.new.self) (string_bytes c.append_reason.new.text ++ codes "\n") (string_bytes c.append_reason.new.text) c.push_str-2.ensures.bytes)
