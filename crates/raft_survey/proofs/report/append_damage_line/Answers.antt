use Rattle.raft_survey.proofs.Common.{◌++◌, codes, string_bytes, on_ok_weaker, if_appended, damage_words, place_words}
use Rattle.raft_survey.proofs.TextLemmas.{three_added}
use Rattle.raft_survey.proofs.report.append_damage_line.Goals as goal

pub returns : goal.returns
returns c =
    on_ok_weaker c.push_str.result
    (λ ended. three_added (string_bytes c.args.text.now) (place_words c.args.queue c.args.seq c.args.damage.now.offset) (damage_words c.args.len c.args.damage.now.offset c.args.damage.now.kind) (codes "\n")
    (string_bytes c.append_file_and_offset.new.text) (string_bytes c.append_damage_words.new.text) (string_bytes c.push_str.new.self) c.in_ok-append_file_and_offset.ensures c.in_ok-append_damage_words.ensures ended)
    (if_appended c.push_str.result (string_bytes c.push_str.new.self) (string_bytes c.append_damage_words.new.text ++ codes "\n") (string_bytes c.append_damage_words.new.text) c.push_str.ensures.bytes)
