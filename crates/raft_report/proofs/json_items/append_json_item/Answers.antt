use Rattle.raft_report.proofs.Common.{◌++◌, ℕ, List, ap, ◌∙◌, refl, string_bytes, item_of, json_line, item_data}
use Rattle.raft_report.proofs.LineLemmas.{item_added}
use Rattle.raft_report.proofs.json_items.append_json_item.Goals as goal

pub returns-clause-ok : goal.returns-clause-ok
returns-clause-ok c =
    let added = c.in_ok-append_item_content.ensures.ok in
    let said = added.is_text.0 in
    let part = c.args.part.now in
    let region = (item_of c.args.item.now).raft_group_id in record {
      text = json_line (item_data part c.args.at region said);
      is_text = (said, added.is_text.1, refl);
      behind =
          item_added part c.args.at region said (string_bytes c.args.text.now) (string_bytes c.append_item_line_start.new.text) (string_bytes c.append_item_content.new.text) (string_bytes c.append_item_line_end.new.text)
          c.in_ok-append_item_line_start.ensures (added.behind ∙ ap (λ (t : List ℕ). string_bytes c.append_item_line_start.new.text ++ t) added.is_text.2) c.in_ok-append_item_line_end.ensures;
    }
