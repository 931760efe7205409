use Rattle.raft_listing.proofs.Common.{◌++◌, ℕ, List, ap, ◌∙◌, subst, string_bytes, item_of, pair_of, Adds, IsShown}
use Rattle.raft_listing.proofs.TextLemmas.{change_text}
use Rattle.raft_listing.proofs.items.append_key_change.Goals as goal

pub returns-clause-ok : goal.returns-clause-ok
returns-clause-ok c =
    change_text c.args.selection.now (item_of c.args.item.now) (pair_of c.args.change.now) c.in_ok-status.status (string_bytes c.args.text.now) (string_bytes c.push_str.new.self) (string_bytes c.append_quoted_or_hex.new.text)
    (string_bytes c.append_value.new.text) (string_bytes c.push_str-2.new.self) (string_bytes c.push_str-3.new.self)
    (c.in_ok-push_str.ensures.bytes ∙ ap (λ (t : List ℕ). string_bytes c.args.text.now ++ t) c.op_words.ensures)
    (subst (λ (b : List ℕ). Adds (IsShown b) (string_bytes c.push_str.new.self) (string_bytes c.append_quoted_or_hex.new.text)) c.as_slice.ensures.value c.in_ok-append_quoted_or_hex.ensures)
    c.in_ok-append_value.ensures c.in_ok-status.ensures.ok
    (c.in_ok-push_str-2.ensures.bytes ∙ ap (λ (t : List ℕ). string_bytes c.append_value.new.text ++ t) c.status_words.ensures)
    c.in_ok-push_str-3.ensures.bytes
