use Rattle.raft_listing.proofs.Common.{List, ℕ, string_bytes, subst, on_ok_weaker, Adds, IsShown}
use Rattle.raft_listing.proofs.TextLemmas.{value_shown}
use Rattle.raft_listing.proofs.items.append_value.Goals as goal

pub returns : goal.returns
returns c =
    rw c.in-Some.is
    (on_ok_weaker c.append_quoted_or_hex.result
    (λ shown. value_shown c.args.selection.now c.in-Some.value.items (string_bytes c.args.text.now) (string_bytes c.push_str.new.self) (string_bytes c.append_quoted_or_hex.new.text) c.if-not-selection.false c.in_ok-push_str.ensures.bytes
    (subst (λ (b : List ℕ). Adds (IsShown b) (string_bytes c.push_str.new.self) (string_bytes c.append_quoted_or_hex.new.text)) c.as_slice.ensures.value shown))
    c.append_quoted_or_hex.ensures)
