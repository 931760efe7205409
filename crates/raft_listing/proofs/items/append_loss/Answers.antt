use Rattle.raft_listing.proofs.Common.{string_bytes, on_ok_weaker}
use Rattle.raft_listing.proofs.TextLemmas.{loss_added}
use Rattle.raft_listing.proofs.items.append_loss.Goals as goal

pub returns : goal.returns
returns c =
    on_ok_weaker c.append_unreadable.result (λ added. loss_added c.args.loss c.words.result.now (string_bytes c.args.text.now) (string_bytes c.append_unreadable.new.text) c.words.ensures added)
    c.append_unreadable.ensures
