use Rattle.raft_listing.proofs.Common.{string_bytes, IsEntryShown, AreBytesShown}
use Rattle.raft_listing.proofs.TextLemmas.{added_as, shown_of}
use Rattle.raft_listing.proofs.items.append_entry_bytes.Goals as goal

pub returns-clause-ok : goal.returns-clause-ok
returns-clause-ok c =
    added_as (AreBytesShown c.in_ok-read.read) (IsEntryShown c.args.part.now c.args.entry.now) (string_bytes c.args.text.now) (string_bytes c.append_bytes_or_loss.new.text)
    (shown_of c.args.part.now c.args.entry.now c.in_ok-read.read c.in_ok-read.ensures.ok) c.in_ok-append_bytes_or_loss.ensures
