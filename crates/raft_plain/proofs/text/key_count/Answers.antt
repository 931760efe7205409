use Rattle.raft_plain.proofs.Common.{sym, ◌∙◌, len-map_of, stored_shown}
use Rattle.raft_plain.proofs.PairLemmas.{bytes_of}
use Rattle.raft_plain.proofs.text.key_count.Goals as goal

pub returns : goal.returns
returns c = c.len.ensures.len ∙ sym (len-map_of bytes_of stored_shown c.args.keys.now.entries c.len.ensures.ordered)
