use Rattle.raft_plain.proofs.Common.{refl}
use Rattle.raft_plain.proofs.ReadLemmas.{read_none}
use Rattle.raft_plain.proofs.reading.Reading.new.Goals as goal

pub returns : goal.returns
returns c q = read_none q _ c.new.ensures.empty c.new-2.ensures.items refl c.new-3.ensures.empty
