use Rattle.raft_replay.proofs.cutting.read_batch_header.Goals as goal

pub returns-clause-none : goal.returns-clause-none
returns-clause-none c =
    let none = rw c.in_default.is at c.decode_header.ensures.refused in
    λ offset len h. none h.header.front h.rest (offset, h.compression, len) h.header.spells h.header.split
