-- Words of proofs for what definitions spell out.
use Rattle.std.specs.Prelude.{◌≡◌, List, All}
use Rattle.raft_replay.proofs.Common.{Vec, Global, LogQueue, Part, Event, HoldsFrom, EachHolds}

-- the batches of a part
abbrev pub PartHolds : Part → List Event → Type 0
PartHolds part h = HoldsFrom part 0 h

-- the batches of the parts of a segment
abbrev pub PartsHold : List Part → List Event → Type 0
PartsHold parts h = EachHolds PartHolds parts h

-- the batches of a segment
abbrev pub SegmentReads : Vec Part Global → List Event → Type 0
SegmentReads segment h = PartsHold segment.items h

-- every part is of this queue
abbrev pub PartsAreOf : LogQueue → List Part → Type 0
PartsAreOf queue parts = All (λ part. part.id.queue ≡ queue) parts
