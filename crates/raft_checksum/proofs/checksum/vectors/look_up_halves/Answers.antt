-- The half bytes of a vector are places in the tables.
use Rattle.std.proofs.Common.{w8}
use Rattle.std.proofs.lemmas.Simd.{below_from_Fits}
use Rattle.raft_checksum.proofs.LaneLemmas.{low_within, high_within, lanes_read_off}
use Rattle.raft_checksum.proofs.checksum.vectors.look_up_halves.Goals as goal

pub swizzle : goal.swizzle
swizzle c = low_within c.args.vector c.fits-vector.0

pub swizzle-2 : goal.swizzle-2
swizzle-2 c = high_within c.args.vector c.fits-vector.0 (below_from_Fits w8 c.args.vector c.fits-vector.1)

pub returns-clause-value : goal.returns-clause-value
returns-clause-value c = lanes_read_off c.args.low_of c.args.high_of c.args.vector c.fits-vector.0 (below_from_Fits w8 c.args.vector c.fits-vector.1)

pub returns-clause-bytes : goal.returns-clause-bytes
returns-clause-bytes c = (c.fits-vector.0, below_from_Fits w8 c.args.vector c.fits-vector.1)
