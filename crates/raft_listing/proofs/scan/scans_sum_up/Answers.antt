use Rattle.raft_listing.proofs.SumLemmas.{summed_up}
use Rattle.raft_listing.proofs.scan.scans_sum_up.Goals as goal

pub returns : goal.returns
returns c = summed_up
