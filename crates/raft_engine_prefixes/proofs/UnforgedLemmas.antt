-- Nothing is forged where a prefix of what was put stands.
use Rattle.raft_engine_prefixes.proofs.Common.{◌≡◌, List, ◌++◌, take, ◌∙◌, NumberedBytes, acts_on, begun, PrefixesAreUnforged}
use Rattle.raft_engine_prefixes.proofs.AnyTailLemmas.{may_stand}
use Rattle.raft_engine_prefixes.proofs.PrefixLemmas.{all_held}
use Rattle.raft_engine_prefixes.proofs.RestLemmas.{rest_behind}
use Rattle.raft_engine_prefixes.proofs.TornLemmas.{one_reading, whole_torn}

pub prefixes_unforged : PrefixesAreUnforged
prefixes_unforged queue version asked synced h files put few l = record {
  of_disk = record { standing = l.standing; stands = may_stand (acts_on queue asked) l.standing l.stands; gone = l.gone; at_least = l.at_least; at_most = l.at_most; left = l.left };
  unforged = λ h' deleted read held of_deleted is_read.
      let r = rest_behind queue version asked synced h files put few l in
      let oldest : List NumberedBytes = take l.gone (begun (acts_on queue asked)) in
      let all : h' ≡ h = one_reading queue version (begun (acts_on queue asked)) h' h held (all_held queue version (acts_on queue asked) synced h put) in
      let gone : r.deleted ≡ deleted = one_reading queue version oldest r.deleted deleted (whole_torn queue version oldest r.deleted r.of_deleted) (whole_torn queue version oldest deleted of_deleted) in
      let rest : r.rest ≡ read = one_reading queue version files r.rest read r.held is_read in
      (r.is_front.lost, all ∙ r.is_front.split ∙ (λ i. (gone i ++ rest i) ++ r.is_front.lost));
}
