use Rattle.raft_records.proofs.Common.{Some, None, refl, change_of}
use Rattle.raft_records.proofs.ItemLemmas.{put_read}
use Rattle.raft_records.proofs.read_batch.items.parse_short_put.Goals as goal

pub returns : goal.returns
returns c =
    let key = c.in_ok-key.key.now in
    let value = c.in_ok-value.value.now in
    (change_of key (Some value) None, put_read key value refl c.in_ok-key.ensures c.in_ok-value.ensures, record { taken = refl; made = refl; shown = λ place. refl })
