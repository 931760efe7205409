use Rattle.raft_records.proofs.Common.{◌≡◌, ◌≢◌, map, sym, subst, rules, bare, is_open, log_batch_bytes, IsLogBatch}
use Rattle.raft_records.proofs.log_batch.LogBatch.encoded_bytes.Goals as goal

pub returns-clause-read_again : goal.returns-clause-read_again
returns-clause-read_again c signature is some =
    let made : c.args.self.now.stage ≢ is_open = λ e. absurd cc in
    let bytes : c.as_slice.result.now ≡ log_batch_bytes signature c.args.self.now.items c.args.self.now.entry_bytes = search rules in
    subst (λ t. IsLogBatch t signature (map bare c.args.self.now.items) c.args.self.now.entry_bytes) (sym bytes) (c.is_read_again.ensures.spelled signature some (c.is_read_again.ensures.short made))
