use Rattle.std.proofs.Common.{◌≡◌, ◌⊎◌, ℕ, length, drop}
use Rattle.raft_ffi.specs.Words.{HasNoFront, IsReadable, file_of, signature_of}
use Rattle.raft_ffi.proofs.ReadLemmas.{found_so}
use Rattle.raft_ffi.proofs.reader_calls.raft_ffi_reader_replay_last.Goals as goal

pub returns-clause-stops : goal.returns-clause-stops
returns-clause-stops c = λ zero.
    let stops = rw (c.to_context.ensures) at c.replay_last-answer.ensures.stops in
    found_so c.replay_last-answer.result c.store_and_answer.result.code
    (λ (len : ℕ). (len ≡ length c.args.bytes.now) ⊎ HasNoFront (λ xs. IsReadable xs (signature_of (file_of c.args.file))) (drop len c.args.bytes.now)) c.store_and_answer.new.found stops c.store_and_answer.ensures.found c.store_and_answer.ensures.err zero
