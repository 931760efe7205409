-- A vector of the text is taken off.
use Rattle.raft_checksum.proofs.Common.{◌≡◌, length, take, arith}
use Rattle.std.proofs.lemmas.Simd.{length-chunk}
use Rattle.raft_checksum.proofs.VectorLemmas.{vector_divided}
use Rattle.raft_checksum.proofs.checksum.vectors.move_window.Goals as goal

pub returns : goal.returns
returns c = λ register stands.
    let w = c.args.window in
    let x = take 16 c.args.bytes.now in
    let long : length x ≡ 16 = length-chunk 0 16 c.args.bytes.now (omega arith) in
    rw (c.look_up_halves.ensures.value, c.look_up_halves-2.ensures.value, c.look_up_halves-3.ensures.value, c.look_up_halves-4.ensures.value)
    (vector_divided w.a w.b w.c w.d w.e x register long c.look_up_halves.ensures.bytes.1 stands)
