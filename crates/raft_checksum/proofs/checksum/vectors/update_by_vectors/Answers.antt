-- Vector by vector.
use Rattle.raft_checksum.proofs.Common.{take, ◌∙◌, ap, arith, refl, register_after}
use Rattle.std.proofs.lemmas.Simd.{length-chunk}
use Rattle.raft_checksum.proofs.VectorLemmas.{window_first, vectors_settled}
use Rattle.raft_checksum.proofs.checksum.vectors.update_by_vectors.Goals as goal

pub loop-rest-init : goal.loop-rest-init
loop-rest-init c = record {
  long = c.requires;
  now = c.args.register;
  stands = window_first c.args.register c.write_u32.new.buf (omega arith) c.write_u32.ensures;
  same = refl;
}

pub loop-rest-preserved : goal.loop-rest-preserved
loop-rest-preserved c =
    let i = c.loop-rest.invariant in
    let one = c.skip_vector-rest.ensures in
    let two = c.skip_vector-rest-in-loop-rest.ensures in
    let three = c.skip_vector-rest-in-loop-rest-2.ensures in
    let four = c.skip_vector-rest-in-loop-rest-3.ensures in
    let five = c.skip_vector-rest-in-loop-rest-4.ensures in
    let first = register_after i.now (take 16 c.loop-rest.rest.now) in
    let second = register_after first (take 16 c.skip_vector-rest.result.now) in
    let third = register_after second (take 16 c.skip_vector-rest-in-loop-rest.result.now) in
    let fourth = register_after third (take 16 c.skip_vector-rest-in-loop-rest-2.result.now) in
    record {
      long = omega (arith, one.len, two.len, three.len, four.len, five.len);
      now = register_after fourth (take 16 c.skip_vector-rest-in-loop-rest-3.result.now);
      stands =
          c.move_window-window-in-loop-rest-4.ensures fourth (c.move_window-window-in-loop-rest-3.ensures third (c.move_window-window-in-loop-rest-2.ensures second
          (c.move_window-window-in-loop-rest.ensures first (c.move_window-window.ensures i.now i.stands))));
      same = five.joins fourth ∙ four.joins third ∙ three.joins second ∙ two.joins first ∙ one.joins i.now ∙ i.same;
    }

pub loop-rest-2-preserved : goal.loop-rest-2-preserved
loop-rest-2-preserved c =
    let i = c.loop-rest-2.invariant in
    record {
      long = omega (arith, c.skip_vector-rest-in-loop-rest-2-2.ensures.len);
      now = register_after i.now (take 16 c.loop-rest-2.rest.now);
      stands = c.move_window-window-in-loop-rest-2-2.ensures i.now i.stands;
      same = c.skip_vector-rest-in-loop-rest-2-2.ensures.joins i.now ∙ i.same;
    }

pub returns : goal.returns
returns c =
    let i = c.loop-rest-2.invariant in
    let w = c.loop-rest-2.window in
    let xs = c.loop-rest-2.rest.now in
    let ys = c.skip_vector-rest-2.result.now in
    let zs = c.skip_vector-rest-3.result.now in
    let us = c.skip_vector-rest-4.result.now in
    let ws = c.skip_vector-rest-5.result.now in
    let y_len = c.skip_vector-rest-2.ensures.len in
    let z_len = c.skip_vector-rest-3.ensures.len in
    let u_len = c.skip_vector-rest-4.ensures.len in
    let w_len = c.skip_vector-rest-5.ensures.len in
    let first = register_after i.now (take 16 xs) in
    let second = register_after first (take 16 ys) in
    let third = register_after second (take 16 zs) in
    let fourth = register_after third (take 16 us) in
    c.update_by_sixteens.ensures
    ∙ ap (λ r. register_after r c.skip_vector.result.now)
    (rw (c.update_by_vector-after-5.ensures, c.update_by_vector-after-4.ensures, c.update_by_vector-after-3.ensures, c.update_by_vector-after-2.ensures, c.update_by_vector-after.ensures)
    (vectors_settled w.a w.b w.c w.d w.e (take 16 xs) (take 16 ys) (take 16 zs) (take 16 us) (take 16 ws) i.now
    (length-chunk 0 16 xs (omega arith)) (length-chunk 0 16 ys (omega (arith, y_len))) (length-chunk 0 16 zs (omega (arith, y_len, z_len)))
    (length-chunk 0 16 us (omega (arith, y_len, z_len, u_len))) (length-chunk 0 16 ws (omega (arith, y_len, z_len, u_len, w_len))) i.stands))
    ∙ c.skip_vector.ensures.joins fourth ∙ c.skip_vector-rest-5.ensures.joins third ∙ c.skip_vector-rest-4.ensures.joins second
    ∙ c.skip_vector-rest-3.ensures.joins first ∙ c.skip_vector-rest-2.ensures.joins i.now ∙ i.same
