use Rattle.raft_replay.proofs.Common.{List, [], ◌∷◌, ◌++◌, length, ap, sym, ◌∙◌, append_assoc, arith, Worked, IsBack}
use Rattle.raft_replay.proofs.WorkedLemmas.{all_at, done_more}
use Rattle.raft_replay.proofs.workers.collect_seats_and_pieces.Goals as goal

pub loop-seat-preserved : goal.loop-seat-preserved
loop-seat-preserved g c =
    let one = c.in-Some.field-0 in
    let gathered = c.loop-seat.invariant.front.0 in
    let left = c.next.new.self.rest.items in
    let taken = c.in-Some.ensures.steps.0 in
    let split = c.loop-seat.invariant.front.1 ∙ ap (λ (l : List (Worked g.row.M.Denot)). gathered ++ l) taken in
    record {
      front = (gathered ++ one ∷ [], split ∙ sym (append_assoc gathered (one ∷ []) left));
      count = let a = c.loop-seat.invariant.count in let b = ap length taken in let d = c.in_ok-push.ensures.len in omega arith;
      done = λ segments tickets all.
          let back = all_at (IsBack g.M.ReplayMachine.stands_exactly segments tickets) c.args.worked.items gathered one left all split in
          let before = c.loop-seat.invariant.done segments tickets all in
          let made = rw c.in_ok-made.was at back.1 in
          rw (c.in_ok-push.ensures.items, c.in_ok-append.ensures.items)
          (done_more g.M.ReplayMachine.stands_exactly segments tickets c.loop-seat.seats.items c.loop-seat.pieces.items c.in_ok-made.made.items one.seat before back.0 made);
    }
