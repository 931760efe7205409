use Rattle.raft_engine.proofs.Common.{◌≡◌, ◌+◌, ℕ, arith, length, refl}
use Rattle.raft_engine.proofs.ReadQueueLemmas.{front_of, last_file, last_read, last_whole_file}
use Rattle.raft_engine.proofs.queue_reading.read_queue.Goals as goal

pub returns : goal.returns
returns g c = λ version files whole.
    let n : ℕ = length c.in-Some.closed.now in
    let cases = rw c.in-Some.is at c.split_last.ensures.cases in
    let many : n + 1 ≡ length c.args.segments.now = omega (arith, cases.1) in
    let l = last_file c.args.queue version files c.args.segments.now n many whole in
    last_read c.args.queue version g.M.ReplayMachine.stands_for g.M.ReplayMachine.stands_exactly files c.args.segments.now c.in-Some.closed.now n l c.in_ok-machine-2.machine c.read_last_file.new.machine c.in_ok-tail.tail whole
    (front_of c.args.segments.now c.in-Some.closed.now _ n cases.0 refl) c.in_ok-machine-2.ensures
    (c.in_ok-tail.ensures version l.last (last_whole_file c.args.queue version g.M.ReplayMachine.stands_for g.M.ReplayMachine.stands_exactly files c.args.segments.now c.split_at.result.1.now n l whole c.split_at.ensures.back))
