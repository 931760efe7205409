use Rattle.raft_reading.proofs.Common.{◌≡◌, ◌++◌, ◌∙◌, List, drop, sym, ap, take-append-drop, FileSize}
use Rattle.raft_reading.proofs.QueueLemmas.{neighbors}
use Rattle.raft_reading.proofs.queue_files.+fn-replay_files_in_parallel-back+fn-replay_files_in_parallel-front+replay_files_in_parallel.Goals as goal

pub returns : goal.returns
returns g t c =
    let files = c.args.files.now in
    let first = c.split_at.result.0.now in
    let second = c.split_at.result.1.now in
    let n = c.count_files_of_share.result in
    let is : files ≡ first ++ second =
    sym (take-append-drop n files) ∙ ap (λ (l : List FileSize). l ++ drop n files) (sym c.split_at.ensures.front) ∙ ap (λ (l : List FileSize). first ++ l) (sym c.split_at.ensures.back) in
    let older = rw c.in_ok-machine.was at c.join-older.ensures.first in
    let newer = rw c.in_ok-newer.was at c.join-older.ensures.second in
    neighbors (g.S.ReadFiles.gives c.args.source.now) c.args.queue c.args.version g.M.ReplayMachine.stands_for g.M.ReplayMachine.stands_exactly files first second c.in_ok-machine.machine c.in_ok-newer.field-0 c.merge.new.self
    is older newer c.in_ok-merge.ensures.stands c.in_ok-merge.ensures.exact
