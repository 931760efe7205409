use Rattle.raft_reading.proofs.Common.{on_passed, ◌≡◌, ◌<◌, ◌≤◌, ◌∙◌, ℕ, List, length, take, drop, sym, ap, subst, HasHeader, HeadersLead, IsStoodFor, StopsByFault, part_of}
use Rattle.raft_reading.proofs.PieceLemmas.{stops_whole}
use Rattle.raft_reading.proofs.file_pieces.replay_whole_batches.Goals as goal

pub returns-in_err-replay_bytes-clause-fault : goal.returns-in_err-replay_bytes-clause-fault
returns-in_err-replay_bytes-clause-fault g c =
    let piece = c.args.piece.now.items in
    let whole = c.whole_batches_len-whole.result in
    let e = c.in_err-replay_bytes.field-0.0 in
    let Stood = g.M.ReplayMachine.stands_for c.args.machine.now in
    let front : c.split_at.result.0.now ≡ take whole piece = c.split_at.ensures.front ∙ ap (take whole) c.as_slice-2.ensures.value in
    let led = subst (λ (xs : List ℕ). HeadersLead xs whole) c.as_slice.ensures.value c.whole_batches_len-whole.ensures.led in
    let inside = subst (λ (xs : List ℕ). whole ≤ length xs) c.as_slice.ensures.value c.whole_batches_len-whole.ensures.inside in
    let found = subst (λ (xs : List ℕ). StopsByFault (g.M.ReplayMachine.stands_for c.args.machine.now) (IsStoodFor g.M.ReplayMachine.stands_for) (part_of c.args.file.now c.args.at xs) e) front c.in_err-replay_bytes.ensures.place in
    on_passed _ _ c.from_residual.ensures.1
    (λ rest. stops_whole c.args.file.now c.args.at piece whole rest (g.M.ReplayMachine.stands_for c.args.machine.now) (IsStoodFor g.M.ReplayMachine.stands_for) e inside led found)

pub returns-clause-last : goal.returns-clause-last
returns-clause-last g c offset len h =
    let left : c.remove_front.new.bytes.items ≡ drop c.whole_batches_len-whole.result c.as_slice.result.now = c.remove_front.ensures ∙ ap (drop c.whole_batches_len-whole.result) (sym c.as_slice.ensures.value) in
    subst (λ (xs : List ℕ). length xs < len) (sym left) (c.whole_batches_len-whole.ensures.last offset len (subst (λ (xs : List ℕ). HasHeader xs offset len) left h))
