use Rattle.raft_reading.proofs.Common.{on_passed, on_ok_weaker, IfErr-weaker, inl, inr, ◌≡◌, ◌+◌, ◌-◌, ◌<◌, ◌∙◌, ℕ, List, length, sym, ap, subst, arith, HasHeader, HasReplayed, HoldsFrom, IsHopeless, IsStoodFor, StopsByFault, part_of}
use Rattle.raft_reading.proofs.PieceLemmas.{underway_front, underway_more, stopped, stops_last, unread, finished}
use Rattle.raft_reading.proofs.file_pieces.replay_file_with_buffer.Goals as goal

pub returns-in_err-at-clause-fault : goal.returns-in_err-at-clause-fault
returns-in_err-at-clause-fault g c =
    on_passed _ _ c.from_residual.ensures.1
    (λ not_memory. inr (stopped (g.S.ReadFiles.gives c.args.source.now c.args.file.now.id) c.args.file.now c.args.len g.M.ReplayMachine.stands_for g.M.ReplayMachine.stands_exactly c.args.machine.now c.loop-at.machine c.loop-at.at c.loop-at.piece.items (IsStoodFor g.M.ReplayMachine.stands_for)
    c.in_err-at.field-0.0 c.loop-at.invariant (λ rest all. c.in_err-at.ensures.fault rest)))

pub bytes_wanted-wanted-requires : goal.bytes_wanted-wanted-requires
bytes_wanted-wanted-requires g c offset len h =
    subst (λ (xs : List ℕ). length xs < len) (sym c.as_slice.ensures.value) (c.in_ok-at.ensures.last offset len (subst (λ (xs : List ℕ). HasHeader xs offset len) c.as_slice.ensures.value h))

pub returns-then-wanted-eq0-clause-ok : goal.returns-then-wanted-eq0-clause-ok
returns-then-wanted-eq0-clause-ok g c =
    let piece = c.replay_whole_batches.new.piece.items in
    let at = c.in_ok-at.at in
    let u =
    underway_front (g.S.ReadFiles.gives c.args.source.now c.args.file.now.id) c.args.file.now c.args.len g.M.ReplayMachine.stands_for g.M.ReplayMachine.stands_exactly c.args.machine.now
    c.loop-at.machine c.replay_whole_batches.new.machine c.loop-at.at c.in_ok-at.at c.loop-at.piece.items c.replay_whole_batches.new.piece.items c.loop-at.invariant c.in_ok-at.ensures.ok in
    let counted : c.len.result ≡ length c.replay_whole_batches.new.piece.items = c.len.ensures ∙ sym c.as_slice.ensures.len ∙ ap length c.as_slice.ensures.value in
    let inside = u.inside in
    let none = λ (offset len : ℕ) (h : HasHeader c.replay_whole_batches.new.piece.items offset len). c.in_ok-at.ensures.last offset len h in
    let hopeless = subst (λ (xs : List ℕ). IsHopeless xs (c.args.len - c.in_ok-at.at - c.len.result)) c.as_slice.ensures.value (c.bytes_wanted-wanted.ensures.none (omega (arith, c.if-wanted-eq0.true))) in
    let all : c.in_ok-at.at + length c.replay_whole_batches.new.piece.items + (c.args.len - c.in_ok-at.at - c.len.result) ≡ c.args.len = omega (arith, counted, inside) in
    on_ok_weaker c.replay_bytes.result
    (λ done. finished (g.S.ReadFiles.gives c.args.source.now c.args.file.now.id) c.args.file.now c.args.len g.M.ReplayMachine.stands_for g.M.ReplayMachine.stands_exactly c.args.machine.now c.replay_whole_batches.new.machine c.replay_bytes.new.machine at (c.args.len - c.in_ok-at.at - c.len.result) piece all none hopeless u
    (subst (λ (xs : List ℕ). HasReplayed (HoldsFrom (part_of c.args.file.now c.in_ok-at.at xs) 0) g.M.ReplayMachine.stands_for g.M.ReplayMachine.stands_exactly c.replay_whole_batches.new.machine c.replay_bytes.new.machine)
    c.as_slice-then-wanted-eq0.ensures.value done)) c.replay_bytes.ensures.ok

pub returns-then-wanted-eq0-clause-fault : goal.returns-then-wanted-eq0-clause-fault
returns-then-wanted-eq0-clause-fault g c =
    let piece = c.replay_whole_batches.new.piece.items in
    let at = c.in_ok-at.at in
    let u =
    underway_front (g.S.ReadFiles.gives c.args.source.now c.args.file.now.id) c.args.file.now c.args.len g.M.ReplayMachine.stands_for g.M.ReplayMachine.stands_exactly c.args.machine.now
    c.loop-at.machine c.replay_whole_batches.new.machine c.loop-at.at c.in_ok-at.at c.loop-at.piece.items c.replay_whole_batches.new.piece.items c.loop-at.invariant c.in_ok-at.ensures.ok in
    let counted : c.len.result ≡ length c.replay_whole_batches.new.piece.items = c.len.ensures ∙ sym c.as_slice.ensures.len ∙ ap length c.as_slice.ensures.value in
    let inside = u.inside in
    let none = λ (offset len : ℕ) (h : HasHeader c.replay_whole_batches.new.piece.items offset len). c.in_ok-at.ensures.last offset len h in
    let hopeless = subst (λ (xs : List ℕ). IsHopeless xs (c.args.len - c.in_ok-at.at - c.len.result)) c.as_slice.ensures.value (c.bytes_wanted-wanted.ensures.none (omega (arith, c.if-wanted-eq0.true))) in
    let all : c.in_ok-at.at + length c.replay_whole_batches.new.piece.items + (c.args.len - c.in_ok-at.at - c.len.result) ≡ c.args.len = omega (arith, counted, inside) in
    IfErr-weaker c.replay_bytes.result _ _
    (λ e found not_memory. inr (stopped (g.S.ReadFiles.gives c.args.source.now c.args.file.now.id) c.args.file.now c.args.len g.M.ReplayMachine.stands_for g.M.ReplayMachine.stands_exactly c.args.machine.now c.replay_whole_batches.new.machine at piece (IsStoodFor g.M.ReplayMachine.stands_for) e u
    (λ rest whole. stops_last c.args.file.now at piece rest (c.args.len - c.in_ok-at.at - c.len.result) (g.M.ReplayMachine.stands_for c.replay_whole_batches.new.machine) (IsStoodFor g.M.ReplayMachine.stands_for) e none hopeless
    (omega (arith, whole, all))
    (subst (λ (xs : List ℕ). StopsByFault (g.M.ReplayMachine.stands_for c.replay_whole_batches.new.machine) (IsStoodFor g.M.ReplayMachine.stands_for) (part_of c.args.file.now c.in_ok-at.at xs) e) c.as_slice-then-wanted-eq0.ensures.value found)))) c.replay_bytes.ensures.place

pub loop-at-preserved : goal.loop-at-preserved
loop-at-preserved g c =
    let piece = c.replay_whole_batches.new.piece.items in
    let at = c.in_ok-at.at in
    let u =
    underway_front (g.S.ReadFiles.gives c.args.source.now c.args.file.now.id) c.args.file.now c.args.len g.M.ReplayMachine.stands_for g.M.ReplayMachine.stands_exactly c.args.machine.now
    c.loop-at.machine c.replay_whole_batches.new.machine c.loop-at.at c.in_ok-at.at c.loop-at.piece.items c.replay_whole_batches.new.piece.items c.loop-at.invariant c.in_ok-at.ensures.ok in
    let counted : c.len.result ≡ length c.replay_whole_batches.new.piece.items = c.len.ensures ∙ sym c.as_slice.ensures.len ∙ ap length c.as_slice.ensures.value in
    let inside = u.inside in
    underway_more (g.S.ReadFiles.gives c.args.source.now c.args.file.now.id) c.args.file.now c.args.len g.M.ReplayMachine.stands_for g.M.ReplayMachine.stands_exactly c.args.machine.now c.replay_whole_batches.new.machine at c.bytes_wanted-wanted.result piece c.read_behind.new.piece.items
    (omega (arith, counted, inside, c.bytes_wanted-wanted.ensures.some)) u c.in_ok-read_behind.ensures.ok

pub returns-in_err-read_behind-clause-fault : goal.returns-in_err-read_behind-clause-fault
returns-in_err-read_behind-clause-fault g c =
    let piece = c.replay_whole_batches.new.piece.items in
    let at = c.in_ok-at.at in
    let u =
    underway_front (g.S.ReadFiles.gives c.args.source.now c.args.file.now.id) c.args.file.now c.args.len g.M.ReplayMachine.stands_for g.M.ReplayMachine.stands_exactly c.args.machine.now
    c.loop-at.machine c.replay_whole_batches.new.machine c.loop-at.at c.in_ok-at.at c.loop-at.piece.items c.replay_whole_batches.new.piece.items c.loop-at.invariant c.in_ok-at.ensures.ok in
    let counted : c.len.result ≡ length c.replay_whole_batches.new.piece.items = c.len.ensures ∙ sym c.as_slice.ensures.len ∙ ap length c.as_slice.ensures.value in
    let inside = u.inside in
    on_passed _ _ c.from_residual-in_err-read_behind.ensures.1
    (λ not_memory. inl (unread (g.S.ReadFiles.gives c.args.source.now c.args.file.now.id) c.args.file.now c.args.len g.M.ReplayMachine.stands_for g.M.ReplayMachine.stands_exactly c.args.machine.now (g.S.ReadFiles.may_fail c.args.source.now c.args.file.now.id) c.replay_whole_batches.new.machine at c.bytes_wanted-wanted.result piece c.in_err-read_behind.field-0.0 u
    (omega (arith, counted, inside, c.bytes_wanted-wanted.ensures.some)) (c.in_err-read_behind.ensures.fault not_memory)))
