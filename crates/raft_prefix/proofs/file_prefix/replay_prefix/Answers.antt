use Rattle.raft_prefix.proofs.Common.{◌≡◌, ◌∙◌, ℕ, List, [], length, refl, sym, ap, subst, arith}
use Rattle.raft_prefix.proofs.PrefixLemmas.{IsUnder, Replayed, count_inside, front_replayed, none_under, nothing_replayed, replayed_next, under_more, under_next}
use Rattle.raft_prefix.proofs.file_prefix.replay_prefix.Goals as goal

pub loop-damaged-init : goal.loop-damaged-init
loop-damaged-init g c =
    let gives = g.S.ReadFiles.gives c.args.source.now c.args.file.now.id in
    let Held = Replayed g.M.ReplayMachine.stands_for g.M.ReplayMachine.stands_exactly c.args.file.now c.args.machine.now c.args.machine.now in
    subst (λ (ds : List ℕ). IsUnder gives Held c.args.file.now c.args.len 0 ds c.new-piece.result.items) (sym c.new-damaged.ensures.items)
    (subst (IsUnder gives Held c.args.file.now c.args.len 0 []) (sym c.new-piece.ensures.items) (none_under gives Held c.args.file.now c.args.len (nothing_replayed g.M.ReplayMachine.stands_for g.M.ReplayMachine.stands_exactly c.args.file.now c.args.machine.now)))

pub remove_front-requires : goal.remove_front-requires
remove_front-requires g c =
    let gives = g.S.ReadFiles.gives c.args.source.now c.args.file.now.id in
    let Held = Replayed g.M.ReplayMachine.stands_for g.M.ReplayMachine.stands_exactly c.args.file.now c.args.machine.now c.loop-damaged.machine in
    let Now = Replayed g.M.ReplayMachine.stands_for g.M.ReplayMachine.stands_exactly c.args.file.now c.args.machine.now c.replay_readable.new.machine in
    count_inside gives Held Now c.args.file.now c.args.len c.loop-damaged.at _ c.loop-damaged.damaged.items c.replay_readable.new.damaged c.loop-damaged.piece.items c.as_slice-bytes.result.now _ _ c.as_slice-bytes.ensures.value refl c.loop-damaged.invariant
    c.in_ok-passed.ensures.passed c.in_ok-passed.ensures.whole

pub returns-then-more-eq0 : goal.returns-then-more-eq0
returns-then-more-eq0 g c =
    let gives = g.S.ReadFiles.gives c.args.source.now c.args.file.now.id in
    let Held = Replayed g.M.ReplayMachine.stands_for g.M.ReplayMachine.stands_exactly c.args.file.now c.args.machine.now c.loop-damaged.machine in
    let Now = Replayed g.M.ReplayMachine.stands_for g.M.ReplayMachine.stands_exactly c.args.file.now c.args.machine.now c.replay_readable.new.machine in
    let grown = front_replayed g.M.ReplayMachine.stands_for g.M.ReplayMachine.stands_exactly c.args.file.now c.loop-damaged.at _ c.args.machine.now c.loop-damaged.machine c.replay_readable.new.machine c.in_ok-passed.ensures.replayed in
    let u = under_next gives Held Now c.args.file.now c.args.len c.loop-damaged.at _ c.loop-damaged.damaged.items c.replay_readable.new.damaged c.loop-damaged.piece.items c.as_slice-bytes.result.now c.remove_front.new.bytes.items _ c.as_slice-bytes.ensures.value c.remove_front.ensures c.loop-damaged.invariant
    c.in_ok-passed.ensures.passed c.in_ok-passed.ensures.whole grown in
    let inside = u.inside in
    let counted : c.len.result ≡ length c.remove_front.new.bytes.items = c.len.ensures ∙ sym c.as_slice.ensures.len ∙ ap length c.as_slice.ensures.value in
    replayed_next gives Held Now c.args.file.now c.args.len c.loop-damaged.at _ c.loop-damaged.damaged.items c.replay_readable.new.damaged c.loop-damaged.piece.items c.as_slice-bytes.result.now c.remove_front.new.bytes.items _ c.as_slice-bytes.ensures.value c.remove_front.ensures c.loop-damaged.invariant
    c.in_ok-passed.ensures.passed c.in_ok-passed.ensures.whole grown c.as_slice.result.now _ c.as_slice.ensures.value (c.bytes_wanted-more.ensures.none (omega (arith, c.if-more-eq0.true)))
    (omega (arith, counted, inside)) c.in_ok-passed.ensures.refused c.in_ok-passed.ensures.fault g.M.ReplayMachine.stands_for g.M.ReplayMachine.stands_exactly c.args.machine.now c.replay_readable.new.machine c.remove_front.new.bytes refl (λ gone held. held)

pub loop-damaged-preserved : goal.loop-damaged-preserved
loop-damaged-preserved g c =
    let gives = g.S.ReadFiles.gives c.args.source.now c.args.file.now.id in
    let Held = Replayed g.M.ReplayMachine.stands_for g.M.ReplayMachine.stands_exactly c.args.file.now c.args.machine.now c.loop-damaged.machine in
    let Now = Replayed g.M.ReplayMachine.stands_for g.M.ReplayMachine.stands_exactly c.args.file.now c.args.machine.now c.replay_readable.new.machine in
    let grown = front_replayed g.M.ReplayMachine.stands_for g.M.ReplayMachine.stands_exactly c.args.file.now c.loop-damaged.at _ c.args.machine.now c.loop-damaged.machine c.replay_readable.new.machine c.in_ok-passed.ensures.replayed in
    let u = under_next gives Held Now c.args.file.now c.args.len c.loop-damaged.at _ c.loop-damaged.damaged.items c.replay_readable.new.damaged c.loop-damaged.piece.items c.as_slice-bytes.result.now c.remove_front.new.bytes.items _ c.as_slice-bytes.ensures.value c.remove_front.ensures c.loop-damaged.invariant
    c.in_ok-passed.ensures.passed c.in_ok-passed.ensures.whole grown in
    let inside = u.inside in
    let counted : c.len.result ≡ length c.remove_front.new.bytes.items = c.len.ensures ∙ sym c.as_slice.ensures.len ∙ ap length c.as_slice.ensures.value in
    under_more gives Now c.args.file.now c.args.len _ c.bytes_wanted-more.result c.replay_readable.new.damaged.items c.remove_front.new.bytes.items c.read_behind.new.piece.items (omega (arith, counted, inside, c.bytes_wanted-more.ensures.some)) u c.in_ok-read_behind.ensures.ok
