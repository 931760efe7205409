use Rattle.raft_prefix.proofs.Common.{◌≡◌, ◌∙◌, ℕ, List, [], inl, inr, length, refl, sym, ap, subst, arith, err_from_is_err_and, IsRefusedBehind}
use Rattle.raft_prefix.proofs.PrefixLemmas.{IsUnder, count_inside, damaged_under, known_next, none_under, under_more, under_next, unread_under}
use Rattle.raft_prefix.proofs.file_prefix.read_prefix.Goals as goal

pub returns-in_err-count-clause-fault : goal.returns-in_err-count-clause-fault
returns-in_err-count-clause-fault g c =
    let gives = g.S.ReadFiles.gives c.args.source.now c.args.file.now.id in
    let p = err_from_is_err_and c.from_residual.result c.from_residual.ensures.1 in
    rw (p.1, p.2)
    (λ other.
    let r = c.in_err-count.ensures.damaged other in
    inr (damaged_under gives (λ _. Unit {0}) c.args.file.now c.args.len c.loop-damaged.at c.loop-damaged.damaged.items c.loop-damaged.piece.items _ c.loop-damaged.invariant
    (r.0, subst (λ (xs : List ℕ). IsRefusedBehind c.args.file.now c.loop-damaged.at xs c.loop-damaged.damaged.items c.in_err-count.field-0.0) c.as_slice-bytes.ensures.value r.1)))

pub loop-damaged-init : goal.loop-damaged-init
loop-damaged-init g c =
    let gives = g.S.ReadFiles.gives c.args.source.now c.args.file.now.id in
    subst (λ (ds : List ℕ). IsUnder gives (λ _. Unit {0}) c.args.file.now c.args.len 0 ds c.new-piece.result.items) (sym c.new-damaged.ensures.items)
    (subst (IsUnder gives (λ _. Unit {0}) c.args.file.now c.args.len 0 []) (sym c.new-piece.ensures.items) (none_under gives (λ _. Unit {0}) c.args.file.now c.args.len tt))

pub remove_front-requires : goal.remove_front-requires
remove_front-requires g c =
    count_inside (g.S.ReadFiles.gives c.args.source.now c.args.file.now.id) (λ _. Unit {0}) (λ _. Unit {0}) c.args.file.now c.args.len c.loop-damaged.at _ c.loop-damaged.damaged.items c.read_readable_batches.new.damaged c.loop-damaged.piece.items c.as_slice-bytes.result.now _ _ c.as_slice-bytes.ensures.value refl c.loop-damaged.invariant
    c.in_ok-count.ensures.passed c.in_ok-count.ensures.whole

pub returns-then-wanted-eq0-clause-ok : goal.returns-then-wanted-eq0-clause-ok
returns-then-wanted-eq0-clause-ok g c =
    let gives = g.S.ReadFiles.gives c.args.source.now c.args.file.now.id in
    let u = under_next gives (λ _. Unit {0}) (λ _. Unit {0}) c.args.file.now c.args.len c.loop-damaged.at _ c.loop-damaged.damaged.items c.read_readable_batches.new.damaged c.loop-damaged.piece.items c.as_slice-bytes.result.now c.remove_front.new.bytes.items _ c.as_slice-bytes.ensures.value c.remove_front.ensures c.loop-damaged.invariant
    c.in_ok-count.ensures.passed c.in_ok-count.ensures.whole (λ _ _ _. tt) in
    let inside = u.inside in
    let counted : c.len.result ≡ length c.remove_front.new.bytes.items = c.len.ensures ∙ sym c.as_slice.ensures.len ∙ ap length c.as_slice.ensures.value in
    known_next gives (λ _. Unit {0}) (λ _. Unit {0}) c.args.file.now c.args.len c.loop-damaged.at _ c.loop-damaged.damaged.items c.read_readable_batches.new.damaged c.loop-damaged.piece.items c.as_slice-bytes.result.now c.remove_front.new.bytes.items _ c.as_slice-bytes.ensures.value c.remove_front.ensures c.loop-damaged.invariant
    c.in_ok-count.ensures.passed c.in_ok-count.ensures.whole (λ _ _ _. tt) c.as_slice.result.now _ c.as_slice.ensures.value (c.bytes_wanted-wanted.ensures.none (omega (arith, c.if-wanted-eq0.true)))
    (omega (arith, counted, inside)) c.in_ok-count.ensures.refused c.in_ok-count.ensures.fault

pub returns-then-wanted-eq0-clause-inside : goal.returns-then-wanted-eq0-clause-inside
returns-then-wanted-eq0-clause-inside g c =
    let gives = g.S.ReadFiles.gives c.args.source.now c.args.file.now.id in
    let u = under_next gives (λ _. Unit {0}) (λ _. Unit {0}) c.args.file.now c.args.len c.loop-damaged.at _ c.loop-damaged.damaged.items c.read_readable_batches.new.damaged c.loop-damaged.piece.items c.as_slice-bytes.result.now c.remove_front.new.bytes.items _ c.as_slice-bytes.ensures.value c.remove_front.ensures c.loop-damaged.invariant
    c.in_ok-count.ensures.passed c.in_ok-count.ensures.whole (λ _ _ _. tt) in
    let inside = u.inside in
    let counted : c.len.result ≡ length c.remove_front.new.bytes.items = c.len.ensures ∙ sym c.as_slice.ensures.len ∙ ap length c.as_slice.ensures.value in
    omega (arith, inside)

pub loop-damaged-preserved : goal.loop-damaged-preserved
loop-damaged-preserved g c =
    let gives = g.S.ReadFiles.gives c.args.source.now c.args.file.now.id in
    let u = under_next gives (λ _. Unit {0}) (λ _. Unit {0}) c.args.file.now c.args.len c.loop-damaged.at _ c.loop-damaged.damaged.items c.read_readable_batches.new.damaged c.loop-damaged.piece.items c.as_slice-bytes.result.now c.remove_front.new.bytes.items _ c.as_slice-bytes.ensures.value c.remove_front.ensures c.loop-damaged.invariant
    c.in_ok-count.ensures.passed c.in_ok-count.ensures.whole (λ _ _ _. tt) in
    let inside = u.inside in
    let counted : c.len.result ≡ length c.remove_front.new.bytes.items = c.len.ensures ∙ sym c.as_slice.ensures.len ∙ ap length c.as_slice.ensures.value in
    under_more gives (λ _. Unit {0}) c.args.file.now c.args.len _ c.bytes_wanted-wanted.result c.read_readable_batches.new.damaged.items c.remove_front.new.bytes.items c.read_behind.new.piece.items (omega (arith, counted, inside, c.bytes_wanted-wanted.ensures.some)) u c.in_ok-read_behind.ensures.ok

pub returns-in_err-read_behind-clause-fault : goal.returns-in_err-read_behind-clause-fault
returns-in_err-read_behind-clause-fault g c =
    let gives = g.S.ReadFiles.gives c.args.source.now c.args.file.now.id in
    let u = under_next gives (λ _. Unit {0}) (λ _. Unit {0}) c.args.file.now c.args.len c.loop-damaged.at _ c.loop-damaged.damaged.items c.read_readable_batches.new.damaged c.loop-damaged.piece.items c.as_slice-bytes.result.now c.remove_front.new.bytes.items _ c.as_slice-bytes.ensures.value c.remove_front.ensures c.loop-damaged.invariant
    c.in_ok-count.ensures.passed c.in_ok-count.ensures.whole (λ _ _ _. tt) in
    let inside = u.inside in
    let counted : c.len.result ≡ length c.remove_front.new.bytes.items = c.len.ensures ∙ sym c.as_slice.ensures.len ∙ ap length c.as_slice.ensures.value in
    let p = err_from_is_err_and c.from_residual-in_err-read_behind.result c.from_residual-in_err-read_behind.ensures.1 in
    rw (p.1, p.2)
    (λ other. inl (unread_under gives (λ _. Unit {0}) c.args.file.now c.args.len (g.S.ReadFiles.may_fail c.args.source.now c.args.file.now.id) _ c.bytes_wanted-wanted.result c.read_readable_batches.new.damaged.items c.remove_front.new.bytes.items _ u
    (omega (arith, counted, inside, c.bytes_wanted-wanted.ensures.some)) (c.in_err-read_behind.ensures.fault other)))
