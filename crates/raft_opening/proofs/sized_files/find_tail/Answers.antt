use Rattle.raft_opening.proofs.Common.{inl, inr, refl, arith, err_from_is_err_and, part_of, IsPrefixOf}
use Rattle.raft_prefix.specs.Blocks.{IsUnsoundAs}
use Rattle.raft_opening.proofs.SizedLemmas.{known_so, read_refusal, rest_so, torn_accepted, torn_refused, unread_refusal, unsound_so, whole_accepted}
use Rattle.raft_opening.proofs.sized_files.find_tail.Goals as goal

pub returns-in_err-prefix-clause-fault : goal.returns-in_err-prefix-clause-fault
returns-in_err-prefix-clause-fault g c = λ bytes long only.
    let p = err_from_is_err_and c.from_residual.result c.from_residual.ensures.1 in
    rw (p.1, p.2)
    (λ other. elim (c.in_err-prefix.ensures.fault other) [
      | inl unread ↦ inr (unread_refusal (g.S.ReadFiles.gives c.args.source.now) (g.S.ReadFiles.may_fail c.args.source.now) _ c.args.file.now.id c.args.len unread)
      | inr d ↦ inl (inr (d.0, unsound_so _ _ (known_so (g.S.ReadFiles.gives c.args.source.now c.args.file.now.id) bytes only c.args.file.now c.args.len (λ part. IsUnsoundAs part c.in_err-prefix.field-0.0) long d.1)))
    ])

pub returns-in_default-clause-ok : goal.returns-in_default-clause-ok
returns-in_default-clause-ok g c = λ bytes long only.
    whole_accepted c.args.mode (part_of c.args.file.now 0 bytes) _
    (let is = (known_so (g.S.ReadFiles.gives c.args.source.now c.args.file.now.id) bytes only c.args.file.now c.args.len (λ part. IsPrefixOf part c.in_ok-prefix.prefix) long c.in_ok-prefix.ensures.ok).is in rw c.in_default.is at is)

pub returns-in_err-rest-clause-fault : goal.returns-in_err-rest-clause-fault
returns-in_err-rest-clause-fault g c = λ bytes long only.
    let p = err_from_is_err_and c.from_residual-in_err-rest.result c.from_residual-in_err-rest.ensures.1 in
    rw (p.1, p.2)
    (λ other. inr (read_refusal (g.S.ReadFiles.gives c.args.source.now) (g.S.ReadFiles.may_fail c.args.source.now) _ c.args.file.now.id c.in_ok-prefix.prefix.len _ (c.in_err-rest.ensures.fault other)))

pub returns-in_err-check_rest-clause-fault : goal.returns-in_err-check_rest-clause-fault
returns-in_err-check_rest-clause-fault g c = λ bytes long only.
    let only_these = (known_so (g.S.ReadFiles.gives c.args.source.now c.args.file.now.id) bytes only c.args.file.now c.args.len (λ part. IsPrefixOf part c.in_ok-prefix.prefix) long c.in_ok-prefix.ensures.ok).is in
    let k = rw c.in-Some.is at only_these in
    let r = rest_so (g.S.ReadFiles.gives c.args.source.now c.args.file.now.id) bytes only c.args.file.now c.in_ok-prefix.prefix.len c.args.len _ long c.in_ok-rest.ensures.ok in
    let p = err_from_is_err_and c.from_residual-in_err-check_rest.result c.from_residual-in_err-check_rest.ensures.1 in
    rw (p.1, p.2) (λ other. inl (torn_refused c.args.mode (part_of c.args.file.now 0 bytes) c.in_ok-prefix.prefix.len c.in-Some.error k _ (c.in_err-check_rest.ensures.refused _ _ r other)))

pub returns-clause-ok : goal.returns-clause-ok
returns-clause-ok g c = λ bytes long only.
    let only_these = (known_so (g.S.ReadFiles.gives c.args.source.now c.args.file.now.id) bytes only c.args.file.now c.args.len (λ part. IsPrefixOf part c.in_ok-prefix.prefix) long c.in_ok-prefix.ensures.ok).is in
    let k = rw c.in-Some.is at only_these in
    let r = rest_so (g.S.ReadFiles.gives c.args.source.now c.args.file.now.id) bytes only c.args.file.now c.in_ok-prefix.prefix.len c.args.len _ long c.in_ok-rest.ensures.ok in
    let inside = c.in_ok-prefix.ensures.inside in
    torn_accepted c.args.mode (part_of c.args.file.now 0 bytes) c.in_ok-prefix.prefix.len c.in-Some.error k (c.in_ok-check_rest.ensures.tolerated _ _ r) (c.in_ok-check_rest.ensures.of_version _ _ r) _ refl refl (omega (arith, long, inside)) refl
