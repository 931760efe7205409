use Rattle.raft_inspect.proofs.Common.{List, subst, err_from_is_err_and, FileSize, TolerateTornTail, AreUnreadAs, IsReadingOf}
use Rattle.raft_inspect.proofs.OpeningLemmas.{read_so}
use Rattle.raft_inspect.proofs.opening.read_both_queues.Goals as goal

pub returns-clause-ok : goal.returns-clause-ok
returns-clause-ok g c =
    let gives = g.S.ReadFiles.gives c.args.source.now in
    let fails = g.S.ReadFiles.may_fail c.args.source.now in
    let sizes = c.args.sizes.now in
    let version = c.args.version in
    let law = c.found_files_are_stored.ensures in
    read_so gives fails version sizes.append.items sizes.rewrite.items law.ready law.stored law.records c.in_ok-read.read
    (subst (λ (files : List FileSize). IsReadingOf gives TolerateTornTail version files sizes.rewrite.items c.in_ok-read.read) c.as_slice-append.ensures.value
    (subst (λ (files : List FileSize). IsReadingOf gives TolerateTornTail version c.as_slice-append.result.now files c.in_ok-read.read) c.as_slice-rewrite.ensures.value c.in_ok-read.ensures.ok))

pub returns-in_err-read-clause-refused : goal.returns-in_err-read-clause-refused
returns-in_err-read-clause-refused g c =
    let gives = g.S.ReadFiles.gives c.args.source.now in
    let fails = g.S.ReadFiles.may_fail c.args.source.now in
    let sizes = c.args.sizes.now in
    let p = err_from_is_err_and c.from_residual.result c.from_residual.ensures.1 in
    rw (p.1, p.2)
    (λ other. subst (λ (files : List FileSize). AreUnreadAs gives fails TolerateTornTail c.args.version c.args.workers files sizes.rewrite.items c.in_err-read.field-0.0) c.as_slice-append.ensures.value
    (subst (λ (files : List FileSize). AreUnreadAs gives fails TolerateTornTail c.args.version c.args.workers c.as_slice-append.result.now files c.in_err-read.field-0.0) c.as_slice-rewrite.ensures.value c.in_err-read.ensures.err))
