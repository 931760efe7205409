use Rattle.raft_inspect.proofs.Common.{inl, inr, List, subst, on_passed, Append, Rewrite, FileSize, IsOneUnread, IsUnprintedFor, AreScansCutShort, AreScansPrinted}
use Rattle.raft_inspect.proofs.FaultLemmas.{of_first, of_second}
use Rattle.raft_inspect.proofs.check.print_both_scans.Goals as goal

pub returns-clause-ok : goal.returns-clause-ok
returns-clause-ok g c =
    let gives = g.S.ReadFiles.gives c.args.source.now in
    let before = g.W.Write.contents c.args.out.now in
    let between = g.W.Write.contents c.print_scans.new.out in
    let after = g.W.Write.contents c.print_scans-2.new.out in
    record {
      between = between;
      of_append = subst (λ (files : List FileSize). AreScansPrinted gives Append c.args.version files c.args.form before between c.in_ok-append.append) c.deref.ensures.value c.in_ok-append.ensures.ok;
      of_rewrite = subst (λ (files : List FileSize). AreScansPrinted gives Rewrite c.args.version files c.args.form between after c.in_ok-rewrite.rewrite) c.deref-2.ensures.value c.in_ok-rewrite.ensures.ok;
    }

pub returns-in_err-append-clause-cut_short : goal.returns-in_err-append-clause-cut_short
returns-in_err-append-clause-cut_short g c =
    let gives = g.S.ReadFiles.gives c.args.source.now in
    on_passed _ _ c.from_residual.ensures.1
    (inl (subst (λ (files : List FileSize). AreScansCutShort gives Append c.args.version files c.args.form (g.W.Write.contents c.args.out.now) (g.W.Write.contents c.print_scans.new.out)) c.deref.ensures.value c.in_err-append.ensures.cut_short))

pub returns-in_err-append-clause-fault : goal.returns-in_err-append-clause-fault
returns-in_err-append-clause-fault g c =
    let gives = g.S.ReadFiles.gives c.args.source.now in
    let fails = g.S.ReadFiles.may_fail c.args.source.now in
    on_passed _ _ c.from_residual.ensures.1
    (of_first gives fails c.args.sizes.now.append.items c.args.sizes.now.rewrite.items c.in_err-append.field-0.0
    (subst (λ (files : List FileSize). IsUnprintedFor (IsOneUnread gives fails Append files) c.in_err-append.field-0.0) c.deref.ensures.value c.in_err-append.ensures.fault))

pub returns-in_err-rewrite-clause-cut_short : goal.returns-in_err-rewrite-clause-cut_short
returns-in_err-rewrite-clause-cut_short g c =
    let gives = g.S.ReadFiles.gives c.args.source.now in
    let before = g.W.Write.contents c.args.out.now in
    let between = g.W.Write.contents c.print_scans.new.out in
    let after = g.W.Write.contents c.print_scans-2.new.out in
    on_passed _ _ c.from_residual-in_err-rewrite.ensures.1
    (inr (
      between,
      c.in_ok-append.append,
      subst (λ (files : List FileSize). AreScansPrinted gives Append c.args.version files c.args.form before between c.in_ok-append.append) c.deref.ensures.value c.in_ok-append.ensures.ok,
      subst (λ (files : List FileSize). AreScansCutShort gives Rewrite c.args.version files c.args.form between after) c.deref-2.ensures.value c.in_err-rewrite.ensures.cut_short,
    ))

pub returns-in_err-rewrite-clause-fault : goal.returns-in_err-rewrite-clause-fault
returns-in_err-rewrite-clause-fault g c =
    let gives = g.S.ReadFiles.gives c.args.source.now in
    let fails = g.S.ReadFiles.may_fail c.args.source.now in
    on_passed _ _ c.from_residual-in_err-rewrite.ensures.1
    (of_second gives fails c.args.sizes.now.append.items c.args.sizes.now.rewrite.items c.in_err-rewrite.field-0.0
    (subst (λ (files : List FileSize). IsUnprintedFor (IsOneUnread gives fails Rewrite files) c.in_err-rewrite.field-0.0) c.deref-2.ensures.value c.in_err-rewrite.ensures.fault))
