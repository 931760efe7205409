use Rattle.raft_recover.proofs.Common.{on_passed, map, inl, arith, file_shown}
use Rattle.raft_recover.proofs.RecoveryLemmas.{files_refused, tables_printed, tables_found, print_failed}
use Rattle.raft_recover.proofs.recovery.recover_bytes.Goals as goal

pub returns-in_err-accessor-clause-refused : goal.returns-in_err-accessor-clause-refused
returns-in_err-accessor-clause-refused g c good =
    let made = c.in_ok-segments.ensures in
    let refused = rw (c.as_slice.ensures.value) at c.in_err-accessor.ensures.refused in
    on_passed _ _ c.from_residual-in_err-accessor.ensures.1
    (λ not_memory. inl (files_refused c.args.queue c.args.version c.in_ok-segments.segments.items (map file_shown c.args.files.items) made.same
    (refused (good.0, good.1, omega (arith, made.count, good.2), made.of_queue) not_memory)))

pub returns-clause-ok : goal.returns-clause-ok
returns-clause-ok g c =
    let recovered = rw (c.as_slice.ensures.value) at c.in_ok-accessor.ensures.ok in
    tables_printed c.args.queue c.args.version c.in_ok-segments.segments.items (map file_shown c.args.files.items) c.in_ok-segments.ensures.same
    c.in_ok-accessor.accessor recovered c.print_recovered.result (g.W.Write.contents c.args.writer.now) _ c.print_recovered.ensures.ok

pub returns-clause-silent : goal.returns-clause-silent
returns-clause-silent g c =
    let recovered = rw (c.as_slice.ensures.value) at c.in_ok-accessor.ensures.ok in
    tables_found c.args.queue c.args.version c.in_ok-segments.segments.items (map file_shown c.args.files.items) c.in_ok-segments.ensures.same
    c.in_ok-accessor.accessor recovered (g.W.Write.contents c.args.writer.now) _ c.print_recovered.result _ c.print_recovered.ensures.silent
    c.print_recovered.ensures.cut_short

pub returns-clause-refused : goal.returns-clause-refused
returns-clause-refused g c good =
    let recovered = rw (c.as_slice.ensures.value) at c.in_ok-accessor.ensures.ok in
    print_failed c.args.queue c.args.version c.in_ok-segments.segments.items (map file_shown c.args.files.items) c.in_ok-segments.ensures.same
    c.in_ok-accessor.accessor recovered (g.W.Write.contents c.args.writer.now) _ c.print_recovered.result c.print_recovered.ensures.fault
    c.print_recovered.ensures.cut_short
