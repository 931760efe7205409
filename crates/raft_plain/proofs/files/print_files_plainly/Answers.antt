use Rattle.raft_plain.proofs.Common.{map, inl, on_passed, file_shown, recovered_shown}
use Rattle.raft_plain.proofs.FileLemmas.{files_refused, parts_are_of, print_failed, print_kept, tables_printed}
use Rattle.raft_plain.proofs.files.print_files_plainly.Goals as goal

pub returns-in_err-recovered-clause-refused : goal.returns-in_err-recovered-clause-refused
returns-in_err-recovered-clause-refused g c =
    let files = map file_shown c.args.files.items in
    let whole = c.in_ok-parts.ensures.ok in
    let refused = rw (c.as_slice.ensures.value) at c.in_err-recovered.ensures.refused in
    on_passed _ _ c.from_residual-in_err-recovered.ensures.1
    (λ not_memory. inl (files_refused c.args.queue c.args.version files _ whole (refused (parts_are_of c.args.queue c.args.version files _ whole) not_memory)))

pub returns-clause-ok : goal.returns-clause-ok
returns-clause-ok g c =
    let recovered = rw (c.as_slice.ensures.value) at c.in_ok-recovered.ensures.ok in
    tables_printed c.args.queue c.args.version (map file_shown c.args.files.items) _ c.in_ok-parts.ensures.ok (recovered_shown c.in_ok-recovered.recovered) recovered
    c.print_plainly.result (g.W.Write.contents c.args.writer.now) _ c.print_plainly.ensures.ok

pub returns-clause-silent : goal.returns-clause-silent
returns-clause-silent g c =
    let recovered = rw (c.as_slice.ensures.value) at c.in_ok-recovered.ensures.ok in
    print_kept c.args.queue c.args.version (map file_shown c.args.files.items) _ c.in_ok-parts.ensures.ok (recovered_shown c.in_ok-recovered.recovered) recovered
    (g.W.Write.contents c.args.writer.now) _ c.print_plainly.result _ c.print_plainly.ensures.silent c.print_plainly.ensures.cut_short

pub returns-clause-refused : goal.returns-clause-refused
returns-clause-refused g c =
    let recovered = rw (c.as_slice.ensures.value) at c.in_ok-recovered.ensures.ok in
    print_failed c.args.queue c.args.version (map file_shown c.args.files.items) _ c.in_ok-parts.ensures.ok (recovered_shown c.in_ok-recovered.recovered) recovered
    (g.W.Write.contents c.args.writer.now) _ c.print_plainly.result c.print_plainly.ensures.fault c.print_plainly.ensures.cut_short
