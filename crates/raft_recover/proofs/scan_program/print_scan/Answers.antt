use Rattle.raft_recover.proofs.Common.{◌++◌, ℕ, List, map, ap, ◌∙◌, subst, inr, err_from_is_err_and, Appends, AppendsFront, scan_asked}
use Rattle.raft_recover.specs.AskedRequests.{file_shown}
use Rattle.raft_recover.proofs.scan_program.print_scan.Goals as goal

pub returns-clause-done : goal.returns-clause-done
returns-clause-done g c =
    let found = c.in_ok-undamaged.ensures.ok in
    let text = c.as_bytes.ensures.value ∙ found.1 ∙ ap (λ (t : List ℕ). t ++ found.0) c.new-text.ensures.bytes in
    λ words asked. record {
      text = found.0;
      of_files = record {
        scan = scan_asked c.args.scan;
        asked = asked;
        files = map file_shown c.in_ok-files.files.items;
        of_paths = rw (c.as_slice.ensures.value) at c.in_ok-files.ensures.ok;
        scanned = found.2;
      };
      written = subst (Appends _ _) text c.in_ok-write_whole.ensures.ok;
    }

pub returns-in_err-write_whole-clause-silent : goal.returns-in_err-write_whole-clause-silent
returns-in_err-write_whole-clause-silent g c =
    let found = c.in_ok-undamaged.ensures.ok in
    let text = c.as_bytes.ensures.value ∙ found.1 ∙ ap (λ (t : List ℕ). t ++ found.0) c.new-text.ensures.bytes in
    let p = err_from_is_err_and c.from_residual-in_err-write_whole.result c.from_residual-in_err-write_whole.ensures.1 in
    λ words asked. rw (p.1) (inr (record {
      undamaged = c.in_ok-undamaged.undamaged;
      text = found.0;
      of_files = record {
        scan = scan_asked c.args.scan;
        asked = asked;
        files = map file_shown c.in_ok-files.files.items;
        of_paths = rw (c.as_slice.ensures.value) at c.in_ok-files.ensures.ok;
        scanned = found.2;
      };
      written = subst (AppendsFront _ _) text c.in_err-write_whole.ensures.err;
    }))
