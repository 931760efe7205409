use Rattle.std.proofs.Common.{map, subst}
use Rattle.std.proofs.lemmas.Result.{IfOk-weaker}
use Rattle.raft_recover.specs.FileRecovery.{NamedGives}
use Rattle.raft_inspect.specs.Checked.{IsChecked}
use Rattle.raftlog.specs.Sources.{of_queue, path_shown}
use Rattle.raftlog.proofs.check.run_check.Goals as goal

-- the machine whose files are read is the one that was named
pub returns : goal.returns
returns g c =
    let found = c.in_ok-found.found in
    let append = map path_shown found.source.append.items in
    let rewrite = map path_shown found.source.rewrite.items in
    let version = c.version_of-version.result in
    let workers = c.workers_of-workers.result in
    IfOk-weaker c.check_files-checked.result _ _
    (λ status done. record {
      append = append;
      rewrite = rewrite;
      append_sizes = found.sizes.append.items;
      rewrite_sizes = found.sizes.rewrite.items;
      version = version;
      asked = c.version_of-version.ensures;
      workers = workers;
      append_scans = done.printed.append_scans;
      rewrite_scans = done.printed.rewrite_scans;
      found = done.found;
      of_append = c.in_ok-found.ensures.sizes.0;
      of_rewrite = c.in_ok-found.ensures.sizes.1;
      checked = subst (λ rt. IsChecked (λ file. NamedGives (g.R.SharedFiles.gives rt) (of_queue file.queue append rewrite) file) (λ file offset e. Unit {0}) version workers found.sizes.append.items found.sizes.rewrite.items done.printed.append_scans done.printed.rewrite_scans done.found) c.in_ok-found.ensures.machine done.printed.checked;
      verdict = done.verdict;
    })
    c.check_files-checked.ensures.done
