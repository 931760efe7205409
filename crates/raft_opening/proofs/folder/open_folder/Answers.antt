use Rattle.raft_opening.proofs.Common.{sym, subst, AreSizesOf}
use Rattle.raft_opening.proofs.folder.open_folder.Goals as goal

pub returns-in-Ok : goal.returns-in-Ok
returns-in-Ok g c = record {
  append = _;
  rewrite = _;
  append_sizes = _;
  rewrite_sizes = _;
  of_append = subst (AreSizesOf _) (sym c.as_slice-append.ensures.value) c.in_ok-append.ensures;
  of_rewrite = subst (AreSizesOf _) (sym c.as_slice-rewrite.ensures.value) c.in_ok-rewrite.ensures;
  opened = c.in-Ok.ensures.ok;
}
