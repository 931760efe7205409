use Rattle.raft_opening.proofs.Common.{◌∙◌, List, ap, subst, FileSize, AreConsecutive, AreKnownOf, numbers_of}
use Rattle.raft_opening.proofs.OnceLemmas.{read_sizes}
use Rattle.raft_opening.proofs.SizedLemmas.{known_left, left_sized, numbers_sized}
use Rattle.raft_opening.proofs.queue_read.read_queue.Goals as goal

pub returns : goal.returns
returns g c =
    let gives = g.S.ReadFiles.gives c.args.source.now in
    let r = c.in_ok-read.ensures in
    let files = r.files in
    let are = read_sizes gives c.args.queue c.args.sizes.now files r.files_read in
    let m = r.missing (subst AreConsecutive (ap numbers_of are ∙ numbers_sized files) c.in_ok-check_sizes.ensures.ok) in
    let left = left_sized c.args.mode c.args.queue c.args.version files c.in_ok-read.read.missing m c.args.sizes.now c.in_ok-left.left.items are c.in_ok-left.ensures.ok in
    record {
      files = files;
      files_read = r.files_read;
      sized = record {
        missing = m;
        known = known_left c.args.mode c.args.queue c.args.version files c.in_ok-read.read.missing m c.in_ok-left.left.items c.in_ok-known.known left (subst (λ (ss : List FileSize). AreKnownOf ss c.in_ok-known.known) c.as_slice.ensures.value c.in_ok-known.ensures.ok);
        left = left;
      };
      damaged = r.damaged;
      standing = r.standing;
    }
