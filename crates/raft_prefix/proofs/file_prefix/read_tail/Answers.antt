use Rattle.raft_prefix.proofs.Common.{◌∙◌, ℕ, List, ap, arith, IfOk-weaker, part_of}
use Rattle.raft_prefix.proofs.file_prefix.read_tail.Goals as goal

pub returns : goal.returns
returns g c =
    let a = c.in_ok-read_behind.ensures.ok in
    let inside = c.requires in
    let counted = c.len.ensures in
    let long = a.given.0 in
    IfOk-weaker c.new.result _ _
    (λ part is. record {
      bytes = a.bytes;
      given = a.given.1;
      all = omega (arith, inside, counted, long);
      is = is ∙ ap (λ (xs : List ℕ). part_of c.args.file.now c.args.at xs) a.behind;
    }) c.new.ensures.ok
