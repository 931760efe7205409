use Rattle.raft_recover.proofs.Common.{◌∙◌, ℕ, List, drop, ap, subst, IsHeaderLength}
use Rattle.raft_recover.proofs.ScanLemmas.{header_length}
use Rattle.raft_recover.proofs.scan.damage_finding.Goals as goal

pub returns-in_default : goal.returns-in_default
returns-in_default c =
    let found = c.batch_length-len.ensures in
    record {
      ok = record {
        none = c.requires.none c.in_default.not-Memory;
        fault = c.requires.fault;
        header =
            subst (λ (xs : List ℕ). IsHeaderLength xs c.batch_length-len.result) (c.split_at.ensures.back ∙ ap (drop c.args.at) c.bytes.ensures)
            (header_length _ c.batch_length-len.result found.header found.whole found.none);
      };
      memory = tt;
    }
