use Rattle.std.proofs.Common.{Some, None}
use Rattle.raft_recover.proofs.RequestLemmas.{none_holds, path_parts}
use Rattle.raft_recover.proofs.request.parse_path.Goals as goal

pub returns-in_err-seq-clause-refused : goal.returns-in_err-seq-clause-refused
returns-in_err-seq-clause-refused c =
    none_holds c.from_residual.result (λ p. path_parts c.args.word.now None c.in_err-seq.ensures.cases p)

pub returns-in_err-parse_number-clause-refused : goal.returns-in_err-parse_number-clause-refused
returns-in_err-parse_number-clause-refused c =
    none_holds c.from_residual-in_err-parse_number.result
    (λ p. let parts = path_parts c.args.word.now (Some (c.in_ok-seq.seq, c.in_ok-seq.path)) c.in_ok-seq.ensures.cases p in
    c.in_err-parse_number.ensures.refused p.seq (rw parts.0 p.named.number))
