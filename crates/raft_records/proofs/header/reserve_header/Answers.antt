use Rattle.raft_records.proofs.Common.{◌∙◌, sym, arith, drop_all}
use Rattle.raft_records.proofs.header.reserve_header.Goals as goal

pub returns-in_err-extend_from_slice-clause-same :
    goal.returns-in_err-extend_from_slice-clause-same
returns-in_err-extend_from_slice-clause-same c =
    drop_all 16 c.extend_from_slice.new.self.items (omega (arith, c.in_err-extend_from_slice.ensures.len, c.clear.ensures.len)) ∙ sym (drop_all 16 c.args.buf.now.items (omega arith))

pub returns-in_ok-extend_from_slice-clause-same : goal.returns-in_ok-extend_from_slice-clause-same
returns-in_ok-extend_from_slice-clause-same c =
    drop_all 16 c.extend_from_slice.new.self.items (omega (arith, c.in_ok-extend_from_slice.ensures.len, c.clear.ensures.len)) ∙ sym (drop_all 16 c.args.buf.now.items (omega arith))
