use Rattle.raft_records.proofs.Common.{◌-◌, length, arith, refl}
use Rattle.raft_records.proofs.HeaderLemmas.{header_written}
use Rattle.raft_records.proofs.header.write_header.Goals as goal

pub returns : goal.returns
returns c =
    header_written c.args.offset c.args.len _ c.to_u8-compression_type.result (length c.write_u64.new.buf - 8) c.args.buf.now c.write_u64.new.buf
    c.write_u64-2.new.buf c.requires.room (omega arith) c.to_u8-compression_type.ensures c.write_u64.ensures refl c.write_u64-2.ensures
