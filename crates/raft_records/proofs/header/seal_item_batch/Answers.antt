use Rattle.raft_records.proofs.Common.{◌∙◌, ◌++◌, ◌-◌, take, length, ap, refl}
use Rattle.raft_records.proofs.StageLemmas.{to_the_end, part_written}
use Rattle.raft_records.proofs.header.seal_item_batch.Goals as goal

pub prepare_write-requires : goal.prepare_write-requires
prepare_write-requires c = to_the_end c.args.item_batch.now c.args.offset _ c.args.buf.now refl c.requires.encoded

pub returns : goal.returns
returns c =
    part_written c.args.offset (length c.args.buf.now - c.args.offset) c.args.buf.now c.prepare_write.new.buf refl ∙ ap (λ t. take c.args.offset c.args.buf.now ++ t) c.prepare_write.ensures
