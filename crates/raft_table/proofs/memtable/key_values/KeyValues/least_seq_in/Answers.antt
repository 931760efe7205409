use Rattle.raft_table.proofs.Facts.{filter, map, sym, ap, ◌∙◌, is_same, least, files-shown}
use Rattle.raft_table.proofs.memtable.key_values.KeyValues.least_seq_in.Goals as goal

pub loop-pair-init : goal.loop-pair-init
loop-pair-init c =
    ap (λ ss. least (map (λ s. s.file.seq) (filter (λ s. is_same c.args.queue s.file.queue) ss))) (c.into_iter-pair-iterator.ensures.into_iter_gives ∙ c.values-pair-items.ensures.rest)
    ∙ ap least (sym (files-shown c.self.inside c.args.self.now c.args.queue c.self.invariant c.self.view_is))
