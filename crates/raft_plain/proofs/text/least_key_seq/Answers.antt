use Rattle.raft_plain.proofs.Common.{sym, ap, ◌∙◌, map, least, lesser}
use Rattle.raft_plain.proofs.LiveLemmas.{in_queue, lesser_none, stored-seqs}
use Rattle.raft_plain.proofs.text.least_key_seq.Goals as goal

pub returns : goal.returns
returns c =
    sym (lesser_none c.loop-stored.least)
    ∙ ap (λ ss. lesser c.loop-stored.least (least (map (λ s. s.file.seq) (in_queue c.args.queue ss)))) (sym c.in-None.ensures.steps.0)
    ∙ c.loop-stored.invariant
    ∙ ap (λ ss. least (map (λ s. s.file.seq) (in_queue c.args.queue ss))) (c.into_iter-stored-iterator.ensures.into_iter_gives ∙ c.values-stored-items.ensures.rest)
    ∙ ap least (sym (stored-seqs c.args.queue c.args.keys.now.entries c.values-stored-items.ensures.ordered))
