use Rattle.raft_engine.proofs.Common.{◌≡◌, List, ℕ, ◌++◌, ap, codes, string_bytes, ◌∙◌, append_assoc, decimal, queue_text}
use Rattle.raft_engine.proofs.block_reads.name_entry_in_error.Goals as goal

-- a reason behind an entry and its place
entry_split : (name queue a region b index d file seq e offset f reason : List ℕ) → name ≡ queue
    → a ++ (region ++ (b ++ (index ++ (d ++ (name ++ (file ++ (seq ++ (e ++ (offset ++ (f ++ reason))))))))))
    ≡ (a ++ (region ++ (b ++ (index ++ (d ++ (queue ++ (file ++ (seq ++ (e ++ (offset ++ f)))))))))) ++ reason
entry_split name queue a region b index d file seq e offset f reason same =
    ap (λ (x : List ℕ). a ++ (region ++ (b ++ (index ++ (d ++ (x ++ (file ++ (seq ++ (e ++ (offset ++ (f ++ reason))))))))))) same ∙ simp append_assoc

pub returns-in-Ok : goal.returns-in-Ok
returns-in-Ok c =
    rw (c.in-Corruption.is)
    (c.in-Ok.ensures.ok
    ∙ entry_split c.queue_name-name.result.now (queue_text c.args.place.id.queue) (codes "region ") (decimal c.args.region) (codes ", index ") (decimal c.args.index) (codes ", ") (codes " file ")
    (decimal c.args.place.id.seq) (codes ", offset ") (decimal c.args.place.offset) (codes ": ") (string_bytes c.in-Corruption.reason) c.queue_name-name.ensures)
