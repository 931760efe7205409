use Rattle.raft_replay.proofs.Common.{◌≡◌, ℕ, List, ◌++◌, codes, decimal, ap, ◌∙◌, append_assoc, queue_text}
use Rattle.raft_replay.proofs.segment.corruption_at.Goals as goal

-- a reason behind a place
place_split : (p q a b c d e reason : List ℕ) → p ≡ q → p ++ (a ++ (b ++ (c ++ (d ++ (e ++ reason))))) ≡ (q ++ (a ++ (b ++ (c ++ (d ++ e))))) ++ reason
place_split p q a b c d e reason same = ap (λ (x : List ℕ). x ++ (a ++ (b ++ (c ++ (d ++ (e ++ reason)))))) same ∙ simp append_assoc

pub returns-in-Ok : goal.returns-in-Ok
returns-in-Ok c =
    c.in-Ok.ensures.ok ∙ place_split c.queue_name-queue.result.now (queue_text c.args.id.queue) (codes " file ") (decimal c.args.id.seq)
    (codes ", offset ") (decimal c.args.offset) (codes ": ") c.args.reason.now c.queue_name-queue.ensures
