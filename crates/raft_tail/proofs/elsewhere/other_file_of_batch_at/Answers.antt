use Rattle.raft_tail.proofs.Common.{◌≡◌, ◌≤◌, ◌<◌, ◌^◌, ℕ, ap, ◌∙◌, sym, subst, drop, inl, inr, arith, IsSignedFor, IsSoundAt, in_file}
use Rattle.raft_tail.proofs.SearchLemmas.{no_signer, other_signer, own_signer, unlikely_signer, unreadable_signer}
use Rattle.raft_tail.proofs.elsewhere.other_file_of_batch_at.Goals as goal

pub returns-in_default-clause-ok : goal.returns-in_default-clause-ok
returns-in_default-clause-ok c = no_signer (c.split_at.ensures.back ∙ ap (drop c.args.at) c.bytes.ensures) c.in_default.ensures

pub returns-then-signer-own-clause-ok : goal.returns-then-signer-own-clause-ok
returns-then-signer-own-clause-ok c =
    let rest = c.split_at.ensures.back ∙ ap (drop c.args.at) c.bytes.ensures in
    let seq_is : c.from-seq.result ≡ c.in-Some.signer = c.from-seq.ensures in
    elim (c.then-signer-own.either) [
      | inl same ↦ own_signer rest c.in-Some.ensures c.requires.own same
      | inr (inl zero) ↦ unlikely_signer rest c.in-Some.ensures (λ low high. absurd (omega (arith, low, zero.1, seq_is)))
      | inr (inr large) ↦ unlikely_signer rest c.in-Some.ensures (λ low high. absurd (omega (arith, high, large.2, seq_is)))
    ]

pub returns-then-branch-clause-ok : goal.returns-then-branch-clause-ok
returns-then-branch-clause-ok c =
    let rest = c.split_at.ensures.back ∙ ap (drop c.args.at) c.bytes.ensures in
    let seq_is : c.from-seq.result ≡ c.in-Some.signer = c.from-seq.ensures in
    let sound = subst (λ (n : ℕ). IsSoundAt (in_file n c.args.part.now) c.args.at) seq_is (c.in_ok-can_read_batch_in_file.ensures.ok.0 c.if-branch.true) in
    let low : 1 ≤ c.in-Some.signer = omega (arith, seq_is, c.if-seq-eq0.false) in
    let high : c.in-Some.signer < 2 ^ 24 = omega (arith, seq_is, c.if-seq-ge-SEQ_LIMIT.false) in
    subst (IsSignedFor c.args.part.now c.args.at) (sym seq_is)
    (other_signer rest c.in-Some.ensures c.requires.own c.ranges.own.fits c.if-signer-own.false low high sound)

pub returns-else-branch-clause-ok : goal.returns-else-branch-clause-ok
returns-else-branch-clause-ok c =
    let rest = c.split_at.ensures.back ∙ ap (drop c.args.at) c.bytes.ensures in
    let seq_is : c.from-seq.result ≡ c.in-Some.signer = c.from-seq.ensures in
    unreadable_signer rest c.in-Some.ensures
    (λ sound. let yes = c.in_ok-can_read_batch_in_file.ensures.ok.1 (subst (λ (n : ℕ). IsSoundAt (in_file n c.args.part.now) c.args.at) (sym seq_is) sound) in let none = c.if-branch.false in cc)
