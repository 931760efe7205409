use Rattle.raft_codec.proofs.Common.{◌≡◌, ℕ, ◌*◌, ◌^◌, ◌≤◌, ◌++◌, take, ap, subst, refl, sym, arith, ◌-◌, varint, septets_of}
use Rattle.raft_codec.proofs.VarintLemmas.{written_last, written_more, rest_falls}
use Rattle.raft_codec.proofs.codec.varint.put_var_u64.Goals as goal

pub loop-i-init : goal.loop-i-init
unfolding varint
loop-i-init c = (refl, omega arith)

pub returns-then-rest-lt128-clause-written : goal.returns-then-rest-lt128-clause-written
returns-then-rest-lt128-clause-written c =
    written_last c.loop-i.bytes _ c.loop-i.i (9 - c.loop-i.i) c.loop-i.rest (omega arith) c.if-rest-lt128.true (sym c.loop-i.invariant.0)

pub loop-i-preserved : goal.loop-i-preserved
loop-i-preserved c = (
  written_more c.loop-i.bytes _ c.loop-i.i (9 - c.loop-i.i) _ c.loop-i.rest (omega arith) c.if-rest-lt128.false (omega arith) (sym c.loop-i.invariant.0),
  rest_falls c.loop-i.rest c.loop-i.i c.args.number c.loop-i.invariant.1,
)

pub returns-clause-written : goal.returns-clause-written
returns-clause-written c =
    let nine : c.loop-i.i ≡ 9 = omega arith in
    let power : 128 ^ c.loop-i.i ≡ 128 ^ 9 = ap (λ (k : ℕ). 128 ^ k) nine in
    let bound : c.loop-i.rest * 128 ^ 9 ≤ c.args.number = rw power at c.loop-i.invariant.1 in
    let whole : take 9 c.loop-i.bytes ++ septets_of 0 c.loop-i.rest ≡ varint c.args.number = subst (λ (k : ℕ). take k c.loop-i.bytes ++ septets_of (9 - k) c.loop-i.rest ≡ varint c.args.number) nine (sym c.loop-i.invariant.0) in
    written_last c.loop-i.bytes _ 9 0 c.loop-i.rest (omega arith) (omega arith) whole
