use Rattle.raft_codec.proofs.Common.{drop, subst, arith, take_rest, Reads, IsShortVarint}
use Rattle.raft_codec.proofs.VarintLemmas.{short_read, one_septet, three_septets_read, four_septets_read}
use Rattle.raft_codec.proofs.codec.varint.parse_short_var_u64.Goals as goal

pub returns-in-len1-up-clause-some : goal.returns-in-len1-up-clause-some
returns-in-len1-up-clause-some c =
    let bytes = c.args.bytes.now in
    rw (take_rest, c.from.ensures) (short_read bytes _ 1 (omega arith) (one_septet bytes c.in-len1-up.len_at_least c.if-first-lt128.true))

pub returns-in-len3-up-clause-some : goal.returns-in-len3-up-clause-some
returns-in-len3-up-clause-some c =
    let bytes = c.args.bytes.now in
    let read = short_read bytes _ 3 (omega arith)
    (three_septets_read bytes c.in-len3-up.len_at_least c.if-first-lt128.false (omega (arith, c.type_inv.bytes 0)) c.if-second-lt128.false
    (omega (arith, c.type_inv.bytes 1)) c.if-third-lt128.true) in
    rw (take_rest) (subst (λ n. Reads IsShortVarint bytes (drop 3 bytes) n) (omega (arith, c.two_septets-in-len3-up.ensures, c.from-in-len3-up.ensures, c.if-third-lt128.true)) read)

pub returns-in-len4-up-clause-some : goal.returns-in-len4-up-clause-some
returns-in-len4-up-clause-some c =
    let bytes = c.args.bytes.now in
    let read = short_read bytes _ 4 (omega arith)
    (four_septets_read bytes c.in-len4-up.len_at_least c.if-first-lt128.false (omega (arith, c.type_inv.bytes 0)) c.if-second-lt128.false
    (omega (arith, c.type_inv.bytes 1)) c.if-third-lt128.false (omega (arith, c.type_inv.bytes 2)) c.if-fourth-lt128.true) in
    rw (take_rest) (subst (λ n. Reads IsShortVarint bytes (drop 4 bytes) n) (omega (arith, c.two_septets-in-len4-up.ensures, c.two_septets-in-len4-up-2.ensures)) read)
