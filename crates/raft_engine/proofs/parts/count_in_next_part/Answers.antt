use Rattle.raft_engine.proofs.Common.{rules, ◌≡◌, ◌≢◌, ◌+◌, ◌<◌, ◌≤◌, [], length, refl, sym, ◌∙◌, subst, arith, eqb-true, IsCapped}
use Rattle.raft_engine.proofs.PartLengths.{all_behind, all_in_part, none_in_part, none_left, one_more_block, part_is_full, some_left}
use Rattle.raft_engine.proofs.parts.count_in_next_part.Goals as goal
use Rattle.raft_engine.proofs.parts.count_in_next_part.Goals.{else-len-gt0-via-then-len-gt0+else-bytes-gt-MAX_REWRITE_BATCH_BYTES, else-len-gt0-via-else-len-gt0}

pub loop-rest-init : goal.loop-rest-init
loop-rest-init c = (refl, none_in_part c.args.entries.now)

pub returns-then-bytes-gt-MAX_REWRITE_BATCH_BYTES : goal.returns-then-bytes-gt-MAX_REWRITE_BATCH_BYTES
returns-then-bytes-gt-MAX_REWRITE_BATCH_BYTES c =
    let some : c.loop-rest.rest.now ≢ [] = search rules in
    part_is_full c.args.entries.now c.loop-rest.rest.now c.loop-rest.len c.loop-rest.bytes c.count_in_first_block-count.result c.sum_entry_bytes-bytes.result c.loop-rest.invariant.0
    (some_left c.args.entries.now c.loop-rest.rest.now c.loop-rest.len c.loop-rest.invariant.0 some) c.loop-rest.invariant.1 c.count_in_first_block-count.ensures
    (subst (IsCapped c.sum_entry_bytes-bytes.result) c.split_at.ensures.front c.sum_entry_bytes-bytes.ensures.capped) c.if-len-gt0.true c.if-bytes-gt-MAX_REWRITE_BATCH_BYTES.true

pub loop-rest-preserved : goal.loop-rest-preserved
loop-rest-preserved c =
    let some : c.loop-rest.rest.now ≢ [] = search rules in
    let less = some_left c.args.entries.now c.loop-rest.rest.now c.loop-rest.len c.loop-rest.invariant.0 some in
    let capped = subst (IsCapped c.sum_entry_bytes-bytes.result) c.split_at.ensures.front c.sum_entry_bytes-bytes.ensures.capped in
    let fits : 0 < c.loop-rest.len → c.loop-rest.bytes + c.sum_entry_bytes-bytes.result ≤ 4096 = elim c.else-len-gt0.branch [
      | else-len-gt0-via-then-len-gt0+else-bytes-gt-MAX_REWRITE_BATCH_BYTES w ↦ λ some. w.if-bytes-gt-MAX_REWRITE_BATCH_BYTES.false
      | else-len-gt0-via-else-len-gt0 w ↦ λ some. let none = w.if-len-gt0.false in absurd (omega (arith, none, some))
    ] in (
      c.split_at.ensures.back
          ∙ sym (all_behind c.args.entries.now c.loop-rest.rest.now c.loop-rest.len c.loop-rest.bytes c.count_in_first_block-count.result c.sum_entry_bytes-bytes.result c.loop-rest.invariant.0 less c.loop-rest.invariant.1 c.count_in_first_block-count.ensures capped),
      one_more_block c.args.entries.now c.loop-rest.rest.now c.loop-rest.len c.loop-rest.bytes c.count_in_first_block-count.result c.sum_entry_bytes-bytes.result c.loop-rest.invariant.0 less c.loop-rest.invariant.1 c.count_in_first_block-count.ensures capped
          fits c.sum_entry_bytes-bytes.ensures.small,
    )

pub returns : goal.returns
returns c =
    let none : length c.loop-rest.rest.now ≡ 0 = eqb-true (length c.loop-rest.rest.now) 0 (sym c.loop-rest-test.ensures) in
    all_in_part c.args.entries.now c.loop-rest.len c.loop-rest.bytes (none_left c.args.entries.now c.loop-rest.rest.now c.loop-rest.len c.loop-rest.invariant.0 none) c.loop-rest.invariant.1
