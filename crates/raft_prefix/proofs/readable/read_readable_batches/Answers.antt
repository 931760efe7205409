use Rattle.raft_prefix.proofs.Common.{arith, err_from_is_err_and, part_of, batch_inside}
use Rattle.raft_prefix.proofs.PrefixLemmas.{none_passed, one_more_passed, refused_behind}
use Rattle.raft_prefix.proofs.readable.read_readable_batches.Goals as goal

pub loop-next-init : goal.loop-next-init
loop-next-init c = record { inside = omega arith; passed = none_passed c.args.file.now c.args.bytes.now c.args.offset c.args.damaged.now.items }

pub push_offset_if_damaged-requires : goal.push_offset_if_damaged-requires
push_offset_if_damaged-requires c =
    let stands = rw c.in-Ok-Some.field-0-is at c.in-Ok-Some.ensures.ok in
    record {
      part = part_of c.args.file.now c.args.offset c.args.bytes.now;
      at = c.loop-next.at;
      next = c.in-Ok-Some.next;
      items = c.read_next.new.self;
      stands = record { same = c.split_at.ensures.back; batch = stands };
    }

pub returns-in_err-push_offset_if_damaged-in-Ok-Some-clause-damaged : goal.returns-in_err-push_offset_if_damaged-in-Ok-Some-clause-damaged
returns-in_err-push_offset_if_damaged-in-Ok-Some-clause-damaged c =
    let stands = rw c.in-Ok-Some.field-0-is at c.in-Ok-Some.ensures.ok in
    let p = err_from_is_err_and c.from_residual.result c.from_residual.ensures.1 in
    rw (p.1, p.2)
    (λ other.
    let r = c.in_err-push_offset_if_damaged-in-Ok-Some.ensures.refused other in
    (r.0, refused_behind c.args.file.now c.args.bytes.now c.args.offset c.loop-next.at c.in-Ok-Some.next _ stands c.split_at.result.1.now c.split_at.ensures.back c.args.damaged.now.items c.loop-next.damaged.items c.loop-next.invariant.passed r.0 r.1 _ r.2))

pub loop-next-preserved : goal.loop-next-preserved
loop-next-preserved c =
    let stands = rw c.in-Ok-Some.field-0-is at c.in-Ok-Some.ensures.ok in
    record {
      inside = (batch_inside (part_of c.args.file.now c.args.offset c.args.bytes.now) c.loop-next.at _ c.in-Ok-Some.next stands).1;
      passed = one_more_passed c.args.file.now c.args.bytes.now c.args.offset c.loop-next.at c.in-Ok-Some.next _ stands c.split_at.result.1.now c.split_at.ensures.back c.args.damaged.now.items c.loop-next.damaged.items c.loop-next.invariant.passed c.push_offset_if_damaged.new.damaged.items c.in_ok-push_offset_if_damaged-in-Ok-Some.ensures.ok;
    }

pub returns-in-Err-clause-refused : goal.returns-in-Err-clause-refused
returns-in-Err-clause-refused c = (c.in_ok-check_not_memory-in-Err.ensures.ok, c.in-Err.ensures.refused c.in_ok-check_not_memory-in-Err.ensures.ok)
