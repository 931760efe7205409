use Rattle.raft_plain.proofs.Common.{◌+◌, ◌++◌, ◌∷◌, [], subst, arith, batch_inside, Sound, event, IsPlaced, HasRead}
use Rattle.raft_plain.proofs.PartLemmas.{read_more, read_whole, stopped_unreadable, stopped_refused}
use Rattle.raft_plain.proofs.parts.apply_part.Goals as goal

pub loop-batch-preserved : goal.loop-batch-preserved
loop-batch-preserved c =
    let stands = rw c.in-Ok-Some.field-0-is at c.in-Ok-Some.ensures.ok in
    record {
      inside = (batch_inside c.args.part.now c.loop-batch.at _ c.in-Ok-Some.next stands).1;
      read = read_more c.args.queue c.args.part.now c.args.reading c.loop-batch.at c.in-Ok-Some.next _ c.loop-batch.reading c.in-Ok.read stands
          (λ h read. subst (λ id. HasRead c.args.queue c.in-Ok.read (h ++ event c.in-Ok-Some.batch id ∷ [])) c.id.ensures (c.in-Ok.ensures.ok h read))
          c.loop-batch.invariant.read;
    }

pub loop-batch-smaller : goal.loop-batch-smaller
loop-batch-smaller c =
    let inside = batch_inside c.args.part.now c.loop-batch.at _ c.in-Ok-Some.next (rw c.in-Ok-Some.field-0-is at c.in-Ok-Some.ensures.ok) in
    omega (arith, inside.0, inside.1)

pub returns-in-Ok-None-clause-ok : goal.returns-in-Ok-None-clause-ok
returns-in-Ok-None-clause-ok c =
    read_whole c.args.queue c.args.part.now c.args.reading c.loop-batch.at c.loop-batch.reading (rw c.in-Ok-None.field-0-is at c.in-Ok-None.ensures.ok) c.loop-batch.invariant.read

pub returns-in-Err-clause-place : goal.returns-in-Err-clause-place
returns-in-Err-clause-place c =
    stopped_unreadable c.args.queue c.args.part.now c.args.reading c.loop-batch.at c.loop-batch.reading c.loop-batch.invariant.read c.error_with_place-in-Err.result
    (subst (λ id. IsPlaced id (c.args.part.now.offset + c.loop-batch.at) c.error_with_place-in-Err.result) c.id-in-Err.ensures
    (subst (λ o. IsPlaced c.id-in-Err.result (o + c.loop-batch.at) c.error_with_place-in-Err.result) c.offset-in-Err.ensures.value c.error_with_place-in-Err.ensures.placed))
    c.in-Err.ensures.some (λ not_memory. c.in-Err.ensures.refused (c.error_with_place-in-Err.ensures.memory not_memory))

pub returns-in-Err-apply_batch-clause-place : goal.returns-in-Err-apply_batch-clause-place
returns-in-Err-apply_batch-clause-place c =
    stopped_refused c.args.queue c.args.part.now c.args.reading c.loop-batch.at c.loop-batch.reading c.loop-batch.invariant.read c.error_with_place.result
    (subst (λ id. IsPlaced id (c.args.part.now.offset + c.loop-batch.at) c.error_with_place.result) c.id-in-Err-apply_batch.ensures
    (subst (λ o. IsPlaced c.id-in-Err-apply_batch.result (o + c.loop-batch.at) c.error_with_place.result) c.offset.ensures.value c.error_with_place.ensures.placed))
    _ c.in-Ok-Some.next (rw c.in-Ok-Some.field-0-is at c.in-Ok-Some.ensures.ok)
    (λ not_memory h read. subst (λ id. ¬ (Sound (h ++ event c.in-Ok-Some.batch id ∷ []))) c.id.ensures (c.in-Err-apply_batch.ensures.refused (c.error_with_place.ensures.memory not_memory) h read))
