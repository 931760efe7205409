use Rattle.raft_engine.proofs.Common.{err_from_is_err_and, ◌≡◌, ℕ, ◌<◌, ◌^◌, ap, sym, subst, ◌∙◌, Batch, encoded_length, ContextStage, Failed, Overlaid, left_by}
use Rattle.raft_engine.proofs.RecoveredLemmas.{both_exactly, merge_memory, read_on, recovered_by}
use Rattle.raft_engine.proofs.reading.Ready.with_contexts.Goals as goal

not_failed : (s : ContextStage) → s ≡ Overlaid → s ≡ Failed → ⊥
not_failed s e f = absurd cc

pub returns-in_err-taken-clause-fault : goal.returns-in_err-taken-clause-fault
returns-in_err-taken-clause-fault c = λ version left kept by.
    let p = err_from_is_err_and c.from_residual.result c.from_residual.ensures.1 in
    rw (p.1, p.2) (λ other. absurd (read_on version left kept c.args.appended c.args.rewritten by (c.in_err-taken.ensures.fault other).1))

pub returns-in_err-merge_append_context-clause-fault : goal.returns-in_err-merge_append_context-clause-fault
returns-in_err-merge_append_context-clause-fault c = λ version left kept by.
    let p = err_from_is_err_and c.from_residual-in_err-merge_append_context.result c.from_residual-in_err-merge_append_context.ensures.1 in
    rw (p.1, p.2) (λ other. absurd (other (merge_memory version left kept c.args.appended c.args.rewritten by c.in_err-merge_append_context.field-0.0 c.in_err-merge_append_context.ensures.memory)))

pub returns-in_err-accessor-clause-fault : goal.returns-in_err-accessor-clause-fault
returns-in_err-accessor-clause-fault c = λ version left kept by.
    let exactly = both_exactly version left kept c.args.appended c.args.rewritten by c.merge_append_context.new.self c.in_ok-merge_append_context.ensures.exact in
    absurd (not_failed c.merge_append_context.new.self.stage exactly.stage c.in_err-accessor.ensures.failed.1)

pub returns-in_err-told_len-clause-fault : goal.returns-in_err-told_len-clause-fault
returns-in_err-told_len-clause-fault c = λ version left kept by.
    let p = err_from_is_err_and c.from_residual-in_err-told_len.result c.from_residual-in_err-told_len.ensures.1 in
    rw (p.1, p.2) (λ other.
    let long = c.in_err-told_len.ensures.fault other in
    record {
      accessor = c.in_ok-accessor.accessor;
      told = c.in_ok-taken.taken.at_once;
      untold = c.in_ok-taken.taken.later;
      recovered = recovered_by version left kept c.args.appended c.args.rewritten by c.taken_away_is_told.ensures.tells c.taken_away_is_told.ensures.says
          c.taken_away_is_told.ensures.away c.taken_away_is_told.ensures.entries c.in_ok-taken.taken c.in_ok-taken.ensures.ok c.in_ok-accessor.accessor
          (c.in_ok-accessor.ensures.overlaid by.rewrite_batches by.append_batches
          (both_exactly version left kept c.args.appended c.args.rewritten by c.merge_append_context.new.self c.in_ok-merge_append_context.ensures.exact));
      long = long.1;
      full = long.0;
    })

pub returns-clause-ok : goal.returns-clause-ok
returns-clause-ok c = λ mode version found known are by. record {
  append_left = left_by c.args.self.append.missing found;
  rewrite_left = left_by c.args.self.rewrite.missing known;
  append_ready = are.append.missing.ready;
  rewrite_ready = are.rewrite.missing.ready;
  append_of = are.append.known;
  rewrite_of = are.rewrite.known;
  told = c.in_ok-taken.taken.at_once;
  recovered = recovered_by version _ _ c.args.appended c.args.rewritten by c.taken_away_is_told.ensures.tells c.taken_away_is_told.ensures.says
      c.taken_away_is_told.ensures.away c.taken_away_is_told.ensures.entries c.in_ok-taken.taken c.in_ok-taken.ensures.ok c.in_ok-accessor.accessor
      (c.in_ok-accessor.ensures.overlaid by.rewrite_batches by.append_batches
      (both_exactly version _ _ c.args.appended c.args.rewritten by c.merge_append_context.new.self c.in_ok-merge_append_context.ensures.exact));
  writable = λ some. record {
    tiled = c.is_read_again.ensures.tiled;
    in_range = c.is_read_again.ensures.in_range;
    in_bytes = c.is_read_again.ensures.in_bytes;
    some = some;
    short = c.in_ok-told_len.ensures.accepted;
  };
  made = c.in_ok-told_len.ensures.ok;
  to_be_told = record {
    encoded = ap (λ (b : Batch). b.stage) c.in_ok-told_len.ensures.ok;
    len = c.in_ok-told_len.ensures.len ∙ ap (λ (b : Batch). encoded_length b.items b.entry_bytes) (sym c.in_ok-told_len.ensures.ok);
    short = subst (λ (n : ℕ). n < 2 ^ 56) (sym c.in_ok-told_len.ensures.len) c.in_ok-told_len.ensures.accepted;
    room = are.rewrite.room;
  };
  append_told = are.append.missing.told;
  rewrite_told = are.rewrite.missing.told;
}
