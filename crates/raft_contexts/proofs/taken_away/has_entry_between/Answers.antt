use Rattle.std.proofs.Common.{ap, sym, ◌∙◌}
use Rattle.std.specs.Prelude.{max, min, nat_lt}
use Rattle.raft_base.specs.Runs.{end_of}
use Rattle.raft_table.specs.TableEntries.{start_of}
use Rattle.raft_contexts.proofs.TakenAwayLemmas.{run_between}
use Rattle.raft_contexts.proofs.taken_away.has_entry_between.Goals as goal

pub returns-in-Some : goal.returns-in-Some
returns-in-Some c =
    let es = c.args.table.now.entries in
    ap (λ n. nat_lt n c.min.result) (c.max.ensures ∙ ap (λ n. max n c.args.from) c.in-Some.ensures.1)
    ∙ ap (nat_lt (max (start_of es) c.args.from)) (c.min.ensures ∙ ap (λ n. min n c.args.below) c.end.ensures)
    ∙ sym (run_between c.args.from c.args.below es c.holds_one_run.ensures.consecutive.run c.in-Some.ensures.0)
