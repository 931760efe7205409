use Rattle.raft_accessor.proofs.Common.{◌≡◌, Some, refl, sym, ap, ◌∙◌, arith, end_of, start_of, run_shown, table_of, Table, empty_table, live_of, live_of_empty}
use Rattle.raft_accessor.proofs.RegionTablesLemmas.{shown-with, shown-same}
use Rattle.raft_accessor.proofs.UpdateLemmas.{run_put, not_put}
use Rattle.raft_accessor.proofs.region_tables.RegionTables.try_replay_into_new.Goals as goal

pub returns-then-is_err : goal.returns-then-is_err
returns-then-is_err c =
    not_put c.args.queue c.args.id (run_shown c.args.run.now) c.args.self.now _ c.args.stats.now c.args.stats.now (shown-same c.self.inside (record c.self.inside {
      tables = c.reserve.new.self;
    }) c.args.self.now c.self.view_is c.reserve.ensures.entries.2) refl

pub returns-in_default : goal.returns-in_default
returns-in_default c =
    not_put c.args.queue c.args.id (run_shown c.args.run.now) c.args.self.now _ c.args.stats.now c.args.stats.now (shown-same c.self.inside (record c.self.inside {
      tables = c.reserve.new.self;
    }) c.args.self.now c.self.view_is c.reserve.ensures.entries.2) refl

pub try_replay-requires-clause-counted : goal.try_replay-requires-clause-counted
try_replay-requires-clause-counted c = λ q. omega (arith, ap (live_of q) (c.deref_mut.ensures.value ∙ c.table.view_is ∙ c.in-Ok.ensures), live_of_empty q c.args.id)

pub returns-then-not-try_replay : goal.returns-then-not-try_replay
returns-then-not-try_replay c =
    not_put c.args.queue c.args.id (run_shown c.args.run.now) c.args.self.now _ c.args.stats.now c.try_replay.new.stats
    (shown-same c.self.inside (record c.self.inside { tables = c.reserve.new.self }) c.args.self.now c.self.view_is c.reserve.ensures.entries.2)
    c.if-not-try_replay.ensures.done.1

pub returns : goal.returns
unfolding end_of
returns c =
    let made : c.deref_mut.result.now ≡ empty_table c.args.id = c.deref_mut.ensures.value ∙ c.table.view_is ∙ c.in-Ok.ensures in
    let same = shown-same c.self.inside (record c.self.inside { tables = c.reserve.new.self }) c.args.self.now c.self.view_is c.reserve.ensures.entries.2 in
    run_put c.args.queue c.args.id (run_shown c.args.run.now) c.args.self.now _ c.deref_mut.result.now c.try_replay.new.self c.args.stats.now
    c.try_replay.new.stats (0, 0) (ap (table_of c.args.id) c.requires.first ∙ sym made) (sym (ap (λ (t : Table). (start_of t.entries, end_of t.entries)) made))
    c.if-not-try_replay.ensures.done c.try_replay.ensures.recounted
    (shown-with (record c.self.inside { tables = c.reserve.new.self }) (record c.self.inside { tables = c.insert.new.self }) c.args.self.now c.args.id (Some c.try_replay.new.self) same c.in-Ok-insert.ensures.updates.0)
