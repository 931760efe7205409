use Rattle.raft_accessor.proofs.Common.{lookup, nat_eq, ◌≡◌, Some, None, sym, ap, subst, ◌∙◌, is_some, option_copied_mut, run_shown, table_of, Table, IsCounted, start_of, end_of, tables_shown, IsRunTried}
use Rattle.std.specs.FinMap as finite
use Rattle.raft_accessor.specs.declared.region_tables.RegionTables.TheInside.{Inside}
use Rattle.raft_accessor.proofs.MapLemmas.{insert_same}
use Rattle.raft_accessor.proofs.RegionTablesLemmas.{shown-with, shown-same, lent, absent}
use Rattle.raft_accessor.proofs.UpdateLemmas.{run_put, not_put}
use Rattle.raft_accessor.proofs.region_tables.RegionTables.try_replay.Goals as goal

-- ---- the region has no table

pub try_replay_into_new-requires-clause-first : goal.try_replay_into_new-requires-clause-first
try_replay_into_new-requires-clause-first c =
    let same = shown-same c.self.inside (record c.self.inside { tables = c.get_mut.follows.lender-at-none }) c.args.self.now c.self.view_is (λ q. ap (λ m. lookup (nat_eq q) m.entries) c.get_mut.follows.holds-at-none) in
    subst (λ m. finite.get m c.args.id ≡ None) (sym same) (absent c.self.inside c.args.self.now c.args.id _ c.self.view_is c.get_mut.ensures.value c.in_default.is)

pub returns-in_default : goal.returns-in_default
returns-in_default c =
    let same = shown-same c.self.inside (record c.self.inside { tables = c.get_mut.follows.lender-at-none }) c.args.self.now c.self.view_is (λ q. ap (λ m. lookup (nat_eq q) m.entries) c.get_mut.follows.holds-at-none) in
    subst (λ m. IsRunTried c.args.queue c.args.id (run_shown c.args.run.now) m c.args.stats.now c.try_replay_into_new.result c.try_replay_into_new.new.self c.try_replay_into_new.new.stats) same c.try_replay_into_new.ensures

-- ---- the table is there

pub try_replay-requires-clause-counted : goal.try_replay-requires-clause-counted
try_replay-requires-clause-counted c = subst (λ t. IsCounted t c.args.stats.now)
    (ap (table_of c.args.id) (lent c.self.inside c.args.self.now c.args.id _ _ _ c.self.view_is c.get_mut.ensures.value c.in-Some.is
    (c.deref_mut.ensures.value ∙ c.table.view_is))) c.requires.counted

pub returns : goal.returns
returns c =
    let after : Inside = record c.self.inside { tables = c.get_mut.follows.lender c.try_replay.new.self } in
    let is = c.deref_mut.ensures.value ∙ c.table.view_is in
    let was = lent c.self.inside c.args.self.now c.args.id _ _ _ c.self.view_is c.get_mut.ensures.value c.in-Some.is is in
    run_put c.args.queue c.args.id (run_shown c.args.run.now) c.args.self.now _ c.deref_mut.result.now c.try_replay.new.self c.args.stats.now
    c.try_replay.new.stats _ (ap (table_of c.args.id) was) (c.ends-ends.ensures ∙ ap (λ (t : Table). (start_of t.entries, end_of t.entries)) (c.deref.ensures ∙ c.table.view_is ∙ sym is))
    c.if-not-try_replay.ensures.done c.try_replay.ensures.recounted
    (shown-with c.self.inside after c.args.self.now c.args.id (Some c.try_replay.new.self) c.self.view_is ((c.get_mut.follows.holds c.try_replay.new.self).3 (ap is_some (sym c.get_mut.ensures.value ∙ ap option_copied_mut c.in-Some.is))).0)

pub returns-then-not-try_replay : goal.returns-then-not-try_replay
returns-then-not-try_replay c =
    let after : Inside = record c.self.inside { tables = c.get_mut.follows.lender c.try_replay.new.self } in
    let was = lent c.self.inside c.args.self.now c.args.id _ _ _ c.self.view_is c.get_mut.ensures.value c.in-Some.is (c.deref_mut.ensures.value ∙ c.table.view_is) in
    let shown : tables_shown after ≡ finite.insert c.args.self.now c.args.id c.try_replay.new.self = shown-with c.self.inside after c.args.self.now
    c.args.id (Some c.try_replay.new.self) c.self.view_is
    ((c.get_mut.follows.holds c.try_replay.new.self).3 (ap is_some (sym c.get_mut.ensures.value ∙ ap option_copied_mut c.in-Some.is))).0 in
    not_put c.args.queue c.args.id (run_shown c.args.run.now) c.args.self.now _ c.args.stats.now c.try_replay.new.stats
    (shown ∙ insert_same c.args.self.now c.args.id c.try_replay.new.self (was ∙ ap Some (sym c.if-not-try_replay.ensures.done.0)))
    c.if-not-try_replay.ensures.done.1
