use Rattle.raft_accessor.proofs.Common.{Append, lookup, nat_eq, ◌≡◌, Some, None, Ok, Err, refl, sym, ap, subst, ◌∙◌, err_from_is_err_and, is_some, option_copied_mut, table_of, IsCounted, live_of, IsTableJoined, tables_shown}
use Rattle.std.specs.FinMap as finite
use Rattle.raft_accessor.specs.declared.region_tables.RegionTables.TheInside.{Inside}
use Rattle.raft_accessor.proofs.RegionTablesLemmas.{shown-with, shown-same, lent, absent}
use Rattle.raft_accessor.proofs.TableJoinLemmas.{put_there, first_joined, first_refused}
use Rattle.raft_accessor.proofs.region_tables.RegionTables.join_newer_table.Goals as goal

-- ---- the region has a table

pub put_newer_over-requires-clause-older : goal.put_newer_over-requires-clause-older
put_newer_over-requires-clause-older c = λ e.
    sym (ap (λ o. live_of Append (table_of c.args.id o)) (lent c.self.inside c.args.self.now c.args.id _ _ _ c.self.view_is c.get_mut.ensures.value c.in-Some.is (c.deref_mut.ensures.value ∙ c.table.view_is))) ∙ c.requires.older e

pub put_newer_over-requires-clause-counted : goal.put_newer_over-requires-clause-counted
put_newer_over-requires-clause-counted c = subst (λ t. IsCounted t c.args.stats.now)
    (ap (table_of c.args.id) (lent c.self.inside c.args.self.now c.args.id _ _ _ c.self.view_is c.get_mut.ensures.value c.in-Some.is
    (c.deref_mut.ensures.value ∙ c.table.view_is))) c.requires.counted

pub returns-in-Some : goal.returns-in-Some
returns-in-Some c =
    let after : Inside = record c.self.inside { tables = c.get_mut.follows.lender c.put_newer_over.new.older } in
    let was : finite.get c.args.self.now c.args.id ≡ Some c.deref_mut.result.now = lent c.self.inside c.args.self.now c.args.id _ _ _ c.self.view_is c.get_mut.ensures.value c.in-Some.is (c.deref_mut.ensures.value ∙ c.table.view_is) in
    let shown : tables_shown after ≡ finite.insert c.args.self.now c.args.id c.put_newer_over.new.older = shown-with c.self.inside after c.args.self.now
    c.args.id (Some c.put_newer_over.new.older) c.self.view_is
    ((c.get_mut.follows.holds c.put_newer_over.new.older).3 (ap is_some (sym c.get_mut.ensures.value ∙ ap option_copied_mut c.in-Some.is))).0 in
    put_there c.args.queue c.args.mark.now c.args.newer c.args.self.now c.args.id c.args.stats.now c.put_newer_over.result _ c.put_newer_over.new.stats
    c.deref_mut.result.now c.args.newer c.put_newer_over.new.older was refl shown c.put_newer_over.ensures.put c.put_newer_over.ensures.recounted

-- ---- it has none

pub returns-in_err-insert_boxed : goal.returns-in_err-insert_boxed
returns-in_err-insert_boxed c =
    let p = err_from_is_err_and c.from_residual.result c.from_residual.ensures.1 in
    let left : Inside = record c.self.inside { tables = c.get_mut.follows.lender-at-none } in
    let same : tables_shown left ≡ c.args.self.now = shown-same c.self.inside left c.args.self.now c.self.view_is (λ q. ap (λ m. lookup (nat_eq q) m.entries) c.get_mut.follows.holds-at-none) in
    rw (p.1, p.2) (subst (λ m. IsTableJoined c.args.queue c.args.mark.now (Some c.args.newer) m c.args.id c.args.stats.now (Err c.in_err-insert_boxed.field-0.0) c.insert_boxed.new.self c.insert_boxed.new.stats) same
    (first_refused c.args.queue c.args.mark.now c.args.newer (tables_shown left) c.args.id c.args.stats.now c.in_err-insert_boxed.field-0.0 c.insert_boxed.new.self c.insert_boxed.new.stats c.in_err-insert_boxed.ensures.fault c.insert_boxed.ensures.one c.insert_boxed.ensures.recounted))

pub returns : goal.returns
returns c =
    let left : Inside = record c.self.inside { tables = c.get_mut.follows.lender-at-none } in
    let same : tables_shown left ≡ c.args.self.now = shown-same c.self.inside left c.args.self.now c.self.view_is (λ q. ap (λ m. lookup (nat_eq q) m.entries) c.get_mut.follows.holds-at-none) in
    let none : finite.get (tables_shown left) c.args.id ≡ None = ap (λ m. finite.get m c.args.id) same ∙ absent c.self.inside c.args.self.now c.args.id _ c.self.view_is c.get_mut.ensures.value c.in_default.is in
    subst (λ m. IsTableJoined c.args.queue c.args.mark.now (Some c.args.newer) m c.args.id c.args.stats.now (Ok (0, 0)) c.insert_boxed.new.self c.insert_boxed.new.stats) same
    (first_joined c.args.queue c.args.mark.now c.args.newer (tables_shown left) c.args.id c.args.stats.now c.insert_boxed.new.self c.insert_boxed.new.stats none c.requires.region c.in_ok-insert_boxed.ensures.ok c.insert_boxed.ensures.recounted)
