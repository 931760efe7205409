use Rattle.raft_accessor.proofs.Common.{lookup, nat_eq, ◌≡◌, Some, None, refl, sym, ap, ◌∙◌, err_from_is_err_and, is_some, option_copied_mut, table_of, Table, table_in, MayAlter, TableCalls}
use Rattle.std.specs.FinMap as finite
use Rattle.raft_accessor.specs.declared.region_tables.RegionTables.TheInside.{Inside}
use Rattle.raft_accessor.proofs.MapLemmas.{some_is}
use Rattle.raft_accessor.proofs.MergeLemmas.{altered, not_altered}
use Rattle.raft_accessor.proofs.RegionTablesLemmas.{kept-with, kept-same, shown-with, shown-same, lent, absent, region-in}
use Rattle.raft_accessor.proofs.UpdateLemmas.{calls-so}
use Rattle.raft_accessor.proofs.region_tables.RegionTables.update_and_keep.Given as given
use Rattle.raft_accessor.proofs.region_tables.RegionTables.update_and_keep.Goals as goal

-- ---- the table is there

pub change-requires : goal.change-requires
change-requires g c = (c.requires.may (region-in c.self.inside c.args.self.now c.args.id c.self.invariant c.self.view_is)).pre _ _
    (sym (ap (table_of c.args.id) (lent c.self.inside c.args.self.now c.args.id _ _ _ c.self.view_is c.get_mut.ensures.value c.in-Some.is
    (c.deref_mut.ensures.value ∙ c.table.view_is)))) refl

may : (g : given.Over) (c : goal.After-self-in-Some-1 g) → MayAlter g.F.FnOnce c.args.change (table_in c.args.self.now c.args.id) c.args.stats.now
may g c = c.requires.may (region-in c.self.inside c.args.self.now c.args.id c.self.invariant c.self.view_is)

was : (g : given.Over) (c : goal.After-self-in-Some-1 g) → finite.get c.args.self.now c.args.id ≡ Some c.deref_mut.result.now
was g c = lent c.self.inside c.args.self.now c.args.id _ _ _ c.self.view_is c.get_mut.ensures.value c.in-Some.is (c.deref_mut.ensures.value ∙ c.table.view_is)

gave : (g : given.Over) (c : goal.After-self-in-Some-1 g) → TableCalls g.F.FnOnce c.args.change (table_in c.args.self.now c.args.id) c.args.stats.now c.change.result c.change.new.arg2 c.change.new.arg3
gave g c = calls-so g.F.FnOnce c.args.change c.args.self.now c.args.id c.args.stats.now _ _ _ _ (sym (ap (table_of c.args.id) (was g c))) refl c.change.ensures

abbrev after : (g : given.Over) → goal.After-self-in-Some-1 g → Inside
after g c = record c.self.inside { tables = c.get_mut.follows.lender c.change.new.arg2 }

pub invariant_of-self : goal.invariant_of-self
invariant_of-self g c =
    kept-with c.self.inside (after g c) c.args.id (Some c.change.new.arg2) c.self.invariant
    (λ u e. ap (λ (o : Table). o.region_id) (sym (some_is e)) ∙ (may g c).region _ _ _ (gave g c)
    ∙ region-in c.self.inside c.args.self.now c.args.id c.self.invariant c.self.view_is)
    ((c.get_mut.follows.holds c.change.new.arg2).3 (ap is_some (sym c.get_mut.ensures.value ∙ ap option_copied_mut c.in-Some.is))).0

pub returns-in-Some : goal.returns-in-Some
returns-in-Some g c =
    altered g.F.FnOnce c.args.change c.args.self.now c.args.id c.args.stats.now c.change.result c.change.new.arg2 c.change.new.arg3 _ (may g c) (gave g c)
    (shown-with c.self.inside (after g c) c.args.self.now c.args.id (Some c.change.new.arg2) c.self.view_is ((c.get_mut.follows.holds c.change.new.arg2).3 (ap is_some (sym c.get_mut.ensures.value ∙ ap option_copied_mut c.in-Some.is))).0)

-- ---- the table is made

pub returns-in_err-reserve : goal.returns-in_err-reserve
returns-in_err-reserve g c =
    let p = err_from_is_err_and c.from_residual.result c.from_residual.ensures.1 in
    rw (p.1, p.2) (not_altered g.F.FnOnce c.args.change c.args.self.now c.args.id c.args.stats.now _
    (shown-same c.self.inside (record c.self.inside { tables = c.reserve.new.self }) c.args.self.now c.self.view_is
    (λ q. c.reserve.ensures.entries.2 q ∙ ap (λ m. lookup (nat_eq q) m.entries) c.get_mut.follows.holds-at-none)))

pub returns-in_err-table : goal.returns-in_err-table
returns-in_err-table g c =
    let p = err_from_is_err_and c.from_residual-in_err-table.result c.from_residual-in_err-table.ensures.1 in
    rw (p.1, p.2) (not_altered g.F.FnOnce c.args.change c.args.self.now c.args.id c.args.stats.now _
    (shown-same c.self.inside (record c.self.inside { tables = c.reserve.new.self }) c.args.self.now c.self.view_is
    (λ q. c.reserve.ensures.entries.2 q ∙ ap (λ m. lookup (nat_eq q) m.entries) c.get_mut.follows.holds-at-none)))

pub change-answer-requires : goal.change-answer-requires
change-answer-requires g c = (c.requires.may (region-in c.self.inside c.args.self.now c.args.id c.self.invariant c.self.view_is)).pre _ _
    (c.deref_mut-2.ensures.value ∙ c.table-2.view_is ∙ c.in_ok-table.ensures
    ∙ sym (ap (table_of c.args.id) (absent c.self.inside c.args.self.now c.args.id _ c.self.view_is c.get_mut.ensures.value c.in_default.is))) refl

made-by : (g : given.Over) (c : goal.Joined-this g) → TableCalls g.F.FnOnce c.args.change (table_in c.args.self.now c.args.id) c.args.stats.now c.change-answer.result c.change-answer.new.arg2 c.change-answer.new.arg3
made-by g c =
    let none : finite.get c.args.self.now c.args.id ≡ None = absent c.self.inside c.args.self.now c.args.id _ c.self.view_is c.get_mut.ensures.value c.in_default.is in
    calls-so g.F.FnOnce c.args.change c.args.self.now c.args.id c.args.stats.now _ _ _ _ (c.deref_mut-2.ensures.value ∙ c.table-2.view_is ∙ c.in_ok-table.ensures ∙ sym (ap (table_of c.args.id) none)) refl c.change-answer.ensures

abbrev reserved : (g : given.Over) → goal.Joined-this g → Inside
reserved g c = record c.self.inside { tables = c.reserve.new.self }

abbrev with_made : (g : given.Over) → goal.Joined-this g → Inside
with_made g c = record c.self.inside { tables = c.insert.new.self }

pub invariant_of-self-2 : goal.invariant_of-self-2
invariant_of-self-2 g c =
    let own = region-in c.self.inside c.args.self.now c.args.id c.self.invariant c.self.view_is in
    kept-with (reserved g c) (with_made g c) c.args.id (Some c.change-answer.new.arg2)
    (kept-same c.self.inside (reserved g c) c.self.invariant
    (λ q. c.reserve.ensures.entries.2 q ∙ ap (λ m. lookup (nat_eq q) m.entries) c.get_mut.follows.holds-at-none))
    (λ u e. ap (λ (o : Table). o.region_id) (sym (some_is e)) ∙ (c.requires.may own).region _ _ _ (made-by g c) ∙ own) c.in-Ok.ensures.updates.0

pub returns : goal.returns
returns g c =
    altered g.F.FnOnce c.args.change c.args.self.now c.args.id c.args.stats.now c.change-answer.result c.change-answer.new.arg2
    c.change-answer.new.arg3 _ (c.requires.may (region-in c.self.inside c.args.self.now c.args.id c.self.invariant c.self.view_is)) (made-by g c)
    (shown-with (reserved g c) (with_made g c) c.args.self.now c.args.id (Some c.change-answer.new.arg2)
    (shown-same c.self.inside (reserved g c) c.args.self.now c.self.view_is
    (λ q. c.reserve.ensures.entries.2 q ∙ ap (λ m. lookup (nat_eq q) m.entries) c.get_mut.follows.holds-at-none)) c.in-Ok.ensures.updates.0)
