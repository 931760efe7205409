use Rattle.raft_accessor.proofs.Common.{Memory, lookup, nat_eq, ◌≡◌, Some, Err, sym, ap, subst, ◌∙◌, is_some, option_copied_mut, Put, table_of, IsCounted, tables_shown, IsStepTaken}
use Rattle.std.specs.FinMap as finite
use Rattle.raft_accessor.specs.declared.region_tables.RegionTables.TheInside.{Inside}
use Rattle.raft_accessor.proofs.RegionTablesLemmas.{shown-with, shown-same, lent}
use Rattle.raft_accessor.proofs.UpdateLemmas.{not_listed, put_tried}
use Rattle.raft_accessor.proofs.region_tables.RegionTables.try_put.Goals as goal

-- ---- the region has no table

pub returns-in_default-clause-taken : goal.returns-in_default-clause-taken
returns-in_default-clause-taken c =
    let left : Inside = record c.self.inside { tables = c.get_mut.follows.lender-at-none } in
    let same : tables_shown left ≡ c.args.self.now = shown-same c.self.inside left c.args.self.now c.self.view_is (λ q. ap (λ m. lookup (nat_eq q) m.entries) c.get_mut.follows.holds-at-none) in
    λ q list. subst (λ m. IsStepTaken q c.args.id (Put c.args.key.now c.args.value.now c.args.file) c.args.self.now c.args.stats.now list
    (Err Memory) m c.args.stats.now list) (sym same)
    (not_listed q c.args.id (Put c.args.key.now c.args.value.now c.args.file) c.args.self.now c.args.stats.now list)

-- ---- the table is there

pub try_put-requires : goal.try_put-requires
try_put-requires c = subst (λ t. IsCounted t c.args.stats.now)
    (ap (table_of c.args.id) (lent c.self.inside c.args.self.now c.args.id _ _ _ c.self.view_is c.get_mut.ensures.value c.in-Some.is
    (c.deref_mut.ensures.value ∙ c.table.view_is))) c.requires

pub returns-clause-taken : goal.returns-clause-taken
returns-clause-taken c =
    let after : Inside = record c.self.inside { tables = c.get_mut.follows.lender c.try_put.new.self } in
    let was : finite.get c.args.self.now c.args.id ≡ Some c.deref_mut.result.now = lent c.self.inside c.args.self.now c.args.id _ _ _ c.self.view_is c.get_mut.ensures.value c.in-Some.is (c.deref_mut.ensures.value ∙ c.table.view_is) in
    let shown : tables_shown after ≡ finite.insert c.args.self.now c.args.id c.try_put.new.self = shown-with c.self.inside after c.args.self.now
    c.args.id (Some c.try_put.new.self) c.self.view_is
    ((c.get_mut.follows.holds c.try_put.new.self).3 (ap is_some (sym c.get_mut.ensures.value ∙ ap option_copied_mut c.in-Some.is))).0 in
    λ q list. put_tried q c.args.id c.args.key.now c.args.value.now c.args.file c.args.self.now _ c.deref_mut.result.now c.try_put.new.self
    c.args.stats.now c.try_put.new.stats list c.try_put.result was shown c.try_put.ensures.recounted c.try_put.ensures.done

pub returns-clause-entries : goal.returns-clause-entries
returns-clause-entries c = λ e none.
    let was : finite.get c.args.self.now c.args.id ≡ Some c.deref_mut.result.now = lent c.self.inside c.args.self.now c.args.id _ _ _ c.self.view_is c.get_mut.ensures.value c.in-Some.is (c.deref_mut.ensures.value ∙ c.table.view_is) in
    let done = rw e at c.try_put.ensures.done in
    done.2 (ap (λ o. (table_of c.args.id o).entries) (sym was) ∙ none)
