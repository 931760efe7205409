use Rattle.raft_accessor.proofs.Common.{◌≡◌, true, Some, None, refl, sym, ap, ◌∙◌, inr, option_map, is_reserved, pair, pair_of, table_in, pair_change, Rewriting, with_change}
use Rattle.std.specs.FinMap as finite
use Rattle.raft_accessor.proofs.WriteLemmas.{refused_by, skipped_by, no_outcome, reserved_step, reserved_counts, change_step, no_value}
use Rattle.raft_accessor.proofs.region_tables.RegionTables.rewrite_pair.Goals as goal

pub returns-then-is_reserved : goal.returns-then-is_reserved
returns-then-is_reserved c = λ list.
    let there : is_reserved (pair_of c.args.kv).key ≡ true = ap is_reserved (sym c.deref.ensures.value) ∙ sym c.is_reserved.ensures.value ∙ c.if-is_reserved.true in
    skipped_by (Rewriting c.args.gate c.args.seq) (pair_change c.args.id (pair_of c.args.kv)) c.args.self.now c.args.stats.now list (λ e. tt) (λ m. m)
    (reserved_counts (Rewriting c.args.gate c.args.seq) (table_in c.args.self.now c.args.id) (pair_of c.args.kv) c.args.stats.now there) refl
    (reserved_step (Rewriting c.args.gate c.args.seq) c.args.id (finite.get c.args.self.now c.args.id) (pair_of c.args.kv) there)

pub returns-then-is_none : goal.returns-then-is_none
returns-then-is_none c = λ list.
    let none : with_change (Rewriting c.args.gate c.args.seq) (table_in c.args.self.now c.args.id) (pair_of c.args.kv) ≡ None = rw c.in-Put.is
    (no_value c.args.gate c.args.seq (table_in c.args.self.now c.args.id) c.args.kv.key.items c.args.kv.value c.if-is_none.ensures) in
    refused_by (Rewriting c.args.gate c.args.seq) (pair_change c.args.id (pair_of c.args.kv)) c.args.self.now c.args.stats.now list c.corruption.result
    (no_outcome (Rewriting c.args.gate c.args.seq) c.args.id (finite.get c.args.self.now c.args.id) _ (pair (pair_of c.args.kv)) _ c.corruption.result c.corruption.ensures
    (inr (change_step (Rewriting c.args.gate c.args.seq) c.args.id (finite.get c.args.self.now c.args.id) (pair_of c.args.kv)
    (ap is_reserved (sym c.deref.ensures.value) ∙ sym c.is_reserved.ensures.value ∙ c.if-is_reserved.false) ∙ ap (option_map Some) none)))

pub returns-in-Del : goal.returns-in-Del
returns-in-Del c = λ list.
    let none : with_change (Rewriting c.args.gate c.args.seq) (table_in c.args.self.now c.args.id) (pair_of c.args.kv) ≡ None = rw c.in-Del.is refl in
    refused_by (Rewriting c.args.gate c.args.seq) (pair_change c.args.id (pair_of c.args.kv)) c.args.self.now c.args.stats.now list _
    (no_outcome (Rewriting c.args.gate c.args.seq) c.args.id (finite.get c.args.self.now c.args.id) _ (pair (pair_of c.args.kv)) _ _ c.corruption-in-Del.ensures
    (inr (change_step (Rewriting c.args.gate c.args.seq) c.args.id (finite.get c.args.self.now c.args.id) (pair_of c.args.kv)
    (ap is_reserved (sym c.deref.ensures.value) ∙ sym c.is_reserved.ensures.value ∙ c.if-is_reserved.false) ∙ ap (option_map Some) none)))
