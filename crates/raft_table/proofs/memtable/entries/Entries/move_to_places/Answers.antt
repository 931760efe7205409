use Rattle.raft_table.proofs.Facts.{◌≡◌, ◌+◌, ◌++◌, take, drop, arith, sym, ap, subst, ◌∙◌, length-take-le, AreTableEntries, Append, each_queue, Moves, moves}
use Rattle.raft_table.proofs.memtable.entries.Entries.move_to_places.Goals.{After-count_movable-moved}
use Rattle.raft_table.proofs.memtable.entries.Entries.move_to_places.Goals as goal

moved : (c : After-count_movable-moved) → Moves c.args.gate c.args.at c.count_movable-moved.result c.args.self.now c.args.places.now
moved c = moves c.args.gate c.args.at c.count_movable-moved.result c.args.self.now c.args.places.now c.holds_one_run.ensures c.requires.within c.requires.rising c.requires.placed c.requires.well_placed c.count_movable-moved.ensures

pub slice_bounds-set_places-end : goal.slice_bounds-set_places-end
slice_bounds-set_places-end c = sym (length-take-le c.count_movable-moved.result c.args.places.now
    (moved (goal.at.slice_bounds-set_places-end c).After-count_movable-moved).within)

pub set_places-requires-clause-table_entries : goal.set_places-requires-clause-table_entries
set_places-requires-clause-table_entries
    c = subst (λ k. AreTableEntries
    (take c.args.at c.args.self.now ++ take c.count_movable-moved.result c.args.places.now ++ drop (c.args.at + k) c.args.self.now))
    (sym (length-take-le c.count_movable-moved.result c.args.places.now
    (moved (goal.at.set_places-requires-clause-table_entries c).After-count_movable-moved).within))
    (moved (goal.at.set_places-requires-clause-table_entries c).After-count_movable-moved).table_entries

pub count_rewriting-requires-clause-moved : goal.count_rewriting-requires-clause-moved
count_rewriting-requires-clause-moved c =
    let w = (moved (goal.at.count_rewriting-requires-clause-moved c).After-count_movable-moved).within in omega (arith, c.requires.written)

pub count_rewriting-requires-clause-appended : goal.count_rewriting-requires-clause-appended
count_rewriting-requires-clause-appended c =
    let a = (moved (goal.at.count_rewriting-requires-clause-appended c).After-count_movable-moved).appended in omega (arith, c.requires.counted Append)

new : (c : goal.After-count_rewriting) → c.set_places.new.self ≡ take c.args.at c.args.self.now ++ take c.count_movable-moved.result c.args.places.now ++ drop (c.args.at + c.count_movable-moved.result) c.args.self.now
new c = c.in_ok-set_places.ensures.ok
    ∙ ap (λ k. take c.args.at c.args.self.now ++ take c.count_movable-moved.result c.args.places.now ++ drop (c.args.at + k) c.args.self.now)
    (length-take-le c.count_movable-moved.result c.args.places.now
    (moves c.args.gate c.args.at c.count_movable-moved.result c.args.self.now c.args.places.now c.holds_one_run.ensures c.requires.within c.requires.rising
    c.requires.placed c.requires.well_placed c.count_movable-moved.ensures).within)

pub returns-clause-ok : goal.returns-clause-ok
returns-clause-ok c = rw (← c.count_movable-moved.ensures) (new c, c.count_rewriting.ensures.counts)

pub returns-clause-recounted : goal.returns-clause-recounted
returns-clause-recounted c =
    let f = (moved (goal.at.returns-clause-recounted c).After-count_movable-moved) in
    rw (new c)
    (each_queue _
    (omega (arith, c.count_rewriting.ensures.appended))
    (omega (arith, c.count_rewriting.ensures.rewritten)))
