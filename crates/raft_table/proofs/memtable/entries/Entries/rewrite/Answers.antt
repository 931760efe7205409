use Rattle.raft_table.proofs.Facts.{ℕ, ◌⊎◌, inl, inr, arith, sym, subst, ◌≡◌, ◌+◌, ◌≤◌, ◌^◌, length, ap, ◌∙◌, Some, None, List, [], Option, on_ok_weaker, IfErr-weaker, Error, EntryIndex, Counts, live, IsCorruption, end_bounded, start_of}
use Rattle.raft_table.proofs.Facts.{entries_after_rewrite, with_rewritten, IsRewriteFault, MovesPlacesAlone, Rewrite, start_of_front, no_first, RewritesAt, rewrites_at, rewritten_none, rewritten_apart, recounted_apart, recounted_is}
use Rattle.raft_table.proofs.Facts.{run_end, none_moved, moved_alone}
use Rattle.raft_table.proofs.memtable.entries.Entries.rewrite.Goals.{In-Some, In-Some-find_overlap, In_default-find_overlap}
use Rattle.raft_base.specs.declared.errors.Error.TheVariants as errors
use Rattle.raft_table.proofs.memtable.entries.Entries.rewrite.Goals as goal

pub returns-in_default-clause-ok : goal.returns-in_default-clause-ok
returns-in_default-clause-ok c =
    let e : c.args.run.now ≡ [] = no_first c.args.run.now c.in_default.ensures.value in
    rw e (rewritten_none c.args.gate c.args.self.now)

start_known : (c : In-Some) → start_of c.args.run.now ≡ c.in-Some.head.now.index
start_known c = start_of_front c.args.run.now c.in-Some.head.now c.in-Some.ensures.item.3.0 c.in-Some.ensures.item.1

pub find_overlap-requires : goal.find_overlap-requires
find_overlap-requires c =
    let s = start_known (goal.at.find_overlap-requires c).In-Some in
    let e = run_end Rewrite c.args.run.now c.requires.run c.in-Some.ensures.item.3.0 in
    let b = end_bounded c.args.run.now c.requires.run.consecutive.bounded in
    omega arith

full_is : (n : ℕ) (counts : Counts) (gate : Option ℕ) (run es after : List EntryIndex) → entries_after_rewrite gate run es ≡ Some after →
    2 ^ 64 ≤ live Rewrite counts + n → IsRewriteFault n counts (entries_after_rewrite gate run es) errors.Full
full_is n counts gate run es after e h = rw e h

apart : (c : In_default-find_overlap) → entries_after_rewrite c.args.gate c.args.run.now c.args.self.now ≡ Some c.args.self.now
apart c =
    rewritten_apart c.args.gate Rewrite c.args.run.now c.args.self.now c.find_overlap.ensures.table_entries c.requires.run c.in-Some.ensures.item.3.0
    (rw (start_of_front c.args.run.now c.in-Some.head.now c.in-Some.ensures.item.3.0 c.in-Some.ensures.item.1) c.in_default-find_overlap.ensures.meets)

pub returns-in_default-find_overlap-clause-ok : goal.returns-in_default-find_overlap-clause-ok
returns-in_default-find_overlap-clause-ok c = on_ok_weaker c.add_unmoved.result (λ h. apart (goal.at.returns-in_default-find_overlap-clause-ok c).In_default-find_overlap) c.add_unmoved.ensures.ok

pub returns-in_default-find_overlap-clause-counts : goal.returns-in_default-find_overlap-clause-counts
returns-in_default-find_overlap-clause-counts c =
    on_ok_weaker c.add_unmoved.result
    (λ h. h ∙ sym (recounted_apart c.args.gate Rewrite c.args.run.now c.args.self.now c.args.stats.now c.find_overlap.ensures.table_entries c.requires.run c.in-Some.ensures.item.3.0
    (rw (start_of_front c.args.run.now c.in-Some.head.now c.in-Some.ensures.item.3.0 c.in-Some.ensures.item.1) c.in_default-find_overlap.ensures.meets)))
    c.add_unmoved.ensures.ok

pub returns-in_default-find_overlap-clause-fault : goal.returns-in_default-find_overlap-clause-fault
returns-in_default-find_overlap-clause-fault c =
    IfErr-weaker c.add_unmoved.result (λ e. (e ≡ errors.Full) × (2 ^ 64 ≤ live Rewrite c.args.stats.now + length c.args.run.now))
    (IsRewriteFault (length c.args.run.now) c.args.stats.now (entries_after_rewrite c.args.gate c.args.run.now c.args.self.now))
    (λ e h. rw h.0 (full_is (length c.args.run.now) c.args.stats.now c.args.gate c.args.run.now c.args.self.now c.args.self.now (apart (goal.at.returns-in_default-find_overlap-clause-fault c).In_default-find_overlap) h.1)) c.add_unmoved.ensures.full

corruption_is : (n : ℕ) (counts : Counts) (text : List ℕ) (e : Error) → IsCorruption text e → IsRewriteFault n counts None e
corruption_is n counts text (errors.Corruption t) h = tt
corruption_is n counts text errors.Memory h = tt
corruption_is n counts text _ h = absurd h

rewrites : (c : In-Some-find_overlap) → RewritesAt c.args.gate c.args.run.now c.args.self.now c.in-Some-find_overlap.overlap.at c.in-Some-find_overlap.overlap.skipped c.in-Some-find_overlap.overlap.count
rewrites c =
    rewrites_at c.args.gate c.args.run.now c.args.self.now c.in-Some-find_overlap.overlap c.find_overlap.ensures.table_entries c.requires.run c.in-Some.ensures.item.3.0
    (rw (start_of_front c.args.run.now c.in-Some.head.now c.in-Some.ensures.item.3.0 c.in-Some.ensures.item.1) c.in-Some-find_overlap.ensures.meets)

pub returns-then-refuses_rewrite_at-clause-fault : goal.returns-then-refuses_rewrite_at-clause-fault
returns-then-refuses_rewrite_at-clause-fault c =
    rw ((rewrites (goal.at.returns-then-refuses_rewrite_at-clause-fault c).In-Some-find_overlap).refused (sym c.if-refuses_rewrite_at.ensures))
    (corruption_is (length c.args.run.now) c.args.stats.now _ c.corruption.result c.corruption.ensures)

pub move_to_places-requires-clause-rising : goal.move_to_places-requires-clause-rising
move_to_places-requires-clause-rising c = (rewrites (goal.at.move_to_places-requires-clause-rising c).In-Some-find_overlap).rising

pub move_to_places-requires-clause-placed : goal.move_to_places-requires-clause-placed
move_to_places-requires-clause-placed c = (rewrites (goal.at.move_to_places-requires-clause-placed c).In-Some-find_overlap).placed

pub returns-clause-ok : goal.returns-clause-ok
returns-clause-ok c =
    let f = rewrites (goal.at.returns-clause-ok c).In-Some-find_overlap in
    on_ok_weaker c.move_to_places.result (λ h. f.ok (sym c.if-refuses_rewrite_at.ensures) ∙ ap (λ es. Some es) (sym h.0)) c.move_to_places.ensures.ok

pub returns-clause-counts : goal.returns-clause-counts
returns-clause-counts c =
    let f = rewrites (goal.at.returns-clause-counts c).In-Some-find_overlap in
    on_ok_weaker c.move_to_places.result (λ h. h.1 ∙ ap (λ m. with_rewritten c.args.gate (length c.args.run.now) m c.args.stats.now) (sym f.counts)
    ∙ sym (recounted_is c.args.gate c.args.run.now c.args.self.now c.args.stats.now c.in-Some.ensures.item.3.0)) c.move_to_places.ensures.ok

either_is : (n : ℕ) (counts : Counts) (gate : Option ℕ) (run es after : List EntryIndex) (e : Error) →
    entries_after_rewrite gate run es ≡ Some after → (e ≡ errors.Memory) ⊎ ((e ≡ errors.Full) × (2 ^ 64 ≤ live Rewrite counts + n)) →
    IsRewriteFault n counts (entries_after_rewrite gate run es) e
either_is n counts gate run es after e h (inl m) = rw (m, h) tt
either_is n counts gate run es after e h (inr f) = rw f.0 (full_is n counts gate run es after h f.1)

pub returns-clause-fault : goal.returns-clause-fault
returns-clause-fault c =
    let f = rewrites (goal.at.returns-clause-fault c).In-Some-find_overlap in
    IfErr-weaker c.move_to_places.result
    (λ e. (e ≡ errors.Memory) ⊎ ((e ≡ errors.Full) × (2 ^ 64 ≤ live Rewrite c.args.stats.now + length c.args.run.now)))
    (IsRewriteFault (length c.args.run.now) c.args.stats.now (entries_after_rewrite c.args.gate c.args.run.now c.args.self.now))
    (λ e h. either_is (length c.args.run.now) c.args.stats.now c.args.gate c.args.run.now c.args.self.now _ e (f.ok (sym c.if-refuses_rewrite_at.ensures)) h) c.move_to_places.ensures.fault

pub returns-in_default-clause-places_alone : goal.returns-in_default-clause-places_alone
returns-in_default-clause-places_alone c = none_moved c.args.run.now c.args.self.now

pub returns-in_default-find_overlap-clause-places_alone : goal.returns-in_default-find_overlap-clause-places_alone
returns-in_default-find_overlap-clause-places_alone c = on_ok_weaker c.add_unmoved.result (λ h. none_moved c.args.run.now c.args.self.now) c.add_unmoved.ensures.ok

pub returns-clause-places_alone : goal.returns-clause-places_alone
returns-clause-places_alone c =
    let met = c.in-Some-find_overlap.overlap in
    on_ok_weaker c.move_to_places.result
    (λ h. subst (MovesPlacesAlone c.args.run.now c.args.self.now) (sym h.0)
    (moved_alone c.args.gate c.args.run.now c.args.self.now met.at met.skipped met.count c.find_overlap.ensures.table_entries (rewrites (goal.at.returns-clause-places_alone c).In-Some-find_overlap)))
    c.move_to_places.ensures.ok
