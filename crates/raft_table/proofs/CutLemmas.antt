-- What a cut of a table's entries leaves, and how many.
use Rattle.raft_table.proofs.Common.{drop_min, take_min, ◌≡◌, ℕ, ◌-◌, ◌<◌, ◌≤◌, max, min, Bool, true, false, cond, ltb, List, [], length, take, drop, Option, Some, None, refl, sym, ap, subst, ◌∙◌, arith, nat_tests, LogQueue, EntryIndex}
use Rattle.raft_table.proofs.Common.{RisesFrom, end_of, below, from, is_placed_in, placed_in, entry_count, Keys, pair_count, entries_within, at_most_bound}
use Rattle.std.specs.Prelude.{filter}
use Rattle.raft_table.proofs.KeyValueCounts.{length-filter-le}
use Rattle.raft_table.proofs.KeyValueReads.{entries-empty}
use Rattle.raft_table.proofs.RunLemmas.{filter_comm}
use Rattle.raft_table.proofs.RewriteLemmas.{below_is, from_is}
use Rattle.raft_table.proofs.MarkWords.{within-within, within-from, within-below, end_of-part_run}
use Rattle.std.specs.FinMap as finite

-- so many in front are the entries below an index, and those behind them the ones from it on
pub front_below : (i first n : ℕ) (es : List EntryIndex) → RisesFrom first es → n ≡ min (i - first) (length es) → take n es ≡ below i es
front_below i first n es r e = ap (λ k. take k es) e ∙ take_min (i - first) es ∙ sym (below_is i first es r)

pub behind_from : (i first n : ℕ) (es : List EntryIndex) → RisesFrom first es → n ≡ min (i - first) (length es) → drop n es ≡ from i es
behind_from i first n es r e = ap (λ k. drop k es) e ∙ drop_min (i - first) es ∙ sym (from_is i first es r)

pub within-cut : (floor cut : ℕ) (es : List EntryIndex) → below cut (from floor es) ≡ entries_within floor (Some cut) es
within-cut floor cut es = ap (below cut) (sym (within-from floor es)) ∙ sym (within-below cut (entries_within floor None es)) ∙ within-within 0 (Some cut) floor None es ∙ ap (λ l. entries_within l (Some cut) es) (omega arith)

pub within-fewer : (q : LogQueue) (floor : ℕ) (cut : Option ℕ) (es : List EntryIndex) → entry_count q (entries_within floor cut es) ≤ entry_count q es
unfolding entries_within placed_in
within-fewer q floor cut es = subst (λ n. n ≤ entry_count q es) (ap length (filter_comm _ (is_placed_in q) es)) (length-filter-le _ (filter (is_placed_in q) es))

pub none-fewer : (q : LogQueue) (es : List EntryIndex) → entry_count q [] ≤ entry_count q es
unfolding placed_in
none-fewer q es = omega arith

-- where the entries within bounds end, told by the start and the end of all
pub end_of-within : (s : ℕ) (es : List EntryIndex) (floor : ℕ) (cut : Option ℕ) → RisesFrom s es → end_of (entries_within floor cut es) ≡ cond (ltb (max s floor) (at_most_bound (end_of es) cut)) (at_most_bound (end_of es) cut) 0
end_of-within s es floor None h = end_of-part_run s floor None es h
end_of-within s es floor (Some c) h = end_of-part_run s floor (Some c) es h

pub end_met : (s : ℕ) (es : List EntryIndex) (floor : ℕ) (cut : Option ℕ) (end m x : ℕ) → RisesFrom s es → end ≡ end_of es → x ≡ at_most_bound end cut → m ≡ max s floor → m < x → x ≡ end_of (entries_within floor cut es)
end_met s es floor cut end m x h e f g l = sym (end_of-within s es floor cut h ∙ go (at_most_bound (end_of es) cut) (f ∙ ap (λ n. at_most_bound n cut) e))
  where
    go : (n : ℕ) → x ≡ n → cond (ltb (max s floor) n) n 0 ≡ x
    go n k = grind (arith, nat_tests)

pub end_unmet : (s : ℕ) (es : List EntryIndex) (floor : ℕ) (cut : Option ℕ) (end m x : ℕ) → RisesFrom s es → end ≡ end_of es → x ≡ at_most_bound end cut → m ≡ max s floor → x ≤ m → 0 ≡ end_of (entries_within floor cut es)
end_unmet s es floor cut end m x h e f g l = sym (end_of-within s es floor cut h ∙ go (at_most_bound (end_of es) cut) (f ∙ ap (λ n. at_most_bound n cut) e))
  where
    go : (n : ℕ) → x ≡ n → cond (ltb (max s floor) n) n 0 ≡ 0
    go n k = grind (arith, nat_tests)

pub kept-fewer : (q : LogQueue) (gone : Bool) (floor : ℕ) (cut : Option ℕ) (es xs : List EntryIndex) → xs ≡ cond gone [] (entries_within floor cut es) → entry_count q xs ≤ entry_count q es
kept-fewer q true floor cut es xs e = subst (λ x. entry_count q x ≤ entry_count q es) (sym e) (none-fewer q es)
kept-fewer q false floor cut es xs e = subst (λ x. entry_count q x ≤ entry_count q es) (sym e) (within-fewer q floor cut es)

pub pair_count-empty : (q : LogQueue) (keys : Keys) → keys ≡ finite.empty → pair_count q keys ≡ 0
pair_count-empty q keys e = rw (e, entries-empty) refl
