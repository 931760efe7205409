-- The test of new items: what it knows of each region's entries, and what it accepts and refuses.
use Rattle.raft_accessor.proofs.Common.{cases_lt, ◌↔◌, length-map, at_drop_more, drop_of_length-le, Append, ◌≡◌, ℕ, zero, suc, ◌+◌, ◌-◌, ◌<◌, ◌≤◌, ◌^◌, max, min, true, false, ltb, List, [], ◌∷◌, ◌++◌, length, take, drop, get_or, Some, None}
use Rattle.raft_accessor.proofs.Common.{refl, sym, ap, subst, ◌∙◌, ◌⊎◌, inl, inr, arith, AllByRecursion, length-take, length-take-le, length-drop, length-append, nil_from_length, nat_tests, IsCorruption, Error, CompressionType, EntryIndex}
use Rattle.raft_accessor.proofs.Common.{FileBlockHandle, LogQueue, RisesFrom, IsConsecutive, end_of, end_bounded, is_same, entries_after_append, leaves_hole, starts_in_front, AreTableEntries, IsRunIn, below, from, is_placed_in, start_of}
use Rattle.raft_accessor.proofs.Common.{below_take, below_start, from_drop, from_start, end_of-run, RisesFrom-append, RisesFrom-take, RisesFrom-drop, rises, IsExtentOf, IsRunCheckFault, placed_entries, TakesRun, Extent, ◌≢◌, cond, nat_eq}
use Rattle.raft_accessor.proofs.Common.{append_assoc, map, Option, lookup, option_map, option_and_then, false≢true, FileId, Command, OpType, is_reserved, Item, Content, Pair, entries, command, pair, placed_content, placed_item, Tables}
use Rattle.raft_accessor.proofs.Common.{with_table, table_of, Table, Accessor, live_in_all, table_in, AreAccepted, AreAcceptedOncePlaced, AreRefusedOncePlaced, IsAppendCheckFault, AreBefore, AreChecked, AreKnown, HasValue, IsKnown}
use Rattle.raft_accessor.proofs.Common.{IsNextFault, IsNextTaken, IsPairAccepted, TakesNext, commanded, Appending, after_content, after_items, after_pair, AreItemsRefused, IsFor, IsPairOfQueue, IsWriteFault, queue_of, item_of}
use Rattle.raft_records.specs.declared.log_item.LogItem.{LogItem}
use Rattle.raft_accessor.proofs.MapLemmas.{by_id, self_same, not_same, with_own, with_other, none_some, some_is}
use Rattle.raft_base.specs.declared.errors.Error.TheVariants as errors
use Rattle.std.specs.FinMap as finite
use Rattle.raft_records.specs.declared.command.Command.TheVariants as commands
use Rattle.raft_records.specs.declared.key_value.OpType.TheVariants as operations

-- ---- what stays where the places change

pub rises_placed : (place : FileBlockHandle) (compression : CompressionType) (s : ℕ) (es : List EntryIndex) → RisesFrom s es ↔ RisesFrom s (placed_entries place compression es)
rises_placed place compression s [] = (λ h. h, λ h. h)
rises_placed place compression s (e ∷ es) = let rest = rises_placed place compression (suc s) es in (λ h. (h.0, rest.0 h.1), λ h. (h.0, rest.1 h.1))

bounded_placed : (place : FileBlockHandle) (compression : CompressionType) (es : List EntryIndex) →
    AllByRecursion (λ (e : EntryIndex). e.index < 2 ^ 64 - 1) es ↔ AllByRecursion (λ (e : EntryIndex). e.index < 2 ^ 64 - 1) (placed_entries place compression es)
bounded_placed place compression [] = (λ h. h, λ h. h)
bounded_placed place compression (e ∷ es) = let rest = bounded_placed place compression es in (λ h. (h.0, rest.0 h.1), λ h. (h.0, rest.1 h.1))

each_in : (place : FileBlockHandle) (compression : CompressionType) (es : List EntryIndex) → place.id.queue ≡ Append → AllByRecursion (λ (e : EntryIndex). is_placed_in Append e ≡ true) (placed_entries place compression es)
unfolding is_placed_in
each_in place compression [] q = tt
each_in place compression (e ∷ es) q = (ap (λ (p : LogQueue). is_same p Append) q, each_in place compression es q)

pub run_placed : (place : FileBlockHandle) (compression : CompressionType) (es : List EntryIndex) → place.id.queue ≡ Append → IsConsecutive es → IsRunIn Append (placed_entries place compression es)
run_placed place compression [] q h = record { consecutive = record { run = tt; bounded = tt }; placed = tt }
run_placed place compression (e ∷ es) q h = record {
  consecutive = record { run = (rises_placed place compression (suc e.index) es).0 h.run; bounded = (bounded_placed place compression (e ∷ es)).0 h.bounded };
  placed = each_in place compression (e ∷ es) q;
}

pub run_bare : (place : FileBlockHandle) (compression : CompressionType) (es : List EntryIndex) → IsRunIn Append (placed_entries place compression es) → IsConsecutive es
run_bare place compression [] h = record { run = tt; bounded = tt }
run_bare place compression (e ∷ es) h = record { run = (rises_placed place compression (suc e.index) es).1 h.consecutive.run; bounded = (bounded_placed place compression (e ∷ es)).1 h.consecutive.bounded }

-- ---- where entries begin and end

pub extent_end : (x : Extent) (es : List EntryIndex) → IsExtentOf x es → end_of es ≡ x.end
unfolding end_of
extent_end x [] h = sym (h.ends ∙ omega (arith, h.nothing refl))
extent_end x (e ∷ es) h = end_of-run x.first (e ∷ es) h.rising (omega arith) ∙ sym h.ends

pub extent_table : (x : Extent) (es : List EntryIndex) → AreTableEntries es → x.first ≡ start_of es → x.end ≡ end_of es → IsExtentOf x es
unfolding end_of
extent_table x [] h f e = record { rising = tt; ends = omega (arith, f, e); nothing = λ n. f }
extent_table x (y ∷ es) h f e = record {
  rising = subst (λ s. RisesFrom s (y ∷ es)) (sym f) (rises (y ∷ es) h.consecutive.run);
  ends = e ∙ end_of-run y.index (y ∷ es) (rises (y ∷ es) h.consecutive.run) (omega arith) ∙ ap (λ s. s + length (y ∷ es)) (sym f);
  nothing = λ n. absurd (omega (arith, n));
}

-- ---- cuts

pub compacted_none : (x : Extent) (i : ℕ) (es : List EntryIndex) → IsExtentOf x es → x.end ≤ i → from i es ≡ []
compacted_none x i es h l =
    let e = h.ends in
    let d = length-drop (i - x.first) es in
    from_drop i (i - x.first) x.first es (omega arith) h.rising ∙ nil_from_length _ (omega (arith, d))

pub compacted_some : (x y : Extent) (i : ℕ) (es : List EntryIndex) → IsExtentOf x es → i < x.end → y.first ≡ max x.first i → y.end ≡ x.end → IsExtentOf y (from i es)
compacted_some x y i es h l f g =
    let n = i - x.first in
    let e = h.ends in
    let some : 0 < length es = elim (length es) as (λ k. length es ≡ k → 0 < k) [ zero ↦ λ z. absurd (omega (arith, h.nothing z)) | suc k ↦ λ z. omega arith ] refl in
    let d = length-drop n es in
    let first : y.first ≡ x.first + n = omega (arith, f) in
    elim (cases_lt x.first i) [
      | inl gt ↦ subst (IsExtentOf y) (sym (from_drop i n x.first es (omega arith) h.rising))
          (record {
            rising = subst (λ s. RisesFrom s (drop n es)) (sym first) (RisesFrom-drop n x.first es h.rising (omega arith));
            ends = omega (arith, d);
            nothing = λ z. absurd (omega (arith, z, d));
          })
      | inr le ↦ subst (IsExtentOf y) (sym (from_start i x.first es h.rising le)) (record { rising = subst (λ s. RisesFrom s es) (omega (arith, f)) h.rising; ends = omega (arith, f); nothing = λ z. absurd (omega (arith, z)) })
    ]

pub truncated_none : (x : Extent) (i : ℕ) (es : List EntryIndex) → IsExtentOf x es → i ≤ x.first → below i es ≡ []
truncated_none x i es h l = below_start i x.first es h.rising l

pub truncated_some : (x y : Extent) (i : ℕ) (es : List EntryIndex) → IsExtentOf x es → x.first < i → y.first ≡ x.first → y.end ≡ min x.end i → IsExtentOf y (below i es)
truncated_some x y i es h l f g =
    let n = i - x.first in
    let e = h.ends in
    let t = length-take n es in
    subst (IsExtentOf y) (sym (below_take i n x.first es (omega arith) h.rising)) (record {
      rising = subst (λ s. RisesFrom s (take n es)) (sym f) (RisesFrom-take n x.first es h.rising);
      ends = omega (arith, f, t);
      nothing = λ z. f ∙ h.nothing (omega (arith, z, t));
    })

-- ---- new runs

none_in_front : (x : Extent) (i : ℕ) (es : List EntryIndex) → IsExtentOf x es → x.first ≤ i → starts_in_front es i ≡ false
none_in_front x i [] h l = refl
none_in_front x i (e ∷ es) h l = let f : e.index ≡ x.first = h.rising.0 in grind (arith, nat_tests)

no_hole : (x : Extent) (i : ℕ) (es : List EntryIndex) → IsExtentOf x es → (0 < x.end → x.end < i → ⊥) → leaves_hole es i ≡ false
no_hole x i [] h l = refl
no_hole x i (e ∷ es) h l =
    let k : end_of (e ∷ es) ≡ x.end = extent_end x (e ∷ es) h in
    let z : 0 < x.end = omega (arith, h.ends) in
    elim (cases_lt x.end i) [ inl gt ↦ absurd (l z gt) | inr le ↦ rw k (grind (arith, nat_tests)) ]

pub not_behind : (x : Extent) (i : ℕ) → 0 < x.end → (0 < x.end → x.end < i → ⊥) → i ≤ x.end
not_behind x i z l = elim (cases_lt x.end i) [ inl gt ↦ absurd (l z gt) | inr le ↦ le ]

-- a run behind nothing
none_below : (i : ℕ) (es : List EntryIndex) → length es ≡ 0 → below i es ≡ []
unfolding below
none_below i es e = ap (below i) (nil_from_length es e)

run_alone : (y : Extent) (e : EntryIndex) (run : List EntryIndex) → RisesFrom e.index (e ∷ run) → y.first ≡ e.index → y.end ≡ e.index + length (e ∷ run) → IsExtentOf y (e ∷ run)
run_alone y e run rising f g = record { rising = subst (λ s. RisesFrom s (e ∷ run)) (sym f) rising; ends = g ∙ ap (λ s. s + length (e ∷ run)) (sym f); nothing = λ k. absurd (omega (arith, k)) }

-- a run behind some entries
run_behind : (x y : Extent) (n : ℕ) (e : EntryIndex) (run es : List EntryIndex) → IsExtentOf x es → RisesFrom e.index (e ∷ run) →
    e.index ≡ x.first + n → n ≤ length es → y.first ≡ x.first → y.end ≡ e.index + length (e ∷ run) → IsExtentOf y (take n es ++ e ∷ run)
run_behind x y n e run es h rising k l f g =
    let t : length (take n es) ≡ n = length-take-le n es l in
    let both : length (take n es ++ e ∷ run) ≡ length (take n es) + length (e ∷ run) = length-append (take n es) (e ∷ run) in
    record {
      rising = subst (λ s. RisesFrom s (take n es ++ e ∷ run)) (sym f) (RisesFrom-append x.first (take n es) (e ∷ run) (RisesFrom-take n x.first es h.rising) (subst (λ s. RisesFrom s (e ∷ run)) (k ∙ ap (λ m. x.first + m) (sym t)) rising));
      ends = omega (arith, f, g, t, both, k);
      nothing = λ z. absurd (omega (arith, z, both));
    }

-- a run joins the entries
pub run_taken : (x y : Extent) (e : EntryIndex) (run es : List EntryIndex) → IsExtentOf x es → RisesFrom e.index (e ∷ run) → x.first ≤ e.index → (0 < x.end → x.end < e.index → ⊥)
    → (x.end ≡ 0 → y.first ≡ e.index) → (0 < x.end → y.first ≡ x.first) → y.end ≡ e.index + length (e ∷ run)
    → (new : List EntryIndex) × (entries_after_append es (e ∷ run) ≡ Some new) × IsExtentOf y new
run_taken x y e run es h rising front hole f0 f1 g =
    let n = e.index - x.first in
    let accepted : entries_after_append es (e ∷ run) ≡ Some (below e.index es ++ e ∷ run) = rw (none_in_front x e.index es h front, no_hole x e.index es h hole) refl in
    let same : below e.index es ≡ take n es = below_take e.index n x.first es (omega arith) h.rising in (
      below e.index es ++ e ∷ run,
      accepted,
      elim (cases_lt 0 x.end) [
        | inl z ↦ subst (λ a. IsExtentOf y (a ++ e ∷ run)) (sym same) (run_behind x y n e run es h rising (omega arith) (omega (arith, not_behind x e.index z hole, h.ends)) (f1 z) g)
        | inr z ↦ subst (λ a. IsExtentOf y (a ++ e ∷ run)) (sym (none_below e.index es (omega (arith, z, h.ends)))) (run_alone y e run rising (f0 (omega (arith, z))) g)
      ],
    )

-- a run behind a hole is refused
pub hole_refused : (x : Extent) (e : EntryIndex) (run es : List EntryIndex) → IsExtentOf x es → x.first ≤ e.index → 0 < x.end → x.end < e.index → entries_after_append es (e ∷ run) ≡ None
hole_refused x e run [] h f z l = absurd (omega (arith, z, h.ends, h.nothing refl))
hole_refused x e run (a ∷ es) h f z l =
    let k : end_of (a ∷ es) ≡ x.end = extent_end x (a ∷ es) h in
    let t : ltb (end_of (a ∷ es)) e.index ≡ true = rw k (grind (arith, nat_tests)) in
    rw (none_in_front x e.index (a ∷ es) h f, t) refl

-- ---- a run, told by its first entry

pub run_accepted : (x y : Extent) (run : List EntryIndex) (first : EntryIndex) → 0 < length run → first ≡ get_or run 0 first → IsConsecutive run →
    x.first ≤ first.index → (0 < x.end → x.end < first.index → ⊥) → (x.end ≡ 0 → y.first ≡ first.index) → (0 < x.end → y.first ≡ x.first) →
    y.end ≡ first.index + length run → TakesRun x run y
run_accepted x y [] first l is cons front hole f0 f1 g = absurd (omega arith)
run_accepted x y (e ∷ run) first l is cons front hole f0 f1 g = λ es place compression at queue.
    let i : first.index ≡ e.index = ap (λ (d : EntryIndex). d.index) is in
    let rising = (rises_placed place compression e.index (e ∷ run)).0 (refl, cons.run) in
    let len : length (placed_entries place compression run) ≡ length run = length-map run _ in
    let taken = run_taken x y (record e { entries = Some place; compression_type = compression }) (placed_entries place compression run) es at rising
    (omega (arith, front, i)) (λ z k. hole z (omega (arith, k, i))) (λ z. f0 z ∙ i) f1 (omega (arith, g, i, len)) in
    (run_placed place compression (e ∷ run) queue cons, taken.0, taken.1, taken.2)

pub hole_found : (x : Extent) (run : List EntryIndex) (first : EntryIndex) → 0 < length run → first ≡ get_or run 0 first → x.first ≤ first.index → 0 < x.end → x.end < first.index
    → (es : List EntryIndex) (place : FileBlockHandle) (compression : CompressionType) → IsExtentOf x es → IsRunIn Append (placed_entries place compression run) → entries_after_append es (placed_entries place compression run) ≡ None
hole_found x [] first l is front z k = absurd (omega arith)
hole_found x (e ∷ run) first l is front z k = λ es place compression at placed.
    let i : first.index ≡ e.index = ap (λ (d : EntryIndex). d.index) is in
    hole_refused x (record e { entries = Some place; compression_type = compression }) (placed_entries place compression run) es at (omega (arith, front, i)) z (omega (arith, k, i))

-- the refusal of such a run, whatever its text
pub hole_refused_so : (x : Extent) (run : List EntryIndex) (text : List ℕ) (e : Error) → IsCorruption text e
    → ((es : List EntryIndex) (place : FileBlockHandle) (compression : CompressionType) → IsExtentOf x es → IsRunIn Append (placed_entries place compression run) → entries_after_append es (placed_entries place compression run) ≡ None)
    → IsRunCheckFault x run e
hole_refused_so x run text (errors.Corruption t) is none = none
hole_refused_so x run text errors.Memory is none = tt
hole_refused_so x run text e is none = absurd is

pub run_fits : (run : List EntryIndex) (first : EntryIndex) → 0 < length run → first ≡ get_or run 0 first → IsConsecutive run → first.index + length run < 2 ^ 64
run_fits [] first l is cons = absurd (omega arith)
run_fits (e ∷ run) first l is cons =
    let i : first.index ≡ e.index = ap (λ (d : EntryIndex). d.index) is in
    omega (arith, i, end_bounded (e ∷ run) cons.bounded, end_of-run e.index (e ∷ run) (refl, cons.run) l)

-- ---- new items that are tested one after another

abbrev Es : Type 0
Es = List (ℕ × Extent)

-- one region's table is written: what is known of it is kept, and what is known of the others stays
known_with : (old new : Es) (before now : Tables) (id : ℕ) (o : Option Extent) (t : Option Table) → AreKnown old before now →
    ((q : ℕ) → lookup (nat_eq q) new ≡ cond (nat_eq id q) o (lookup (nat_eq q) old)) →
    IsKnown o (table_in before id).entries (table_of id t).entries → AreKnown new before (with_table now id t)
known_with old new before now id o t known h own = λ r. elim (by_id r id) [
  | inl p ↦ subst (λ r. IsKnown (lookup (nat_eq r) new) (table_in before r).entries (table_in (with_table now id t) r).entries) (sym p)
      (subst (λ o. IsKnown o (table_in before id).entries (table_in (with_table now id t) id).entries)
      (sym (h id ∙ ap (λ b. cond b o (lookup (nat_eq id) old)) (self_same id)))
      (subst (λ t. IsKnown o (table_in before id).entries (table_of id t).entries) (sym (with_own now id t)) own))
  | inr f ↦ subst (λ o. IsKnown o (table_in before r).entries (table_in (with_table now id t) r).entries)
      (sym (h r ∙ ap (λ b. cond b o (lookup (nat_eq r) old)) (not_same id r f)))
      (subst (λ t. IsKnown (lookup (nat_eq r) old) (table_in before r).entries (table_of r t).entries) (sym (with_other now id r t f)) (known r))
]

-- ---- the next item

pub run_next : (old new : Es) (id : ℕ) (table : Option Table) (run : List EntryIndex) (x y : Extent) → ((before now : Tables) → AreBefore old id table before now → IsExtentOf x (table_in now id).entries) → TakesRun x run y
    → ((q : ℕ) → lookup (nat_eq q) new ≡ cond (nat_eq id q) (Some y) (lookup (nat_eq q) old)) → TakesNext old table (record { raft_group_id = id; content = entries run }) new
run_next old new id table run x y was takes h = λ before now place compression at queue.
    let k = takes (table_in now id).entries place compression (was before now at) queue in
    record {
      asked = k.0;
      table = Some (record (table_in now id) { entries = k.1 });
      taken = ap (λ o. option_map Some (option_map {U = Table} (λ es. record (table_in now id) { entries = es }) o)) k.2;
      known = known_with old new before now id (Some y) (Some (record (table_in now id) { entries = k.1 })) at.known h k.3;
    }

-- what a command makes of a table
command_outcome : (id : ℕ) (o : Option Table) (c : Command) → (t : Option Table) × (after_content Appending id o (command c) ≡ Some t) × ((table_of id t).entries ≡ commanded c (table_of id o).entries)
command_outcome id o commands.Clean = (_, refl, refl)
command_outcome id o (commands.Compact index) = (_, refl, refl)
command_outcome id o (commands.Truncate index) = (_, refl, refl)

pub command_next : (old new : Es) (id : ℕ) (table : Option Table) (c : Command) (x y : Extent) →
    ((before now : Tables) → AreBefore old id table before now → IsExtentOf x (table_in now id).entries) →
    ((es : List EntryIndex) → IsExtentOf x es → IsExtentOf y (commanded c es))
    → ((q : ℕ) → lookup (nat_eq q) new ≡ cond (nat_eq id q) (Some y) (lookup (nat_eq q) old)) → TakesNext old table (record { raft_group_id = id; content = command c }) new
command_next old new id table c x y was obeys h = λ before now place compression at queue. let k = command_outcome id (finite.get now id) c in record {
  asked = tt;
  table = k.0;
  taken = k.1;
  known = known_with old new before now id (Some y) k.0 at.known h (subst (IsExtentOf y) (sym k.2) (obeys (table_in now id).entries (was before now at)));
}

-- a change of a key changes no entries
pair_table : (id : ℕ) (o : Option Table) (op : OpType) (key : List ℕ) (value : Option (List ℕ)) (file : FileId) → HasValue op value →
    (t : Table) × (after_pair (table_of id o) op key value (Some file) ≡ Some t) × (t.entries ≡ (table_of id o).entries)
pair_table id o operations.Put key None file h = absurd h
pair_table id o operations.Put key (Some value) file h = (_, refl, refl)
pair_table id o operations.Del key value file h = (_, refl, refl)

for_pair : (op : OpType) (file : FileId) → file.queue ≡ Append → IsPairOfQueue Append op (Some file)
for_pair operations.Put file q = q
for_pair operations.Del file q = tt

known_same : (extents : Es) (before now : Tables) (id : ℕ) (t : Option Table) → AreKnown extents before now → (table_of id t).entries ≡ (table_in now id).entries → AreKnown extents before (with_table now id t)
known_same extents before now id t known e = λ r. elim (by_id r id) [
  | inl p ↦ subst (λ r. IsKnown (lookup (nat_eq r) extents) (table_in before r).entries (table_in (with_table now id t) r).entries) (sym p)
      (subst (IsKnown (lookup (nat_eq id) extents) (table_in before id).entries) (sym (ap (λ t. (table_of id t).entries) (with_own now id t) ∙ e))
      (known id))
  | inr f ↦ subst (λ t. IsKnown (lookup (nat_eq r) extents) (table_in before r).entries (table_of r t).entries) (sym (with_other now id r t f)) (known r)
]

pub pair_next : (extents : Es) (id : ℕ) (table : Option Table) (p : Pair) → IsPairAccepted p → TakesNext extents table (record { raft_group_id = id; content = pair p }) extents
pair_next extents id table p accepted = λ before now place compression at queue. elim (is_reserved p.key) as (λ b. is_reserved p.key ≡ b → IsNextTaken id (placed_content place compression (pair p)) before now extents) [
  | true ↦ λ r. record {
    asked = λ f. absurd (false≢true (sym f ∙ r));
    table = finite.get now id;
    taken = ap (λ b. cond b (Some (finite.get now id)) (option_map Some (after_pair (table_in now id) p.op_type p.key p.value (Some place.id)))) r;
    known = known_same extents before now id (finite.get now id) at.known refl;
  }
  | false ↦ λ r. let k = pair_table id (finite.get now id) p.op_type p.key p.value place.id (accepted r) in record {
    asked = λ f. for_pair p.op_type place.id queue;
    table = Some k.0;
    taken = ap (λ b. cond b (Some (finite.get now id)) (option_map Some (after_pair (table_in now id) p.op_type p.key p.value (Some place.id)))) r ∙ ap (option_map Some) k.1;
    known = known_same extents before now id (Some k.0) at.known k.2;
  }
] refl

-- ---- all items

-- a test of some items, wherever they get their places
abbrev pub IsCheck : Es → Tables → List Item → List Item → Type 0
IsCheck extents before items left = (place : FileBlockHandle) (compression : CompressionType) → place.id.queue ≡ Append → AreChecked extents before items left place compression

pub check_begins : (extents : Es) (m : Tables) (items : List Item) → extents ≡ [] → IsCheck extents m items items
check_begins extents m items none place compression queue = record {
  now = m;
  known = λ r. subst (λ es. IsKnown (lookup (nat_eq r) es) (table_in m r).entries (table_in m r).entries) (sym none) refl;
  same = (λ a. a, λ a. a);
}

check_goes_on : (old new : Es) (m : Tables) (items left : List Item) (x : Item) → IsCheck old m items (x ∷ left) → TakesNext old (finite.get m x.raft_group_id) x new → IsCheck new m items left
check_goes_on old new m items left x check takes place compression queue =
    let c = check place compression queue in
    let k = takes m c.now place compression (record { own = refl; known = c.known }) queue in
    let id = x.raft_group_id in
    let rest = map (placed_item place compression) left in
    let step : after_items Appending c.now (placed_item place compression x ∷ rest) ≡ after_items Appending (with_table c.now id k.table) rest = ap (option_and_then (λ t. after_items Appending (with_table c.now id t) rest)) k.taken in
    record {
      now = with_table c.now id k.table;
      known = k.known;
      same = (
        λ a. c.same.0 (record { asked = (k.asked, a.asked); after = a.after; taken = step ∙ a.taken }),
        λ a. let b = c.same.1 a in record { asked = b.asked.1; after = b.after; taken = sym step ∙ b.taken },
      );
    }

check_ends : (extents : Es) (m : Tables) (items : List Item) → IsCheck extents m items [] → AreAcceptedOncePlaced m items
check_ends extents m items check place compression queue =
    let c = check place compression queue in
    c.same.0 (record { asked = tt; after = c.now; taken = refl })

check_fault : (extents : Es) (m : Tables) (items left : List Item) (x : Item) (e : Error) → IsCheck extents m items (x ∷ left) → IsNextFault extents (finite.get m x.raft_group_id) x e → IsAppendCheckFault m items e
check_fault extents m items left x (errors.Corruption text) check fault = λ place compression queue accepted.
    let c = check place compression queue in
    let a = c.same.1 accepted in
    let rest = map (placed_item place compression) left in
    let none : after_items Appending c.now
    (placed_item place compression x ∷ rest) ≡ None = ap (option_and_then
    (λ t. after_items Appending (with_table c.now x.raft_group_id t) rest))
    (fault m c.now place compression (record { own = refl; known = c.known }) a.asked.0) in
    none_some (sym none ∙ a.taken)
check_fault extents m items left x errors.Memory check fault = tt
check_fault extents m items left x e check fault = absurd fault

pub fault_refused : (m : Tables) (items : List Item) (e : Error) → IsAppendCheckFault m items e → e ≢ errors.Memory → AreRefusedOncePlaced m items
fault_refused m items (errors.Corruption text) fault other = fault
fault_refused m items errors.Memory fault other = absurd (other refl)
fault_refused m items e fault other = absurd fault

-- ---- the item at an index

module _ (old : Es) (m : Tables) (items : List LogItem) (i : ℕ) (check : IsCheck old m (map item_of items) (map item_of (drop i items))) where
  module _ (x : LogItem) (t : Option Table) (low : i < length items) (is : x ≡ get_or items i x) (own : t ≡ finite.get m x.raft_group_id) where
    here : IsCheck old m (map item_of items) (item_of x ∷ map item_of (drop (i + 1) items))
    here = subst (IsCheck old m (map item_of items)) (ap (map item_of) (at_drop_more (λ l. l) items i x low ∙ ap (λ y. y ∷ drop (i + 1) items) (sym is))) check

    pub check_next : (new : Es) → TakesNext old t (item_of x) new → IsCheck new m (map item_of items) (map item_of (drop (i + 1) items))
    check_next new takes = check_goes_on old new m (map item_of items) _ (item_of x) here (subst (λ t. TakesNext old t (item_of x) new) own takes)

    pub check_refused : (e : Error) → IsNextFault old t (item_of x) e → IsAppendCheckFault m (map item_of items) e
    check_refused e fault = check_fault old m (map item_of items) _ (item_of x) e here (subst (λ t. IsNextFault old t (item_of x) e) own fault)

  pub check_done : length items ≤ i → AreAcceptedOncePlaced m (map item_of items)
  check_done past = check_ends old m (map item_of items) (subst (λ l. IsCheck old m (map item_of items) (map item_of l)) (drop_of_length-le items {i = i} past) check)

-- ---- items that are accepted

-- the item behind some that are written is as asked, and its content is not refused
behind : (m n : Tables) (front : List Item) (item : Item) (rest : List Item) (t : Tables) → after_items Appending m front ≡ Some n →
    after_items Appending m (front ++ item ∷ rest) ≡ Some t →
    after_content Appending item.raft_group_id (finite.get n item.raft_group_id) item.content ≡ None → ⊥
behind m n [] item rest t e k none =
    let same : m ≡ n = some_is e in
    let f = subst (λ m. after_items Appending m (item ∷ rest) ≡ Some t) same k in
    none_some (sym (ap (option_and_then (λ t. after_items Appending (with_table n item.raft_group_id t) rest)) none) ∙ f)
behind m n (x ∷ front) item rest t e k none = go (λ u a b. behind (with_table m x.raft_group_id u) n front item rest t a b none) (after_content Appending x.raft_group_id (finite.get m x.raft_group_id) x.content) e k
  where
    go : ((u : Option Table) → after_items Appending (with_table m x.raft_group_id u) front ≡ Some n → after_items Appending (with_table m x.raft_group_id u) (front ++ item ∷ rest) ≡ Some t → ⊥)
        → (o : Option (Option Table)) → option_and_then (λ t. after_items Appending (with_table m x.raft_group_id t) front) o ≡ Some n →
        option_and_then (λ t. after_items Appending (with_table m x.raft_group_id t) (front ++ item ∷ rest)) o ≡ Some t → ⊥
    go later None e k = none_some e
    go later (Some u) e k = later u e k

asked_behind : (front : List Item) (item : Item) (rest : List Item) → AllByRecursion (λ (x : Item). IsFor Appending x.content) (front ++ item ∷ rest) → IsFor Appending item.content
asked_behind [] item rest h = h.0
asked_behind (x ∷ front) item rest h = asked_behind front item rest h.1

room_alone : (id : ℕ) (o : Option Table) (live : ℕ) (content : Content) (e : Error) → IsFor Appending content →
    (after_content Appending id o content ≡ None → ⊥) → IsWriteFault Appending id o live content e → (e ≡ errors.Memory) ⊎ (e ≡ errors.Full)
room_alone id o live content (errors.Corruption text) asked taken (inl not_asked) = absurd (not_asked asked)
room_alone id o live content (errors.Corruption text) asked taken (inr none) = absurd (taken none)
room_alone id o live content errors.Memory asked taken fault = inl refl
room_alone id o live content errors.Full asked taken fault = inr refl
room_alone id o live content e asked taken fault = absurd fault

pub refused_for_room : (items rest : List Item) (old new : Accessor) (e : Error) → AreAccepted old.tables (items ++ rest) → AreItemsRefused Appending items old new e → (e ≡ errors.Memory) ⊎ (e ≡ errors.Full)
refused_for_room items rest old new e accepted refused =
    let all : items ++ rest ≡ refused.front ++ refused.item ∷ rest = ap (λ l. l ++ rest) refused.split ∙ append_assoc refused.front (refused.item ∷ []) rest in
    let whole = subst (AreAccepted old.tables) all accepted in
    room_alone refused.item.raft_group_id (finite.get new.tables refused.item.raft_group_id) (live_in_all (queue_of Appending) new.tables)
    refused.item.content e (asked_behind refused.front refused.item rest whole.asked)
    (behind old.tables new.tables refused.front refused.item rest whole.after refused.written.tables whole.taken) refused.fault
