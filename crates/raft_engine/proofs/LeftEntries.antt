-- What a batch that moves records of a region leaves of them.
use Rattle.raft_engine.proofs.Common.{◌≡◌, ◌≢◌, ℕ, List, [], ◌++◌, length, Option, Some, None, refl, sym, ap, subst, ◌∙◌, EntryIndex, IsConsecutive, Tables, Table, AreTableEntries, KeptEngine, AreToMove, IsBatchMoved, IsNextPart, moving_entries}
use Rattle.std.specs.FinMap as finite
use Rattle.raft_engine.proofs.FetchedLemmas.{fetched_consecutive}
use Rattle.raft_engine.proofs.MovingPuts.{batch_taken}
use Rattle.raft_engine.proofs.PartLemmas.{part_consecutive}

same_tables : (a b : Tables) → Some a ≡ Some b → a ≡ b
same_tables a b e = cc

same_table : (a b : Table) → Some a ≡ Some b → a ≡ b
same_table a b e = cc

-- what is to move is that of the region's table
pub next_of : (gate : Option ℕ) (region : ℕ) (engine : KeptEngine) (t : Table) (part left : List EntryIndex) → finite.get engine.accessor.tables region ≡ Some t → AreToMove gate region engine (part ++ left)
    → IsNextPart gate (part ++ left) part left → IsNextPart gate (moving_entries gate t.entries) part left
next_of gate region engine t part left there a next =
    subst (λ (l : List EntryIndex). IsNextPart gate l part left) (a.are ∙ ap (λ (u : Table). moving_entries gate u.entries) (same_table a.table t (sym a.there ∙ there))) next

pub next_consecutive : (gate : Option ℕ) (t : Table) (part left : List EntryIndex) → AreTableEntries t.entries → IsNextPart gate (moving_entries gate t.entries) part left → IsConsecutive part
next_consecutive gate t part left sound next = part_consecutive part left (subst IsConsecutive next.split (fetched_consecutive gate t.entries [] (moving_entries gate t.entries) sound refl refl))

-- the entries that a batch leaves are to move next
pub left_behind : (gate : Option ℕ) (left : List EntryIndex) (region : ℕ) (old new : KeptEngine) (t : Table) → finite.get old.accessor.tables region ≡ Some t → t.region_id ≡ region → AreTableEntries t.entries → gate ≢ None
    → IsBatchMoved gate left region old new → AreToMove gate region new left
left_behind None left region old new t there own sound some m = absurd (some refl)
left_behind (Some gate) left region old new t there own sound some m =
    let same : m.moving.table ≡ t = same_table m.moving.table t (sym m.moving.there ∙ there) in
    let its : m.moving.table.region_id ≡ region = ap (λ (u : Table). u.region_id) same ∙ own in
    let taken = batch_taken gate left old.accessor.tables m.moving.table old.asks m.between m.batch m.seq (length m.bytes) (ap (λ (r : ℕ). finite.get old.accessor.tables r) its ∙ m.moving.there)
    (subst (λ (u : Table). AreTableEntries u.entries) (sym same) sound) m.moving.moving in
    let into : taken.0 ≡ new.accessor.tables = same_tables taken.0 new.accessor.tables (sym taken.1 ∙ m.applied.tables) in
    record {
      table = taken.2;
      there = ap (λ (r : ℕ). finite.get new.accessor.tables r) (sym its) ∙ ap (λ (tables : Tables). finite.get tables m.moving.table.region_id) (sym into) ∙ taken.3;
      are = taken.4;
    }
