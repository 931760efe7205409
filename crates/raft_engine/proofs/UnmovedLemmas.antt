-- Why there is no batch of a region's records.
use Rattle.raft_engine.proofs.Common.{◌≡◌, ℕ, ◌+◌, ◌^◌, ◌≤◌, List, length, Option, inl, inr, ap, subst, sym, ◌∙◌, arith, EntryIndex, Error, concat, strings_in, entry_lengths, cut_joined, Table, Ask, AreReadByBlocks, AreUnread, IsNextPart, moving_entries, moving_pairs, pairs_with}
use Rattle.raft_engine.proofs.Common.{AreRecordsRefused, IsBatchRefused, Failures}
use Rattle.raft_base.specs.declared.errors.Error.TheVariants as errors

-- the first entries of a batch, whose bytes stand one behind another, have too many
pub joined_refused : (before : List ℕ) (es : List EntryIndex) (bytes lent : List ℕ) (e : Error) → length before ≡ 0 → entry_lengths es ≡ length bytes → lent ≡ bytes
    → (e ≡ errors.Full) × (2 ^ 31 ≤ length before + length lent) → (e ≡ errors.Full) × (2 ^ 31 ≤ length (concat (strings_in es bytes)))
joined_refused before es bytes lent e none lengths same h =
    let many = h.1 in
    let all : length lent ≡ length (concat (strings_in es bytes)) = ap length (same ∙ sym (cut_joined es bytes lengths)) in
    (h.0, omega (arith, none, many, all))

-- the entries aren't all read
pub entries_refused : {MayFail : Failures} (gate : Option ℕ) (left : List EntryIndex) (t : Table) (region : ℕ) → region ≡ t.region_id → (part : List EntryIndex) (old new : List Ask) (e : Error) → IsNextPart gate (moving_entries gate t.entries) part left
    → AreUnread MayFail region part old new e → IsBatchRefused MayFail gate left t old new e
entries_refused {MayFail} gate left t region of part old new e next h = record { part = part; next = next; why = inl (subst (λ (r : ℕ). AreUnread MayFail r part old new e) of h) }

-- they or the keys are refused
pub records_refused : {MayFail : Failures} (gate : Option ℕ) (left : List EntryIndex) (t : Table) (part : List EntryIndex) (strings : List (List ℕ)) (pairs : List (List ℕ × List ℕ)) (old new : List Ask) (e : Error) → IsNextPart gate (moving_entries gate t.entries) part left
    → AreReadByBlocks part strings old new → pairs ≡ pairs_with left (moving_pairs gate t.keys) → AreRecordsRefused strings pairs e → IsBatchRefused MayFail gate left t old new e
records_refused gate left t part strings pairs old new e next read of_table h = record {
  part = part;
  next = next;
  why = inr (strings, read, subst (λ (ps : List (List ℕ × List ℕ)). AreRecordsRefused strings ps e) of_table h);
}
