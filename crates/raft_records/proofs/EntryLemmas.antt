-- On the bytes of entries.
use Rattle.raft_records.proofs.Common.{◌≡◌, ℕ, suc, ◌+◌, ◌-◌, ◌^◌, ◌<◌, ◌≤◌, ◌⊎◌, List, [], ◌∷◌, ◌++◌, length, None, refl, sym, ap, ◌∙◌, subst, arith, inl, inr, Reads, HasNoFront, HasOneFront, IsFollowedBy, IsSequence, state_after}
use Rattle.raft_records.proofs.Common.{IsSequenceFault, IsVarint, Error, varint_one_front, reads_pair, no_first, no_second, pair_one_front, reads_more, state_after-push, stuck, sequence_one_front, fault_after, EntryIndex, entry_between}
use Rattle.raft_records.proofs.Common.{tail_of, IsTail, AreTails, AreIndexAndTails, IsEntries, end_behind, IsTailFault, IsTailsFault, IsEntriesFault, behind_entry, uncompressed}

-- ---- one tail offset

pub tail_read : (bytes rest : List ℕ) (index offset tail : ℕ) → index < 2 ^ 64 - 1 → offset ≤ tail → tail < 2 ^ 32 → Reads IsVarint bytes rest tail →
    Reads (IsTail (index, offset)) bytes rest (entry_between index offset tail)
tail_read bytes rest index offset tail fits le lt r =
    let sum : offset + (tail - offset) ≡ tail = omega arith in
    record {
      front = r.front;
      spells = record { tail = subst (λ (t : ℕ). IsVarint r.front t) (sym sum) r.spells; index = refl; offset = refl; index_fits = fits; tail_fits = omega arith; bare = refl };
      split = r.split;
    }

pub no_tail : (bytes mid : List ℕ) (index offset tail : ℕ) → Reads IsVarint bytes mid tail → (tail < offset) ⊎ (2 ^ 32 ≤ tail) → HasNoFront (IsTail (index, offset)) bytes
no_tail bytes mid index offset tail r out front rest e t split =
    let same = varint_one_front r.front front mid rest tail (tail_of e) r.spells t.tail (sym r.split ∙ split) in
    let number : tail ≡ tail_of e = same.1 in
    let begins : e.entry_offset ≡ offset = t.offset in
    let ends : tail_of e < 2 ^ 32 = t.tail_fits in
    elim out [ inl lt ↦ absurd (omega arith) | inr le ↦ absurd (omega arith) ]

abbrev entry_with : ℕ → ℕ → ℕ → EntryIndex
entry_with index offset len = record { index = index; entries = None; compression_type = uncompressed; entry_offset = offset; entry_len = len }

pub tail_one_front : (next : ℕ × ℕ) → HasOneFront (IsTail next)
tail_one_front next a b more rest x y s t e =
    let same = varint_one_front a b more rest (tail_of x) (tail_of y) s.tail t.tail e in
    let indexes : x.index ≡ y.index = s.index ∙ sym t.index in
    let offsets : x.entry_offset ≡ y.entry_offset = s.offset ∙ sym t.offset in
    let tails : tail_of x ≡ tail_of y = same.1 in
    let lens : x.entry_len ≡ y.entry_len = omega arith in (
      same.0,
      s.bare ∙ ap (λ (i : ℕ). entry_with i x.entry_offset x.entry_len) indexes ∙ ap (λ (o : ℕ). entry_with y.index o x.entry_len) offsets ∙ ap (λ (l : ℕ). entry_with y.index y.entry_offset l) lens ∙ sym t.bare,
    )

-- ---- tail offsets one behind the other

-- what was read so far: these entries, and behind them come this index and this offset
pub record AreReadSoFar (first s : ℕ) (bytes rest : List ℕ) (es : List EntryIndex) (index offset : ℕ) : Type 0 where
  pub reads : Reads (IsSequence behind_entry IsTail (first, s)) bytes rest es
  pub state : state_after behind_entry (first, s) es ≡ (index, offset)

one_more_read : (first s : ℕ) (bytes mid rest : List ℕ) (es : List EntryIndex) (e : EntryIndex) (index offset : ℕ) →
    AreReadSoFar first s bytes mid es index offset → Reads (IsTail (index, offset)) mid rest e →
    AreReadSoFar first s bytes rest (es ++ e ∷ []) (index + 1) (offset + e.entry_len)
one_more_read first s bytes mid rest es e index offset so r =
    let begins : e.entry_offset ≡ offset = r.spells.offset in
    record {
      reads = reads_more behind_entry IsTail (first, s) es e so.reads (subst (λ (p : ℕ × ℕ). Reads (IsTail p) mid rest e) (sym so.state) r);
      state = state_after-push behind_entry (first, s) es e ∙ ap (λ (p : ℕ × ℕ). behind_entry p e) so.state ∙ ap (λ (o : ℕ). (index + 1, o + e.entry_len)) begins;
    }

-- one more entry, which ends at this tail offset
pub one_more_tail : (first s : ℕ) (bytes mid rest : List ℕ) (es : List EntryIndex) (index offset tail : ℕ) →
    AreReadSoFar first s bytes mid es index offset → offset ≤ tail → Reads (IsTail (index, offset)) mid rest (entry_between index offset tail) →
    AreReadSoFar first s bytes rest (es ++ entry_between index offset tail ∷ []) (index + 1) tail
one_more_tail first s bytes mid rest es index offset tail so le r =
    let e = entry_between index offset tail in
    subst (λ (o : ℕ). AreReadSoFar first s bytes rest (es ++ e ∷ []) (index + 1) o) (omega arith) (one_more_read first s bytes mid rest es e index offset so r)

pub no_more_tails : {first s : ℕ} {bytes mid : List ℕ} {es : List EntryIndex} {index offset : ℕ} (count : ℕ) →
    AreReadSoFar first s bytes mid es index offset → length es < count → HasNoFront (IsTail (index, offset)) mid →
    HasNoFront (AreTails count (first, s)) bytes
no_more_tails {first} {s} {bytes} {mid} {es} {index} {offset} count so lt none front rest ys a e =
    let here : HasNoFront (IsTail (state_after behind_entry (first, s) es)) mid = subst (λ (p : ℕ × ℕ). HasNoFront (IsTail p) mid) (sym so.state) none in
    let len : length ys ≡ count = a.count in
    stuck behind_entry IsTail tail_one_front (first, s) es ys so.reads here front rest a.tails e (omega arith)

pub tail_fault : {first s : ℕ} {bytes mid : List ℕ} {es : List EntryIndex} {index offset count : ℕ} {fault : Error} (more : ℕ) →
    AreReadSoFar first s bytes mid es index offset → count ≡ length es + suc more → IsTailFault (index, offset) mid fault →
    IsSequenceFault behind_entry IsTail IsTailFault count (first, s) bytes fault
tail_fault {first} {s} {bytes} {mid} {es} {index} {offset} {count} {fault} more so c f =
    fault_after behind_entry IsTail IsTailFault (first, s) es count (suc more) fault c so.reads (inl (subst (λ (p : ℕ × ℕ). IsTailFault p mid fault) (sym so.state) f))

pub end_is : (next : ℕ × ℕ) (es : List EntryIndex) → end_behind next.1 es ≡ (state_after behind_entry next es).1
end_is next [] = refl
end_is next (e ∷ es) = end_is (behind_entry next e) es

tails_one_front : (n : ℕ) (next : ℕ × ℕ) → HasOneFront (AreTails n next)
tails_one_front n next a b more rest xs ys p q e = sequence_one_front behind_entry IsTail tail_one_front next xs ys a b more rest (p.count ∙ sym q.count) p.tails q.tails e

-- ---- behind the count

pub run_read : (s count first : ℕ) (bytes mid rest : List ℕ) (es : List EntryIndex) → 0 < count → Reads IsVarint bytes mid first → Reads (AreTails count (first, s)) mid rest es → Reads (AreIndexAndTails s count) bytes rest es
run_read s count first bytes mid rest [] some r t = let len : 0 ≡ count = t.spells.count in absurd (omega arith)
run_read s count first bytes mid rest (e ∷ es) some r t =
    let index : e.index ≡ first = t.spells.tails.first_spells.index in
    let both = reads_pair IsVarint (λ first. AreTails count (first, s)) first (e ∷ es) r t in
    record { front = both.front; spells = subst (λ (i : ℕ). IsFollowedBy IsVarint (λ first. AreTails count (first, s)) both.front i (e ∷ es)) (sym index) both.spells; split = both.split }

pub no_first_index : (s count : ℕ) (bytes : List ℕ) → 0 < count → HasNoFront IsVarint bytes → HasNoFront (AreIndexAndTails s count) bytes
no_first_index s count bytes some none front rest [] p e = let zero_is : count ≡ 0 = p.1 in absurd (omega arith)
no_first_index s count bytes some none front rest (x ∷ xs) p e = no_first IsVarint (λ first. AreTails count (first, s)) none front rest x.index (x ∷ xs) p e

pub no_tails : (s count first : ℕ) (bytes mid : List ℕ) → 0 < count → Reads IsVarint bytes mid first → HasNoFront (AreTails count (first, s)) mid → HasNoFront (AreIndexAndTails s count) bytes
no_tails s count first bytes mid some r none front rest [] p e = let zero_is : count ≡ 0 = p.1 in absurd (omega arith)
no_tails s count first bytes mid some r none front rest (x ∷ xs) p e = no_second IsVarint (λ first. AreTails count (first, s)) varint_one_front r none front rest x.index (x ∷ xs) p e

run_one_front : (s n : ℕ) → HasOneFront (AreIndexAndTails s n)
run_one_front s n a b more rest [] [] p q e = (p.0 ∙ sym q.0, refl)
run_one_front s n a b more rest [] (y ∷ ys) p q e = let zero_is : n ≡ 0 = p.1 in let len : suc (length ys) ≡ n = q.second_spells.count in absurd (omega arith)
run_one_front s n a b more rest (x ∷ xs) [] p q e = let zero_is : n ≡ 0 = q.1 in let len : suc (length xs) ≡ n = p.second_spells.count in absurd (omega arith)
run_one_front s n a b more rest (x ∷ xs) (y ∷ ys) p q e =
    let same = pair_one_front IsVarint (λ first. AreTails n (first, s)) varint_one_front (λ first. tails_one_front n (first, s)) a b more rest x.index y.index (x ∷ xs) (y ∷ ys) p q e in
    (same.0, same.2)

run_length : (s n : ℕ) (bytes : List ℕ) (es : List EntryIndex) → AreIndexAndTails s n bytes es → n ≡ length es
run_length s n bytes [] p = p.1
run_length s n bytes (e ∷ es) p = sym p.second_spells.count

pub entries_read : (s count : ℕ) (bytes mid rest : List ℕ) (es : List EntryIndex) → Reads IsVarint bytes mid count → Reads (AreIndexAndTails s count) mid rest es → Reads (IsEntries s) bytes rest es
entries_read s count bytes mid rest es r t =
    let both = reads_pair IsVarint (AreIndexAndTails s) count es r t in
    record { front = both.front; spells = subst (λ (n : ℕ). IsFollowedBy IsVarint (AreIndexAndTails s) both.front n es) (run_length s count t.front es t.spells) both.spells; split = both.split }

pub no_count : (s : ℕ) (bytes : List ℕ) → HasNoFront IsVarint bytes → HasNoFront (IsEntries s) bytes
no_count s bytes none front rest es p e = no_first IsVarint (AreIndexAndTails s) none front rest (length es) es p e

pub no_run : (s count : ℕ) (bytes mid : List ℕ) → Reads IsVarint bytes mid count → HasNoFront (AreIndexAndTails s count) mid → HasNoFront (IsEntries s) bytes
no_run s count bytes mid r none front rest es p e = no_second IsVarint (AreIndexAndTails s) varint_one_front r none front rest (length es) es p e

-- a fault behind the count and the first index
pub entries_fault : (s count first : ℕ) (bytes mid tails : List ℕ) (fault : Error) → 0 < count → Reads IsVarint bytes mid count → Reads IsVarint mid tails first → IsTailsFault count (first, s) tails fault → IsEntriesFault s bytes fault
entries_fault s count first bytes mid tails fault some r t f =
    inr (record {
      first = r.front;
      rest = mid;
      value = count;
      first_spells = r.spells;
      split = r.split;
      fault = (some, inr (record { first = t.front; rest = tails; value = first; first_spells = t.spells; split = t.split; fault = f }));
    })

pub entries_one_front : (s : ℕ) → HasOneFront (IsEntries s)
entries_one_front s a b more rest x y p q e =
    let same = pair_one_front IsVarint (AreIndexAndTails s) varint_one_front (run_one_front s) a b more rest (length x) (length y) x y p q e in
    (same.0, same.2)
