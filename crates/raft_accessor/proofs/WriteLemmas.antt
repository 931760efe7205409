-- One item written to its region's table.
use Rattle.raft_accessor.proofs.Common.{Append, ◌≡◌, ◌⊎◌, ℕ, true, false, cond, List, [], ◌++◌, append-nil, Option, Some, None, Result, Ok, Err, refl, sym, ap, subst, ◌∙◌, inl, inr, option_map, is_some, Global, Vec, OnOk, OnErr, IfErr}
use Rattle.raft_accessor.proofs.Common.{false≢true, Error, LogQueue, EntryIndex, is_reserved, Item, Content, Pair, entries, pair, Tables, Counts, live, file_at, entries_after_append, entries_after_replay, IsTableRunFault, table_of, Table}
use Rattle.raft_accessor.proofs.Common.{append_full, replay_full, table_in, IsItemWritten, IsCorruption, IsReplayFault, BecomesOutcome, Writing, Appending, Replaying, queue_of, after_content, counts_after_content, counts_after_change}
use Rattle.raft_accessor.proofs.Common.{after_rewrite_put, with_change, lists, listed_by, cleaned_by_content, IsFor, MixesQueues, IsWriteFault}
use Rattle.std.specs.FinMap as finite
use Rattle.raft_base.specs.declared.errors.Error.TheVariants as errors
use Rattle.raft_accessor.proofs.MapLemmas.{one_same}

-- what is done to the table is what the content asks for, and no region is listed
pub written_by : (w : Writing) (item : Item) (outcome : Option Table) (IsFault : Error → Type 0) (old : Tables) (counts : Counts) (list : List ℕ)
    (r : Result Unit Error) (new : Tables) (after : Counts) → BecomesOutcome outcome IsFault old item.raft_group_id counts r new after
    → IsFor w item.content → OnOk r (MixesQueues w (table_in old item.raft_group_id) item.content → ⊥) →
    OnOk r (after ≡ counts_after_content w (table_in old item.raft_group_id) item.content counts) → listed_by w item ≡ [] →
    after_content w item.raft_group_id (finite.get old item.raft_group_id) item.content ≡ option_map Some outcome
    → ((e : Error) → IsFault e → IsWriteFault w item.raft_group_id (finite.get old item.raft_group_id) (live (queue_of w) counts) item.content e) → IsItemWritten w item old counts list r new after list
written_by w item outcome IsFault old counts list r new after h asked alone counted none is fault = record {
  accepted = alone;
  counts_ok = counted;
  asked = elim r as (λ r. OnOk r (IsFor w item.content)) [ Ok a ↦ asked | Err x ↦ tt ];
  ok = elim r as (λ r. OnOk r (outcome ≡ Some (table_in new item.raft_group_id)) →
      OnOk r (finite.get new item.raft_group_id ≡ Some (table_in new item.raft_group_id)) →
      OnOk r (after_content w item.raft_group_id (finite.get old item.raft_group_id) item.content ≡ Some (finite.get new item.raft_group_id))) [
        | Ok a ↦ λ e t. is ∙ ap (option_map Some) e ∙ ap Some (sym t)
        | Err x ↦ λ e t. tt
      ] h.ok h.there;
  cleaned = elim r as (λ r. OnOk r (list ≡ list ++ listed_by w item)) [ Ok a ↦ sym (append-nil list) ∙ sym (ap (λ l. list ++ l) none) | Err x ↦ tt ];
  err = h.err;
  counts_err = h.counts_err;
  cleaned_err = elim r as (λ r. OnErr r (list ≡ list)) [ Ok a ↦ tt | Err x ↦ refl ];
  fault = elim r as (λ r. IfErr r (λ e. (e ≡ errors.Memory) ⊎ IsFault e) → IfErr r (IsWriteFault w item.raft_group_id (finite.get old item.raft_group_id) (live (queue_of w) counts) item.content)) [
    | Ok a ↦ λ f. tt
    | Err x ↦ λ f. elim f [ inl e ↦ subst (IsWriteFault w item.raft_group_id (finite.get old item.raft_group_id) (live (queue_of w) counts) item.content) (sym e) tt | inr g ↦ fault x g ]
  ] h.fault;
  one = h.one;
  recounted = h.recounted;
}

-- an item that is refused changes nothing
pub refused_by : (w : Writing) (item : Item) (old : Tables) (counts : Counts) (list : List ℕ) (e : Error) →
    IsWriteFault w item.raft_group_id (finite.get old item.raft_group_id) (live (queue_of w) counts) item.content e →
    IsItemWritten w item old counts list (Err e) old counts list
refused_by w item old counts list e fault = record {
  accepted = tt;
  counts_ok = tt;
  asked = tt;
  ok = tt;
  cleaned = tt;
  err = refl;
  counts_err = refl;
  cleaned_err = refl;
  fault = fault;
  one = one_same old old item.raft_group_id refl;
  recounted = λ q. refl;
}

-- nor does one that is skipped
pub skipped_by : (w : Writing) (item : Item) (old : Tables) (counts : Counts) (list : List ℕ) → IsFor w item.content →
    (MixesQueues w (table_in old item.raft_group_id) item.content → ⊥) →
    counts_after_content w (table_in old item.raft_group_id) item.content counts ≡ counts → listed_by w item ≡ [] →
    after_content w item.raft_group_id (finite.get old item.raft_group_id) item.content ≡ Some (finite.get old item.raft_group_id) →
    IsItemWritten w item old counts list (Ok tt) old counts list
skipped_by w item old counts list asked alone counted none is = record {
  accepted = alone;
  counts_ok = sym counted;
  asked = asked;
  ok = is;
  cleaned = sym (append-nil list) ∙ sym (ap (λ l. list ++ l) none);
  err = tt;
  counts_err = tt;
  cleaned_err = tt;
  fault = tt;
  one = one_same old old item.raft_group_id refl;
  recounted = λ q. refl;
}

-- ---- why runs are refused

by_append : (id : ℕ) (o : Option Table) (rs : List EntryIndex) (p : Option (List EntryIndex)) (counts : Counts) (e : Error) →
    entries_after_append (table_of id o).entries rs ≡ p → IsTableRunFault Append counts (table_of id o).entries p e →
    IsWriteFault Appending id o (live Append counts) (entries rs) e
by_append id o rs None counts (errors.Corruption text) is h = inr (ap (λ p. option_map Some (option_map {U = Table} (λ es. record (table_of id o) { entries = es }) p)) is)
by_append id o rs None counts errors.Memory is h = tt
by_append id o rs (Some after) counts errors.Full is h = append_full Append counts (table_of id o).entries rs (subst (λ p. IsTableRunFault Append counts (table_of id o).entries p errors.Full) (sym is) h)
by_append id o rs (Some after) counts errors.Memory is h = tt
by_append id o rs p counts e is h = absurd h

pub append_fault : (id : ℕ) (o : Option Table) (rs : List EntryIndex) (counts : Counts) (e : Error) →
    IsTableRunFault Append counts (table_of id o).entries (entries_after_append (table_of id o).entries rs) e →
    IsWriteFault Appending id o (live Append counts) (entries rs) e
append_fault id o rs counts e h = by_append id o rs _ counts e refl h

by_replay : (q : LogQueue) (id : ℕ) (o : Option Table) (rs : List EntryIndex) (p : Option (List EntryIndex)) (counts : Counts) (e : Error) →
    entries_after_replay q (table_of id o).entries rs ≡ p → IsTableRunFault q counts (table_of id o).entries p e →
    IsWriteFault (Replaying q) id o (live q counts) (entries rs) e
by_replay q id o rs None counts (errors.Corruption text) is h = inr (ap (λ p. option_map Some (option_map {U = Table} (λ es. record (table_of id o) { entries = es }) p)) is)
by_replay q id o rs None counts errors.Memory is h = tt
by_replay q id o rs (Some after) counts errors.Full is h = replay_full q q counts (table_of id o).entries rs (subst (λ p. IsTableRunFault q counts (table_of id o).entries p errors.Full) (sym is) h)
by_replay q id o rs (Some after) counts errors.Memory is h = tt
by_replay q id o rs p counts e is h = absurd h

pub replay_fault : (q : LogQueue) (id : ℕ) (o : Option Table) (rs : List EntryIndex) (counts : Counts) (e : Error) → IsReplayFault q rs (table_of id o) counts e → IsWriteFault (Replaying q) id o (live q counts) (entries rs) e
replay_fault q id o rs counts (errors.InvalidArgument text) h = h
replay_fault q id o rs counts errors.Memory h = tt
replay_fault q id o rs counts e h = by_replay q id o rs _ counts e refl h

-- what isn't as asked, or has no outcome
pub no_outcome : (w : Writing) (id : ℕ) (o : Option Table) (live : ℕ) (content : Content) (text : List ℕ) (e : Error) → IsCorruption text e → (IsFor w content → ⊥) ⊎ (after_content w id o content ≡ None) → IsWriteFault w id o live content e
no_outcome w id o live content text (errors.Corruption t) h k = k
no_outcome w id o live content text errors.Memory h k = tt
no_outcome w id o live content text e h k = absurd h

-- ---- why changes of keys are refused

-- a rewriting of a key without a value has no outcome
pub no_value : (gate : Option ℕ) (seq : ℕ) (t : Table) (key : List ℕ) (v : Option (Vec ℕ Global)) → is_some v ≡ false → after_rewrite_put gate seq t key (option_map (λ v. v.items) v) ≡ None
no_value gate seq t key None e = refl
no_value gate seq t key (Some v) e = absurd (false≢true (sym e))

-- the reserved key is skipped, and not counted
pub reserved_step : (w : Writing) (id : ℕ) (o : Option Table) (p : Pair) → is_reserved p.key ≡ true → after_content w id o (pair p) ≡ Some o
reserved_step w id o p e = ap (λ b. cond b (Some o) (option_map Some (with_change w (table_of id o) p))) e

pub reserved_counts : (w : Writing) (t : Table) (p : Pair) (counts : Counts) → is_reserved p.key ≡ true → counts_after_content w t (pair p) counts ≡ counts
reserved_counts w t p counts e = ap (λ b. cond b counts (counts_after_change w (file_at t.keys p.key) p counts)) e

pub change_step : (w : Writing) (id : ℕ) (o : Option Table) (p : Pair) → is_reserved p.key ≡ false → after_content w id o (pair p) ≡ option_map Some (with_change w (table_of id o) p)
change_step w id o p e = ap (λ b. cond b (Some o) (option_map Some (with_change w (table_of id o) p))) e

-- only a Clean is listed
pub none_listed : (w : Writing) (item : Item) → cleaned_by_content item.raft_group_id item.content ≡ [] → listed_by w item ≡ []
none_listed w item e = elim (lists w) as (λ b. cond b (cleaned_by_content item.raft_group_id item.content) [] ≡ []) [ true ↦ e | false ↦ refl ]
