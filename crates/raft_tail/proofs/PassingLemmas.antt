-- On items that are passed over.
use Rattle.raft_tail.proofs.Common.{◌≡◌, ℕ, ◌+◌, ◌-◌, ◌^◌, ◌<◌, ◌≤◌, List, [], ◌∷◌, ◌++◌, length, Option, Some, None, Result, Ok, Err, IfOk, refl, sym, ap, ◌∙◌, arith, MatchOption, length_push, HasNoFront, IsSequence, Reads, IsVarint, EntryIndex, entry_between, AreTails}
use Rattle.raft_tail.proofs.Common.{IsCommand, IsItem, IsKeyValue, IsTail, end_of_content, Item, command, entries, pair, AreItems, end_of_items, counted_read, end_push, no_more_items, one_more_item, command_content, entries_content, item_read, pair_content, AreReadSoFar, end_is}
use Rattle.raft_tail.proofs.Common.{entries_read, no_more_tails, one_more_tail, run_read, AreCounted, ContentPasses, EntriesPass, ItemPasses, Passes, TailsPass}

-- what is there is another thing, and where nothing is, another thing holds
pub option_as : {X A B : Type 0} {P Q : X → Type 0} → (o : Option X) → (A → B) → ((x : X) → P x → Q x) → MatchOption o A P → MatchOption o B Q
option_as None none some h = none h
option_as (Some x) none some h = some x h

-- ---- tail offsets

-- so many tail offsets were passed, and behind them come this index and this offset
pub record AreTailsSoFar (first start : ℕ) (bytes rest : List ℕ) (index offset count : ℕ) : Type 0 where
  pub read : List EntryIndex
  pub so_far : AreReadSoFar first start bytes rest read index offset
  pub counted : length read ≡ count

pub no_tails_yet : (first start : ℕ) (bytes : List ℕ) → AreTailsSoFar first start bytes bytes first start 0
no_tails_yet first start bytes = record { read = []; so_far = record { reads = record { front = []; spells = refl; split = refl }; state = refl }; counted = refl }

pub one_tail_more : {first start : ℕ} {bytes mid rest : List ℕ} {index offset tail count : ℕ} → AreTailsSoFar first start bytes mid index offset count →
    offset ≤ tail → Reads (IsTail (index, offset)) mid rest (entry_between index offset tail) → AreTailsSoFar first start bytes rest (index + 1) tail (count + 1)
one_tail_more {first} {start} {bytes} {mid} {rest} {index} {offset} {tail} {count} so le r =
    let e = entry_between index offset tail in
    record {
      read = so.read ++ e ∷ [];
      so_far = one_more_tail first start bytes mid rest so.read index offset tail so.so_far le r;
      counted = omega (arith, length_push so.read e, so.counted);
    }

pub tails_end : {first start : ℕ} {bytes mid : List ℕ} {index offset count : ℕ} (all : ℕ) → AreTailsSoFar first start bytes mid index offset count →
    count < all → HasNoFront (IsTail (index, offset)) mid → HasNoFront (AreTails all (first, start)) bytes
tails_end all so lt none = no_more_tails all so.so_far (omega (arith, so.counted)) none

pub tails_pass : {first start : ℕ} {bytes rest : List ℕ} {index offset count all : ℕ} → AreTailsSoFar first start bytes rest index offset count → count ≡ all →
    TailsPass all (first, start) bytes rest offset
tails_pass {first} {start} so same =
    let reads = so.so_far.reads in
    record {
      read = so.read;
      reads = record { front = reads.front; spells = record { tails = reads.spells; count = so.counted ∙ same }; split = reads.split };
      ends = sym (end_is (first, start) so.read ∙ ap (λ (p : ℕ × ℕ). p.1) so.so_far.state);
    }

-- an index that no entry has
pub no_index : {index offset : ℕ} {bytes : List ℕ} → 2 ^ 64 - 1 ≤ index → HasNoFront (IsTail (index, offset)) bytes
no_index past front rest e t split = let fits : e.index < 2 ^ 64 - 1 = t.index_fits in absurd (omega (arith, fits, t.index, past))

-- ---- entries, contents and items

pub no_entries_pass : {start count : ℕ} {bytes rest : List ℕ} → count ≡ 0 → Reads IsVarint bytes rest count → EntriesPass start bytes rest start
no_entries_pass {start} {count} {bytes} {rest} none r =
    record { read = []; reads = entries_read start count bytes rest rest [] r (record { front = []; spells = (refl, none); split = refl }); ends = refl }

pub run_passes : {start count first : ℕ} {bytes mid tails rest : List ℕ} {end : ℕ} → 0 < count → Reads IsVarint bytes mid count → Reads IsVarint mid tails first →
    TailsPass count (first, start) tails rest end → EntriesPass start bytes rest end
run_passes {start} {count} {first} {bytes} {mid} {tails} {rest} some r s t =
    record {
      read = t.read;
      reads = entries_read start count bytes mid rest t.read r (run_read start count first mid tails rest t.read some s t.reads);
      ends = t.ends;
    }

pub entries_pass : {start : ℕ} {bytes behind rest : List ℕ} {end : ℕ} → bytes ≡ 1 ∷ behind → EntriesPass start behind rest end → ContentPasses start bytes rest end
entries_pass {start} {bytes} {behind} {rest} split p = record { read = entries p.read; reads = entries_content start bytes behind rest p.read split p.reads; ends = p.ends }

pub command_passes : {start : ℕ} {bytes behind rest : List ℕ} → bytes ≡ 2 ∷ behind → Passes IsCommand behind rest → ContentPasses start bytes rest start
command_passes {start} {bytes} {behind} {rest} split p = record { read = command p.0; reads = command_content start bytes behind rest p.0 split p.1; ends = refl }

pub change_passes : {start : ℕ} {bytes behind rest : List ℕ} → bytes ≡ 3 ∷ behind → Passes IsKeyValue behind rest → ContentPasses start bytes rest start
change_passes {start} {bytes} {behind} {rest} split p = record { read = pair p.0; reads = pair_content start bytes behind rest p.0 split p.1; ends = refl }

pub item_passes : {start region : ℕ} {bytes mid rest : List ℕ} {end : ℕ} → Reads IsVarint bytes mid region → ContentPasses start mid rest end → ItemPasses start bytes rest end
item_passes {start} {region} {bytes} {mid} {rest} r p =
    record { read = record { raft_group_id = region; content = p.read }; reads = item_read start region bytes mid rest p.read r p.reads; ends = p.ends }

-- ---- items

-- so many items were passed, and behind their entries comes this offset
pub record AreItemsSoFar (bytes rest : List ℕ) (offset count : ℕ) : Type 0 where
  pub read : List Item
  pub reads : Reads (IsSequence (λ s (item : Item). end_of_content s item.content) IsItem 0) bytes rest read
  pub ends : offset ≡ end_of_items 0 read
  pub counted : length read ≡ count

pub no_items_yet : (bytes : List ℕ) → AreItemsSoFar bytes bytes 0 0
no_items_yet bytes = record { read = []; reads = record { front = []; spells = refl; split = refl }; ends = refl; counted = refl }

pub one_item_more : {bytes mid rest : List ℕ} {offset end count : ℕ} → AreItemsSoFar bytes mid offset count → ItemPasses offset mid rest end → AreItemsSoFar bytes rest end (count + 1)
one_item_more {bytes} {mid} {rest} {offset} so p =
    record {
      read = so.read ++ p.read ∷ [];
      reads = one_more_item bytes mid rest so.read p.read offset so.reads so.ends p.reads;
      ends = p.ends ∙ ap (λ (s : ℕ). end_of_content s p.read.content) so.ends ∙ sym (end_push 0 so.read p.read);
      counted = omega (arith, length_push so.read p.read, so.counted);
    }

pub items_end : {bytes mid : List ℕ} {offset count : ℕ} (all : ℕ) → AreItemsSoFar bytes mid offset count → count < all → HasNoFront (IsItem offset) mid → HasNoFront (AreItems all) bytes
items_end {bytes} {mid} {offset} all so lt none = no_more_items bytes mid so.read offset all so.reads so.ends (omega (arith, so.counted)) none

pub items_pass : {bytes rest : List ℕ} {offset count all : ℕ} → AreItemsSoFar bytes rest offset count → count ≡ all → Passes (AreItems all) bytes rest
items_pass so same =
    (so.read, record { front = so.reads.front; spells = record { spelled = so.reads.spells; count = so.counted ∙ same }; split = so.reads.split })

pub counted_pass : {bytes mid rest : List ℕ} {count : ℕ} → Reads IsVarint bytes mid count → Passes (AreItems count) mid rest → Passes AreCounted bytes rest
counted_pass {bytes} {mid} {rest} {count} r p = (p.0, counted_read count bytes mid rest p.0 r p.1)

-- where a call succeeds, what is said of its value says another thing
pub ok_as : {T E : Type 0} {P Q : T → Type 0} → (r : Result T E) → ((x : T) → P x → Q x) → IfOk r P → IfOk r Q
ok_as (Ok x) f h = f x h
ok_as (Err y) f h = tt
