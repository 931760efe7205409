-- Entries that are read by their blocks, one after another.
use Rattle.raft_engine.proofs.Common.{◌≡◌, ◌≢◌, ◌⊎◌, ℕ, suc, ◌+◌, ◌<◌, ◌≤◌, List, [], ◌∷◌, ◌++◌, get_or, length, map, take, drop, Option, Some, None, Vec, Contains, string_bytes, inl, inr, refl, sym, ap, subst, ◌∙◌, append_assoc, arith, Global, AllZip, concat, append-nil}
use Rattle.raft_engine.proofs.Common.{drop_at, length-append, length-drop, length-take-le, take-append-drop, take-append-le, take_all, take_at, take_more, Contains-append_right, EntryIndex, Error, FileBlockHandle, IsCorruption, IsCorruptionError, IsAnyCorruption, IsEntryBlockOf}
use Rattle.raft_engine.proofs.Common.{IsLentBlockFault, strings_in, HasSeal, checksum_bytes, entry_lengths, checksum_len, content_is, block_count, Ask, Read, ask, AreBytesIn, AreNoBytesIn, IsBlockOf, IsKeptOf, IsNoBlockOf, IsOfEntry, IsSoundRead, IsUnsoundRead, IsNothingRead}
use Rattle.raft_engine.proofs.Common.{AreReadByBlocks, AreReads, AreUnread, IsDamaged, IsReadAmong, NamesEntry, EntryBlock, Failures}
use Rattle.raft_base.specs.declared.errors.Error.TheVariants as errors
use Rattle.raft_engine.proofs.BlockCounts.{EndsAt, ends_more, prefix_count, other_count, same_count}

-- ---- blocks

-- a block has one checksum, so one content
one_sealed : (bytes a b : List ℕ) → HasSeal None bytes a → HasSeal None bytes b → a ≡ b
one_sealed bytes a b h k = sym (content_is None bytes a b (checksum_bytes None a) h.split (checksum_len None a) k).0

one_block : (len : ℕ) (block a b : List ℕ) → IsEntryBlockOf len block a → IsEntryBlockOf len block b → a ≡ b
one_block len block a b (inl h) (inl k) = h.1 ∙ sym k.1
one_block len block a b (inl h) (inr k) = let zero = h.0 in let some = k.0 in absurd (omega (arith, zero, some))
one_block len block a b (inr h) (inl k) = let zero = k.0 in let some = h.0 in absurd (omega (arith, zero, some))
one_block len block a b (inr h) (inr k) = one_sealed _ a b h.2 k.2

-- its entries' bytes are its first ones
pub entries_first : (len : ℕ) (block entries : List ℕ) → IsEntryBlockOf len block entries → entries ≡ take (length entries) block
entries_first len block entries (inl h) = h.1 ∙ ap (λ (l : List ℕ). take (length l) block) (sym h.1)
entries_first len block entries (inr h) =
    let behind : List ℕ = checksum_bytes None entries in
    let whole : length (take len block) ≡ len = length-take-le len block h.1 in
    let parts : length (take len block) ≡ length entries + length behind = ap length h.2.split ∙ length-append entries behind in
    let fits : length entries ≤ length (take len block) = omega (arith, parts) in
    sym (ap (take (length entries)) (sym (take-append-drop len block)) ∙ take-append-le (length entries) (take len block) (drop len block) fits
    ∙ ap (take (length entries)) h.2.split ∙ take_at entries behind (length entries) refl)

-- ---- what is among reads

here : (a : Ask) (asks : List Ask) → Contains (a ∷ asks) a
here a asks = (0, omega arith, refl)

there : (a b : Ask) (asks : List Ask) → Contains asks a → Contains (b ∷ asks) a
there a b asks h = Contains-append_right (b ∷ []) asks a h

read_there : (a : Ask) (reads : List Ask) (e : EntryIndex) (bytes : List ℕ) → IsReadAmong reads e bytes → IsReadAmong (a ∷ reads) e bytes
read_there a reads e bytes h = record {
  place = h.place;
  block = h.block;
  read = record { placed = h.read.placed; read = there _ a reads h.read.read };
  entries = h.entries;
  sound = h.sound;
  inside = h.inside;
  are = h.are;
}

all_there : (a : Ask) (reads : List Ask) (es : List EntryIndex) (strings : List (List ℕ)) → AllZip (IsReadAmong reads) es strings → AllZip (IsReadAmong (a ∷ reads)) es strings
all_there a reads [] [] h = h
all_there a reads (e ∷ es) (bytes ∷ strings) h = (read_there a reads e bytes h.0, all_there a reads es strings h.1)
all_there a reads [] (bytes ∷ strings) h = absurd h
all_there a reads (e ∷ es) [] h = absurd h

one_more : (reads : List Ask) (es : List EntryIndex) (strings : List (List ℕ)) (e : EntryIndex) (bytes : List ℕ) → AllZip (IsReadAmong reads) es strings → IsReadAmong reads e bytes
    → AllZip (IsReadAmong reads) (es ++ e ∷ []) (strings ++ bytes ∷ [])
one_more reads [] [] e bytes h k = (k, tt)
one_more reads (x ∷ es) (s ∷ strings) e bytes h k = (h.0, one_more reads es strings e bytes h.1 k)
one_more reads [] (s ∷ strings) e bytes h k = absurd h
one_more reads (x ∷ es) [] e bytes h k = absurd h

-- ---- what a loop has

-- the block that is kept was read, and is sound
pub record IsKeptRead (reads : List Ask) (kept : EntryBlock) : Type 0 where
  pub block : List ℕ
  pub read : Contains reads (ask kept.place.id.queue (Read kept.place block))
  pub sound : IsEntryBlockOf kept.place.len block kept.entries.items

-- it is that of the last of these entries
abbrev pub IsLastKept : List Ask → List EntryIndex → Option EntryBlock → Type 0
IsLastKept reads es None = es ≡ []
IsLastKept reads es (Some kept) = EndsAt es kept.place × IsKeptRead reads kept

-- these entries were read, and the block of the last one is kept
pub record AreReadSoFar (es : List EntryIndex) (strings : List (List ℕ)) (kept : Option EntryBlock) (old new : List Ask) : Type 0 where
  pub read : AreReadByBlocks es strings old new
  pub last : IsLastKept read.reads es kept

-- these entries and the block of the next one were read
pub record IsNextBlock (es : List EntryIndex) (strings : List (List ℕ)) (e : EntryIndex) (block : EntryBlock) (old new : List Ask) : Type 0 where
  pub reads : List Ask
  pub only : AreReads reads
  pub asked : new ≡ reads ++ old
  pub once : length reads ≡ block_count (es ++ e ∷ [])
  pub have : AllZip (IsReadAmong reads) es strings
  pub placed : e.entries ≡ Some block.place
  pub kept : IsKeptRead reads block

pub none_yet : (strings : List (List ℕ)) (old : List Ask) → strings ≡ [] → AreReadSoFar [] strings None old old
none_yet [] old e = record {
  read = record { reads = []; only = tt; asked = refl; once = refl; have = tt };
  last = refl;
}
none_yet (bytes ∷ strings) old e = absurd cc

-- a block more is read
block_read : (es : List EntryIndex) (strings : List (List ℕ)) (e : EntryIndex) (block : EntryBlock) (old now new : List Ask) (r : AreReadByBlocks es strings old now)
    → block_count (es ++ e ∷ []) ≡ suc (block_count es) → e.entries ≡ Some block.place → IsSoundRead block.place block.entries.items now new → IsNextBlock es strings e block old new
block_read es strings e block old now new r count placed s =
    let a : Ask = ask block.place.id.queue (Read block.place s.block) in record {
      reads = a ∷ r.reads;
      only = ((block.place, s.block, refl), r.only);
      asked = s.asked ∙ ap (λ (l : List Ask). a ∷ l) r.asked;
      once = ap suc r.once ∙ sym count;
      have = all_there a r.reads es strings r.have;
      placed = placed;
      kept = record { block = s.block; read = here a r.reads; sound = s.sound };
    }

-- the next entry is in another block than the last one
count_other : (reads : List Ask) (es : List EntryIndex) (e : EntryIndex) (kept : Option EntryBlock) → IsLastKept reads es kept → (IsKeptOf e kept → ⊥) → block_count (es ++ e ∷ []) ≡ suc (block_count es)
count_other reads es e None h n = ap (λ (l : List EntryIndex). block_count (l ++ e ∷ [])) h ∙ ap (λ (l : List EntryIndex). suc (block_count l)) (sym h)
count_other reads es e (Some kept) h n = other_count es e kept.place h.0 n

pub next_block : (es : List EntryIndex) (strings : List (List ℕ)) (e : EntryIndex) (kept : Option EntryBlock) (block : EntryBlock) (old now new : List Ask)
    → AreReadSoFar es strings kept old now → IsBlockOf e kept block now new → IsNextBlock es strings e block old new
next_block es strings e kept block old now new r b = at b.got
  where
    same : (kept : Option EntryBlock) → IsLastKept r.read.reads es kept → kept ≡ Some block → EndsAt es block.place × IsKeptRead r.read.reads block
    same kept h e = subst (IsLastKept r.read.reads es) e h

    at : ((kept ≡ Some block) × (new ≡ now)) ⊎ ((IsKeptOf e kept → ⊥) × IsSoundRead block.place block.entries.items now new) → IsNextBlock es strings e block old new
    at (inl h) =
        let last : EndsAt es block.place × IsKeptRead r.read.reads block = same kept r.last h.0 in record {
          reads = r.read.reads;
          only = r.read.only;
          asked = h.1 ∙ r.read.asked;
          once = r.read.once ∙ sym (same_count es e block.place last.0 b.placed);
          have = r.read.have;
          placed = b.placed;
          kept = last.1;
        }
    at (inr h) = block_read es strings e block old now new r.read (count_other r.read.reads es e kept r.last h.0) b.placed h.1

-- an entry that was read has as many bytes as its length says
read_length : (reads : List Ask) (e : EntryIndex) (bytes : List ℕ) → IsReadAmong reads e bytes → length bytes ≡ e.entry_len
read_length reads e bytes r =
    let behind = length-drop e.entry_offset r.entries in
    let fits = r.inside in
    ap length r.are ∙ length-take-le e.entry_len (drop e.entry_offset r.entries) (omega (arith, behind, fits))

-- the entry's bytes are found in it
pub next_bytes : (es : List EntryIndex) (strings : List (List ℕ)) (e : EntryIndex) (bytes : List ℕ) (block : EntryBlock) (old new : List Ask)
    → IsNextBlock es strings e block old new → AreBytesIn block.entries.items e bytes → AreReadSoFar (es ++ e ∷ []) (strings ++ bytes ∷ []) (Some block) old new
next_bytes es strings e bytes block old new n b =
    let one : IsReadAmong n.reads e bytes = record {
      place = block.place;
      block = n.kept.block;
      read = record { placed = n.placed; read = n.kept.read };
      entries = block.entries.items;
      sound = n.kept.sound;
      inside = b.inside;
      are = b.are;
    } in record {
      read = record { reads = n.reads; only = n.only; asked = n.asked; once = n.once; have = one_more n.reads es strings e bytes n.have one };
      last = (ends_more es e block.place n.placed, n.kept);
    }

-- ---- refusals

-- a refusal as corruption or for want of memory is so with the entry that it is about, which it names
with_entry : (region index : ℕ) (place : FileBlockHandle) (fault error : Error) → IsOfEntry region index place fault error → IsAnyCorruption fault
    → (error ≡ errors.Memory) ⊎ (IsCorruptionError error × NamesEntry region index place error)
with_entry region index place (errors.Corruption reason) (errors.Corruption text) of any = inr (tt, (string_bytes reason, of))
with_entry region index place (errors.Corruption reason) errors.Memory of any = inl refl
with_entry region index place (errors.Corruption reason) (errors.InvalidArgument text) of any = absurd of
with_entry region index place (errors.Corruption reason) (errors.Io fault) of any = absurd of
with_entry region index place (errors.Corruption reason) (errors.Codec fault) of any = absurd of
with_entry region index place (errors.Corruption reason) (errors.Message fault) of any = absurd of
with_entry region index place (errors.Corruption reason) (errors.TryAgain text) of any = absurd of
with_entry region index place (errors.Corruption reason) errors.EntryCompacted of any = absurd of
with_entry region index place (errors.Corruption reason) errors.EntryNotFound of any = absurd of
with_entry region index place (errors.Corruption reason) errors.Full of any = absurd of
with_entry region index place (errors.Corruption reason) (errors.Other text) of any = absurd of
with_entry region index place (errors.Corruption reason) errors.Failed of any = absurd of
with_entry region index place errors.Memory error of any = inl of
with_entry region index place (errors.InvalidArgument text) error of any = absurd any
with_entry region index place (errors.Io fault) error of any = absurd any
with_entry region index place (errors.Codec fault) error of any = absurd any
with_entry region index place (errors.Message fault) error of any = absurd any
with_entry region index place (errors.TryAgain text) error of any = absurd any
with_entry region index place errors.EntryCompacted error of any = absurd any
with_entry region index place errors.EntryNotFound error of any = absurd any
with_entry region index place errors.Full error of any = absurd any
with_entry region index place (errors.Other text) error of any = absurd any
with_entry region index place errors.Failed error of any = absurd any

-- a refusal by a text is one as corruption, or for want of memory
by_text : (text : List ℕ) (e : Error) → IsCorruption text e → IsAnyCorruption e
by_text text (errors.Corruption reason) is = tt
by_text text errors.Memory is = tt
by_text text (errors.InvalidArgument reason) is = is
by_text text (errors.Io fault) is = is
by_text text (errors.Codec fault) is = is
by_text text (errors.Message fault) is = is
by_text text (errors.TryAgain reason) is = is
by_text text errors.EntryCompacted is = is
by_text text errors.EntryNotFound is = is
by_text text errors.Full is = is
by_text text (errors.Other reason) is = is
by_text text errors.Failed is = is

-- so is every refusal of a block
block_fault : (len : ℕ) (block : List ℕ) (e : Error) → IsLentBlockFault len block e → IsAnyCorruption e
block_fault len block e (inl short) = short.1
block_fault len block e (inr (some, long, inl short)) = by_text _ e short.1
block_fault len block e (inr (some, long, inr sum)) = by_text _ e sum.error

-- no sound block was read for an entry, and the refusal names it; or there is no memory
pub unsound_read : (region index : ℕ) (place : FileBlockHandle) (block : List ℕ) (old new : List Ask) (fault error : Error) → new ≡ ask place.id.queue (Read place block) ∷ old
    → ((entries : List ℕ) → IsEntryBlockOf place.len block entries → ⊥) → IsLentBlockFault place.len block fault → IsOfEntry region index place fault error
    → IsUnsoundRead region index place old new error
unsound_read region index place block old new fault error asked none why of = record { block = block; asked = asked; why = go (with_entry region index place fault error of (block_fault place.len block fault why)) }
  where
    go : (error ≡ errors.Memory) ⊎ (IsCorruptionError error × NamesEntry region index place error)
        → (error ≡ errors.Memory) ⊎ (IsCorruptionError error × NamesEntry region index place error × ((entries : List ℕ) → IsEntryBlockOf place.len block entries → ⊥))
    go (inl memory) = inl memory
    go (inr named) = inr (named.0, named.1, none)

-- the bytes of an entry aren't in its block, and the refusal names it; or there is no memory
pub no_bytes : (region : ℕ) (place : FileBlockHandle) (entries : List ℕ) (e : EntryIndex) (fault error : Error) → length entries < e.entry_offset + e.entry_len → IsAnyCorruption fault
    → IsOfEntry region e.index place fault error → AreNoBytesIn region place entries e error
no_bytes region place entries e fault error lacks any of = go (with_entry region e.index place fault error of any)
  where
    go : (error ≡ errors.Memory) ⊎ (IsCorruptionError error × NamesEntry region e.index place error) → AreNoBytesIn region place entries e error
    go (inl memory) = inl memory
    go (inr named) = inr (named.0, named.1, lacks)

-- of entries that were read, the next one isn't
at_next : (es rest : List EntryIndex) (e : EntryIndex) → Contains (es ++ e ∷ rest) e
at_next es rest e = Contains-append_right es (e ∷ rest) e (0, omega arith, refl)

some_entries : (es rest : List EntryIndex) (e : EntryIndex) → es ++ e ∷ rest ≢ []
some_entries [] rest e h = cc
some_entries (x ∷ es) rest e h = cc

more_blocks : (es rest : List EntryIndex) (e : EntryIndex) (n : ℕ) → block_count (es ++ e ∷ []) ≡ suc (block_count es) → n ≡ block_count es → n < block_count (es ++ e ∷ rest)
more_blocks es rest e n count is =
    let h : block_count (es ++ e ∷ []) ≤ block_count ((es ++ e ∷ []) ++ rest) = prefix_count (es ++ e ∷ []) rest in
    let k : block_count ((es ++ e ∷ []) ++ rest) ≡ block_count (es ++ e ∷ rest) = ap block_count (joined es) in
    omega (arith, h, k, count, is)
  where
    joined : (l : List EntryIndex) → (l ++ e ∷ []) ++ rest ≡ l ++ e ∷ rest
    joined [] = refl
    joined (x ∷ l) = ap (λ t. x ∷ t) (joined l)

pub no_next_block : {MayFail : Failures} (region : ℕ) (es rest : List EntryIndex) (strings : List (List ℕ)) (e : EntryIndex) (kept : Option EntryBlock) (old now new : List Ask) (error : Error)
    → AreReadSoFar es strings kept old now → IsNoBlockOf MayFail region e kept now new error → AreUnread MayFail region (es ++ e ∷ rest) old new error
no_next_block {MayFail} region es rest strings e kept old now new error r b = at b.unread
  where
    at : ((new ≡ now) × ((error ≡ errors.Memory) ⊎ IsNothingRead MayFail e now error)) ⊎ ((place : FileBlockHandle) × (e.entries ≡ Some place) × IsUnsoundRead region e.index place now new error) → AreUnread MayFail region (es ++ e ∷ rest) old new error
    at (inl h) = record {
      some = some_entries es rest e;
      reads = r.read.reads;
      only = r.read.only;
      asked = h.0 ∙ r.read.asked;
      why = elim h.1 [
        | inl memory ↦ inr (inl memory)
        | inr nothing ↦ inl (
          more_blocks es rest e _ (count_other r.read.reads es e kept r.last b.other) r.read.once,
          (e, at_next es rest e, subst (λ (l : List Ask). IsNothingRead MayFail e l error) (sym h.0) nothing),
        )
      ];
    }
    at (inr h) =
        let place : FileBlockHandle = h.0 in
        let s : IsUnsoundRead region e.index place now new error = h.2 in
        let a : Ask = ask place.id.queue (Read place s.block) in record {
          some = some_entries es rest e;
          reads = a ∷ r.read.reads;
          only = ((place, s.block, refl), r.read.only);
          asked = s.asked ∙ ap (λ (l : List Ask). a ∷ l) r.read.asked;
          why = inr (because s.why);
        }
      where
        because : (error ≡ errors.Memory) ⊎ (IsCorruptionError error × NamesEntry region e.index h.0 error × ((entries : List ℕ) → IsEntryBlockOf h.0.len h.2.block entries → ⊥))
            → (error ≡ errors.Memory) ⊎ (IsCorruptionError error
            × ((x : EntryIndex) × Contains (es ++ e ∷ rest) x × (d : IsDamaged (ask h.0.id.queue (Read h.0 h.2.block) ∷ r.read.reads) x) × NamesEntry region x.index d.place error))
        because (inl m) = inl m
        because (inr c) = inr (
          c.0,
          (
            e,
            at_next es rest e,
            record {
              place = h.0;
              block = h.2.block;
              read = record { placed = h.1; read = here _ r.read.reads };
              lacks = λ entries sound. absurd (c.2 entries sound);
            },
            c.1,
          ),
        )

pub no_next_bytes : {MayFail : Failures} (region : ℕ) (es rest : List EntryIndex) (strings : List (List ℕ)) (e : EntryIndex) (block : EntryBlock) (old new : List Ask) (error : Error)
    → IsNextBlock es strings e block old new → AreNoBytesIn region block.place block.entries.items e error → AreUnread MayFail region (es ++ e ∷ rest) old new error
no_next_bytes region es rest strings e block old new error n (inl m) = record { some = some_entries es rest e; reads = n.reads; only = n.only; asked = n.asked; why = inr (inl m) }
no_next_bytes region es rest strings e block old new error n (inr c) = record {
  some = some_entries es rest e;
  reads = n.reads;
  only = n.only;
  asked = n.asked;
  why = inr (inr (
    c.0,
    (
      e,
      at_next es rest e,
      record {
        place = block.place;
        block = n.kept.block;
        read = record { placed = n.placed; read = n.kept.read };
        lacks = λ entries sound. subst (λ (l : List ℕ). length l < e.entry_offset + e.entry_len) (one_block block.place.len n.kept.block block.entries.items entries n.kept.sound sound) c.2;
      },
      c.1,
    ),
  ));
}

-- ---- in a loop

split_at : (i : ℕ) (es : List EntryIndex) (d : EntryIndex) → i < length es → take i es ++ get_or es i d ∷ drop (i + 1) es ≡ es
split_at i es d l = sym (ap (λ (front : List EntryIndex). front ++ drop (i + 1) es) (take_more es i d l) ∙ append_assoc (take i es) (get_or es i d ∷ []) (drop (i + 1) es)) ∙ take-append-drop (i + 1) es

abbrev bytes_in_all : List (Vec ℕ Global) → List (List ℕ)
bytes_in_all seen = map (λ (s : Vec ℕ Global). s.items) seen

pub no_block_at : {MayFail : Failures} (region i : ℕ) (es : List EntryIndex) (d : EntryIndex) (seen : List (Vec ℕ Global)) (kept : Option EntryBlock) (old now new : List Ask) (error : Error) → i < length es
    → AreReadSoFar (take i es) (map (λ s. s.items) seen) kept old now → IsNoBlockOf MayFail region (get_or es i d) kept now new error → AreUnread MayFail region es old new error
no_block_at {MayFail} region i es d seen kept old now new error l r b =
    subst (λ (es : List EntryIndex). AreUnread MayFail region es old new error) (split_at i es d l)
    (no_next_block region (take i es) (drop (i + 1) es) (bytes_in_all seen) (get_or es i d) kept old now new error r b)

pub block_at : (i : ℕ) (es : List EntryIndex) (d : EntryIndex) (seen : List (Vec ℕ Global)) (kept : Option EntryBlock) (block : EntryBlock) (old now new : List Ask)
    → AreReadSoFar (take i es) (map (λ s. s.items) seen) kept old now → IsBlockOf (get_or es i d) kept block now new → IsNextBlock (take i es) (map (λ s. s.items) seen) (get_or es i d) block old new
block_at i es d seen kept block old now new r b = next_block (take i es) (bytes_in_all seen) (get_or es i d) kept block old now new r b

pub no_bytes_at : {MayFail : Failures} (region i : ℕ) (es : List EntryIndex) (d : EntryIndex) (seen : List (Vec ℕ Global)) (block : EntryBlock) (old new : List Ask) (entries : List ℕ) (error : Error) → i < length es
    → IsNextBlock (take i es) (map (λ s. s.items) seen) (get_or es i d) block old new → entries ≡ block.entries.items → AreNoBytesIn region block.place entries (get_or es i d) error → AreUnread MayFail region es old new error
no_bytes_at {MayFail} region i es d seen block old new entries error l n is b =
    subst (λ (es : List EntryIndex). AreUnread MayFail region es old new error) (split_at i es d l)
    (no_next_bytes region (take i es) (drop (i + 1) es) (bytes_in_all seen) (get_or es i d) block old new error n
    (subst (λ (bytes : List ℕ). AreNoBytesIn region block.place bytes (get_or es i d) error) is b))

pub bytes_at : (i : ℕ) (es : List EntryIndex) (d : EntryIndex) (seen new_seen : List (Vec ℕ Global)) (bytes : Vec ℕ Global) (block : EntryBlock) (old new : List Ask) (entries : List ℕ) → i < length es
    → IsNextBlock (take i es) (map (λ s. s.items) seen) (get_or es i d) block old new → entries ≡ block.entries.items → AreBytesIn entries (get_or es i d) bytes.items → new_seen ≡ seen ++ bytes ∷ []
    → AreReadSoFar (take (i + 1) es) (map (λ s. s.items) new_seen) (Some block) old new
bytes_at i es d seen new_seen bytes block old new entries l n is b more =
    subst (λ (front : List EntryIndex). AreReadSoFar front (bytes_in_all new_seen) (Some block) old new) (sym (take_more es i d l))
    (subst (λ (strings : List (List ℕ)). AreReadSoFar (take i es ++ get_or es i d ∷ []) strings (Some block) old new) (sym (ap bytes_in_all more ∙ mapped seen))
    (next_bytes (take i es) (bytes_in_all seen) (get_or es i d) bytes.items block old new n (subst (λ (l : List ℕ). AreBytesIn l (get_or es i d) bytes.items) is b)))
  where
    mapped : (xs : List (Vec ℕ Global)) → bytes_in_all (xs ++ bytes ∷ []) ≡ bytes_in_all xs ++ bytes.items ∷ []
    mapped [] = refl
    mapped (x ∷ xs) = ap (λ l. x.items ∷ l) (mapped xs)

-- ---- one behind another

-- these entries were read, and their bytes stand one behind another
pub record AreJoinedSoFar (es : List EntryIndex) (joined : List ℕ) (kept : Option EntryBlock) (old new : List Ask) : Type 0 where
  pub strings : List (List ℕ)
  pub read : AreReadSoFar es strings kept old new
  pub are : joined ≡ concat strings

pub none_joined : (joined : List ℕ) (old : List Ask) → joined ≡ [] → AreJoinedSoFar [] joined None old old
none_joined joined old e = record { strings = []; read = none_yet [] old refl; are = e }

concat_more : (strings : List (List ℕ)) (bytes : List ℕ) → concat (strings ++ bytes ∷ []) ≡ concat strings ++ bytes
concat_more [] bytes = append-nil bytes
concat_more (s ∷ strings) bytes = ap (λ (t : List ℕ). s ++ t) (concat_more strings bytes) ∙ sym (append_assoc s (concat strings) bytes)

pub joined_at : (i : ℕ) (es : List EntryIndex) (d : EntryIndex) (joined new_joined bytes : List ℕ) (kept : Option EntryBlock) (block : EntryBlock) (old now new : List Ask) → i < length es
    → AreJoinedSoFar (take i es) joined kept old now → IsBlockOf (get_or es i d) kept block now new → AreBytesIn block.entries.items (get_or es i d) bytes → new_joined ≡ joined ++ bytes
    → AreJoinedSoFar (take (i + 1) es) new_joined (Some block) old new
joined_at i es d joined new_joined bytes kept block old now new l h b in_block more =
    subst (λ (front : List EntryIndex). AreJoinedSoFar front new_joined (Some block) old new) (sym (take_more es i d l)) (record {
      strings = h.strings ++ bytes ∷ [];
      read = next_bytes (take i es) h.strings (get_or es i d) bytes block old new (next_block (take i es) h.strings (get_or es i d) kept block old now new h.read b) in_block;
      are = more ∙ ap (λ (t : List ℕ). t ++ bytes) h.are ∙ sym (concat_more h.strings bytes);
    })

-- entries have as many bytes as their lengths say
lengths_read : (reads : List Ask) (es : List EntryIndex) (strings : List (List ℕ)) → AllZip (IsReadAmong reads) es strings
    → (entry_lengths es ≡ length (concat strings)) × (strings_in es (concat strings) ≡ strings)
lengths_read reads [] [] h = (refl, refl)
lengths_read reads [] (s ∷ strings) h = absurd h
lengths_read reads (e ∷ es) [] h = absurd h
lengths_read reads (e ∷ es) (s ∷ strings) h =
    let rest = lengths_read reads es strings h.1 in
    let own : length s ≡ e.entry_len = read_length reads e s h.0 in
    let all = length-append s (concat strings) in (
      omega (arith, rest.0, own, all),
      ap (λ (t : List ℕ). t ∷ strings_in es (drop e.entry_len (s ++ concat strings))) (take_at s (concat strings) e.entry_len own)
          ∙ ap (λ (t : List (List ℕ)). s ∷ t) (ap (strings_in es) (drop_at s (concat strings) e.entry_len own) ∙ rest.1),
    )

pub all_joined : (i : ℕ) (es : List EntryIndex) (joined : List ℕ) (kept : Option EntryBlock) (old new : List Ask) → length es ≤ i → AreJoinedSoFar (take i es) joined kept old new
    → (entry_lengths es ≡ length joined) × AreReadByBlocks es (strings_in es joined) old new
all_joined i es joined kept old new past some =
    let h : AreJoinedSoFar es joined kept old new = subst (λ (front : List EntryIndex). AreJoinedSoFar front joined kept old new) (take_all i es past) some in
    let lengths = lengths_read h.read.read.reads es h.strings h.read.read.have in (
      lengths.0 ∙ ap length (sym h.are),
      subst (λ (strings : List (List ℕ)). AreReadByBlocks es strings old new) (sym (ap (strings_in es) h.are ∙ lengths.1)) h.read.read,
    )

pub unjoined_block_at : {MayFail : Failures} (region i : ℕ) (es : List EntryIndex) (d : EntryIndex) (joined : List ℕ) (kept : Option EntryBlock) (old now new : List Ask) (error : Error) → i < length es
    → AreJoinedSoFar (take i es) joined kept old now → IsNoBlockOf MayFail region (get_or es i d) kept now new error → AreUnread MayFail region es old new error
unjoined_block_at {MayFail} region i es d joined kept old now new error l h b =
    subst (λ (es : List EntryIndex). AreUnread MayFail region es old new error) (split_at i es d l)
    (no_next_block region (take i es) (drop (i + 1) es) h.strings (get_or es i d) kept old now new error h.read b)

pub unjoined_bytes_at : {MayFail : Failures} (region i : ℕ) (es : List EntryIndex) (d : EntryIndex) (joined : List ℕ) (kept : Option EntryBlock) (block : EntryBlock) (old now new : List Ask) (error : Error) → i < length es
    → AreJoinedSoFar (take i es) joined kept old now → IsBlockOf (get_or es i d) kept block now new → AreNoBytesIn region block.place block.entries.items (get_or es i d) error → AreUnread MayFail region es old new error
unjoined_bytes_at {MayFail} region i es d joined kept block old now new error l h b none =
    subst (λ (es : List EntryIndex). AreUnread MayFail region es old new error) (split_at i es d l)
    (no_next_bytes region (take i es) (drop (i + 1) es) h.strings (get_or es i d) block old new error (next_block (take i es) h.strings (get_or es i d) kept block old now new h.read b) none)
