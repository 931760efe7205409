-- Contents that are told.
use Rattle.raft_engine_prefixes.proofs.Common.{◌≡◌, ℕ, ◌+◌, ◌≤◌, List, [], ◌∷◌, ◌++◌, length, take, drop, Option, Some, None, inl, inr, refl, sym, ap, ◌∙◌, subst, arith, append_assoc, length-append, take-append-le, drop-append-le, length-drop, take-append-drop, concat}
use Rattle.raft_engine_prefixes.proofs.Common.{EntryIndex, FileBlockHandle, LogQueue, Append, Rewrite, with_lengths, Item, checksum_bytes, with_offsets_from, entry_block, entry_place, log_batch_bytes, Act, Put, Begin, Sync, Unsynced, Delete, Cut, Found, Read, Ask, ask, acts_on}
use Rattle.raft_engine_prefixes.proofs.Common.{NumberedBytes, begun, put_behind, bytes_at, bytes_of, HaveBytes, added_bytes, AreToldByFiles, AreToldByReads, AreTold, AreBothTold, KeepsBytes, bytes_in, content_at, content_of, AreTrueReads, AreBothTrueReads, placed_entries}
use Rattle.raft_engine_prefixes.proofs.Common.{HaveContents, AreToldByWritten, TellContents, TellSoundContents, WrittenEntryIsTold, AddedEntriesAreTold}
use Rattle.raft_base.specs.declared.compression_type.CompressionType.TheVariants as compressions
use Rattle.raft_engine_prefixes.proofs.PlaceLemmas.{bytes_stay, block_found}

-- ---- they last

module _ (content : EntryIndex → List ℕ) where
  reads_before : (acts : List Act) (act : Act) → AreToldByReads (act ∷ acts) content → AreToldByReads acts content
  reads_before acts (Put bytes) r = r
  reads_before acts (Begin seq) r = r
  reads_before acts Sync r = r
  reads_before acts Unsynced r = r
  reads_before acts Delete r = r
  reads_before acts (Cut len) r = r
  reads_before acts (Found files) r = r
  reads_before acts (Read place block) r = r.1

pub told_before : (queue : LogQueue) (acts : List Act) (act : Act) (content : EntryIndex → List ℕ) → KeepsBytes act → AreTold queue (act ∷ acts) content → AreTold queue acts content
told_before queue acts act content k t =
    (λ place block is at. t.0 place block is (bytes_stay acts act place.id.seq place.offset place.len block k at), reads_before content acts act t.1)

both_before : (asks : List Ask) (queue : LogQueue) (act : Act) (content : EntryIndex → List ℕ) → KeepsBytes act → AreBothTold (ask queue act ∷ asks) content → AreBothTold asks content
both_before asks Append act content k t = (told_before Append (acts_on Append asks) act content k t.0, t.1)
both_before asks Rewrite act content k t = (t.0, told_before Rewrite (acts_on Rewrite asks) act content k t.1)

pub both_told_before : (asks : List Ask) (a : Ask) (content : EntryIndex → List ℕ) → KeepsBytes a.act → AreBothTold (a ∷ asks) content → AreBothTold asks content
both_told_before asks a content k t = both_before asks a.queue a.act content k t

-- ---- bytes of a block

bytes_in_front : (xs ys : List ℕ) (e : EntryIndex) → e.entry_offset + e.entry_len ≤ length xs → bytes_of (xs ++ ys) e ≡ bytes_of xs e
bytes_in_front xs ys e fits =
    let d = length-drop e.entry_offset xs in
    ap (take e.entry_len) (drop-append-le e.entry_offset xs ys (omega (arith, fits))) ∙ take-append-le e.entry_len (drop e.entry_offset xs) ys (omega (arith, d, fits))

-- what bytes tell of entries, the block tells that they are
block_told : (place : FileBlockHandle) (block : List ℕ) (content : EntryIndex → List ℕ) → TellContents place block content → TellSoundContents place block content
block_told place block content tells entry_bytes (inl none) e placed fits =
    let z : e.entry_len ≡ 0 = let n = ap length none.1 in omega (arith, n, fits) in
    tells e placed (let n = ap length none.1 in omega (arith, n, fits)) ∙ ap (λ (n : ℕ). take n (drop e.entry_offset block)) z ∙ sym (ap (λ (n : ℕ). take n (drop e.entry_offset entry_bytes)) z)
block_told place block content tells entry_bytes (inr some) e placed fits =
    let seal : List ℕ = checksum_bytes None entry_bytes in
    let behind : List ℕ = drop place.len block in
    let split : block ≡ entry_bytes ++ (seal ++ behind) = sym (take-append-drop place.len block) ∙ ap (λ (l : List ℕ). l ++ behind) some.2.split ∙ append_assoc entry_bytes seal behind in
    let n = length-append entry_bytes (seal ++ behind) in
    let all = ap length split in
    tells e placed (omega (arith, n, all, fits)) ∙ ap (λ (l : List ℕ). bytes_of l e) split ∙ bytes_in_front entry_bytes (seal ++ behind) e fits

-- ---- there are some

module _ (asks : List Ask) where
  files_told : (queue : LogQueue) → AreToldByFiles queue (begun (acts_on queue asks)) (content_of asks)
  files_told queue = λ place block is at e placed fits.
      ap (λ (p : Option FileBlockHandle). content_at asks p e) placed
      ∙ ap (λ (o : Option (List ℕ)). bytes_in o e) (subst (λ (q : LogQueue). bytes_at (begun (acts_on q asks)) place.id.seq place.offset place.len ≡ Some block) (sym is) at)

  reads_told : (queue : LogQueue) (acts : List Act) → AreTrueReads queue (begun (acts_on queue asks)) acts → AreToldByReads acts (content_of asks)
  reads_told queue [] r = tt
  reads_told queue (Put bytes ∷ acts) r = reads_told queue acts r
  reads_told queue (Begin seq ∷ acts) r = reads_told queue acts r
  reads_told queue (Sync ∷ acts) r = reads_told queue acts r
  reads_told queue (Unsynced ∷ acts) r = reads_told queue acts r
  reads_told queue (Delete ∷ acts) r = reads_told queue acts r
  reads_told queue (Cut len ∷ acts) r = reads_told queue acts r
  reads_told queue (Found files ∷ acts) r = reads_told queue acts r
  reads_told queue (Read place block ∷ acts) r = (
    (λ entries sound. let true_read = r.0 entries sound in block_told place block (content_of asks) (files_told queue place block true_read.0 true_read.1) entries sound),
    reads_told queue acts r.1,
  )

  pub told_by_files : AreBothTrueReads asks → AreBothTold asks (content_of asks)
  told_by_files r = ((files_told Append, reads_told Append (acts_on Append asks) r.0), (files_told Rewrite, reads_told Rewrite (acts_on Rewrite asks) r.1))

-- ---- what they are

block_longer : (es : List ℕ) → length es ≤ length (entry_block es)
block_longer [] = omega arith
block_longer (b ∷ bs) = let n = length-append (b ∷ bs) (checksum_bytes None (b ∷ bs)) in omega (arith, n)

block_in_front : (es : List ℕ) (e : EntryIndex) → e.entry_offset + e.entry_len ≤ length es → bytes_of (entry_block es) e ≡ bytes_of es e
block_in_front [] e fits = refl
block_in_front (b ∷ bs) e fits = bytes_in_front (b ∷ bs) (checksum_bytes None (b ∷ bs)) e fits

module _ (queue : LogQueue) (handle : FileBlockHandle) (es : List ℕ) (content : EntryIndex → List ℕ) where
  placed_block : (items : List Item) (w : AreToldByWritten queue handle es content) → items ≡ w.items
      → bytes_at (put_behind (log_batch_bytes w.signature items es) (begun w.acts)) handle.id.seq (handle.offset + 16) (length (entry_block es)) ≡ Some (entry_block es)
  placed_block [] w is = absurd (w.some (sym is))
  placed_block (item ∷ items) w is =
      let found = block_found w.first w.closed w.last (begun w.acts) w.signature item items es w.files w.rising in
      let files : List NumberedBytes = put_behind (log_batch_bytes w.signature (item ∷ items) es) (begun w.acts) in
      ap (λ (n : ℕ). bytes_at files n (handle.offset + 16) (length (entry_block es))) (ap (λ (id : _). id.seq) w.file)
      ∙ ap (λ (n : ℕ). bytes_at files w.last.0 (n + 16) (length (entry_block es))) w.behind ∙ found

pub written_told : WrittenEntryIsTold
written_told queue handle es content w e placed fits =
    let longer = block_longer es in
    w.told.0 (entry_place handle es) (entry_block es) (ap (λ (id : _). id.queue) w.file) (placed_block queue handle es content w.items w refl) e placed (omega (arith, fits, longer))
    ∙ block_in_front es e fits

module _ (content : EntryIndex → List ℕ) (place : FileBlockHandle) (entry_bytes : List ℕ)
    (told : (e : EntryIndex) → e.entries ≡ Some place → e.entry_offset + e.entry_len ≤ length entry_bytes → content e ≡ bytes_of entry_bytes e) where
  added : (es : List EntryIndex) (strings : List (List ℕ)) (before behind : List ℕ) (start : ℕ) → start ≡ length before → entry_bytes ≡ before ++ (concat strings ++ behind)
      → HaveContents content (placed_entries place (with_offsets_from start (with_lengths es strings))) strings
  added [] strings before behind start at split = tt
  added (e ∷ es) [] before behind start at split = tt
  added (e ∷ es) (bytes ∷ strings) before behind start at split =
      let a = length-append before (concat (bytes ∷ strings) ++ behind) in
      let b = ap length (append_assoc bytes (concat strings) behind) in
      let c = length-append bytes (concat strings ++ behind) in
      let d = length-append before bytes in
      let all = ap length split in
      let have = subst (λ (n : ℕ). HaveBytes entry_bytes (with_offsets_from n (with_lengths (e ∷ es) (bytes ∷ strings))) (bytes ∷ strings)) (sym at)
      (subst (λ (l : List ℕ). HaveBytes l (with_offsets_from (length before) (with_lengths (e ∷ es) (bytes ∷ strings))) (bytes ∷ strings)) (sym split) (added_bytes (e ∷ es) (bytes ∷ strings) before behind)) in (
        told (record e { entry_len = length bytes; entry_offset = start; entries = Some place; compression_type = compressions.None }) refl (omega (arith, a, b, c, all, at)) ∙ have.0,
        added es strings (before ++ bytes) behind (start + length bytes) (omega (arith, at, d))
            (split ∙ ap (λ (l : List ℕ). before ++ l) (append_assoc bytes (concat strings) behind) ∙ sym (append_assoc before bytes (concat strings ++ behind))),
      )

pub added_told : AddedEntriesAreTold
added_told queue handle entry_bytes content w es strings before behind split =
    added content (entry_place handle entry_bytes) entry_bytes (written_told queue handle entry_bytes content w) es strings before behind (length before) refl split
