-- Entries of the last append file can be read, or are named.
use Rattle.raft_engine.proofs.Common.{◌≡◌, ◌≢◌, inl, inr, ℕ, suc, ◌+◌, ◌-◌, ◌<◌, ◌≤◌, List, [], ◌∷◌, ◌++◌, Some, length, map, take, drop, refl, sym, ap, ◌∙◌, subst, arith, append_assoc, length-append, AllByRecursion, drop-drop, drop_at, length-take-le, take-take, CompressionType}
use Rattle.raft_engine.proofs.Common.{EntryIndex, FileBlockHandle, FileId, LogQueue, Append, Rewrite, Version, HasEntryBlock, AreBatchesUpTo, IsBatchAt, Part, IsEntryBlockOf, Content, Item, command, entries, pair, placed_content, placed_item, header_bytes, header_len}
use Rattle.raft_engine.proofs.Common.{batch_inside, one_batch_more, Event, NumberedBytes, whole_file, bytes_before, HoldsFrom, AreRisingFrom, numbers, EachEntryAmong, EachEntryIn, EachEntryOf, FilesHoldTorn, consecutive_rise, both_so, AreDamagedBatches, EntriesAreSoundOrNamed}
use Rattle.raft_engine.proofs.Common.{IsSoundOrNamed, HasSoundBlock, DamagedBatch}
use Rattle.raft_engine.proofs.BlockLemmas.{block_of, moved_batch}

-- a file by its number
abbrev file_id : LogQueue → ℕ → FileId
file_id queue seq = record { queue = queue; seq = seq }

abbrev placed : FileBlockHandle → CompressionType → EntryIndex → EntryIndex
placed place compression e = record e { entries = Some place; compression_type = compression }

-- ---- what is so of each entry at a place is so of placed items

module _ (IsSo : EntryIndex → Type 0) (place : FileBlockHandle) (compression : CompressionType) (so : (e : EntryIndex) → IsSo (placed place compression e)) where
  entries_so : (es : List EntryIndex) → AllByRecursion IsSo (map (placed place compression) es)
  entries_so [] = tt
  entries_so (e ∷ es) = (so e, entries_so es)

  content_so : (c : Content) → EachEntryOf IsSo (placed_content place compression c)
  content_so (entries es) = entries_so es
  content_so (command c) = tt
  content_so (pair p) = tt

  items_so : (xs : List Item) → EachEntryIn IsSo (map (placed_item place compression) xs)
  items_so [] = tt
  items_so (x ∷ xs) = (content_so x.content, items_so xs)

among_join : (IsSo : EntryIndex → Type 0) (g h : List Event) → EachEntryAmong IsSo g → EachEntryAmong IsSo h → EachEntryAmong IsSo (g ++ h)
among_join IsSo [] h p q = q
among_join IsSo (e ∷ g) h p q = (p.0, among_join IsSo g h p.1 q)

-- ---- one batch

-- its block
block_there : (part : Part) (at next : ℕ) (items : List Item) → (b : IsBatchAt part at items next) → drop (at + 16) part.bytes ≡ b.between ++ (b.laid_out.behind ++ drop next part.bytes)
block_there part at next items b =
    let l = b.laid_out in
    let header = header_bytes (16 + length b.between) l.compression (length b.bytes) in
    let whole : drop at part.bytes ≡ header ++ (b.between ++ (l.behind ++ drop next part.bytes)) =
    b.stands ∙ ap (λ (t : List ℕ). t ++ drop next part.bytes) l.split ∙ append_assoc header (b.between ++ l.behind) (drop next part.bytes)
    ∙ ap (λ (t : List ℕ). header ++ t) (append_assoc b.between l.behind (drop next part.bytes)) in
    sym (drop-drop 16 at part.bytes) ∙ ap (drop 16) whole ∙ drop_at header (b.between ++ (l.behind ++ drop next part.bytes)) 16 (header_len (16 + length b.between) l.compression (length b.bytes))

module _ (version : Version) (last : NumberedBytes) (named : List DamagedBatch) (d : AreDamagedBatches (whole_file Append version last) named) where
  abbrev part : Part
  part = whole_file Append version last

  abbrev IsSo : EntryIndex → Type 0
  IsSo e = IsSoundOrNamed part named e

  -- a sound block is an entry block at the place of the entries in it
  sound_place : (at next : ℕ) (items : List Item) (b : IsBatchAt part at items next) (s : HasSoundBlock b) → HasEntryBlock part (record { id = part.id; offset = part.offset + at + 16; len = length b.between }) s.0
  sound_place at next items b s =
      let m = batch_inside part at items next b in
      let ends = b.ends in
      let long = ap length b.laid_out.split ∙ length-append (header_bytes (16 + length b.between) b.laid_out.compression (length b.bytes)) (b.between ++ b.laid_out.behind) in
      let more = length-append b.between b.laid_out.behind in
      let sixteen = header_len (16 + length b.between) b.laid_out.compression (length b.bytes) in
      let begins : (part.offset + at + 16) - part.offset ≡ at + 16 = omega arith in
      record {
        inside = record { file = refl; begins = omega arith; ends = omega (arith, m.1, ends, long, more, sixteen) };
        block = subst (λ (bytes : List ℕ). IsEntryBlockOf (length b.between) bytes s.0) (sym (ap (λ (n : ℕ). drop n part.bytes) begins ∙ block_there part at next items b))
            (block_of (length b.between) b.between (b.laid_out.behind ++ drop next part.bytes) s.0 refl s.1);
      }

  batch_named : (at next : ℕ) (items : List Item) → AreBatchesUpTo part at → IsBatchAt part at items next → EachEntryIn IsSo items
  batch_named at next items up b =
      subst (EachEntryIn IsSo) (sym b.places)
      (items_so IsSo (record { id = part.id; offset = part.offset + at + 16; len = length b.between }) b.laid_out.compression
      (λ e. λ same. elim (d.others at next items up b) [
        | inl s ↦ inl (s.0, sound_place at next items b s)
        | inr c ↦ inr (part.offset + at, refl, c)
      ]) b.read)

  -- ---- files

  -- of the last append file
  held_named : (m at : ℕ) (h : List Event) → m ≤ length part.bytes → AreBatchesUpTo part at → HoldsFrom (bytes_before part m) at h → EachEntryAmong IsSo h
  held_named m at [] inside up held = tt
  held_named m at (e ∷ h) inside up held =
      let n = (batch_inside (bytes_before part m) at e.items held.1.0 held.1.1).1 in
      let k = length-take-le m part.bytes inside in
      let b = moved_batch (bytes_before part m) part.bytes at held.1.0 e.items held.1.1 (sym (take-take held.1.0 m part.bytes (omega (arith, n, k)))) in
      (batch_named at held.1.0 e.items up b, held_named m held.1.0 h inside (one_batch_more part at e.items held.1.0 up b) held.1.2)

  -- of another file
  other_so : (queue : LogQueue) (file : NumberedBytes) (at : ℕ) (h : List Event) → file_id queue file.0 ≢ part.id → HoldsFrom (whole_file queue version file) at h → EachEntryAmong IsSo h
  other_so queue file at [] other held = tt
  other_so queue file at (e ∷ h) other held =
      let b = held.1.1 in (
        subst (EachEntryIn IsSo) (sym b.places)
            (items_so IsSo (record { id = file_id queue file.0; offset = 0 + at + 16; len = length b.between }) b.laid_out.compression (λ e. λ same. absurd (other same)) b.read),
        other_so queue file held.1.0 h other held.1.2,
      )

  last_high : (n : ℕ) (closed : List NumberedBytes) (l : NumberedBytes) → AreRisingFrom n (numbers (closed ++ l ∷ [])) → n ≤ l.0
  last_high n [] l r = r.0
  last_high n (c ∷ closed) l r = let k = last_high (suc c.0) closed l r.1 in let m = r.0 in omega (arith, k, m)

  lower : (file : NumberedBytes) → file.0 < last.0 → file_id Append file.0 ≢ part.id
  lower file less e = let same = ap (λ (id : FileId). id.seq) e in absurd (omega (arith, less, same))

  append_so : (n : ℕ) (closed : List NumberedBytes) (h : List Event) → AreRisingFrom n (numbers (closed ++ last ∷ [])) → FilesHoldTorn Append version (closed ++ last ∷ []) h → EachEntryAmong IsSo h
  append_so n [] h rising t = held_named t.at 0 h t.inside ([], refl) t.held
  append_so n (c ∷ []) h rising t =
      subst (EachEntryAmong IsSo) (sym t.split)
      (among_join IsSo t.first t.rest (other_so Append c 0 t.first (lower c (let k = last_high (suc c.0) [] last rising.1 in omega (arith, k))) t.first_held) (append_so (suc c.0) [] t.rest rising.1 t.rest_held))
  append_so n (c ∷ c' ∷ closed) h rising t =
      subst (EachEntryAmong IsSo) (sym t.split)
      (among_join IsSo t.first t.rest (other_so Append c 0 t.first (lower c (let k = last_high (suc c.0) (c' ∷ closed) last rising.1 in omega (arith, k))) t.first_held) (append_so (suc c.0) (c' ∷ closed) t.rest rising.1 t.rest_held))

  rewritten : (seq : ℕ) → file_id Rewrite seq ≢ part.id
  rewritten seq e = let same : Rewrite ≡ Append = ap (λ (id : FileId). id.queue) e in absurd cc

  rewrite_so : (files : List NumberedBytes) (h : List Event) → FilesHoldTorn Rewrite version files h → EachEntryAmong IsSo h
  rewrite_so [] h t = subst (EachEntryAmong IsSo) (sym t) tt
  rewrite_so (f ∷ []) h t = other_so Rewrite (f.0, take t.at f.1) 0 h (rewritten f.0) t.held
  rewrite_so (f ∷ g ∷ files) h t =
      subst (EachEntryAmong IsSo) (sym t.split) (among_join IsSo t.first t.rest (other_so Rewrite f 0 t.first (rewritten f.0) t.first_held) (rewrite_so (g ∷ files) t.rest t.rest_held))

pub entries_named : EntriesAreSoundOrNamed
entries_named version append rewrite engine named opened told closed last is region =
    let d = told.1 closed last is in
    let r = opened.read in
    let consecutive = (r.are_wanted.append_ready []).consecutive in
    both_so (IsSoundOrNamed (whole_file Append version last) named) r.rewritten r.appended engine.accessor.tables engine.accessor.cleaned (rewrite_so version last named d rewrite r.rewritten r.rewrite_held)
    (append_so version last named d 0 closed r.appended (subst (λ (fs : List NumberedBytes). AreRisingFrom 0 (numbers fs)) is (consecutive_rise (numbers append) consecutive))
    (subst (λ (fs : List NumberedBytes). FilesHoldTorn Append version fs r.appended) is r.append_held)) r.reading region
