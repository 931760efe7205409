-- Parts of entries, and batches that have one each.
use Rattle.raft_engine.proofs.Common.{◌≡◌, ◌≢◌, inl, inr, ℕ, suc, List, [], ◌∷◌, ◌++◌, length, map, take, drop, refl, sym, ap, ◌∙◌, subst, append_assoc, append-nil, None, flat_map-append, length-take-le, map-append, take-append-drop, AllByRecursion, IsConsecutive, IsRun}
use Rattle.raft_engine.proofs.Common.{RisesFrom, EntryIndex, Error, Batch, End, Table, Ask, AreOrdinary, ArePartsRead, EntriesPart, batches_behind, group_batches, marker_batch, part_batch, AreCutInto, ArePartsAdded, ArePartsRefused, IsGroupInParts, IsGroupRefused, IsPartRead}
use Rattle.raft_engine.proofs.Common.{IsPartRefused, entries_of_parts, IsFirstPart, AreOnlyRead, AreReadByBlocks, AreReads, moving_entries, moving_pairs, with_puts, AreKeysRefused, Failures}
use Rattle.raft_records.specs.declared.atomic_group.AtomicGroupStatus.TheVariants.{Begin}
use Rattle.raft_engine.proofs.ReadKept.{read_only, unread_only}

-- ---- the first part

-- ---- consecutive entries in two pieces

rises_prefix : (s : ℕ) (a b : List EntryIndex) → RisesFrom s (a ++ b) → RisesFrom s a
rises_prefix s [] b h = tt
rises_prefix s (e ∷ a) b h = (h.0, rises_prefix (suc s) a b h.1)

rises_back : (s : ℕ) (a b : List EntryIndex) → RisesFrom s (a ++ b) → IsRun b
rises_back s [] [] h = tt
rises_back s [] (x ∷ b) h = subst (λ k. RisesFrom (suc k) b) (sym h.0) h.1
rises_back s (e ∷ a) b h = rises_back (suc s) a b h.1

run_prefix : (a b : List EntryIndex) → IsRun (a ++ b) → IsRun a
run_prefix [] b h = tt
run_prefix (e ∷ a) b h = rises_prefix (suc e.index) a b h

run_back : (a b : List EntryIndex) → IsRun (a ++ b) → IsRun b
run_back [] b h = h
run_back (e ∷ a) b h = rises_back (suc e.index) a b h

each_prefix : {X : Type 0} (P : X → Type 0) (a b : List X) → AllByRecursion P (a ++ b) → AllByRecursion P a
each_prefix P [] b h = tt
each_prefix P (x ∷ a) b h = (h.0, each_prefix P a b h.1)

each_back : {X : Type 0} (P : X → Type 0) (a b : List X) → AllByRecursion P (a ++ b) → AllByRecursion P b
each_back P [] b h = h
each_back P (x ∷ a) b h = each_back P a b h.1

pub each_more : {X : Type 0} (P : X → Type 0) (xs : List X) (x : X) → AllByRecursion P xs → P x
    → AllByRecursion P (xs ++ x ∷ [])
each_more P [] x h k = (k, tt)
each_more P (y ∷ xs) x h k = (h.0, each_more P xs x h.1 k)

pub part_consecutive : (a b : List EntryIndex) → IsConsecutive (a ++ b) → IsConsecutive a
part_consecutive a b both = record { run = run_prefix a b both.run; bounded = each_prefix _ a b both.bounded }

pub prefix_consecutive : (n : ℕ) (es : List EntryIndex) → IsConsecutive es → IsConsecutive (take n es)
prefix_consecutive n es h =
    let both = subst IsConsecutive (sym (take-append-drop n es)) h in
    record { run = run_prefix (take n es) (drop n es) both.run; bounded = each_prefix _ (take n es) (drop n es) both.bounded }

pub back_consecutive : (n : ℕ) (es : List EntryIndex) → IsConsecutive es → IsConsecutive (drop n es)
back_consecutive n es h =
    let both = subst IsConsecutive (sym (take-append-drop n es)) h in
    record { run = run_back (take n es) (drop n es) both.run; bounded = each_back _ (take n es) (drop n es) both.bounded }

-- ---- parts that are read, one after another

reads_both : (a b : List Ask) → AreReads a → AreReads b → AreReads (a ++ b)
reads_both [] b h k = k
reads_both (x ∷ a) b h k = (h.0, reads_both a b h.1 k)

pub both_read : (old between new : List Ask) → AreOnlyRead old between → AreOnlyRead between new → AreOnlyRead old new
both_read old between new a b = record {
  reads = b.reads ++ a.reads;
  only = reads_both b.reads a.reads b.only a.only;
  asked = b.asked ∙ ap (λ (l : List Ask). b.reads ++ l) a.asked ∙ sym (append_assoc b.reads a.reads old);
}

pub parts_only : (parts : List EntriesPart) (old new : List Ask) → ArePartsRead parts old new → AreOnlyRead old new
parts_only [] old new e = record { reads = []; only = tt; asked = e }
parts_only (part ∷ parts) old new r = both_read old r.0 new (read_only part.0 part.1 old r.0 r.1) (parts_only parts r.0 new r.2)

parts_one_more : (parts : List EntriesPart) (part : EntriesPart) (old now new : List Ask) → ArePartsRead parts old now
    → AreReadByBlocks part.0 part.1 now new → ArePartsRead (parts ++ part ∷ []) old new
parts_one_more [] part old now new r k = (new, subst (λ (l : List Ask). AreReadByBlocks part.0 part.1 l new) r k, refl)
parts_one_more (p ∷ parts) part old now new r k = (r.0, r.1, parts_one_more parts part r.0 now new r.2 k)

pub part_only : {MayFail : Failures} (region : ℕ) (es : List EntryIndex) (old new : List Ask) (e : Error) → IsPartRefused MayFail region es old new e
    → AreOnlyRead old new
part_only region es old new e (inl u) = unread_only region es old new e u
part_only region es old new e (inr r) = read_only es r.0 old new r.1

cut_more : (es : List EntryIndex) (parts : List EntriesPart) (rest : List EntryIndex) (n : ℕ) (strings : List (List ℕ))
    → AreCutInto es parts rest → rest ≢ [] → IsFirstPart rest n
    → AreCutInto es (parts ++ (take n rest, strings) ∷ []) (drop n rest)
cut_more es [] rest n strings e some f =
    let long : length (take n rest) ≡ n = length-take-le n rest f.at_most in (
      (λ none. some (sym e ∙ none)),
      subst (λ (l : List EntryIndex). IsFirstPart l (length (take n rest))) (sym e) (subst (IsFirstPart rest) (sym long) f),
      ap (λ (k : ℕ). take k rest) (sym long) ∙ ap (λ (l : List EntryIndex). take (length (take n rest)) l) (sym e),
      ap (λ (l : List EntryIndex). drop (length (take n rest)) l) e ∙ ap (λ (k : ℕ). drop k rest) long,
    )
cut_more es (p ∷ parts) rest n strings h some f =
    (h.0, h.1, h.2, cut_more (drop (length p.0) es) parts rest n strings h.3 some f)

-- batches of the first parts stand behind others, and these entries are left
pub record ArePartsSoFar (es : List EntryIndex) (group id : ℕ) (old now : List Ask) (before after : List Batch) (rest : List EntryIndex) : Type 0 where
  pub parts : List EntriesPart
  pub entries : entries_of_parts parts ++ rest ≡ es
  pub cut : AreCutInto es parts rest
  pub read : ArePartsRead parts old now
  pub added : after ≡ before ++ map (part_batch group id) parts
  pub consecutive : IsConsecutive rest

pub none_so_far : (es : List EntryIndex) (group id : ℕ) (asks : List Ask) (before : List Batch) → IsConsecutive es
    → ArePartsSoFar es group id asks asks before before es
none_so_far es group id asks before c = record { parts = []; entries = refl; cut = refl; read = refl; added = sym (append-nil before); consecutive = c }

pub part_more : (es : List EntryIndex) (group id : ℕ) (old now new : List Ask) (before after next : List Batch) (rest : List EntryIndex) (n : ℕ) (batch : Batch)
    → rest ≢ [] → IsFirstPart rest n → IsPartRead group id (take n rest) now new batch → next ≡ after ++ batch ∷ []
    → ArePartsSoFar es group id old now before after rest → ArePartsSoFar es group id old new before next (drop n rest)
part_more es group id old now new before after next rest n batch some first r pushed h = record {
  parts = h.parts ++ part ∷ [];
  entries =
      ap (λ (l : List EntryIndex). l ++ drop n rest) (flat_map-append (λ (p : EntriesPart). p.0) h.parts (part ∷ []) ∙ ap (λ (l : List EntryIndex). entries_of_parts h.parts ++ l) (append-nil (take n rest)))
      ∙ append_assoc (entries_of_parts h.parts) (take n rest) (drop n rest) ∙ ap (λ (l : List EntryIndex). entries_of_parts h.parts ++ l) (take-append-drop n rest) ∙ h.entries;
  cut = cut_more es h.parts rest n r.strings h.cut some first;
  read = parts_one_more h.parts part old now new h.read r.read;
  added =
      pushed ∙ ap (λ (l : List Batch). l ++ batch ∷ []) h.added ∙ append_assoc before (map (part_batch group id) h.parts) (batch ∷ [])
      ∙ ap (λ (b : Batch). before ++ (map (part_batch group id) h.parts ++ b ∷ [])) r.is
      ∙ ap (λ (l : List Batch). before ++ l) (sym (map-append (part_batch group id) h.parts (part ∷ [])));
  consecutive = back_consecutive n rest h.consecutive;
}
  where
    part : EntriesPart
    part = (take n rest, r.strings)

pub parts_added : (es : List EntryIndex) (group id : ℕ) (old now : List Ask) (before after : List Batch) (rest : List EntryIndex)
    → rest ≡ [] → ArePartsSoFar es group id old now before after rest
    → ArePartsAdded es group id old now before after
parts_added es group id old now before after rest none h = record {
  parts = h.parts;
  entries = sym (append-nil (entries_of_parts h.parts)) ∙ ap (λ (l : List EntryIndex). entries_of_parts h.parts ++ l) (sym none) ∙ h.entries;
  cut = subst (AreCutInto es h.parts) none h.cut;
  read = h.read;
  added = h.added;
}

pub so_far_only : (es : List EntryIndex) (group id : ℕ) (old now : List Ask) (before after : List Batch) (rest : List EntryIndex)
    → ArePartsSoFar es group id old now before after rest → AreOnlyRead old now
so_far_only es group id old now before after rest h = parts_only h.parts old now h.read

pub parts_refused : {MayFail : Failures} (es : List EntryIndex) (group id : ℕ) (old now new : List Ask) (before after : List Batch) (rest : List EntryIndex) (n : ℕ) (e : Error)
    → ArePartsSoFar es group id old now before after rest → IsFirstPart rest n
    → IsPartRefused MayFail id (take n rest) now new e → ArePartsRefused MayFail id es old new e
parts_refused es group id old now new before after rest n e h first refused = record {
  parts = h.parts;
  rest = rest;
  cut = h.cut;
  count = n;
  next = first;
  between = now;
  read = h.read;
  refused = refused;
}

-- ---- all batches

behind_is : (group id : ℕ) (parts : List EntriesPart) (ps : List (List ℕ × List ℕ))
    → map (part_batch group id) parts ++ with_puts (marker_batch group End) id ps ∷ [] ≡ batches_behind group id parts ps
behind_is group id [] ps = refl
behind_is group id (part ∷ parts) ps = ap (λ (l : List Batch). part_batch group id part ∷ l) (behind_is group id parts ps)

module _ (t : Table) (group : ℕ) (es : List EntryIndex) (are : es ≡ moving_entries None t.entries) (old new : List Ask) (first after : List Batch) (is_first : first ≡ marker_batch group Begin ∷ [])
    (a : ArePartsAdded es group t.region_id old new first after) where
  pub group_made : (ps : List (List ℕ × List ℕ)) (last : Batch) (all : List Batch) → ps ≡ moving_pairs None t.keys
      → AreOrdinary ps → last ≡ with_puts (marker_batch group End) t.region_id ps
      → all ≡ after ++ last ∷ [] → IsGroupInParts t old new group all
  group_made ps last all of_table ordinary is_last pushed = record {
    moving = record {
      parts = a.parts;
      entries = a.entries ∙ are;
      read = a.read;
      ordinary = subst AreOrdinary of_table ordinary;
      are = pushed ∙ ap (λ (b : Batch). after ++ b ∷ []) is_last
          ∙ ap (λ (l : List Batch). l ++ with_puts (marker_batch group End) t.region_id ps ∷ []) (a.added ∙ ap (λ (l : List Batch). l ++ map (part_batch group t.region_id) a.parts) is_first)
          ∙ ap (λ (l : List Batch). marker_batch group Begin ∷ l) (behind_is group t.region_id a.parts ps) ∙ ap (group_batches group t.region_id a.parts) of_table;
    };
    cut = subst (λ (l : List EntryIndex). AreCutInto l a.parts []) are a.cut;
  }

  pub keys_refused : {MayFail : Failures} (ps : List (List ℕ × List ℕ)) (e : Error) → ps ≡ moving_pairs None t.keys → AreKeysRefused ps e
      → IsGroupRefused MayFail t old new e
  keys_refused ps e of_table refused = inr (record {
    parts = a.parts;
    cut = subst (λ (l : List EntryIndex). AreCutInto l a.parts []) are a.cut;
    read = a.read;
    refused = subst (λ (l : List (List ℕ × List ℕ)). AreKeysRefused l e) of_table refused;
  })

  pub added_only : AreOnlyRead old new
  added_only = parts_only a.parts old new a.read

pub group_refused : {MayFail : Failures} (t : Table) (region : ℕ) (es : List EntryIndex) (old new : List Ask) (e : Error)
    → region ≡ t.region_id → es ≡ moving_entries None t.entries → ArePartsRefused MayFail region es old new e → IsGroupRefused MayFail t old new e
group_refused {MayFail} t region es old new e of are refused =
    inl (subst (λ (l : List EntryIndex). ArePartsRefused MayFail t.region_id l old new e) are (subst (λ (r : ℕ). ArePartsRefused MayFail r es old new e) of refused))
