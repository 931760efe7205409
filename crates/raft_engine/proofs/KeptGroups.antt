-- What an engine keeps while it moves records of a region in an atomic group.
use Rattle.raft_engine.proofs.Common.{◌≡◌, ◌≢◌, ◌⊎◌, inl, inr, ℕ, ◌+◌, Bool, true, false, List, [], ◌∷◌, ◌++◌, length, map, take, Some, None, refl, sym, ap, ◌∙◌, subst, append_assoc, arith, eq-or-lt_of_le, take-map, take_all, length-map, AllByRecursion, signature_in, EntryIndex}
use Rattle.raft_engine.proofs.Common.{Error, FileId, LogFileContext, Append, Rewrite, Version, log_batch_length, Item, Batch, empty_batch, encoded, encoded_length, is_open, Tables, Table, Accessor, AreWritten, Rewriting, Ask, NoSyncFailed, Put, acts_on, ask, begun, deletions}
use Rattle.raft_engine.proofs.Common.{bytes_for, placed_at, AreGroupBatchesStored, MovedGroupsAreStored, EntriesPart, batches_behind, part_batch, placed_from, puts_asks, IsGroupInParts, IsGroupRefused, AreFirstPut, BeginInTime, IsOneTooLong, as_encoded, end_from, IsLastFile}
use Rattle.raft_engine.proofs.Common.{KeptEngine, AreFilesOf, IsKeptBy, AreSynced, ReadsAreStored, IsGroupHalfMoved, IsGroupMoved, IsGroupOf, IsGroupUnmoved, IsReadBack, MovedGroupsAreReadBack, NoneFound, AreOnlyRead, AreKeptStored, IsWritableBatch, QueueFiles, Failures}
use Rattle.raft_engine.proofs.Common.{FailsAmong, AreUntaken}
use Rattle.std.specs.FinMap as finite
use Rattle.raft_base.specs.declared.errors.Error.TheVariants as errors
use Rattle.raft_engine_laws.specs.Crashes as queue_deeds
use Rattle.raft_engine.proofs.FilesLemmas.{files_last, files_same, files_told}
use Rattle.raft_engine.proofs.GroupReadBack.{puts_append}
use Rattle.raft_engine.proofs.KeptMoves.{kept_read, read_last, read_synced}
use Rattle.raft_engine.proofs.PartLemmas.{parts_only}
use Rattle.raft_engine.proofs.ReadBackLemmas.{none_before}
use Rattle.raft_engine.proofs.TrustLemmas.{puts_unfailed, unfailed_trusted}

-- ---- batches of a group, as they are made

open_part : (group id : ℕ) (es : List EntryIndex) (strings : List (List ℕ))
    → ((part_batch group id (es, strings)).stage ≡ is_open) × ((part_batch group id (es, strings)).items ≢ [])
open_part group id [] strings = (refl, λ e. cc)
open_part group id (e ∷ es) strings = (refl, λ e. cc)

open_behind : (group id : ℕ) (parts : List EntriesPart) (ps : List (List ℕ × List ℕ))
    → AllByRecursion (λ (b : Batch). b.stage ≡ is_open) (batches_behind group id parts ps)
open_behind group id [] ps = (refl, tt)
open_behind group id (part ∷ parts) ps = ((open_part group id part.0 part.1).0, open_behind group id parts ps)

some_behind : (group id : ℕ) (parts : List EntriesPart) (ps : List (List ℕ × List ℕ))
    → AllByRecursion (λ (b : Batch). b.items ≢ []) (batches_behind group id parts ps)
some_behind group id [] ps = (λ e. cc, tt)
some_behind group id (part ∷ parts) ps = ((open_part group id part.0 part.1).1, some_behind group id parts ps)

pub group_open : (t : Table) (old new : List Ask) (group : ℕ) (batches : List Batch)
    → IsGroupInParts t old new group batches → AllByRecursion (λ (b : Batch). b.stage ≡ is_open) batches
group_open t old new group batches p = subst (AllByRecursion (λ (b : Batch). b.stage ≡ is_open)) (sym p.moving.are) (refl, open_behind group t.region_id p.moving.parts _)

pub group_some : (t : Table) (old new : List Ask) (group : ℕ) (batches : List Batch)
    → IsGroupInParts t old new group batches → AllByRecursion (λ (b : Batch). b.items ≢ []) batches
group_some t old new group batches p = subst (AllByRecursion (λ (b : Batch). b.items ≢ [])) (sym p.moving.are) (λ e. cc, some_behind group t.region_id p.moving.parts _)

pub made_encoded : (bs : List Batch) → AllByRecursion (λ (b : Batch). b.stage ≡ encoded) (map as_encoded bs)
made_encoded [] = tt
made_encoded (b ∷ bs) = (refl, made_encoded bs)

pub made_in_time : (offset : ℕ) (bs : List Batch) → BeginInTime offset bs → BeginInTime offset (map as_encoded bs)
made_in_time offset [] h = tt
made_in_time offset (b ∷ bs) h = (h.0, made_in_time (offset + encoded_length b.items b.entry_bytes) bs h.1)

made_asks : (file : LogFileContext) (bs : List Batch) (asks : List Ask)
    → puts_asks file (map as_encoded bs) asks ≡ puts_asks file bs asks
made_asks file [] asks = refl
made_asks file (b ∷ bs) asks = made_asks file bs (ask file.id.queue (Put (bytes_for file b)) ∷ asks)

made_placed : (id : FileId) (offset : ℕ) (bs : List Batch)
    → placed_from id offset (map as_encoded bs) ≡ placed_from id offset bs
made_placed id offset [] = refl
made_placed id offset (b ∷ bs) = ap (λ (l : List Item). placed_at id offset b ++ l) (made_placed id (offset + encoded_length b.items b.entry_bytes) bs)

-- as the batches were made for their file
module _ (context file : LogFileContext) (is_file : context ≡ file) (bs made : List Batch) (is_made : made ≡ map as_encoded bs) where
  pub made_put : (old new : List Ask) → new ≡ puts_asks context made old → new ≡ puts_asks file bs old
  made_put old new e = e ∙ ap (λ (f : LogFileContext). puts_asks f made old) is_file ∙ ap (λ (l : List Batch). puts_asks file l old) is_made ∙ made_asks file bs old

  pub made_first : (old new : List Ask) → AreFirstPut context made old new → AreFirstPut file bs old new
  made_first old new f = record {
    count = f.count;
    at_most =
        let long = ap length is_made ∙ length-map bs as_encoded in
        let low = f.at_most in
        omega (arith, long, low);
    asked = f.asked ∙ ap (λ (g : LogFileContext). puts_asks g (take f.count made) old) is_file ∙ ap (λ (l : List Batch). puts_asks file (take f.count l) old) is_made
        ∙ ap (λ (l : List Batch). puts_asks file l old) (take-map as_encoded f.count bs) ∙ made_asks file (take f.count bs) old;
  }

  pub made_places : (offset at : ℕ) (items : List Item) → offset ≡ at → items ≡ placed_from context.id offset made
      → items ≡ placed_from file.id at bs
  made_places offset at items same e =
      e ∙ ap (λ (f : LogFileContext). placed_from f.id offset made) is_file ∙ ap (λ (l : List Batch). placed_from file.id offset l) is_made ∙ made_placed file.id offset bs
      ∙ ap (λ (n : ℕ). placed_from file.id n bs) same

-- ---- the files

puts_more : (file : LogFileContext) (batches : List Batch) (asks : List Ask)
    → (more : List Ask) × (puts_asks file batches asks ≡ more ++ asks)
puts_more file [] asks = ([], refl)
puts_more file (b ∷ batches) asks =
    let a : Ask = ask file.id.queue (Put (bytes_for file b)) in
    let rest = puts_more file batches (a ∷ asks) in
    (rest.0 ++ a ∷ [], rest.1 ∙ sym (append_assoc rest.0 (a ∷ []) asks))

files_puts : (version : Version) (batches : List Batch) (asks : List Ask) (files other : QueueFiles)
    → other.closed.items ≡ files.closed.items → other.seq ≡ files.seq → other.len ≡ end_from files.len batches
    → AreFilesOf Rewrite asks files
    → AreFilesOf Rewrite (puts_asks (record { id = record { queue = Rewrite; seq = files.seq }; version = version }) batches asks) other
files_puts version [] asks files other closed seq len f = files_same Rewrite asks asks files other refl refl closed seq len f
files_puts version (b ∷ batches) asks files other closed seq len f =
    let bytes : List ℕ = bytes_for (record { id = record { queue = Rewrite; seq = files.seq }; version = version }) b in
    let mid : QueueFiles = record files { len = files.len + encoded_length b.items b.entry_bytes } in
    files_puts version batches (ask Rewrite (Put bytes) ∷ asks) mid other closed seq len
    (files_told asks bytes files mid refl refl (ap (λ (n : ℕ). files.len + n) (sym (log_batch_length (signature_in version files.seq) b.items b.entry_bytes))) f)

-- ---- the engine

module _ (read : ReadsAreStored) (version : Version) (asks : List Ask) (append rewrite : QueueFiles) (untold : Batch) (accessor : Accessor) (intact : Bool)
    (k : IsKeptBy version asks append rewrite untold accessor intact) where
  abbrev engine : KeptEngine
  engine = record { version = version; asks = asks; untold = untold; accessor = accessor; intact = intact }

  -- there is no group of its records
  pub group_unmade : {MayFail : Failures} (region : ℕ) (t : Table) → finite.get accessor.tables region ≡ Some t
      → (new : List Ask) (e : Error) → AreOnlyRead asks new
      → (e ≢ errors.Memory → IsGroupRefused MayFail t asks new e)
      → IsGroupUnmoved MayFail region engine (record engine { asks = new }) e
  group_unmade region t there new e r refused = inl (record { asked = r; others = refl }, λ some. inl (t, there, refused some))

  module _ (is_intact : intact ≡ true) (region : ℕ) (t : Table) (there : finite.get accessor.tables region ≡ Some t) (between : List Ask) (batches : List Batch)
      (p : IsGroupInParts t asks between rewrite.seq batches) where
    pub group_reads : AreOnlyRead asks between
    group_reads = parts_only p.moving.parts asks between p.moving.read

    is_group : IsGroupOf region engine between rewrite.seq batches
    is_group = record { table = t; there = there; parts = p }

    abbrev its_bytes : List ℕ
    its_bytes = (k.whole is_intact).rewrite_files.bytes

    its_last : IsLastFile Rewrite asks rewrite.seq its_bytes
    its_last = files_last Rewrite asks rewrite (k.whole is_intact).rewrite_files

    -- it is too long
    pub group_long : {MayFail : Failures} (e : Error) → (e ≢ errors.Memory → (e ≡ errors.Full) × IsOneTooLong rewrite.len batches)
        → IsGroupUnmoved MayFail region engine (record engine { asks = between }) e
    group_long e long = inl (
      record { asked = group_reads; others = refl },
      λ some. inr (
        (long some).0,
        record {
          seq = rewrite.seq;
          bytes = its_bytes;
          last = its_last;
          batches = batches;
          group = is_group;
          long = subst (λ n. IsOneTooLong n batches) (k.whole is_intact).rewrite_files.ends (long some).1;
        },
      ),
    )

    abbrev file : LogFileContext
    file = record { id = record { queue = Rewrite; seq = rewrite.seq }; version = version }

    -- the files fail to put one of the batches, or all are put, and the tables refuse an item
    pub group_half : {MayFail : Failures} (new : List Ask) (accessor' : Accessor) (e : Error)
        → (FailsAmong MayFail (puts_asks file batches []) between new e × (accessor' ≡ accessor))
        ⊎ ((new ≡ puts_asks file batches between) × AreUntaken None rewrite.seq (placed_from file.id (length its_bytes) batches) accessor accessor' e)
        → IsGroupHalfMoved MayFail region engine (record engine { asks = new; accessor = accessor'; intact = false }) e
    group_half new accessor' e why = record {
      between = between;
      batches = batches;
      seq = rewrite.seq;
      bytes = its_bytes;
      last = its_last;
      group = is_group;
      why = why;
      others = refl;
    }

    module _ (stores : MovedGroupsAreStored) (synced : AreSynced (acts_on Append asks)) (none : untold.items ≡ []) (own : t.region_id ≡ region) (w : AllByRecursion IsWritableBatch batches) where
      between_kept : IsKeptBy version between append rewrite untold accessor intact
      between_kept = kept_read read version asks append rewrite untold accessor intact k between group_reads

      between_unfailed : NoSyncFailed between
      between_unfailed = (between_kept.whole is_intact).unfailed

      nothing : between_kept.untold ≡ []
      nothing = sym (ap (λ (b : Batch). b.items) (between_kept.whole is_intact).are_untold) ∙ none

      stored_between : AreKeptStored version between between_kept.base [] accessor.tables
      stored_between =
          subst (λ (u : List Item). AreKeptStored version between between_kept.base u accessor.tables) nothing
          (subst (λ (x : Tables). AreKeptStored version between between_kept.base between_kept.untold x) (sym (between_kept.whole is_intact).are_tables) between_kept.stored)

      last_between : IsLastFile Rewrite between rewrite.seq its_bytes
      last_between = read_last asks between rewrite.seq its_bytes group_reads its_last

      stored : AreGroupBatchesStored version between between_kept.base accessor.tables file its_bytes batches
      stored =
          stores version asks between between_kept.base accessor.tables rewrite.seq its_bytes rewrite.seq t batches (read_synced asks between group_reads synced) last_between w
          (ap (λ r. finite.get accessor.tables r) own ∙ there) p.moving stored_between

      -- all are put, and the engine isn't intact any more
      pub all_broken : (new : List Ask) (append' rewrite' : QueueFiles) (untold' : Batch) (accessor' : Accessor)
          → new ≡ puts_asks file batches between → IsKeptBy version new append' rewrite' untold' accessor' false
      all_broken new append' rewrite' untold' accessor' e = record {
        base = between_kept.base;
        untold = [];
        tables = stored.put.0;
        stored = subst (λ (l : List Ask). AreKeptStored version l between_kept.base [] stored.put.0) (sym e) stored.put.1;
        trusted = unfailed_trusted new (subst NoSyncFailed (sym e) (puts_unfailed file batches between between_unfailed));
        whole = λ no. absurd cc;
      }

      -- or the first ones
      pub first_broken : (new : List Ask) (append' rewrite' : QueueFiles) (untold' : Batch) (accessor' : Accessor)
          → AreFirstPut file batches between new → IsKeptBy version new append' rewrite' untold' accessor' false
      first_broken new append' rewrite' untold' accessor' f = elim (eq-or-lt_of_le f.at_most) [
        | inl all ↦ all_broken new append' rewrite' untold' accessor' (f.asked ∙ ap (λ (l : List Batch). puts_asks file l between) (take_all f.count batches (omega (arith, all))))
        | inr less ↦ record {
          base = between_kept.base;
          untold = [];
          tables = accessor.tables;
          stored = subst (λ (l : List Ask). AreKeptStored version l between_kept.base [] accessor.tables) (sym f.asked) (stored.begun f.count less);
          trusted = unfailed_trusted new (subst NoSyncFailed (sym f.asked) (puts_unfailed file (take f.count batches) between between_unfailed));
          whole = λ no. absurd cc;
        }
      ]

      module _ (new : List Ask) (is_new : new ≡ puts_asks file batches between) (accessor' : Accessor)
          (applied : AreWritten (Rewriting None rewrite.seq) (placed_from file.id (length its_bytes) batches) accessor accessor') where
        pub group_kept : MovedGroupsAreReadBack → (rewrite' : QueueFiles) → rewrite'.closed.items ≡ rewrite.closed.items
            → rewrite'.seq ≡ rewrite.seq → rewrite'.len ≡ end_from rewrite.len batches
            → IsKeptBy version new append rewrite' untold accessor' true
        group_kept back rewrite' closed seq len = record {
          base = between_kept.base;
          untold = [];
          tables = accessor'.tables;
          stored = subst (λ (l : List Ask). AreKeptStored version l between_kept.base [] accessor'.tables) (sym is_new) (stored.moved accessor'.tables applied.tables);
          trusted = unfailed_trusted new (subst NoSyncFailed (sym is_new) (puts_unfailed file batches between between_unfailed));
          whole = λ i. record {
            are_tables = refl;
            are_untold = (between_kept.whole is_intact).are_untold ∙ ap (λ (items : List Item). record empty_batch { items = items }) nothing;
            take_away = tt;
            append_files = subst (λ (l : List Ask). AreFilesOf Append l append) (sym is_new)
                (files_same Append between (puts_asks file batches between) append append (ap begun (puts_append version rewrite.seq batches between)) (ap deletions (puts_append version rewrite.seq batches between))
                refl refl refl (between_kept.whole is_intact).append_files);
            rewrite_files = subst (λ (l : List Ask). AreFilesOf Rewrite l rewrite') (sym is_new) (files_puts version batches between rewrite rewrite' closed seq len (between_kept.whole is_intact).rewrite_files);
            unfailed = subst NoSyncFailed (sym is_new) (puts_unfailed file batches between between_unfailed);
            read_back = λ found.
                let more = puts_more file batches between in
                let before = (between_kept.whole is_intact).read_back (none_before Rewrite version more.0 between (subst (NoneFound Rewrite version) (is_new ∙ more.1) found)) in
                subst (λ (l : List Ask). IsReadBack version l accessor') (sym is_new)
                (back version asks between accessor accessor' rewrite.seq its_bytes rewrite.seq t batches (queue_deeds.written stored_between.now.rewritten) last_between
                stored_between.now.rewrite_done.put.whole w p.moving applied before);
          };
        }

        pub group_moved : IsGroupMoved region engine (record engine { asks = new; accessor = accessor'; intact = true })
        group_moved = record {
          between = between;
          batches = batches;
          seq = rewrite.seq;
          bytes = its_bytes;
          last = its_last;
          group = is_group;
          applied = applied;
          moved = ap (λ (l : List Ask). record engine { asks = l; accessor = accessor'; intact = true }) is_new
              ∙ ap (λ (b : Bool). record engine { asks = puts_asks file batches between; accessor = accessor'; intact = b }) (sym is_intact);
        }
