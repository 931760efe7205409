-- What an engine is made of when it is opened.
use Rattle.raft_engine.proofs.Common.{◌≡◌, ◌≢◌, inl, inr, ℕ, ◌+◌, List, [], ◌∷◌, ◌++◌, true, refl, sym, ap, ◌∙◌, subst, append_assoc, arith, signature_in, Error, LogQueue, Append, Rewrite, Version, Item, Batch, empty_batch, encoded, encoded_length, log_batch_length, Event}
use Rattle.raft_engine.proofs.Common.{Accessor, Ask, NoSyncFailed, NumberedBytes, Put, Unsynced, acts_on, ask, IsLeftOf, begun, other_left, unsynced_left, HaveBothBegun, FilesHold, TakeAway, bytes_for, FoundRecordsLast, HaveEverRecords, AreFilesOf, IsKeptBy, AreRead, AreWanted}
use Rattle.raft_engine.proofs.Common.{Failures, FailsAmong, asks_that_tell, missing_asks, opening_asks, AreReadFound, reading_asks, Bases, AreMadeReady, AreReady, AreStoredBeside, FoundFilesAreReady, FoundFilesAreStored, found_asks, told_asks, IsHalfOpened, QueueFiles, Reading}
use Rattle.raft_engine.proofs.FilesLemmas.{files_same, files_told}
use Rattle.raft_engine.proofs.AloneLemmas.{opened_read_back}
use Rattle.raft_engine.proofs.AskedLemmas.{AreAskedInPart, asked_part}
use Rattle.raft_engine.proofs.ReadyLemmas.{both_ready, opening_split}
use Rattle.raft_engine.proofs.MomentLemmas.{both_more}
use Rattle.raft_engine.proofs.TrustLemmas.{opening_unfailed, unfailed_trusted}

-- what an engine is made of when it is opened
pub record AreOpened (version : Version) (append rewrite : List NumberedBytes) (asks : List Ask) (append_files rewrite_files : QueueFiles) (accessor : Accessor) (untold : Batch) : Type 0 where
  pub read : AreRead version append rewrite asks accessor untold
  pub still_open : untold ≡ record empty_batch { items = untold.items }
  pub away : TakeAway untold.items
  pub stored : AreStoredBeside version asks untold.items accessor.tables
  pub unfailed : NoSyncFailed asks
  pub append_known : AreFilesOf Append asks append_files
  pub rewrite_known : AreFilesOf Rewrite asks rewrite_files

-- ---- a sync that failed

-- it leaves what may be left
left_before : (queue other : LogQueue) (asks : List Ask) (files : List NumberedBytes) → IsLeftOf queue (ask other Unsynced ∷ asks) files → IsLeftOf queue asks files
left_before Append Append asks files l = unsynced_left Append asks files l
left_before Append Rewrite asks files l = other_left Append Rewrite asks Unsynced files refl l
left_before Rewrite Append asks files l = other_left Rewrite Append asks Unsynced files refl l
left_before Rewrite Rewrite asks files l = unsynced_left Rewrite asks files l

ever_unsynced : (version : Version) (asks : List Ask) (records : Bases) (other : LogQueue) → HaveBothBegun asks → HaveEverRecords version asks records → HaveEverRecords version (ask other Unsynced ∷ asks) records
ever_unsynced version asks records other begun ever content [] earlier e both append rewrite a r =
    ever content [] asks refl begun append rewrite
    (left_before Append other asks append (subst (λ (l : List Ask). IsLeftOf Append l append) (sym e) a))
    (left_before Rewrite other asks rewrite (subst (λ (l : List Ask). IsLeftOf Rewrite l rewrite) (sym e) r))
ever_unsynced version asks records other begun ever content (x ∷ later) earlier e both append rewrite a r =
    let rest : asks ≡ later ++ earlier = cc in ever content later earlier rest both append rewrite a r

-- a batch tells the same once it is encoded
same_tell : (version : Version) (seq : ℕ) (told : Batch) (items : List Item) → asks_that_tell version seq (record told { stage = encoded }) items ≡ asks_that_tell version seq told items
same_tell version seq told [] = refl
same_tell version seq told (item ∷ items) = refl

no_item : (item : Item) (items : List Item) → item ∷ items ≡ [] → ⊥
no_item item items e = absurd cc

same_files : (files : QueueFiles) (n : ℕ) → n ≡ 0 → record files { len = files.len + n } ≡ files
same_files files n none = ap (λ (l : ℕ). record files { len = l }) (omega (arith, none))

-- what is known once all this was asked: the tables are stored, the append files hold these batches, and the files of both queues have their numbers and lengths
pub record AreKnown (version : Version) (asks : List Ask) (append_files rewrite_files : QueueFiles) (accessor : Accessor) (untold : Batch) (appended : List Event) : Type 0 where
  pub stays : FilesHold Append version (begun (acts_on Append asks)) appended
  pub stored : AreStoredBeside version asks untold.items accessor.tables
  pub append_known : AreFilesOf Append asks append_files
  pub rewrite_known : AreFilesOf Rewrite asks rewrite_files

module _ (ready : FoundFilesAreReady) (stored : FoundFilesAreStored) (lasting : FoundRecordsLast) (version : Version) (append rewrite : List NumberedBytes) (r : Reading) (f : AreReadFound version append rewrite r) where
  abbrev first : List Ask
  first = found_asks append rewrite

  abbrev asked : List Ask
  asked = missing_asks Rewrite r.rewrite_missing ++ (missing_asks Append r.append_missing ++ first)

  are_ready : AreReady version append rewrite f.append_left f.rewrite_left asked
  are_ready = both_ready version append rewrite f.append_left f.rewrite_left (missing_asks Append r.append_missing) (missing_asks Rewrite r.rewrite_missing) f.append_ready f.rewrite_ready

  m : AreMadeReady version append rewrite f.append_left f.rewrite_left asked f.recovered.appended f.recovered.rewritten
  m = ready version asked append rewrite f.append_left f.rewrite_left f.recovered.appended f.recovered.rewritten are_ready f.recovered.append_held f.recovered.rewrite_held

  -- what is asked, with the batch that was encoded
  told_same : opening_asks version (missing_asks Append r.append_missing) (missing_asks Rewrite r.rewrite_missing) r.rewrite.seq r.told
      ≡ opening_asks version (missing_asks Append r.append_missing) (missing_asks Rewrite r.rewrite_missing) r.rewrite.seq f.told
  told_same =
      ap (λ (b : Batch). opening_asks version (missing_asks Append r.append_missing) (missing_asks Rewrite r.rewrite_missing) r.rewrite.seq b) f.made
      ∙ ap (λ (l : List Ask). l ++ (missing_asks Rewrite r.rewrite_missing ++ missing_asks Append r.append_missing)) (same_tell version r.rewrite.seq f.told f.told.items)

  all_asked : reading_asks version r ++ first ≡ asks_that_tell version r.rewrite.seq f.told f.told.items ++ asked
  all_asked =
      ap (λ (l : List Ask). l ++ first) told_same
      ∙ opening_split version (missing_asks Append r.append_missing) (missing_asks Rewrite r.rewrite_missing) r.rewrite.seq f.told first

  append_files : AreFilesOf Append asked r.append
  append_files = record {
    gone = [];
    closed = f.append_of.closed;
    bytes = f.append_of.bytes;
    are = m.append_files ∙ f.append_of.split;
    deleted = m.append_none;
    have = f.append_of.have;
    ends = f.append_of.ends;
  }

  rewrite_files : AreFilesOf Rewrite asked r.rewrite
  rewrite_files = record {
    gone = [];
    closed = f.rewrite_of.closed;
    bytes = f.rewrite_of.bytes;
    are = m.rewrite_files ∙ f.rewrite_of.split;
    deleted = m.rewrite_none;
    have = f.rewrite_of.have;
    ends = f.rewrite_of.ends;
  }

  stays : FilesHold Append version (begun (acts_on Append asked)) f.recovered.appended
  stays = subst (λ (l : List NumberedBytes). FilesHold Append version l f.recovered.appended) (sym m.append_files) f.recovered.append_held

  at_once : f.told.items ≡ [] → AreKnown version asked r.append r.rewrite r.accessor r.untold f.recovered.appended
  at_once none = record {
    stays = stays;
    stored = (stored version asked append rewrite f.append_left f.rewrite_left r.accessor f.told r.untold are_ready f.recovered).0 none;
    append_known = append_files;
    rewrite_known = rewrite_files;
  }

  abbrev put_bytes : List ℕ
  put_bytes = bytes_for (record { id = record { queue = Rewrite; seq = r.rewrite.seq }; version = version }) f.told

  abbrev new_rewrite : QueueFiles
  new_rewrite = record r.rewrite { len = r.rewrite.len + r.told_len }

  told_len : r.told_len ≡ encoded_length f.told.items f.told.entry_bytes
  told_len = f.to_be_told.len ∙ ap (λ (b : Batch). encoded_length b.items b.entry_bytes) f.made

  once_told : f.told.items ≢ [] → AreKnown version (told_asks version r.rewrite.seq f.told asked) r.append new_rewrite r.accessor r.untold f.recovered.appended
  once_told some = record {
    stays = stays;
    stored = (stored version asked append rewrite f.append_left f.rewrite_left r.accessor f.told r.untold are_ready f.recovered).1 f.rewrite_of.closed r.rewrite.seq f.rewrite_of.bytes f.rewrite_of.split (f.writable some);
    append_known = files_same Append asked (told_asks version r.rewrite.seq f.told asked) r.append r.append refl refl refl refl refl append_files;
    rewrite_known = files_same Rewrite (ask Rewrite (Put put_bytes) ∷ asked) (told_asks version r.rewrite.seq f.told asked) new_rewrite new_rewrite refl refl refl refl refl
        (files_told asked put_bytes r.rewrite new_rewrite refl refl (ap (λ (n : ℕ). r.rewrite.len + n) (told_len ∙ sym (log_batch_length (signature_in version r.rewrite.seq) f.told.items f.told.entry_bytes))) rewrite_files);
  }

  all_known : AreKnown version (reading_asks version r ++ first) r.append new_rewrite r.accessor r.untold f.recovered.appended
  all_known = subst (λ (l : List Ask). AreKnown version l r.append new_rewrite r.accessor r.untold f.recovered.appended) (sym all_asked) (go f.told.items refl)
    where
      go : (items : List Item) → f.told.items ≡ items → AreKnown version (asks_that_tell version r.rewrite.seq f.told items ++ asked) r.append new_rewrite r.accessor r.untold f.recovered.appended
      go [] none =
          subst (λ (q : QueueFiles). AreKnown version asked r.append q r.accessor r.untold f.recovered.appended)
          (sym (same_files r.rewrite r.told_len (told_len ∙ ap (λ (items : List Item). encoded_length items f.told.entry_bytes) none))) (at_once none)
      go (item ∷ items) some = once_told (λ none. no_item item items (sym some ∙ none))

  are_wanted : AreWanted version append rewrite r.accessor r.untold (reading_asks version r)
  are_wanted = record {
    append_missing = missing_asks Append r.append_missing;
    rewrite_missing = missing_asks Rewrite r.rewrite_missing;
    append_left = f.append_left;
    rewrite_left = f.rewrite_left;
    append_ready = f.append_ready;
    rewrite_ready = f.rewrite_ready;
    told = f.told;
    recovered = f.recovered;
    closed = f.rewrite_of.closed;
    seq = r.rewrite.seq;
    bytes = f.rewrite_of.bytes;
    last = f.rewrite_of.split;
    are = told_same;
  }

  all_opened : AreOpened version append rewrite (reading_asks version r ++ first) r.append new_rewrite r.accessor r.untold
  all_opened = record {
    read = record {
      wanted = reading_asks version r;
      are_wanted = are_wanted;
      asked = refl;
      appended = f.recovered.appended;
      rewritten = f.recovered.rewritten;
      append_held = m.append_held;
      rewrite_held = m.rewrite_held;
      append_sound = f.recovered.append_sound;
      rewrite_sound = f.recovered.rewrite_sound;
      apart = f.recovered.apart;
      reading = f.recovered.reading;
      append_stays = all_known.stays;
    };
    still_open = f.recovered.untold_open;
    away = f.recovered.untold_away;
    stored = all_known.stored;
    unfailed = opening_unfailed version r.rewrite.seq r.told Rewrite Append r.append_missing r.rewrite_missing first (tt, (tt, tt));
    append_known = all_known.append_known;
    rewrite_known = all_known.rewrite_known;
  }

  -- once all of it was asked, of which the reading keeps all but the batch
  pub opened_so : (left : Reading) (asks later : List Ask) → asks ≡ first → later ≡ reading_asks version r ++ asks → left ≡ record r { told = left.told }
      → AreOpened version append rewrite later left.append (record left.rewrite { len = left.rewrite.len + left.told_len }) left.accessor left.untold
  opened_so left asks later are all same =
      subst (λ (x : Reading). AreOpened version append rewrite later x.append (record x.rewrite { len = x.rewrite.len + x.told_len }) x.accessor x.untold) (sym same)
      (subst (λ (l : List Ask). AreOpened version append rewrite l r.append new_rewrite r.accessor r.untold) (sym (all ∙ ap (λ (l : List Ask). reading_asks version r ++ l) are)) all_opened)

  pub half_opened : (MayFail : Failures) (later : List Ask) (e : Error) → FailsAmong MayFail (reading_asks version r) first later e → IsHalfOpened MayFail version append rewrite later e
  half_opened MayFail later e failed = record {
    accessor = r.accessor;
    untold = r.untold;
    wanted = reading_asks version r;
    are_wanted = are_wanted;
    failed = failed;
    records = all.0;
    ever = elim half.asked [
      | inl e ↦ subst (λ (l : List Ask). HaveEverRecords version l all.0) (sym e) ever_made
      | inr u ↦ subst (λ (l : List Ask). HaveEverRecords version l all.0) (sym u.noted)
          (ever_unsynced version (half.made ++ first) all.0 u.queue (both_more half.made first ((λ none. absurd cc), (λ none. absurd cc))) ever_made)
    ];
  }
    where
      half : AreAskedInPart (reading_asks version r) first later
      half = asked_part MayFail (reading_asks version r) first later e failed

      all : (records : Bases) × HaveEverRecords version (asks_that_tell version r.rewrite.seq f.told f.told.items ++ asked) records
      all = lasting version asked append rewrite f.append_left f.rewrite_left r.accessor f.told r.untold are_ready f.recovered f.rewrite_of.closed r.rewrite.seq f.rewrite_of.bytes f.rewrite_of.split f.writable

      ever_made : HaveEverRecords version (half.made ++ first) all.0
      ever_made content more earlier e begun =
          all.1 content (half.missing ++ more) earlier
          (sym all_asked ∙ ap (λ (l : List Ask). l ++ first) half.split ∙ append_assoc half.missing half.made first ∙ ap (λ (l : List Ask). half.missing ++ l) e
          ∙ sym (append_assoc half.missing more earlier)) begun

-- an engine that was opened
pub kept_opened : (version : Version) (append rewrite : List NumberedBytes) (asks : List Ask) (append_known rewrite_known : QueueFiles) (untold : Batch) (accessor : Accessor)
    → AreOpened version append rewrite asks append_known rewrite_known accessor untold → IsKeptBy version asks append_known rewrite_known untold accessor true
kept_opened version append rewrite asks append_known rewrite_known untold accessor o = record {
  base = o.stored.0;
  untold = untold.items;
  tables = accessor.tables;
  stored = o.stored.1;
  trusted = unfailed_trusted asks o.unfailed;
  whole = λ intact. record {
    are_tables = refl;
    are_untold = o.still_open;
    take_away = o.away;
    append_files = o.append_known;
    rewrite_files = o.rewrite_known;
    unfailed = o.unfailed;
    read_back = opened_read_back version append rewrite asks accessor untold o.read;
  };
}
