-- What an engine keeps once a new file of its rewrite queue is begun.
use Rattle.raft_engine.proofs.Common.{◌≡◌, ◌⊎◌, inl, inr, ℕ, ◌+◌, ◌-◌, ◌^◌, Bool, true, List, [], ◌∷◌, ◌++◌, refl, sym, ap, ◌∙◌, subst, Error, Append, Rewrite, Version, Batch, Accessor, Ask, Begin, NoSyncFailed, Sync, ask, IsLastFile, KeptEngine, AreFilesOf, IsKeptBy}
use Rattle.raft_engine.proofs.Common.{IsRewriteRotated, IsRewriteRotationRefusal, AreKeptStored, NewFilesAreStored, SyncsAreStored, QueueFiles, IsReadBackAlone}
use Rattle.raft_base.specs.declared.errors.Error.TheVariants as errors
use Rattle.raft_engine.proofs.FilesLemmas.{files_begun, files_last, files_same}
use Rattle.raft_engine.proofs.KeptLemmas.{stored_next}
use Rattle.raft_engine.proofs.ReadBackLemmas.{rewrite_begun_read_back, same_read_back}
use Rattle.raft_engine.proofs.TrustLemmas.{unfailed_trusted}

module _ (version : Version) (asks : List Ask) (append rewrite : QueueFiles) (untold : Batch) (accessor : Accessor) (intact : Bool) (k : IsKeptBy version asks append rewrite untold accessor intact) where
  abbrev engine : KeptEngine
  engine = record { version = version; asks = asks; untold = untold; accessor = accessor; intact = intact }

  -- one that only lists the same rewrite files anew
  pub rewrites_listed : (rewrite' : QueueFiles) → rewrite'.closed.items ≡ rewrite.closed.items → rewrite'.seq ≡ rewrite.seq → rewrite'.len ≡ rewrite.len → IsKeptBy version asks append rewrite' untold accessor intact
  rewrites_listed rewrite' closed seq len = record {
    base = k.base;
    untold = k.untold;
    tables = k.tables;
    stored = k.stored;
    trusted = k.trusted;
    whole = λ i. let w = k.whole i in record {
      are_tables = w.are_tables;
      are_untold = w.are_untold;
      take_away = w.take_away;
      append_files = w.append_files;
      rewrite_files = files_same Rewrite asks asks rewrite rewrite' refl refl closed seq len w.rewrite_files;
      unfailed = w.unfailed;
      read_back = w.read_back;
    };
  }

  module _ (is_intact : intact ≡ true) where
    pub last_rewrite : IsLastFile Rewrite asks rewrite.seq ((k.whole is_intact).rewrite_files.bytes)
    last_rewrite = files_last Rewrite asks rewrite (k.whole is_intact).rewrite_files

    -- the last one has the greatest number, or there is no memory
    pub refusal : (e : Error) → (e ≡ errors.Memory) ⊎ ((e ≡ errors.Full) × (rewrite.seq ≡ 2 ^ 64 - 1)) → IsRewriteRotationRefusal engine e
    refusal e (inl memory) = subst (IsRewriteRotationRefusal engine) (sym memory) tt
    refusal e (inr full) = subst (IsRewriteRotationRefusal engine) (sym full.0)
        ((k.whole is_intact).rewrite_files.bytes, subst (λ (n : ℕ). IsLastFile Rewrite asks n ((k.whole is_intact).rewrite_files.bytes)) full.1 last_rewrite)

    module _ (new : List Ask) (are_asked : new ≡ ask Rewrite (Begin (rewrite.seq + 1)) ∷ ask Rewrite Sync ∷ asks) where
      pub kept_rotated : SyncsAreStored → NewFilesAreStored → (rewrite' : QueueFiles)
          → rewrite'.closed.items ≡ rewrite.closed.items ++ rewrite.seq ∷ [] → rewrite'.seq ≡ rewrite.seq + 1 → rewrite'.len ≡ 0 → IsKeptBy version new append rewrite' untold accessor true
      kept_rotated synced begun rewrite' closed seq len =
          let w = k.whole is_intact in
          let between = files_same Rewrite asks (ask Rewrite Sync ∷ asks) rewrite rewrite refl refl refl refl refl w.rewrite_files in
          let next = files_begun Rewrite (ask Rewrite Sync ∷ asks) rewrite rewrite' closed len between in record {
            base = k.base;
            untold = k.untold;
            tables = k.tables;
            stored = subst (λ (l : List Ask). AreKeptStored version l k.base k.untold k.tables) (sym are_asked)
                (stored_next version asks append rewrite untold accessor intact k synced begun Rewrite rewrite.seq _ last_rewrite);
            trusted = unfailed_trusted new (subst NoSyncFailed (sym are_asked) (tt, (tt, w.unfailed)));
            whole = λ i. record {
              are_tables = w.are_tables;
              are_untold = w.are_untold;
              take_away = w.take_away;
              append_files = subst (λ (l : List Ask). AreFilesOf Append l append) (sym are_asked)
                  (files_same Append asks (ask Rewrite (Begin (rewrite.seq + 1)) ∷ ask Rewrite Sync ∷ asks) append append refl refl refl refl refl w.append_files);
              rewrite_files = subst (λ (l : List Ask). AreFilesOf Rewrite l rewrite') (ap (λ (n : ℕ). ask Rewrite (Begin n) ∷ ask Rewrite Sync ∷ asks) seq ∙ sym are_asked) next;
              unfailed = subst NoSyncFailed (sym are_asked) (tt, (tt, w.unfailed));
              read_back = subst (λ (l : List Ask). IsReadBackAlone version l accessor) (sym are_asked)
                  (rewrite_begun_read_back version (ask Rewrite Sync ∷ asks) (rewrite.seq + 1) accessor (same_read_back version asks (ask Rewrite Sync ∷ []) accessor refl refl w.read_back));
            };
          }

      pub is_rotated : IsRewriteRotated engine (record engine { asks = new; intact = true })
      is_rotated = record {
        seq = rewrite.seq;
        bytes = (k.whole is_intact).rewrite_files.bytes;
        last = last_rewrite;
        rotated = ap (λ (l : List Ask). record engine { asks = l; intact = true }) are_asked
            ∙ ap (λ (b : Bool). record engine { asks = ask Rewrite (Begin (rewrite.seq + 1)) ∷ ask Rewrite Sync ∷ asks; intact = b }) (sym is_intact);
      }
