-- What an opening would do, by what a reading of the files says.
use Rattle.raft_inspect.proofs.Common.{◌≡◌, ◌≢◌, ◌∙◌, ◌++◌, ℕ, List, Result, Ok, Err, IfErr, true, refl, subst, sym, Error, FileId, Append, Rewrite, Version, NumberedBytes, IoError, FileSize, IsTailTold, tail_of, FoundRecordsLast, AreReadFound, reading_asks, FoundFilesAreReady}
use Rattle.raft_inspect.proofs.Common.{FoundFilesAreStored, found_asks, ReadFiles, Reading, Recovered, TolerateTornTail, opened_so, IsReadingOf, IsUntried, AreRefusedFor, AreTablesOf, CutsNothing, HoldsOfRead, IsAcceptedSo, IsOpenedSo, IsOpeningOf, is_refused_read, IsUncut, Opening, Opens}
use Rattle.raft_inspect.proofs.Common.{Refuses}
use Rattle.raft_base.specs.declared.errors.Error.TheVariants as errors
use Rattle.raft_engine.specs.Unopened.{AreBothAccepted}

-- the tables of a reading of files that are accepted are those of an engine that is opened
tables_of : (ready : FoundFilesAreReady) (stored : FoundFilesAreStored) (lasting : FoundRecordsLast) (version : Version) (append rewrite : List NumberedBytes) (reading : Reading)
    → AreBothAccepted TolerateTornTail version append rewrite → AreReadFound version append rewrite reading → AreTablesOf version reading.accessor append rewrite
tables_of ready stored lasting version append rewrite reading accepted found =
    let asks = reading_asks version reading ++ found_asks append rewrite in
    record {
      accepted = accepted;
      engine = record { version = version; asks = asks; untold = reading.untold; accessor = reading.accessor; intact = true };
      opened = record {
        of_version = refl;
        intact = refl;
        read = (opened_so ready stored lasting version append rewrite reading found reading (found_asks append rewrite) asks refl refl refl).read;
      };
      same = refl;
    }

module _ (Gives : FileId → ℕ → List ℕ → Type 0) (Fails : FileId → ℕ → IoError → Type 0) (version : Version) (append rewrite : List FileSize) where
  -- for another fact of the same bytes
  holds_more : (P Q : List NumberedBytes → List NumberedBytes → Type 0) → ((a b : List NumberedBytes) → P a b → Q a b) → HoldsOfRead Gives append rewrite P → HoldsOfRead Gives append rewrite Q
  holds_more P Q more h = record { append_files = h.append_files; rewrite_files = h.rewrite_files; given = h.given; holds = more h.append_files h.rewrite_files h.holds }

  -- what was read
  pub read_so : (ready : FoundFilesAreReady) (stored : FoundFilesAreStored) (lasting : FoundRecordsLast) (files : ReadFiles) → IsReadingOf Gives TolerateTornTail version append rewrite files
      → HoldsOfRead Gives append rewrite (IsAcceptedSo version files.reading)
  read_so ready stored lasting files is =
      let over = is.2 in
      record {
        append_files = is.0;
        rewrite_files = is.1;
        given = over.given;
        holds = record {
          accepted = over.accepted;
          append_told = over.read.append_told;
          rewrite_told = over.read.rewrite_told;
          are_tables = tables_of ready stored lasting version is.0 is.1 files.reading over.accepted over.read;
        };
      }

  -- its tables
  pub tables_so : (reading : Reading) → HoldsOfRead Gives append rewrite (IsAcceptedSo version reading) → HoldsOfRead Gives append rewrite (AreTablesOf version reading.accessor)
  tables_so reading read = holds_more (IsAcceptedSo version reading) (AreTablesOf version reading.accessor) (λ a b is. is.are_tables) read

  -- the tails that were told are to be cut off
  pub opens_so : (workers : ℕ) (reading : Reading) (recovered : Recovered) → HoldsOfRead Gives append rewrite (IsAcceptedSo version reading)
      → recovered.append ≡ tail_of reading.append_missing → recovered.rewrite ≡ tail_of reading.rewrite_missing → IsOpeningOf Gives Fails version workers append rewrite (Opens recovered)
  opens_so workers reading recovered read is_append is_rewrite =
      holds_more (IsAcceptedSo version reading) (IsOpenedSo version recovered)
      (λ a b r. record {
        accepted = r.accepted;
        told = record {
          append_told = subst (IsTailTold Append version a) (sym is_append) r.append_told;
          rewrite_told = subst (IsTailTold Rewrite version b) (sym is_rewrite) r.rewrite_told;
        };
        tables = reading.accessor;
        are_tables = r.are_tables;
      })
      read

  -- a reading that is no refusal of an opening
  pub untried_so : (workers : ℕ) (r : Result Opening Error) (error : Error) → (error ≢ errors.Memory → AreRefusedFor Gives Fails version workers append rewrite error) → IfErr r (λ e. e ≡ error)
      → IfErr r (λ e. e ≢ errors.Memory → is_refused_read e ≡ true) → IfErr r (λ e. e ≢ errors.Memory → IsUntried Gives Fails version workers append rewrite e)
  untried_so workers (Ok opening) error refused same io = tt
  untried_so workers (Err e) error refused same io = λ other. (io other, subst (AreRefusedFor Gives Fails version workers append rewrite) (sym same) (refused (λ memory. other (same ∙ memory))))

  -- an opening that cuts nothing off accepts the files, they end with their batches, and there are tables
  pub opening_uncut : (workers : ℕ) (opening : Opening) → IsOpeningOf Gives Fails version workers append rewrite opening → CutsNothing opening → HoldsOfRead Gives append rewrite (IsUncut version)
  opening_uncut workers (Opens recovered) opens cuts =
      holds_more (IsOpenedSo version recovered) (IsUncut version)
      (λ a b o. record {
        accepted = o.accepted;
        append_uncut = subst (IsTailTold Append version a) cuts.0 o.told.append_told;
        rewrite_uncut = subst (IsTailTold Rewrite version b) cuts.1 o.told.rewrite_told;
        tables = o.tables;
        are_tables = o.are_tables;
      })
      opens
  opening_uncut workers (Refuses error) opens cuts = absurd cuts
