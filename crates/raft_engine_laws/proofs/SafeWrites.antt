-- What is done to the append queue, and to queues that are synced, is safe.
use Rattle.raft_engine_laws.proofs.Common.{◌≡◌, ◌⊎◌, ℕ, ◌≤◌, List, [], ◌∷◌, ◌++◌, Some, inl, inr, refl, sym, ap, subst, ◌∙◌, arith, EntryIndex, Append, Rewrite, Event, IsOneReading, RegionStep, Tables, steps_on, steps_of_items, files-append, table_of, Appending, after_items}
use Rattle.raft_engine_laws.proofs.Common.{AreKept, IsWrittenNext, Records, no_base, live, HaveRecords, Deed, Write, Sync, written, deleted, MayStand, MayBeGone, in_files_from, IsLeft, IsNextIn, IsKeptWith, IsSafe, SayEnough, SayTheSame}
use Rattle.std.specs.FinMap as finite
use Rattle.raft_engine_laws.proofs.AlikeTables.{alike_taken}
use Rattle.raft_engine_laws.proofs.KeptWrites.{written_kept}
use Rattle.raft_engine_laws.proofs.NoFiles.{none_kept}
use Rattle.raft_engine_laws.proofs.QuietLemmas.{fewer_kept, same_kept}
use Rattle.raft_engine_laws.proofs.RecordLemmas.{empty_have, taken_have}
use Rattle.raft_engine_laws.proofs.RewriteReadings.{reading_there}
use Rattle.raft_engine_laws.proofs.CrashLemmas.{from_more, from_none, last_low, whole_stands, gone_unwritten, gone_unsynced, left_unsynced}

-- nothing is done
pub none_safe : (content : EntryIndex → List ℕ) → IsSafe content no_base [] [] [] finite.empty
none_safe content = record {
  append_files = tt;
  rewrite_files = tt;
  has = empty_have content;
  kept = λ m n g k. both (in_files_from m []) (in_files_from n []) (from_none m) (from_none n);
  left = λ standing append rewrite_standing rewrite x y. record {
    untold = [];
    tables = finite.empty;
    kept = both append rewrite (x.left ∙ ap (in_files_from x.gone) x.stands ∙ from_none x.gone) (y.left ∙ ap (in_files_from y.gone) y.stands ∙ from_none y.gone);
    has = subst (λ h. HaveRecords content finite.empty (live content no_base h)) (sym x.stands) (empty_have content);
  };
}
  where
    both : (a r : List Event) → a ≡ [] → r ≡ [] → AreKept content a r [] finite.empty
    both a r e f = subst (λ l. AreKept content l r [] finite.empty) (sym e) (subst (λ l. AreKept content [] l [] finite.empty) (sym f) (none_kept content))

module _ (content : EntryIndex → List ℕ) (base : ℕ → Records) (appended rewritten : List Deed) (untold : List RegionStep) (tables : Tables) (h : IsSafe content base appended rewritten untold tables) where
  -- a batch is written
  module _ (new : Tables) (e : Event) (next : IsNextIn Append appended e) (taken : after_items Appending tables e.items ≡ Some new) where
    abbrev all : List Event
    all = written appended

    more : (m : ℕ) → MayBeGone appended m → in_files_from m (all ++ e ∷ []) ≡ in_files_from m all ++ e ∷ []
    more m g = from_more m all e (let a : m ≤ deleted appended = g.at_most in let b : deleted appended ≤ e.file.seq = next.stays in omega (arith, a, b))

    next_of : (m : ℕ) (others later : Tables) → after_items Appending others e.items ≡ Some later → IsWrittenNext (in_files_from m all) others e later
    next_of m others later is = record {
      queue = next.queue_is;
      follows = (let a = last_low Append m 0 0 all h.append_files (omega arith) in let b = next.follows in omega (arith, a, b));
      in_file = next.in_file;
      taken = is;
    }

    written_left : (standing append r rewrite : List Event) → IsLeft (Write e ∷ appended) standing append → IsLeft rewritten r rewrite → IsKeptWith content append rewrite (live content base standing)
    written_left standing append r rewrite x y = go x.stands
      where
        may_go : MayBeGone appended x.gone
        may_go = gone_unwritten appended e x.gone x.may_go

        before : IsKeptWith content (in_files_from x.gone all) rewrite (live content base all)
        before = h.left all (in_files_from x.gone all) r rewrite (record { stands = whole_stands appended; gone = x.gone; may_go = may_go; left = refl }) y

        later : (l : Tables) × (after_items Appending before.tables e.items ≡ Some l)
        later = alike_taken content tables before.tables new (live content base all) e.items h.has before.has taken

        go : MayStand appended standing ⊎ (standing ≡ all ++ e ∷ []) → IsKeptWith content append rewrite (live content base standing)
        go (inl s) = h.left standing append r rewrite (record { stands = s; gone = x.gone; may_go = may_go; left = x.left }) y
        go (inr s) = record {
          untold = before.untold ++ steps_of_items e.items;
          tables = later.0;
          kept = subst (λ l. AreKept content l rewrite (before.untold ++ steps_of_items e.items) later.0) (sym (x.left ∙ ap (in_files_from x.gone) s ∙ more x.gone may_go))
              (written_kept content (in_files_from x.gone all) rewrite before.untold before.tables later.0 e before.kept (next_of x.gone before.tables later.0 later.1));
          has = subst (λ l. HaveRecords content later.0 (live content base l)) (sym s) (taken_have content base before.tables later.0 all e before.has later.1);
        }

    pub written_safe : IsSafe content base (Write e ∷ appended) rewritten (untold ++ steps_of_items e.items) new
    written_safe = record {
      append_files = files-append Append 0 all (e ∷ []) h.append_files (next.queue_is, next.follows, tt);
      rewrite_files = h.rewrite_files;
      has = taken_have content base tables new all e h.has taken;
      kept = λ m n g k. let may_go = gone_unwritten appended e m g in
          subst (λ l. AreKept content l (in_files_from n (written rewritten)) (untold ++ steps_of_items e.items) new) (sym (more m may_go))
          (written_kept content (in_files_from m all) (in_files_from n (written rewritten)) untold tables new e (h.kept m n may_go k) (next_of m tables new taken));
      left = written_left;
    }

  -- a queue is synced
  pub append_synced : IsSafe content base (Sync ∷ appended) rewritten untold tables
  append_synced = record {
    append_files = h.append_files;
    rewrite_files = h.rewrite_files;
    has = h.has;
    kept = λ m n g k. h.kept m n (gone_unsynced appended m g) k;
    left = λ standing append r rewrite x y. h.left standing append r rewrite (left_unsynced appended standing append x) y;
  }

  pub rewrite_synced : IsSafe content base appended (Sync ∷ rewritten) untold tables
  rewrite_synced = record {
    append_files = h.append_files;
    rewrite_files = h.rewrite_files;
    has = h.has;
    kept = λ m n g k. h.kept m n g (gone_unsynced rewritten n k);
    left = λ standing append r rewrite x y. h.left standing append r rewrite x (left_unsynced rewritten r rewrite y);
  }

  -- other steps stand for the untold ones
  pub untold_same : (other : List RegionStep) → ((r : ℕ) → SayTheSame (steps_on r other) (steps_on r untold)) → IsSafe content base appended rewritten other tables
  untold_same other same = record {
    append_files = h.append_files;
    rewrite_files = h.rewrite_files;
    has = h.has;
    kept = λ m n g k. same_kept content (in_files_from m (written appended)) (in_files_from n (written rewritten)) untold other tables (h.kept m n g k) same;
    left = h.left;
  }

  -- and steps that take away nothing of what the rewrite files give need not be told
  pub untold_fewer : (fewer : List RegionStep)
      → ((n : ℕ) (before : Tables) → MayBeGone rewritten n → IsOneReading Rewrite (in_files_from n (written rewritten)) before [] → (r : ℕ) → SayEnough (steps_on r untold) (steps_on r fewer) (table_of r (finite.get before r)).entries)
      → IsSafe content base appended rewritten fewer tables
  untold_fewer fewer enough = record {
    append_files = h.append_files;
    rewrite_files = h.rewrite_files;
    has = h.has;
    kept = λ m n g k. let a = reading_there (in_files_from n (written rewritten)) in
        fewer_kept content (in_files_from m (written appended)) (in_files_from n (written rewritten)) untold fewer tables a.0 (h.kept m n g k) a.1 (enough n a.0 k a.1);
    left = h.left;
  }
