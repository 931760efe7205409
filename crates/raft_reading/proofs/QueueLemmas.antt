-- The files of a queue, read and replayed one after another, and machines of neighboring ones merged.
use Rattle.raft_reading.proofs.Common.{◌≡◌, inl, inr, ℕ, List, [], ◌∷◌, ◌++◌, refl, sym, ap, ◌∙◌, subst, Error, Event, FileId, LogFileContext, LogQueue, Version, HoldsFrom, HasReplayed, IsSmall, Apart}
use Rattle.raft_reading.proofs.Common.{AreAllRead, FilesHold, IsQueueReplayed, IsQueueStop, IsFileStop, IsNothing, GoneOn, HasReplayedFile, NumberedBytes, file_of, whole_file, FileSize, IoError, none_replayed, replayed_more, fault_after}
use Rattle.std.proofs.Common.{◌+◌, ◌<◌, length, take, drop, get_or, take-append-drop}
use Rattle.std.proofs.lemmas.List.{drop_more, take_more}
use Rattle.raft_reading.proofs.Common.{part_of, small_front, small_back, apart_front, apart_back, each_join, each_single}

all_append : (Gives : FileId → ℕ → List ℕ → Type 0) (queue : LogQueue) (xs ys : List FileSize) (fs gs : List NumberedBytes) → AreAllRead Gives queue xs fs → AreAllRead Gives queue ys gs → AreAllRead Gives queue (xs ++ ys) (fs ++ gs)
all_append Gives queue [] ys [] gs first second = second
all_append Gives queue [] ys (f ∷ fs) gs first second = absurd first
all_append Gives queue (x ∷ xs) ys [] gs first second = absurd first
all_append Gives queue (x ∷ xs) ys (f ∷ fs) gs first second = (first.0, all_append Gives queue xs ys fs gs first.1 second)

module _ {M : Type 0} (Gives : FileId → ℕ → List ℕ → Type 0) (queue : LogQueue) (version : Version) (stands_for stands_exactly : M → List Event → Type 0) where
  -- ---- one after another

  -- the files are read, and the machine has replayed them
  pub record IsTurn (sizes : List FileSize) (old new : M) : Type 0 where
    pub files : List NumberedBytes
    pub read : AreAllRead Gives queue sizes files
    pub replayed : HasReplayed (λ h. FilesHold queue version files h) stands_for stands_exactly old new

  pub turn_begun : (m : M) → IsTurn [] m m
  turn_begun m = record { files = []; read = tt; replayed = none_replayed stands_for stands_exactly (λ h. FilesHold queue version [] h) m refl }

  pub turn_more : (sizes more : List FileSize) (size : FileSize) (old mid new : M) → more ≡ sizes ++ size ∷ [] → IsTurn sizes old mid
      → HasReplayedFile (Gives (file_of queue size.seq)) (record { id = file_of queue size.seq; version = version }) size.len stands_for stands_exactly mid new → IsTurn more old new
  turn_more sizes more size old mid new is t r =
      let file : NumberedBytes = (size.seq, r.bytes) in
      let Holds : NumberedBytes → List Event → Type 0 = λ file h. HoldsFrom (whole_file queue version file) 0 h in
      record {
        files = t.files ++ file ∷ [];
        read = subst (λ (l : List FileSize). AreAllRead Gives queue l (t.files ++ file ∷ [])) (sym is)
            (all_append Gives queue sizes (size ∷ []) t.files (file ∷ []) t.read (record { number = refl; whole = r.whole; read = r.read }, tt));
        replayed =
            replayed_more stands_for stands_exactly (λ h. FilesHold queue version t.files h) (λ h. HoldsFrom (whole_file queue version file) 0 h) (λ h. FilesHold queue version (t.files ++ file ∷ []) h) old mid new t.replayed
            (record { history = r.replayed.history; held = r.replayed.held; stands = r.replayed.stands; exact = r.replayed.exact })
            (each_join (λ file h. HoldsFrom (whole_file queue version file) 0 h) t.files (file ∷ []) t.replayed.history r.replayed.history t.replayed.held
            (each_single (λ file h. HoldsFrom (whole_file queue version file) 0 h) file r.replayed.history r.replayed.held));
      }

  pub turn_done : (sizes : List FileSize) (old new : M) → stands_for old [] → stands_exactly old [] → IsTurn sizes old new → IsQueueReplayed Gives queue version sizes stands_for stands_exactly new
  turn_done sizes old new stands exact t = record {
    files = t.files;
    read = t.read;
    history = t.replayed.history;
    held = t.replayed.held;
    stands = λ small. t.replayed.stands [] small stands;
    exact = λ small apart. t.replayed.exact [] small exact;
  }

  pub turn_stopped : (Fails : FileId → ℕ → IoError → Type 0) (sizes before after : List FileSize) (size : FileSize) (old mid : M) (IsTaken : List Event → Type 0) (e : Error) → sizes ≡ before ++ size ∷ after → stands_for old [] → IsTurn before old mid
      → IsFileStop (Gives (file_of queue size.seq)) (Fails (file_of queue size.seq)) (record { id = file_of queue size.seq; version = version }) size.len (stands_for mid) IsTaken e
      → IsQueueStop Gives Fails queue version sizes IsTaken e
  turn_stopped Fails sizes before after size old mid IsTaken e is begun t stop = record {
    before = before;
    size = size;
    after = after;
    split = is;
    files = t.files;
    read = t.read;
    history = t.replayed.history;
    held = t.replayed.held;
    stop = elim stop [
      | inl unread ↦ inl unread
      | inr stops ↦ inr (record {
        bytes = stops.bytes;
        read = stops.read;
        inside = stops.inside;
        stops = λ rest all.
            fault_after (stands_for mid) (GoneOn IsNothing t.replayed.history) IsTaken IsTaken (part_of (record { id = file_of queue size.seq; version = version }) 0 (stops.bytes ++ rest)) e
            (λ h small gone.
            let same : h ≡ t.replayed.history = gone.2 ∙ ap (λ (l : List Event). l ++ t.replayed.history) gone.1 in
            subst (stands_for mid) (sym same) (t.replayed.stands [] (subst IsSmall same small) begun)) (λ h taken. taken) (stops.stops rest all);
      })
    ];
  }

  -- ---- the file at an index

  context_at : (id : FileId) (seq : ℕ) (context : LogFileContext) → id ≡ file_of queue seq → context ≡ record { id = id; version = version } → context ≡ record { id = file_of queue seq; version = version }
  context_at id seq context named is = is ∙ ap (λ (id : FileId). record { id = id; version = version }) named

  pub turn_next : (files : List FileSize) (i : ℕ) (d : FileSize) (old mid new : M) (id : FileId) (context : LogFileContext) → i < length files → id ≡ file_of queue (get_or files i d).seq → context ≡ record { id = id; version = version }
      → IsTurn (take i files) old mid → HasReplayedFile (Gives context.id) context (get_or files i d).len stands_for stands_exactly mid new → IsTurn (take (i + 1) files) old new
  turn_next files i d old mid new id context inside named is t r =
      turn_more (take i files) (take (i + 1) files) (get_or files i d) old mid new (take_more files i d inside) t
      (subst (λ (c : LogFileContext). HasReplayedFile (Gives c.id) c (get_or files i d).len stands_for stands_exactly mid new) (context_at id (get_or files i d).seq context named is) r)

  pub turn_stops : (Fails : FileId → ℕ → IoError → Type 0) (files : List FileSize) (i : ℕ) (d : FileSize) (old mid : M) (id : FileId) (context : LogFileContext) (IsTaken : List Event → Type 0) (e : Error) → i < length files
      → id ≡ file_of queue (get_or files i d).seq → context ≡ record { id = id; version = version } → stands_for old [] → IsTurn (take i files) old mid
      → IsFileStop (Gives context.id) (Fails context.id) context (get_or files i d).len (stands_for mid) IsTaken e → IsQueueStop Gives Fails queue version files IsTaken e
  turn_stops Fails files i d old mid id context IsTaken e inside named is begun t stop =
      turn_stopped Fails files (take i files) (drop (i + 1) files) (get_or files i d) old mid IsTaken e
      (sym (take-append-drop i files) ∙ ap (λ (l : List FileSize). take i files ++ l) (drop_more files i d inside)) begun t
      (subst (λ (c : LogFileContext). IsFileStop (Gives c.id) (Fails c.id) c (get_or files i d).len (stands_for mid) IsTaken e) (context_at id (get_or files i d).seq context named is) stop)

  -- ---- neighbors

  pub neighbors : (all first second : List FileSize) (a b c : M) → all ≡ first ++ second → IsQueueReplayed Gives queue version first stands_for stands_exactly a → IsQueueReplayed Gives queue version second stands_for stands_exactly b
      → ((h g : List Event) → IsSmall (h ++ g) → stands_for a h → stands_for b g → stands_for c (h ++ g))
      → ((h g : List Event) → IsSmall (h ++ g) → Apart (h ++ g) → stands_exactly a h → stands_exactly b g → stands_exactly c (h ++ g))
      → IsQueueReplayed Gives queue version all stands_for stands_exactly c
  neighbors all first second a b c is x y stands exact = record {
    files = x.files ++ y.files;
    read = subst (λ (l : List FileSize). AreAllRead Gives queue l (x.files ++ y.files)) (sym is) (all_append Gives queue first second x.files y.files x.read y.read);
    history = x.history ++ y.history;
    held = each_join (λ file h. HoldsFrom (whole_file queue version file) 0 h) x.files y.files x.history y.history x.held y.held;
    stands = λ small. stands x.history y.history small (x.stands (small_front x.history y.history small)) (y.stands (small_back x.history y.history small));
    exact = λ small apart. exact x.history y.history small apart (x.exact (small_front x.history y.history small) (apart_front x.history y.history apart))
        (y.exact (small_back x.history y.history small) (apart_back x.history y.history apart));
  }
