-- Regions whose records move, one after another.
use Rattle.raft_engine.proofs.Common.{◌≡◌, ◌≢◌, inl, inr, ℕ, ◌+◌, ◌<◌, true, List, [], ◌∷◌, ◌++◌, get_or, length, take, drop, Option, Some, Result, Ok, Err, IfErr, OnErr, OnOk, refl, sym, ap, ◌∙◌, subst, drop_more, take-append-drop, take_more, EntryIndex, Error, Append, Sync}
use Rattle.raft_engine.proofs.Common.{ask, Table, KeptEngine, AreSynced, AreFirstMoved, AreRegionsRewritten, AreSomeRewritten, AreToMove, IsBatchMoved, IsBatchUnmoved, IsReady, IsRegionRewritten, IsRegionUnmoved, IsTold, Failures, moving_entries}
use Rattle.std.specs.FinMap as finite
use Rattle.raft_base.specs.declared.errors.Error.TheVariants as errors
use Rattle.raft_engine.proofs.KeptMoves.{read_synced}
use Rattle.raft_engine.proofs.KeptPurges.{items_others}
use Rattle.raft_engine.proofs.ReadKept.{none_read, read_only}

pub told_ready : (old new : KeptEngine) → old.intact ≡ true → IsTold old new → IsReady new
told_ready old new intact t = subst IsReady (sym t.told) (record {
  intact = intact;
  synced = subst AreSynced (sym (items_others old.version t.seq old.untold old.untold.items (ask Append Sync ∷ old.asks))) tt;
  told = refl;
})

pub batch_ready : (gate : Option ℕ) (left : List EntryIndex) (region : ℕ) (old new : KeptEngine) → IsReady old → IsBatchMoved gate left region old new → IsReady new
batch_ready gate left region old new r m = subst IsReady (sym m.moved) (record {
  intact = r.intact;
  synced = subst AreSynced (sym (items_others old.version m.seq m.batch m.batch.items m.between))
      (read_synced old.asks m.between (read_only _ m.moving.moving.strings old.asks m.between m.moving.moving.read) r.synced);
  told = r.told;
})

first_ready : (gate : Option ℕ) (region : ℕ) (behind : List KeptEngine) (old new : KeptEngine) → IsReady old → AreFirstMoved gate region behind old new → IsReady new
first_ready gate region [] old new r h = subst IsReady (sym h) r
first_ready gate region (next ∷ behind) old new r h = first_ready gate region behind next new (batch_ready gate h.0 region old next r h.2) h.3

pub rewritten_ready : (gate : Option ℕ) (region : ℕ) (old new : KeptEngine) → IsReady old → IsRegionRewritten gate region old new → IsReady new
rewritten_ready gate region old new r (inl m) = subst IsReady (sym m.1) r
rewritten_ready gate region old new r (inr m) = batch_ready gate [] region m.between new (first_ready gate region m.behind old m.between r m.first) m.last

-- ---- the batches of one region

-- some batches of a region moved, each of which left entries, and these entries are to move
pub record AreMovedSoFar (gate : Option ℕ) (region : ℕ) (old now : KeptEngine) (left : List EntryIndex) : Type 0 where
  pub behind : List KeptEngine
  pub first : AreFirstMoved gate region behind old now
  pub to_move : AreToMove gate region now left
  pub ready : IsReady now

pub none_so_far : (gate : Option ℕ) (region : ℕ) (old : KeptEngine) (t : Table) (es : List EntryIndex) → finite.get old.accessor.tables region ≡ Some t → es ≡ moving_entries gate t.entries → IsReady old
    → AreMovedSoFar gate region old old es
none_so_far gate region old t es there are ready = record { behind = []; first = refl; to_move = record { table = t; there = there; are = are }; ready = ready }

one_behind : (gate : Option ℕ) (region : ℕ) (behind : List KeptEngine) (old now new : KeptEngine) (left : List EntryIndex) → AreFirstMoved gate region behind old now → left ≢ [] → IsBatchMoved gate left region now new
    → AreFirstMoved gate region (behind ++ new ∷ []) old new
one_behind gate region [] old now new left h some m = (left, some, subst (λ (o : KeptEngine). IsBatchMoved gate left region o new) h m, refl)
one_behind gate region (next ∷ behind) old now new left h some m = (h.0, h.1, h.2, one_behind gate region behind next now new left h.3 some m)

pub more_so_far : (gate : Option ℕ) (region : ℕ) (old now new : KeptEngine) (es left : List EntryIndex) → AreMovedSoFar gate region old now es → left ≢ [] → IsBatchMoved gate left region now new → AreToMove gate region new left
    → AreMovedSoFar gate region old new left
more_so_far gate region old now new es left h some m to_move = record {
  behind = h.behind ++ new ∷ [];
  first = one_behind gate region h.behind old now new left h.first some m;
  to_move = to_move;
  ready = batch_ready gate left region now new h.ready m;
}

pub all_so_far : (gate : Option ℕ) (region : ℕ) (old now new : KeptEngine) (es left : List EntryIndex) → AreMovedSoFar gate region old now es → left ≡ [] → IsBatchMoved gate left region now new → IsRegionRewritten gate region old new
all_so_far gate region old now new es left h none m =
    inr (record { behind = h.behind; between = now; first = h.first; last = subst (λ (l : List EntryIndex). IsBatchMoved gate l region now new) none m })

pub unmoved_so_far : {MayFail : Failures} (gate : Option ℕ) (region : ℕ) (old now new : KeptEngine) (es left : List EntryIndex) (e : Error) → AreMovedSoFar gate region old now es → IsBatchUnmoved MayFail gate left region now new e → IsRegionUnmoved MayFail gate region old new e
unmoved_so_far gate region old now new es left e h u = record { behind = h.behind; between = now; first = h.first; left = left; unmoved = u }

-- there is no memory for the list of what moves
pub unlisted : {MayFail : Failures} (gate : Option ℕ) (region : ℕ) (engine : KeptEngine) (e : Error) → e ≡ errors.Memory → IsRegionUnmoved MayFail gate region engine engine e
unlisted gate region engine e memory = record {
  behind = [];
  between = engine;
  first = refl;
  left = [];
  unmoved = inl (record { asked = none_read engine.asks engine.asks refl; others = refl }, λ some. absurd (some memory));
}

-- one region more
more_region : (gate : Option ℕ) (region : ℕ) (regions : List ℕ) (old now new : KeptEngine) → AreRegionsRewritten gate regions old now → IsRegionRewritten gate region now new → AreRegionsRewritten gate (regions ++ region ∷ []) old new
more_region gate region [] old now new h k = (new, subst (λ (o : KeptEngine). IsRegionRewritten gate region o new) h k, refl)
more_region gate region (r ∷ regions) old now new h k = (h.0, h.1, more_region gate region regions h.0 now new h.2 k)

pub next_region : (gate : Option ℕ) (i : ℕ) (regions : List ℕ) (d : ℕ) (old now new : KeptEngine) → i < length regions
    → AreRegionsRewritten gate (take i regions) old now → IsRegionRewritten gate (get_or regions i d) now new → AreRegionsRewritten gate (take (i + 1) regions) old new
next_region gate i regions d old now new l h k =
    subst (λ (rs : List ℕ). AreRegionsRewritten gate rs old new) (sym (take_more regions i d l)) (more_region gate (get_or regions i d) (take i regions) old now new h k)

pub some_rewritten : {MayFail : Failures} (gate : Option ℕ) (i : ℕ) (regions : List ℕ) (d : ℕ) (old now new : KeptEngine) (e : Error) → i < length regions
    → AreRegionsRewritten gate (take i regions) old now → IsRegionUnmoved MayFail gate (get_or regions i d) now new e → AreSomeRewritten MayFail gate regions old new e
some_rewritten gate i regions d old now new e l h k =
    let split : regions ≡ take i regions ++ get_or regions i d ∷ drop (i + 1) regions = sym (take-append-drop i regions) ∙ ap (λ (rs : List ℕ). take i regions ++ rs) (drop_more regions i d l) in
    record { front = take i regions; region = get_or regions i d; back = drop (i + 1) regions; split = split; between = now; moved = h; unmoved = k }

-- ---- results

-- on a refusal, what holds anyway
pub on_any : {X E : Type 0} (P : Type 0) (r : Result X E) → P → OnErr r P
on_any P (Ok x) p = tt
on_any P (Err e) p = p

pub ok_so : {X E : Type 0} (P Q : Type 0) (r : Result X E) → (P → Q) → OnOk r P → OnOk r Q
ok_so P Q (Ok x) f p = f p
ok_so P Q (Err e) f p = tt

pub if_err_so : {X : Type 0} (P Q : Error → Type 0) (r : Result X Error) → ((e : Error) → P e → Q e) → IfErr r P → IfErr r Q
if_err_so P Q (Ok x) f p = tt
if_err_so P Q (Err e) f p = f e p
