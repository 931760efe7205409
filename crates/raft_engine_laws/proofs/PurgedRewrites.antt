-- The front of the rewrite files goes: what a table has of the later ones alone, beside what it has of all.
use Rattle.raft_engine_laws.proofs.Common.{◌≡◌, ◌⊎◌, ℕ, ◌<◌, ◌≤◌, Bool, true, false, cond, List, [], ◌∷◌, ◌++◌, Option, Some, None, inl, inr, refl, sym, ap, subst, ◌∙◌, append-nil, append_assoc, arith, option_and_then, nat_list_cmp_total, EntryIndex, Rewrite, IsRun, end_of}
use Rattle.raft_engine_laws.proofs.Common.{place_seq, Stored, is_same_key, misses, leaves_hole, Step, Run, Compact, Truncate, Put, Del, AtomicGroup, Clean, AreSteps, IsTableOf, table_of, after_step, after, Table, below, from, placed_in, same_some, table_after_step, hole_end}
use Rattle.raft_engine_laws.proofs.Common.{below-append, from-append, AreFrom, NeedsNoneBelow, IsRegionKept, unspoken}
use Rattle.std.specs.FinMap as finite
use Rattle.raft_engine_laws.proofs.FileWords.{AreBelow, seq_clash}
use Rattle.raft_engine_laws.proofs.LowSteps.{below_low, from_low}
use Rattle.raft_engine_laws.proofs.OverLemmas.{end_behind}
use Rattle.raft_engine_laws.proofs.UnspokenLemmas.{unspoken-none}

-- entries are such ones of older files, and the own ones behind
pub record IsBehind (n : ℕ) (own es : List EntryIndex) : Type 0 where
  pub older : List EntryIndex
  pub split : es ≡ older ++ own
  pub low : AreBelow n older

below_nil : (i : ℕ) → below i [] ≡ []
unfolding below
below_nil i = refl

-- a run on entries, and on the own ones behind older ones
run_behind : (n i : ℕ) (own es run : List EntryIndex) → IsRun es → IsBehind n own es → IsBehind n (cond (leaves_hole own i) run (below i own ++ run)) (cond (leaves_hole es i) run (below i es ++ run))
run_behind n i [] es run r h = go (leaves_hole es i)
  where
    go : (b : Bool) → IsBehind n (below i [] ++ run) (cond b run (below i es ++ run))
    go true = record { older = []; split = none (below i []) (below_nil i); low = tt }
      where
        none : (l : List EntryIndex) → l ≡ [] → run ≡ l ++ run
        none l e = sym (ap (λ l. l ++ run) e)
    go false = record {
      older = below i h.older;
      split = ap (λ l. below i l ++ run) (h.split ∙ append-nil h.older) ∙ ap (λ l. below i h.older ++ l) (sym (ap (λ l. l ++ run) (below_nil i)));
      low = below_low n i h.older h.low;
    }
run_behind n i (f ∷ own) es run r h = rw same (go (leaves_hole (f ∷ own) i))
  where
    same : leaves_hole es i ≡ leaves_hole (f ∷ own) i
    same = hole_end es i ∙ ap (misses (Some i)) (ap end_of h.split ∙ end_behind h.older own f (subst IsRun h.split r)) ∙ sym (hole_end (f ∷ own) i)

    go : (b : Bool) → IsBehind n (cond b run (below i (f ∷ own) ++ run)) (cond b run (below i es ++ run))
    go true = record { older = []; split = refl; low = tt }
    go false = record {
      older = below i h.older;
      split = ap (λ l. l ++ run) (ap (below i) h.split ∙ below-append i h.older (f ∷ own)) ∙ append_assoc (below i h.older) (below i (f ∷ own)) run;
      low = below_low n i h.older h.low;
    }

nothing_behind : (n : ℕ) → IsBehind n [] []
nothing_behind n = record { older = []; split = refl; low = tt }

-- ---- keys

-- a pair is the own one, or there is no own one and it is in a file below the number
abbrev pub IsPairBehind : ℕ → Option Stored → Option Stored → Type 0
IsPairBehind n own None = own ≡ None
IsPairBehind n own (Some s) = (own ≡ Some s) ⊎ ((own ≡ None) × (s.file.seq < n))

same_pair : (n : ℕ) (o : Option Stored) → IsPairBehind n o o
same_pair n None = refl
same_pair n (Some s) = inl refl

-- both change alike, or not at all
pair_behind : (n : ℕ) (b : Bool) (o own x : Option Stored) → IsPairBehind n own x → IsPairBehind n (cond b o own) (cond b o x)
pair_behind n true o own x h = same_pair n o
pair_behind n false o own x h = h

-- ---- a step

pub record AreBehind (n : ℕ) (own t : Table) : Type 0 where
  pub entries : IsBehind n own.entries t.entries
  pub pairs : (key : List ℕ) → IsPairBehind n (finite.get own.keys key) (finite.get t.keys key)

pub step_behind : (n id : ℕ) (own x v : Option Table) (s : Step) → AreBehind n (table_of id own) (table_of id x) → IsRun (table_of id x).entries → after_step Rewrite (table_of id x) s ≡ Some v
    → (w : Option Table) × (after_step Rewrite (table_of id own) s ≡ Some w) × AreBehind n (table_of id w) (table_of id v)
step_behind n id own x v (Run []) h r is = (Some (table_of id own), refl, subst (λ (u : Option Table). AreBehind n (table_of id own) (table_of id u)) (same_some (Some (table_of id x)) v is) h)
step_behind n id own x v (Run (e ∷ run)) h r is = (
  _,
  refl,
  subst (λ (u : Option Table). AreBehind n
      (record (table_of id own) {
        entries = cond (leaves_hole (table_of id own).entries e.index) (e ∷ run)
            (below e.index (table_of id own).entries ++ e ∷ run);
      }) (table_of id u))
      (same_some (Some (record (table_of id x)
      { entries = cond (leaves_hole (table_of id x).entries e.index) (e ∷ run) (below e.index (table_of id x).entries ++ e ∷ run) })) v is)
      (record { entries = run_behind n e.index (table_of id own).entries (table_of id x).entries (e ∷ run) r h.entries; pairs = h.pairs }),
)
step_behind n id own x v (Compact i) h r is = (
  _,
  refl,
  subst (λ (u : Option Table). AreBehind n (record (table_of id own) { entries = from i (table_of id own).entries }) (table_of id u)) (same_some (Some (record (table_of id x) { entries = from i (table_of id x).entries })) v is)
      (record { entries = record { older = from i h.entries.older; split = ap (from i) h.entries.split ∙ from-append i h.entries.older (table_of id own).entries; low = from_low n i h.entries.older h.entries.low }; pairs = h.pairs }),
)
step_behind n id own x v (Truncate i) h r is = (
  _,
  refl,
  subst (λ (u : Option Table). AreBehind n (record (table_of id own) { entries = below i (table_of id own).entries }) (table_of id u)) (same_some (Some (record (table_of id x) { entries = below i (table_of id x).entries })) v is)
      (record { entries = record { older = below i h.entries.older; split = ap (below i) h.entries.split ∙ below-append i h.entries.older (table_of id own).entries; low = below_low n i h.entries.older h.entries.low }; pairs = h.pairs }),
)
step_behind n id own x v (Put k value file) h r is = (
  _,
  refl,
  subst (λ (u : Option Table). AreBehind n
      (record (table_of id own) { keys = finite.insert (table_of id own).keys k (record { value = value; file = file }) }) (table_of id u))
      (same_some (Some (record (table_of id x) { keys = finite.insert (table_of id x).keys k (record { value = value; file = file }) })) v is)
      (record {
        entries = h.entries;
        pairs = λ key. rw (
          finite.get-insert nat_list_cmp_total (table_of id own).keys k (record { value = value; file = file }) key,
          finite.get-insert nat_list_cmp_total (table_of id x).keys k (record { value = value; file = file }) key,
        )
            (pair_behind n (is_same_key key k) (Some (record { value = value; file = file })) (finite.get (table_of id own).keys key)
            (finite.get (table_of id x).keys key) (h.pairs key));
      }),
)
step_behind n id own x v (Del k) h r is = (
  _,
  refl,
  subst (λ (u : Option Table). AreBehind n (record (table_of id own) { keys = finite.remove (table_of id own).keys k }) (table_of id u)) (same_some (Some (record (table_of id x) { keys = finite.remove (table_of id x).keys k })) v is)
      (record {
        entries = h.entries;
        pairs = λ key. rw (
          finite.get-remove nat_list_cmp_total (table_of id own).keys k key,
          finite.get-remove nat_list_cmp_total
              (table_of id x).keys k key,
        ) (pair_behind n (is_same_key key k) None (finite.get (table_of id own).keys key)
            (finite.get (table_of id x).keys key) (h.pairs key));
      }),
)
step_behind n id own x v (AtomicGroup a b) h r is = (
  _,
  refl,
  subst (λ (u : Option Table). AreBehind n (record (table_of id own) { atomic_group = Some (a, b) }) (table_of id u))
      (same_some (Some (record (table_of id x) { atomic_group = Some (a, b) })) v is) (record { entries = h.entries; pairs = h.pairs }),
)
step_behind n id own x v Clean h r is = (None, refl, subst (λ (u : Option Table). AreBehind n (table_of id None) (table_of id u)) (same_some None v is) (record { entries = nothing_behind n; pairs = λ key. same_pair n _ }))

pub steps_behind : (n id : ℕ) (own x v : Option Table) (ss : List Step) → AreSteps ss → AreBehind n (table_of id own) (table_of id x) → IsTableOf id (table_of id x) → after Rewrite id x ss ≡ Some v
    → (w : Option Table) × (after Rewrite id own ss ≡ Some w) × AreBehind n (table_of id w) (table_of id v)
steps_behind n id own x v [] good h at is = (own, refl, subst (λ (u : Option Table). AreBehind n (table_of id own) (table_of id u)) (same_some x v is) h)
steps_behind n id own x v (s ∷ ss) good h at is = go (λ own u at h k. steps_behind n id own u v ss good.1 h at k) (after_step Rewrite (table_of id x) s) refl is
  where
    go : ((own u : Option Table) → IsTableOf id (table_of id u) → AreBehind n (table_of id own) (table_of id u) → after Rewrite id u ss ≡ Some v →
        (w : Option Table) × (after Rewrite id own ss ≡ Some w) × AreBehind n (table_of id w) (table_of id v))
        → (y : Option (Option Table)) → after_step Rewrite (table_of id x) s ≡ y → option_and_then (λ u. after Rewrite id u ss) y ≡ Some v
        → (w : Option Table) × (after Rewrite id own (s ∷ ss) ≡ Some w) × AreBehind n (table_of id w) (table_of id v)
    go rest None e k = absurd cc
    go rest (Some u) e k =
        let one : (w : Option Table) × (after_step Rewrite (table_of id own) s ≡ Some w) × AreBehind n (table_of id w) (table_of id u) = step_behind n id own x u s h at.run e in
        let more : (w : Option Table) × (after Rewrite id one.0 ss ≡ Some w) × AreBehind n (table_of id w) (table_of id v) = rest one.0 u (table_after_step Rewrite id (table_of id x) u s good.0 at e) one.2 k in
        (more.0, ap (option_and_then (λ w. after Rewrite id w ss)) one.1 ∙ more.1, more.2)

-- ---- the region

none_low : (n : ℕ) (older own : List EntryIndex) → AreBelow n older → AreFrom n (older ++ own) → older ≡ []
none_low n [] own h k = refl
none_low n (e ∷ older) own h k = absurd (seq_clash n (place_seq e.entries) h.0 k.0)

-- the rewritten table of all steps, and that of the later ones alone, where the kept table needs no file below the number
module _ (content : EntryIndex → List ℕ) (id n : ℕ) (kept : List Step) (rewritten alone t : Table) (h : IsRegionKept content id kept [] rewritten t) (behind : AreBehind n alone rewritten) (needs : NeedsNoneBelow Rewrite n t) where
  same_entries : alone.entries ≡ rewritten.entries
  same_entries =
      let whole : rewritten.entries ≡ placed_in Rewrite t.entries = sym (unspoken-none rewritten.entries) ∙ h.told in
      let none : behind.entries.older ≡ [] = none_low n behind.entries.older alone.entries behind.entries.low (subst (AreFrom n) (sym whole ∙ behind.entries.split) needs.entries) in
      sym (behind.entries.split ∙ ap (λ l. l ++ alone.entries) none)

  pub purge_kept : IsRegionKept content id kept [] alone t
  purge_kept = record {
    steps = h.steps;
    sound = h.sound;
    own = h.own;
    read = h.read;
    seen = h.seen;
    over = h.over;
    moved = h.moved;
    told = ap (unspoken []) same_entries ∙ h.told;
    covers = h.covers;
    spoken = h.spoken;
    pair_moved = h.pair_moved;
    pair_told = λ key s e q. own_pair key s (h.pair_told key s e q) (needs.pairs key s e q);
    pair_gone = λ key e. no_pair key (h.pair_gone key e);
    pair_covers = h.pair_covers;
    pair_spoken = h.pair_spoken;
  }
    where
      own_pair : (key : List ℕ) (s : Stored) → finite.get rewritten.keys key ≡ Some s → n ≤ s.file.seq → finite.get alone.keys key ≡ Some s
      own_pair key s e high = elim (subst (IsPairBehind n (finite.get alone.keys key)) e (behind.pairs key)) [
        | inl same ↦ same
        | inr low ↦ absurd (let l : s.file.seq < n = low.1 in omega (arith, l, high))
      ]

      no_pair : (key : List ℕ) → finite.get rewritten.keys key ≡ None → finite.get alone.keys key ≡ None
      no_pair key e = subst (IsPairBehind n (finite.get alone.keys key)) e (behind.pairs key)
