-- Merges of contexts that stand for histories.
use Rattle.raft_history.proofs.Common.{Append, Rewrite, IsBounded, FileRange, files_of, Suits, joined_files, follows, Context, RegionStandsFor, AreExact, StandsIn, StandsFor, IsExactFor, AreMerged, AreRegionsRefused, merged_with, no_both}
use Rattle.raft_history.proofs.Common.{some_is, ◌≡◌, ◌⊎◌, ℕ, true, false, List, [], ◌∷◌, ◌++◌, Option, Some, None, refl, sym, ap, subst, ◌∙◌, inl, inr, is_some, unwrap_or, false≢true, LogQueue, fresh, after, Table, stands_alone, BatchSteps}
use Rattle.raft_history.proofs.Common.{Event, batches, EachApart, effects, steps_of, FilesFrom, Sound, cleaned_in, MarkedRegions, region_in, groups_in, joined_groups, nat_cmp_total, nat_cmp-IsAntisymmetric}
use Rattle.raft_history.proofs.Words.{records_in_history, all_steps}
use Rattle.raft_history.proofs.EffectLemmas.{effects_behind-none}
use Rattle.raft_history.proofs.MergeLaws.{Parts, regions_merged, regions_refused, rewrite_after, rewrite_refused}
use Rattle.raft_history.proofs.MoreLemmas.{groups_in-append}
use Rattle.raft_history.proofs.ReadLemmas.{holds_none}
use Rattle.raft_history.proofs.RecordLemmas.{merged_bounded}
use Rattle.raft_history.proofs.SoundLemmas.{batches-append, in_files-append, status-append, files_follow, follow_files, files_of-append, cleaned-append, append_apart}
use Rattle.raft_history.proofs.StretchOfHistory.{size-append}
use Rattle.raft_history.proofs.WithoutMarkers.{named-steps}
use Rattle.std.specs.FinMap as finite

-- ---- queues

both_none : (q p : LogQueue) (a b : Option FileRange) → Suits q a → Suits q b → Suits p (joined_files a b) → ((a ≡ None) × (b ≡ None)) ⊎ (q ≡ p)
both_none q p None None s t u = inl (refl, refl)
both_none q p None (Some y) s t u = inr (sym t ∙ u)
both_none q p (Some x) None s t u = inr (sym s ∙ u)
both_none q p (Some x) (Some y) s t u = inr (sym s ∙ u)

no_batch : (h : List Event) → files_of h ≡ None → h ≡ []
no_batch [] e = refl
no_batch (x ∷ h) e = absurd (no_both e refl)

sound_queue : (q s : LogQueue) (h : List Event) → FilesFrom s 0 h → Suits q (files_of h) → (h ≡ []) ⊎ (s ≡ q)
sound_queue q s [] f u = inl refl
sound_queue q s (e ∷ h) f u = inr (sym f.0 ∙ u)

pub no_steps : (r : ℕ) → steps_of r [] ≡ []
no_steps r = ap (all_steps r) (effects_behind-none [])

-- ---- exact regions are one reading

pub exact_accepted : (q : LogQueue) (rs : MarkedRegions) (bs : List BatchSteps) → AreExact q rs bs → (r : ℕ) → (t : Option Table) × (after q r None (steps_of r bs) ≡ Some t)
exact_accepted q rs bs ex r = (finite.get rs.tables r, stands_alone q r (region_in rs r).mark (region_in rs r).table (steps_of r bs) (ex.each r).stands)

pub exact_reading : (q : LogQueue) (rs : MarkedRegions) (bs : List BatchSteps) → AreExact q rs bs → (r : ℕ) → after q r None (steps_of r bs) ≡ Some (finite.get rs.tables r)
exact_reading q rs bs ex r = stands_alone q r (region_in rs r).mark (region_in rs r).table (steps_of r bs) (ex.each r).stands

-- without a batch the queue doesn't matter
blank_exact : (q p : LogQueue) (rs : MarkedRegions) → AreExact q rs [] → AreExact p rs []
blank_exact q p rs ex = record {
  each = λ r. subst (RegionStandsFor p r (region_in rs r)) (sym (no_steps r)) (holds_none p r (region_in rs r) (ap (λ m. unwrap_or m fresh) (unmarked r)) (untabled r));
  marked = ex.marked;
}
  where
    none : {X : Type 0} (o : Option X) → is_some o ≡ false → o ≡ None
    none None e = refl
    none (Some x) e = cc

    unmarked : (r : ℕ) → finite.get rs.marks r ≡ None
    unmarked r = none _ (ex.marked r ∙ (named-steps r []).1 (no_steps r))

    untabled : (r : ℕ) → finite.get rs.tables r ≡ None
    untabled r = sym (some_is (ap (after q r None) (sym (no_steps r)) ∙ stands_alone q r (region_in rs r).mark (region_in rs r).table (steps_of r []) (ex.each r).stands))

-- ---- a merge

pub record Merges (q : LogQueue) (c d : Context) (h k : List Event) : Type 0 where
  pub older_suits : Suits q c.files
  pub newer_suits : Suits q d.files
  pub older : StandsFor c h
  pub newer : StandsFor d k

parts : (q : LogQueue) (c d : Context) (h k : List Event) → Merges q c d h k → AreExact q c.regions (batches h) → AreExact q d.regions (batches k) → EachApart (effects (batches (h ++ k))) → Parts q c d h k
parts q c d h k m a b apart = record {
  older_groups = m.older.groups;
  newer_groups = m.newer.groups;
  older_files = (m.older.stands q m.older_suits).sound.items;
  newer_files = (m.newer.stands q m.newer_suits).sound.items;
  both_files = in_files-append h k (m.older.stands q m.older_suits).sound.items (m.newer.stands q m.newer_suits).sound.items;
  older = a;
  newer = b;
  apart = apart;
}

both_files : (q : LogQueue) (c d : Context) (h k : List Event) → Merges q c d h k → follows c.files d.files ≡ true → FilesFrom q 0 (h ++ k)
both_files q c d h k m f = files_follow q h k (m.older.stands q m.older_suits).sound.files (m.newer.stands q m.newer_suits).sound.files (ap (λ p. follows p (files_of k)) (sym m.older.files) ∙ ap (follows c.files) (sym m.newer.files) ∙ f)

append_merged : (c d : Context) (h k : List Event) (rs : MarkedRegions) → Merges Append c d h k → follows c.files d.files ≡ true → AreMerged Append c d rs → AreExact Append rs (batches (h ++ k))
append_merged c d h k rs m f e = regions_merged Append c d h k rs
    (parts Append c d h k m ((m.older.stands Append m.older_suits).append refl) ((m.newer.stands Append m.newer_suits).append refl) (append_apart 0 (h ++ k) (both_files Append c d h k m f))) e

stands_in : (q : LogQueue) (c d : Context) (h k : List Event) (rs : MarkedRegions) → Merges q c d h k → follows c.files d.files ≡ true → AreMerged q c d rs → StandsIn q (merged_with c d rs) (h ++ k)
stands_in q c d h k rs m f e = record {
  sound = record {
    files = both_files q c d h k m f;
    items = in_files-append h k (m.older.stands q m.older_suits).sound.items
        (m.newer.stands q m.newer_suits).sound.items;
    markers = status-append h k (m.older.stands q m.older_suits).sound.markers
        (m.newer.stands q m.newer_suits).sound.markers;
    accepted = accepted q m e;
  };
  cleaned = ap (λ l. l ++ d.cleaned) (m.older.stands q m.older_suits).cleaned ∙ ap (λ l. cleaned_in q h ++ l) (m.newer.stands q m.newer_suits).cleaned ∙ sym (cleaned-append q h k);
  append = λ a. append_merged c d h k rs (subst (λ q. Merges q c d h k) a m) f (subst (λ q. AreMerged q c d rs) a e);
}
  where
    accepted : (q : LogQueue) → Merges q c d h k → AreMerged q c d rs → (r : ℕ) → (t : Option Table) × (after q r None (steps_of r (batches (h ++ k))) ≡ Some t)
    accepted Append m e = exact_accepted Append rs (batches (h ++ k)) (append_merged c d h k rs m f e)
    accepted Rewrite m e = λ r. rewrite_after r None (steps_of r (batches (h ++ k)))

-- where neither has a batch, in the other queue
blank_parts : (q p : LogQueue) (c : Context) (h : List Event) → StandsFor c h → c.files ≡ None → (h ≡ []) × AreExact p c.regions (batches h)
blank_parts q p c h st none = (
  empty,
  subst (λ h. AreExact p c.regions (batches h)) (sym empty)
      (blank_exact Append p c.regions
      (subst (λ h. AreExact Append c.regions (batches h)) empty ((st.stands Append (subst (Suits Append) (sym none) tt)).append refl))),
)
  where
    empty : h ≡ []
    empty = no_batch h (sym st.files ∙ none)

blank_stands : (q p : LogQueue) (c d : Context) (h k : List Event) (rs : MarkedRegions) → Merges q c d h k → AreMerged q c d rs → c.files ≡ None → d.files ≡ None → StandsIn p (merged_with c d rs) (h ++ k) × AreExact p rs (batches (h ++ k))
blank_stands q p c d h k rs m e a b = subst (λ l. StandsIn p (merged_with c d rs) l × AreExact p rs (batches l)) (sym both) (
  record {
    sound = record { files = tt; items = tt; markers = tt; accepted = exact_accepted p rs [] blank };
    cleaned = ap (λ l. l ++ d.cleaned) (m.older.stands q m.older_suits).cleaned ∙ ap (λ l. cleaned_in q h ++ l) (m.newer.stands q m.newer_suits).cleaned ∙ sym (cleaned-append q h k) ∙ ap (cleaned_in q) both;
    append = λ e. subst (λ p. AreExact p rs []) e blank;
  },
  blank,
)
  where
    x : (h ≡ []) × AreExact q c.regions (batches h)
    x = blank_parts q q c h m.older a

    y : (k ≡ []) × AreExact q d.regions (batches k)
    y = blank_parts q q d k m.newer b

    both : h ++ k ≡ []
    both = ap (λ l. l ++ k) x.0 ∙ y.0

    blank : AreExact p rs []
    blank = blank_exact q p rs (subst (λ l. AreExact q rs (batches l)) both (regions_merged q c d h k rs (parts q c d h k m x.1 y.1 (subst (λ l. EachApart (effects (batches l))) (sym both) (append_apart 0 [] tt))) e))

-- the merged regions with all else
pub regions_stand : (q : LogQueue) (c d : Context) (h k : List Event) (rs : MarkedRegions) → Merges q c d h k → follows c.files d.files ≡ true → AreMerged q c d rs → StandsFor (merged_with c d rs) (h ++ k)
regions_stand q c d h k rs m f is = record {
  files = ap (λ p. joined_files p d.files) m.older.files ∙ ap (joined_files (files_of h)) m.newer.files ∙ sym (files_of-append h k);
  groups = ap (λ g. joined_groups g d.groups) m.older.groups ∙ ap (joined_groups (groups_in (batches h))) m.newer.groups ∙ sym (groups_in-append (batches h) (batches k)) ∙ ap groups_in (sym (batches-append h k));
  few = subst (IsBounded (merged_with c d rs)) (sym (size-append h k)) (merged_bounded q c d rs (records_in_history h) (records_in_history k) m.older.few m.newer.few is);
  stands = λ p u. by p (both_none q p c.files d.files m.older_suits m.newer_suits u);
}
  where
    by : (p : LogQueue) → ((c.files ≡ None) × (d.files ≡ None)) ⊎ (q ≡ p) → StandsIn p (merged_with c d rs) (h ++ k)
    by p (inl n) = (blank_stands q p c d h k rs m is n.0 n.1).0
    by p (inr same) = subst (λ p. StandsIn p (merged_with c d rs) (h ++ k)) same (stands_in q c d h k rs m f is)

pub regions_exact : (q : LogQueue) (c d : Context) (h k : List Event) (rs : MarkedRegions) → Merges q c d h k → IsExactFor c h → IsExactFor d k →
    EachApart (effects (batches (h ++ k))) → follows c.files d.files ≡ true → AreMerged q c d rs → IsExactFor (merged_with c d rs) (h ++ k)
regions_exact q c d h k rs m a b apart f is = record {
  stands = regions_stand q c d h k rs m f is;
  regions = λ p u. by p (both_none q p c.files d.files m.older_suits m.newer_suits u);
}
  where
    by : (p : LogQueue) → ((c.files ≡ None) × (d.files ≡ None)) ⊎ (q ≡ p) → AreExact p rs (batches (h ++ k))
    by p (inl n) = (blank_stands q p c d h k rs m is n.0 n.1).1
    by p (inr same) = subst (λ p. AreExact p rs (batches (h ++ k))) same (regions_merged q c d h k rs (parts q c d h k m (a.regions q m.older_suits) (b.regions q m.newer_suits) apart) is)

-- where the files are out of order, or a region refuses, no sound history has both
in_order : (q : LogQueue) (c d : Context) (h k : List Event) → Merges q c d h k → Sound (h ++ k) → follows c.files d.files ≡ true
in_order q c d h k m sound = ap (λ p. follows p d.files) m.older.files ∙ ap (follows (files_of h)) m.newer.files ∙ follow_files sound.queue h k sound.sound.files

pub regions_unsound : (q : LogQueue) (c d : Context) (h k : List Event) → Merges q c d h k → AreRegionsRefused q c d → Sound (h ++ k) → ⊥
regions_unsound q c d h k m refused sound = by_queue q m refused suits
  where
    suits : Suits q (files_of (h ++ k))
    suits = subst (Suits q) (ap (λ p. joined_files p d.files) m.older.files ∙ ap (joined_files (files_of h)) m.newer.files ∙ sym (files_of-append h k)) (joined c.files d.files m.older_suits m.newer_suits)
      where
        joined : (a b : Option FileRange) → Suits q a → Suits q b → Suits q (joined_files a b)
        joined None b s t = t
        joined (Some x) None s t = s
        joined (Some x) (Some y) s t = s

    by_append : Merges Append c d h k → AreRegionsRefused Append c d → Suits Append (files_of (h ++ k)) → ⊥
    by_append m ref u =
        let f = regions_refused Append c d h k
        (parts Append c d h k m ((m.older.stands Append m.older_suits).append refl) ((m.newer.stands Append m.newer_suits).append refl)
        (append_apart 0 (h ++ k) (both_files Append c d h k m (in_order Append c d h k m sound)))) ref in
        at f.0 f.1 (sound_queue Append sound.queue (h ++ k) sound.sound.files u)
      where
        at : (r : ℕ) → after Append r None (steps_of r (batches (h ++ k))) ≡ None → ((h ++ k) ≡ []) ⊎ (sound.queue ≡ Append) → ⊥
        at r e (inl n) = no_both (sym (ap (λ l. after Append r None (steps_of r (batches l))) n ∙ ap (after Append r None) (no_steps r)) ∙ e) refl
        at r e (inr p) = no_both (ap (λ q. after q r None (steps_of r (batches (h ++ k)))) p ∙ e) (sound.sound.accepted r).1

    by_queue : (q : LogQueue) → Merges q c d h k → AreRegionsRefused q c d → Suits q (files_of (h ++ k)) → ⊥
    by_queue Append m ref u = by_append m ref u
    by_queue Rewrite m ref u = rewrite_refused c d ref

pub files_unsound : (q : LogQueue) (c d : Context) (h k : List Event) → Merges q c d h k → follows c.files d.files ≡ false → Sound (h ++ k) → ⊥
files_unsound q c d h k m f sound = false≢true (sym f ∙ in_order q c d h k m sound)

-- ---- contexts that are exact for one history agree

some_queue : (p : Option FileRange) → (q : LogQueue) × Suits q p
some_queue None = (Append, tt)
some_queue (Some p) = (p.queue, refl)

pub agree : (c d : Context) (h : List Event) → IsExactFor c h → IsExactFor d h → (c.regions.tables ≡ d.regions.tables) × (c.groups ≡ d.groups) × (c.cleaned ≡ d.cleaned) × (c.files ≡ d.files)
agree c d h a b = (
  finite.same_map nat_cmp_total nat_cmp-IsAntisymmetric c.regions.tables d.regions.tables (λ r. some_is (sym (exact_reading q c.regions (batches h) (a.regions q s.1) r) ∙ exact_reading q d.regions (batches h) (b.regions q t) r)),
  a.stands.groups ∙ sym b.stands.groups,
  (a.stands.stands q s.1).cleaned ∙ sym (b.stands.stands q t).cleaned,
  same,
)
  where
    s : (q : LogQueue) × Suits q c.files
    s = some_queue c.files

    q : LogQueue
    q = s.0

    same : c.files ≡ d.files
    same = a.stands.files ∙ sym b.stands.files

    t : Suits q d.files
    t = subst (Suits s.0) same s.1
