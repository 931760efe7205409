-- A stop, and what is found then.
use Rattle.raft_engine_laws.proofs.Common.{◌≡◌, ℕ, ◌≤◌, List, ◌∷◌, sym, ap, subst, ◌∙◌, arith, EntryIndex, Append, Rewrite, Event, IsReadingOfBoth, FilesFrom, IsSoundIn, Apart, RegionStep, Tables, AreKept, Records, live, HaveRecords, Deed, Crash, MayBeGone, in_files_from, IsLeft}
use Rattle.raft_engine_laws.proofs.Common.{IsKeptWith, LoseNothing, IsSafe}
use Rattle.raft_engine_laws.proofs.FoundTables.{kept_found}
use Rattle.raft_engine_laws.proofs.RecordLemmas.{found_have}
use Rattle.raft_engine_laws.proofs.Reopened.{reopened, all_steps_of}
use Rattle.raft_engine_laws.proofs.CrashLemmas.{files_front, stands_in_front}

-- where the machine crashed, just these files are gone
just_gone : (deeds : List Deed) (h : List Event) (n i : ℕ) → MayBeGone (Crash h n ∷ deeds) i → i ≡ n
just_gone deeds h n i g = let a : n ≤ i = g.at_least in let b : i ≤ n = g.at_most in omega (arith, a, b)

just_left : (deeds : List Deed) (h : List Event) (n : ℕ) (standing left : List Event) → IsLeft (Crash h n ∷ deeds) standing left → left ≡ in_files_from n h
just_left deeds h n standing left x = x.left ∙ ap (in_files_from x.gone) x.stands ∙ ap (λ i. in_files_from i h) (just_gone deeds h n x.gone x.may_go)

module _ (content : EntryIndex → List ℕ) (base : ℕ → Records) (appended rewritten : List Deed) (untold : List RegionStep) (tables found : Tables) (h : IsSafe content base appended rewritten untold tables) where
  module _ (standing append r rewrite : List Event) (x : IsLeft appended standing append) (y : IsLeft rewritten r rewrite) where
    abbrev those : IsKeptWith content append rewrite (live content base standing)
    those = h.left standing append r rewrite x y

    pub append_readable : IsSoundIn Append append
    append_readable = those.kept.append_sound

    pub rewrite_readable : IsSoundIn Rewrite rewrite
    rewrite_readable = those.kept.rewrite_sound

    pub rewrite_apart : Apart rewrite
    rewrite_apart = those.kept.apart

    module _ (cleaned : List ℕ) (both : IsReadingOfBoth rewrite append found cleaned) where
      -- what is found
      pub nothing_lost : HaveRecords content found (live content base standing)
      nothing_lost = found_have content those.tables found (live content base standing) (kept_found content append rewrite those.untold those.tables found cleaned those.kept both) those.has

      sorted : FilesFrom Append 0 standing
      sorted = let p = stands_in_front appended standing x.stands in files_front Append 0 standing p.0 (subst (FilesFrom Append 0) p.1 h.append_files)

      rewrite_sorted : FilesFrom Rewrite 0 r
      rewrite_sorted = let p = stands_in_front rewritten r y.stands in files_front Rewrite 0 r p.0 (subst (FilesFrom Rewrite 0) p.1 h.rewrite_files)

      -- a restart goes on with it, also where contents are told otherwise from then on
      pub restarted : (other : EntryIndex → List ℕ) (before : ℕ → Records) → HaveRecords other found (live other before standing) →
          IsSafe other before (Crash standing x.gone ∷ appended) (Crash r y.gone ∷ rewritten) (all_steps_of append) found
      restarted other before has = record {
        append_files = sorted;
        rewrite_files = rewrite_sorted;
        has = has;
        kept = λ m n g k. so (in_files_from m standing) (in_files_from n r)
            (ap (λ i. in_files_from i standing) (just_gone appended standing x.gone m g) ∙ sym x.left)
            (ap (λ i. in_files_from i r) (just_gone rewritten r y.gone n k) ∙ sym y.left);
        left = λ s a q w u v. record {
          untold = all_steps_of append;
          tables = found;
          kept = so a w (just_left appended standing x.gone s a u ∙ sym x.left) (just_left rewritten r y.gone q w v ∙ sym y.left);
          has = subst (λ l. HaveRecords other found (live other before l)) (sym u.stands) has;
        };
      }
        where
          so : (a w : List Event) → a ≡ append → w ≡ rewrite → AreKept other a w (all_steps_of append) found
          so a w e f = subst (λ l. AreKept other l w (all_steps_of append) found) (sym e) (subst (λ l. AreKept other append l (all_steps_of append) found) (sym f)
              (reopened content append rewrite those.untold those.tables found cleaned those.kept both other))

      pub restarted_same : IsSafe content base (Crash standing x.gone ∷ appended) (Crash r y.gone ∷ rewritten) (all_steps_of append) found
      restarted_same = restarted content base nothing_lost

-- what is safe loses nothing by a crash
pub lose_nothing : (content : EntryIndex → List ℕ) (base : ℕ → Records) (appended rewritten : List Deed) (untold : List RegionStep)
    (tables : Tables) → IsSafe content base appended rewritten untold tables → LoseNothing content base appended rewritten
lose_nothing content base appended rewritten untold tables h = record {
  readable = λ standing append others rewrite x y. (
    append_readable content base appended rewritten untold tables tables h standing append others rewrite x y,
    rewrite_readable content base appended rewritten untold tables tables h standing append others rewrite x y,
    rewrite_apart content base appended rewritten untold tables tables h standing append others rewrite x y,
  );
  found = λ standing append others rewrite x y found cleaned both. nothing_lost content base appended rewritten untold tables found h standing append others rewrite x y cleaned both;
}
