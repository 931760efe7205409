-- What cuts and joins leave of a table's entries.
use Rattle.raft_table.proofs.Common.{◌≡◌, ℕ, ◌+◌, ◌<◌, ◌≤◌, min, List, [], ◌∷◌, ◌++◌, length, get_or, take, drop, refl, sym, ap, ◌∙◌, subst, arith, None, slice_get, length-take-le, drop-append_seam, EntryIndex, RisesFrom, end_of}
use Rattle.raft_table.proofs.Common.{run_of, end_bounded, bounded_of, AreTableEntries, RewrittenInFront, start_of, below, from, placed_in, entry_count, Append, Rewrite}
use Rattle.raft_table.proofs.RunLemmas.{below-append, from-append, below-placed_in, from-placed_in, below_take, from_drop, RisesFrom-take, rises, IsRun-drop, end_of-take, end_of-drop}
use Rattle.raft_table.proofs.PlaceLemmas.{entries_in_front, entries_in_both, entry_count-cut}

pub sound_rising : (es : List EntryIndex) → AreTableEntries es → RisesFrom (start_of es) es
sound_rising es h = rises es h.consecutive.run

pub RewrittenInFront-below : (i : ℕ) (es : List EntryIndex) → RewrittenInFront es → RewrittenInFront (below i es)
RewrittenInFront-below i es h =
    ap (below i) h ∙ below-append i (placed_in Rewrite es) (placed_in Append es)
    ∙ ap (λ xs. xs ++ below i (placed_in Append es)) (below-placed_in i Rewrite es)
    ∙ ap (λ xs. placed_in Rewrite (below i es) ++ xs) (below-placed_in i Append es)

pub RewrittenInFront-from : (i : ℕ) (es : List EntryIndex) → RewrittenInFront es → RewrittenInFront (from i es)
RewrittenInFront-from i es h =
    ap (from i) h ∙ from-append i (placed_in Rewrite es) (placed_in Append es)
    ∙ ap (λ xs. xs ++ from i (placed_in Append es)) (from-placed_in i Rewrite es)
    ∙ ap (λ xs. placed_in Rewrite (from i es) ++ xs) (from-placed_in i Append es)

pub AreTableEntries-take : (n : ℕ) (es : List EntryIndex) → AreTableEntries es → AreTableEntries (take n es)
AreTableEntries-take n es h =
    let s = start_of es in
    let e : below (s + n) es ≡ take n es = below_take (s + n) n s es refl (sound_rising es h) in
    let top = end_of-take n es in
    let bound = end_bounded es h.consecutive.bounded in
    record {
      consecutive = record { run = run_of s (take n es) (RisesFrom-take n s es (sound_rising es h)); bounded = bounded_of (take n es) (omega arith) };
      in_front = subst RewrittenInFront e (RewrittenInFront-below (s + n) es h.in_front);
    }

pub AreTableEntries-drop : (n : ℕ) (es : List EntryIndex) → AreTableEntries es → AreTableEntries (drop n es)
AreTableEntries-drop n es h =
    let s = start_of es in
    let e : from (s + n) es ≡ drop n es = from_drop (s + n) n s es refl (sound_rising es h) in
    let top = end_of-drop n es in
    let bound = end_bounded es h.consecutive.bounded in
    record {
      consecutive = record { run = IsRun-drop n s es (sound_rising es h); bounded = bounded_of (drop n es) (omega arith) };
      in_front = subst RewrittenInFront e (RewrittenInFront-from (s + n) es h.in_front);
    }

-- a run is sound where it is behind others
pub sound_behind : (keep : ℕ) (es run : List EntryIndex) → AreTableEntries (take keep es ++ run) → AreTableEntries run
sound_behind keep es run h = subst AreTableEntries (drop-append_seam (take keep es) run) (AreTableEntries-drop (length (take keep es)) (take keep es ++ run) h)

-- the first entry is where the run starts
pub start_of_front : (es : List EntryIndex) (e : EntryIndex) → 0 < length es → e ≡ get_or es 0 e → start_of es ≡ e.index
start_of_front [] e l h = absurd (omega arith)
start_of_front (x ∷ es) e l h = ap (λ y. y.index) (sym h)

-- how many of a cut front are in each queue
pub record CutCounts (n : ℕ) (es : List EntryIndex) : Type 0 where
  pub rewritten : entry_count Rewrite (take n es) ≡ min n (entry_count Rewrite es)
  pub both : entry_count Rewrite (take n es) + entry_count Append (take n es) ≡ n
  pub rewritten_behind : entry_count Rewrite (take n es) + entry_count Rewrite (drop n es) ≡ entry_count Rewrite es
  pub appended_behind : entry_count Append (take n es) + entry_count Append (drop n es) ≡ entry_count Append es
  pub all : entry_count Rewrite es + entry_count Append es ≡ length es

pub cut_counts : (n : ℕ) (es : List EntryIndex) → AreTableEntries es → n ≤ length es → CutCounts n es
cut_counts n es h le = record {
  rewritten = entries_in_front n es h.in_front;
  both = entries_in_both (take n es) (AreTableEntries-take n es h).in_front ∙ length-take-le n es le;
  rewritten_behind = entry_count-cut Rewrite n es;
  appended_behind = entry_count-cut Append n es;
  all = entries_in_both es h.in_front;
}

pub AreTableEntries-nil : AreTableEntries []
unfolding placed_in end_of
AreTableEntries-nil = record { consecutive = record { run = tt; bounded = tt }; in_front = refl }

pub no_first : (es : List EntryIndex) → None ≡ slice_get es 0 → es ≡ []
no_first [] h = refl
no_first (x ∷ es) h = cc
