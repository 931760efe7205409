-- Own entries that are not below the cut of their region mark.
use Rattle.raft_table.proofs.Common.{◌≡◌, ℕ, ◌≤◌, ◌<◌, suc, min, Bool, true, false, cond, List, [], ◌∷◌, ◌++◌, filter, Option, Some, None, refl, sym, subst, arith, LogQueue, EntryIndex, RisesFrom, end_of, start_of, lesser, Mark}
use Rattle.raft_table.proofs.Common.{entries_within, FitsCut, AreFromCut, Fits, fresh, joined_at}
use Rattle.raft_table.proofs.StepMarkLemmas.{run_covered}

from_less : (c d : ℕ) (es : List EntryIndex) → d ≤ c → AreFromCut (Some c) es → AreFromCut (Some d) es
from_less c d [] less h = tt
from_less c d (e ∷ es) less h = (omega (arith, h.0), from_less c d es less h.1)

from_append : (c : ℕ) (xs ys : List EntryIndex) → AreFromCut (Some c) xs → AreFromCut (Some c) ys → AreFromCut (Some c) (xs ++ ys)
from_append c [] ys h k = k
from_append c (x ∷ xs) ys h k = (h.0, from_append c xs ys h.1 k)

from_filter : (c : ℕ) (p : EntryIndex → Bool) (es : List EntryIndex) → AreFromCut (Some c) es → AreFromCut (Some c) (filter p es)
from_filter c p [] h = tt
from_filter c p (e ∷ es) h = (elim (p e) as (λ b. AreFromCut (Some c) (filter p es) → AreFromCut (Some c) (cond b (e ∷ filter p es) (filter p es))) [ true ↦ λ k. (h.0, k) | false ↦ λ k. k ]) (from_filter c p es h.1)

from_within : (c floor : ℕ) (cut : Option ℕ) (es : List EntryIndex) → AreFromCut (Some c) es → AreFromCut (Some c) (entries_within floor cut es)
unfolding entries_within
from_within c floor cut es h = from_filter c _ es h

pub from_rises : (i : ℕ) (es : List EntryIndex) → RisesFrom i es → AreFromCut (Some i) es
from_rises i [] h = tt
from_rises i (e ∷ es) h = (omega (arith, h.0), from_less (suc i) i es (omega arith) (from_rises (suc i) es h.1))

pub from_none : (c : Option ℕ) → AreFromCut c []
from_none None = tt
from_none (Some c) = tt

pub from_first : (a b reach : Option ℕ) (n : Mark) (u : List EntryIndex) → FitsCut reach b n u → AreFromCut b u → AreFromCut (lesser a b) u
from_first a None None n u h k = subst (AreFromCut (lesser a None)) (sym h) (from_none (lesser a None))
from_first a None (Some r) n u h k = absurd h
from_first None (Some d) reach n u h k = k
from_first (Some c) (Some d) reach n u h k = from_less d (min c d) u (omega arith) k

pub from_later : (c floor : ℕ) (b reach : Option ℕ) (n : Mark) (t u w : List EntryIndex) (dropped : Bool) → AreFromCut (Some c) t →
    FitsCut reach b n u → AreFromCut b u → cond dropped u (entries_within floor b t ++ u) ≡ w → AreFromCut (lesser (Some c) b) w
from_later c floor b reach n t u w dropped h k l is = subst (AreFromCut (lesser (Some c) b)) is (go dropped (from_first (Some c) b reach n u k l))
  where
    older : (b : Option ℕ) → AreFromCut (lesser (Some c) b) (entries_within floor b t)
    older None = from_within c floor None t h
    older (Some d) = from_within (min c d) floor (Some d) t (from_less c (min c d) t (omega arith) h)

    go : (dropped : Bool) → AreFromCut (lesser (Some c) b) u → AreFromCut (lesser (Some c) b) (cond dropped u (entries_within floor b t ++ u))
    go true y = y
    go false y = (elim b as (λ b. AreFromCut (lesser (Some c) b) (entries_within floor b t) → AreFromCut (lesser (Some c) b) u → AreFromCut (lesser (Some c) b) (entries_within floor b t ++ u))
        [ None ↦ λ x y. from_append c (entries_within floor None t) u x y | Some d ↦ λ x y. from_append (min c d) (entries_within floor (Some d) t) u x y ]) (older b) y

cut_low : (c : ℕ) (es : List EntryIndex) → 0 < end_of es → AreFromCut (Some c) es → c ≤ start_of es
unfolding end_of
cut_low c [] some h = absurd (omega (arith, some))
cut_low c (e ∷ es) some h = h.0

empty : (es : List EntryIndex) → 0 < end_of es → es ≡ [] → ⊥
unfolding end_of
empty [] some e = absurd (omega (arith, some))
empty (x ∷ es) some e = cc

-- a run that begins among own entries, or right behind them, leaves their region mark as it is
pub run_stays : (q : LogQueue) (m : Mark) (own : List EntryIndex) (start : ℕ) → Fits q m own → 0 < end_of own → start_of own ≤ start →
    start ≤ end_of own → joined_at q (end_of own) m (record fresh { reach = Some start; cut = Some start }) ≡ m
run_stays q m own start f some low high = (elim m.cleaned as (λ b. m.cleaned ≡ b → joined_at q (end_of own) m n ≡ m) [ true ↦ λ e. rw e refl | false ↦ λ e. by_run m.reach m.cut refl refl (f.uncleaned e) (f.from_cut e) ]) refl
  where
    n : Mark
    n = record fresh { reach = Some start; cut = Some start }

    by_run : (x y : Option ℕ) → m.reach ≡ x → m.cut ≡ y → FitsCut x y m own → AreFromCut y own → joined_at q (end_of own) m n ≡ m
    by_run None y e k h l = absurd (empty own some h)
    by_run (Some r) None e k h l = absurd h
    by_run (Some r) (Some c) e k h l = run_covered q (end_of own) start r c m e k (omega (arith, cut_low c own some l, low)) high some

-- the region mark of no step has no entries
pub none_of_fresh : (q : LogQueue) (own : List EntryIndex) → Fits q fresh own → own ≡ []
none_of_fresh q own f = f.uncleaned refl
