-- Regions whose rewritten records move, one after another, in a batch or in a group each.
use Rattle.raft_engine.proofs.Common.{◌≡◌, ◌⊎◌, inl, inr, ℕ, ◌+◌, ◌<◌, ◌≤◌, List, [], ◌∷◌, ◌++◌, get_or, length, take, drop, Option, Some, None, refl, sym, ap, ◌∙◌, subst, arith, cases_lt, drop_more, take-append-drop, take_all, take_more, EntryIndex, Error, block_count, table_of}
use Rattle.raft_engine.proofs.Common.{Table, placed_in, AreOnePart, IsFirstPart, bytes_of_entries, KeptEngine, AreSynced, IsReady, AreRegionsMovedAgain, AreSomeRegionsMovedAgain, IsGroupMoved, IsGroupUnmoved, IsOnePartOf, IsRegionMovedAgain, IsRegionUnmovedAgain, moving_entries}
use Rattle.raft_engine.proofs.Common.{Failures}
use Rattle.std.specs.FinMap as finite
use Rattle.raft_engine.proofs.GroupReadBack.{puts_append}
use Rattle.raft_engine.proofs.KeptMoves.{read_synced}
use Rattle.raft_engine.proofs.BlockCounts.{prefix_count}
use Rattle.raft_engine.proofs.PartLemmas.{parts_only}
use Rattle.raft_engine.proofs.PartLengths.{bytes_append}
use Rattle.raft_engine.proofs.RewrittenRegions.{rewritten_ready}

-- ---- entries that are one part

all_one : (es : List EntryIndex) (n : ℕ) → AreOnePart es → AreOnePart (take n es)
all_one es n (inl few) =
    let sum = ap bytes_of_entries (sym (take-append-drop n es)) ∙ bytes_append (take n es) (drop n es) in
    inl (omega (arith, sum, few))
all_one es n (inr one) =
    let fewer = prefix_count (take n es) (drop n es) in
    let all = ap block_count (take-append-drop n es) in
    inr (omega (arith, fewer, all, one))

pub one_if : (es : List EntryIndex) (n : ℕ) → IsFirstPart es n → n ≡ length es → AreOnePart es
one_if es n f e = subst AreOnePart (take_all n es (omega (arith, e))) f.part

pub only_if : (es : List EntryIndex) (n : ℕ) → IsFirstPart es n → AreOnePart es → length es ≤ n
only_if es n f one = elim (cases_lt n (length es)) [
  | inl less ↦ let next = f.longest less in absurd (next.3 (all_one es next.0 one))
  | inr most ↦ most
]

none_low : 0 ≤ 4096
none_low = omega arith

pub one_in_none : (region : ℕ) (o : Option Table) → o ≡ None
    → AreOnePart (moving_entries None (table_of region o).entries)
unfolding placed_in
one_in_none region None e = inl none_low
one_in_none region (Some t) e = absurd cc

pub one_in_some : (region : ℕ) (o : Option Table) (t : Table) (es : List EntryIndex) → o ≡ Some t
    → es ≡ moving_entries None t.entries → AreOnePart es → AreOnePart (moving_entries None (table_of region o).entries)
one_in_some region o t es e is h = subst (λ (x : Option Table). AreOnePart (moving_entries None (table_of region x).entries)) (sym e) (subst AreOnePart is h)

pub some_in_one : (region : ℕ) (o : Option Table) (t : Table) (es : List EntryIndex) → o ≡ Some t
    → es ≡ moving_entries None t.entries → AreOnePart (moving_entries None (table_of region o).entries) → AreOnePart es
some_in_one region o t es e is h = subst AreOnePart (sym is) (subst (λ (x : Option Table). AreOnePart (moving_entries None (table_of region x).entries)) e h)

-- ---- regions

pub group_again : (region : ℕ) (old new : KeptEngine) → ¬ (IsOnePartOf region old)
    → ((finite.get old.accessor.tables region ≡ None) × (new ≡ old)) ⊎ IsGroupMoved region old new
    → IsRegionMovedAgain region old new
group_again region old new several (inl none) = absurd (several (one_in_none region (finite.get old.accessor.tables region) none.0))
group_again region old new several (inr g) = inr (several, g)

pub group_not_again : {MayFail : Failures} (region : ℕ) (old new : KeptEngine) (e : Error) → ¬ (IsOnePartOf region old)
    → IsGroupUnmoved MayFail region old new e → IsRegionUnmovedAgain MayFail region old new e
group_not_again region old new e several g = inr (inr (several, g))

pub moved_ready : (region : ℕ) (old new : KeptEngine) → IsReady old → IsRegionMovedAgain region old new → IsReady new
moved_ready region old new r (inl m) = rewritten_ready None region old new r m.1
moved_ready region old new r (inr m) =
    let g = m.1 in
    subst IsReady (sym g.moved) (record {
      intact = r.intact;
      synced = subst AreSynced (sym (puts_append old.version g.seq g.batches g.between))
          (read_synced old.asks g.between (parts_only g.group.parts.moving.parts old.asks g.between g.group.parts.moving.read) r.synced);
      told = r.told;
    })

-- one region more
more_region : (region : ℕ) (regions : List ℕ) (old now new : KeptEngine) → AreRegionsMovedAgain regions old now
    → IsRegionMovedAgain region now new → AreRegionsMovedAgain (regions ++ region ∷ []) old new
more_region region [] old now new h k = (new, subst (λ (o : KeptEngine). IsRegionMovedAgain region o new) h k, refl)
more_region region (r ∷ regions) old now new h k = (h.0, h.1, more_region region regions h.0 now new h.2 k)

pub next_region : (i : ℕ) (regions : List ℕ) (d : ℕ) (old now new : KeptEngine) → i < length regions
    → AreRegionsMovedAgain (take i regions) old now → IsRegionMovedAgain (get_or regions i d) now new
    → AreRegionsMovedAgain (take (i + 1) regions) old new
next_region i regions d old now new l h k =
    subst (λ (rs : List ℕ). AreRegionsMovedAgain rs old new) (sym (take_more regions i d l)) (more_region (get_or regions i d) (take i regions) old now new h k)

pub some_moved : {MayFail : Failures} (i : ℕ) (regions : List ℕ) (d : ℕ) (old now new : KeptEngine) (e : Error) → i < length regions
    → AreRegionsMovedAgain (take i regions) old now → IsRegionUnmovedAgain MayFail (get_or regions i d) now new e
    → AreSomeRegionsMovedAgain MayFail regions old new e
some_moved i regions d old now new e l h k =
    let split : regions ≡ take i regions ++ get_or regions i d ∷ drop (i + 1) regions = sym (take-append-drop i regions) ∙ ap (λ (rs : List ℕ). take i regions ++ rs) (drop_more regions i d l) in
    record { front = take i regions; region = get_or regions i d; back = drop (i + 1) regions; split = split; between = now; moved = h; unmoved = k }
