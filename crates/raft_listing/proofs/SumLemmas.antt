-- The numbers of a scan, as it meets one thing after another.
use Rattle.raft_listing.proofs.Common.{◌≡◌, ◌⊎◌, inl, inr, ℕ, ◌+◌, ◌-◌, ◌^◌, ◌<◌, ◌≤◌, min, leb, true, false, List, [], ◌∷◌, ◌++◌, filter, length, None, Some, refl, sym, ap, ◌∙◌, subst, arith, leb_tells, AllByRecursion, Part, IsScanned, batches_after, read_after, unseen_after}
use Rattle.raft_listing.proofs.Common.{IsDamage, IsDeadEnd, IsSummedUp, is_batch, AreVisited, Met, batch, damage, FileScan}

abbrev Seen : Type 0
Seen = ℕ × Met

-- how many batches are met
abbrev count : List Seen → ℕ
count met = length (filter (λ (m : Seen). is_batch m.1) met)

-- what is said before comes first, or damage at one of these bytes
abbrev IsReached : Part → List Seen → ℕ → ℕ → Type 0
IsReached part met old new =
    (new ≡ old) ⊎ ((before after : List Seen) × (m : Seen) × (met ≡ before ++ m ∷ after) × IsDamage m.1 × (new ≡ part.offset + m.0))

no_split : (m : Seen) (before after : List Seen) → [] ≡ before ++ m ∷ after → ⊥
no_split m [] after split = absurd cc
no_split m (b ∷ before) after split = absurd cc

nothing : (part : Part) (scan : FileScan) → scan.batches < 2 ^ 64 → IsSummedUp part [] scan scan
nothing part scan few = record {
  batches = (let e : scan.batches ≡ min (scan.batches + 0) (2 ^ 64 - 1) = omega (arith, few) in e);
  no_more = omega arith;
  least = λ before after m split is. absurd (no_split m before after split);
  reached = inl refl;
  unseen = λ before m split ends. absurd (no_split m before [] split);
  all_seen = λ all. refl;
}

batches_more : (met : List Seen) (at old mid new : ℕ) (k : Met) → mid ≡ batches_after k old → new ≡ min (mid + count met) (2 ^ 64 - 1) → new ≡ min (old + count ((at, k) ∷ met)) (2 ^ 64 - 1)
batches_more met at old mid new (batch items next) one more = let n = count met in omega (arith, one, more)
batches_more met at old mid new (damage next e) one more = more ∙ ap (λ (b : ℕ). min (b + count met) (2 ^ 64 - 1)) one

falls : (offset old mid : ℕ) (k : Met) → mid ≡ read_after offset k old → mid ≤ old
falls offset old mid (batch items next) one = omega (arith, one)
falls offset old mid (damage next e) one = omega (arith, one)

below : (offset old mid : ℕ) (k : Met) → mid ≡ read_after offset k old → IsDamage k → mid ≤ offset
below offset old mid (batch items next) one is = absurd is
below offset old mid (damage next e) one is = omega (arith, one)

reached_first : (part : Part) (met : List Seen) (at old mid new : ℕ) (k : Met) → mid ≡ read_after (part.offset + at) k old → new ≡ mid → IsReached part ((at, k) ∷ met) old new
reached_first part met at old mid new (batch items next) one same = inl (same ∙ one)
reached_first part met at old mid new (damage next e) one same = go (leb_tells old (part.offset + at))
  where
    go : ((leb old (part.offset + at) ≡ true) × (old ≤ part.offset + at)) ⊎ ((leb old (part.offset + at) ≡ false) × (part.offset + at < old)) → IsReached part ((at, damage next e) ∷ met) old new
    go (inl before) = inl (let e : new ≡ old = omega (arith, one, same, before.1) in e)
    go (inr behind) = inr ([], met, (at, damage next e), refl, tt, (let e : new ≡ part.offset + at = omega (arith, one, same, behind.1) in e))

reached_more : (part : Part) (met : List Seen) (at old mid new : ℕ) (k : Met) → mid ≡ read_after (part.offset + at) k old → IsReached part met mid new → IsReached part ((at, k) ∷ met) old new
reached_more part met at old mid new k one (inl same) = reached_first part met at old mid new k one same
reached_more part met at old mid new k one (inr d) = inr ((at, k) ∷ d.0, d.1, d.2, ap (λ (ms : List Seen). (at, k) ∷ ms) d.3, d.4, d.5)

-- one thing more is met in front
module _ (part : Part) (at : ℕ) (k : Met) (met : List Seen) (old mid new : FileScan) (s : IsScanned old part at k mid) (r : IsSummedUp part met mid new) where
  least_more : (before after : List Seen) (n : Seen) → (at, k) ∷ met ≡ before ++ n ∷ after → IsDamage n.1 → new.read ≤ part.offset + n.0
  least_more [] after n split is =
      let same : n ≡ (at, k) = cc in
      let low = below (part.offset + at) old.read mid.read k s.read (subst (λ (m : Seen). IsDamage m.1) same is) in
      subst (λ (m : Seen). new.read ≤ part.offset + m.0) (sym same) (let h : new.read ≤ part.offset + at = omega (arith, r.no_more, low) in h)
  least_more (b ∷ before) after n split is = let rest : met ≡ before ++ n ∷ after = cc in r.least before after n rest is

  unseen_last : (j : Met) → mid.unseen ≡ unseen_after old.len (part.offset + at) j old.unseen → IsDeadEnd j → mid.unseen ≡ old.len - (part.offset + at)
  unseen_last (batch items next) one ends = absurd ends
  unseen_last (damage None e) one ends = one
  unseen_last (damage (Some next) e) one ends = absurd ends

  unseen_more : (before : List Seen) (n : Seen) → (at, k) ∷ met ≡ before ++ n ∷ [] → IsDeadEnd n.1 → new.unseen ≡ old.len - (part.offset + n.0)
  unseen_more [] n split ends =
      let same : n ≡ (at, k) = cc in
      let none : met ≡ [] = cc in
      let kept : new.unseen ≡ mid.unseen = r.all_seen (subst (AllByRecursion (λ (m : Seen). ¬ (IsDeadEnd m.1))) (sym none) tt) in
      kept ∙ unseen_last k s.unseen (subst (λ (m : Seen). IsDeadEnd m.1) same ends) ∙ ap (λ (m : Seen). old.len - (part.offset + m.0)) (sym same)
  unseen_more (b ∷ before) n split ends =
      let rest : met ≡ before ++ n ∷ [] = cc in r.unseen before n rest ends ∙ ap (λ (l : ℕ). l - (part.offset + n.0)) s.len

  seen_here : (j : Met) → mid.unseen ≡ unseen_after old.len (part.offset + at) j old.unseen → ¬ (IsDeadEnd j) → mid.unseen ≡ old.unseen
  seen_here (batch items next) one not = one
  seen_here (damage None e) one not = absurd (not tt)
  seen_here (damage (Some next) e) one not = one

  more : IsSummedUp part ((at, k) ∷ met) old new
  more = record {
    batches = batches_more met at old.batches mid.batches new.batches k s.batches r.batches;
    no_more = (let low = falls (part.offset + at) old.read mid.read k s.read in let h : new.read ≤ old.read = omega (arith, low, r.no_more) in h);
    least = least_more;
    reached = reached_more part met at old.read mid.read new.read k s.read r.reached;
    unseen = unseen_more;
    all_seen = λ all. r.all_seen all.1 ∙ seen_here k s.unseen all.0;
  }

-- a scan never counts 2^64 batches
stays_few : (old : FileScan) (part : Part) (at : ℕ) (k : Met) (new : FileScan) → old.batches < 2 ^ 64 → new.batches ≡ batches_after k old.batches → new.batches < 2 ^ 64
stays_few old part at (batch items next) new few is = omega (arith, few, is)
stays_few old part at (damage next e) new few is = omega (arith, few, is)

-- all that is met
pub summed_up : (part : Part) (met : List (ℕ × Met)) (old new : FileScan) → old.batches < 2 ^ 64 → AreVisited IsScanned part old met new → IsSummedUp part met old new
summed_up part [] old new few visited = subst (IsSummedUp part [] old) visited (nothing part old few)
summed_up part ((at, k) ∷ met) old new few visited =
    let mid = visited.0 in
    let s = visited.1 in
    more part at k met old mid new s (summed_up part met mid new (stays_few old part at k mid few s.batches) visited.2)
