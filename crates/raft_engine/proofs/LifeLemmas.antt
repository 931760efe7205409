-- What one life of an engine leaves, and what the next ones find of it.
use Rattle.raft_engine.proofs.Common.{◌≡◌, ℕ, zero, suc, ◌<◌, ◌≤◌, Bool, true, false, cond, List, [], ◌∷◌, ◌++◌, length, take, filter, map, inl, inr, refl, sym, ap, ◌∙◌, subst, arith, AllByRecursion, cases_lt, nil_from_length, LogQueue, Append, Rewrite, Version, Event}
use Rattle.raft_engine.proofs.Common.{each_weaker, Act, Ask, Begin, Cut, Delete, Found, NumberedBytes, Put, Read, Sync, Unsynced, acts_on, ask, is_same_queue, begun, deletions, in_files_from, from_none, numbers, FoundEndWithin, AreFirstOf, GoesOn, HoldRestOfPrefix, FilesHoldTorn}
use Rattle.raft_engine.proofs.Common.{files_low, from_both, all_front, rest_left, one_reading, HaveBothBegun, IsLastingAfter, EntriesAreFound, FollowEachOther, IsFirstLife, IsNextLife, Life, SyncedStaysSynced, WhatLastsIsALife, WrittenEntriesAreFound, at_stop, FindNoFiles}
use Rattle.raft_engine.proofs.Common.{FoundEntriesStay, found_asks}
use Rattle.raft_engine.proofs.MomentLemmas.{first_begun, first_first, moments_of}

pub what_lasts : WhatLastsIsALife
what_lasts content engine told l = (
  record { asks = engine.asks; content = content; base = l.base; both = first_begun engine.asks l.first; told = told; ever = l.ever },
  refl,
  refl,
)

-- ---- what is synced

-- of first batches those in files from a number on are the first ones
from_first : (n : ℕ) (g h : List Event) → AreFirstOf g h → AreFirstOf (in_files_from n g) (in_files_from n h)
from_first n g h f = (in_files_from n f.0, ap (in_files_from n) f.1 ∙ from_both n g f.0)

-- fewer of the oldest files are below a number too
below_taken : (n gone count : ℕ) (files : List NumberedBytes) → gone ≤ count → AllByRecursion (λ (file : NumberedBytes). file.0 < n) (take count files)
    → AllByRecursion (λ (m : ℕ). m < n) (numbers (take gone files))
below_taken n zero count [] le low = tt
below_taken n zero count (f ∷ files) le low = tt
below_taken n (suc gone) zero files le low = absurd (omega (arith, le))
below_taken n (suc gone) (suc count) [] le low = tt
below_taken n (suc gone) (suc count) (f ∷ files) le low = (low.0, below_taken n gone count files (omega (arith, le)) low.1)

both_found : (append rewrite : List NumberedBytes) → HaveBothBegun (found_asks append rewrite)
both_found append rewrite = ((λ e. absurd cc), (λ e. absurd cc))

module _ (version : Version) (n : ℕ) (before life : Life version) (next : IsNextLife version before life)
    (low : AllByRecursion (λ (file : NumberedBytes). file.0 < n) (take (deletions (acts_on Append before.asks)) (begun (acts_on Append before.asks)))) where
  abbrev old : IsLastingAfter before.content version before.base before.asks
  old = at_stop before

  abbrev new : IsLastingAfter life.content version life.base life.asks
  new = at_stop life

  abbrev found : IsLastingAfter life.content version life.base (found_asks next.append next.rewrite)
  found = life.ever next.since (found_asks next.append next.rewrite) next.asked (both_found next.append next.rewrite)

  later : AreFirstOf found.synced new.synced
  later =
      (moments_of life.content version life.base life.asks next.since (found_asks next.append next.rewrite) next.asked life.ever (both_found next.append next.rewrite) next.none_found found new).0

  -- files were begun
  some : deletions (acts_on Append before.asks) < length (begun (acts_on Append before.asks)) → AreFirstOf (in_files_from n old.synced) (in_files_from n found.synced)
  some few =
      let r : HoldRestOfPrefix Append version before.asks old.synced old.batches next.append = rest_left Append version before.asks old.synced old.batches next.append old.put few next.append_left in
      let same : r.rest ≡ found.synced = one_reading Append version next.append r.rest found.batches r.held found.put.1 ∙ sym found.put.0 in
      let none : in_files_from n r.deleted ≡ [] =
      files_low Append version n (take r.gone (begun (acts_on Append before.asks))) r.deleted (below_taken n r.gone (deletions (acts_on Append before.asks)) (begun (acts_on Append before.asks)) r.at_most low) r.of_deleted in (
        in_files_from n r.is_front.more,
        ap (in_files_from n) (sym same) ∙ ap (λ (l : List Event). l ++ in_files_from n r.rest) (sym none) ∙ sym (from_both n r.deleted r.rest) ∙ ap (in_files_from n) r.is_front.least
            ∙ from_both n old.synced r.is_front.more,
      )

  -- no file was begun
  nothing : length (begun (acts_on Append before.asks)) ≡ 0 → AreFirstOf (in_files_from n old.synced) (in_files_from n found.synced)
  nothing none =
      let no_batch : old.batches ≡ [] = subst (λ (fs : List NumberedBytes). FilesHoldTorn Append version fs old.batches) (nil_from_length (begun (acts_on Append before.asks)) none) old.batches_held in
      let f = all_front Append version (acts_on Append before.asks) old.synced old.batches old.put in
      let no_synced : old.synced ≡ [] = first_none old.synced f.more (sym f.least ∙ no_batch) in
      (in_files_from n found.synced, ap (λ (l : List Event). l ++ in_files_from n found.synced) (sym (ap (in_files_from n) no_synced ∙ from_none n)))
    where
      first_none : (g more : List Event) → g ++ more ≡ [] → g ≡ []
      first_none [] more e = refl
      first_none (x ∷ g) more e = absurd cc

  restart : AreFirstOf (in_files_from n old.synced) (in_files_from n new.synced)
  restart =
      let stays = old.stays in
      first_first (in_files_from n old.synced) (in_files_from n found.synced) (in_files_from n new.synced)
      (elim (cases_lt 0 (length (begun (acts_on Append before.asks)))) [ inl more ↦ some (omega (arith, stays, more)) | inr none ↦ nothing (omega (arith, none)) ])
      (from_first n found.synced new.synced later)

pub stays_synced : SyncedStaysSynced
stays_synced version n life [] follow low = tt
stays_synced version n life (next ∷ later) follow low =
    let one = restart version n life next follow.0 low.0 in (
      one,
      each_weaker (λ (l : Life version). AreFirstOf (in_files_from n (at_stop next).synced) (in_files_from n (at_stop l).synced)) (λ (l : Life version). AreFirstOf (in_files_from n (at_stop life).synced) (in_files_from n (at_stop l).synced))
          (λ l more. first_first (in_files_from n (at_stop life).synced) (in_files_from n (at_stop next).synced) (in_files_from n (at_stop l).synced) one more) later
          (stays_synced version n next later follow.1 low.1),
    )

-- ---- contents

module _ (queue : LogQueue) (version : Version) where
  within_act : (act : Act) (acts : List Act) → GoesOn act → FoundEndWithin queue version acts → FoundEndWithin queue version (act ∷ acts)
  within_act (Put bytes) acts goes w = w
  within_act (Begin seq) acts goes w = w
  within_act Sync acts goes w = w
  within_act Unsynced acts goes w = w
  within_act Delete acts goes w = w
  within_act (Cut len) acts goes w = w
  within_act (Found files) acts goes w = absurd goes
  within_act (Read place bytes) acts goes w = w

  within_ask : (t : Bool) (a : Ask) (others : List Ask) → GoesOn a.act → FoundEndWithin queue version (map (λ (x : Ask). x.act) others)
      → FoundEndWithin queue version (map (λ (x : Ask). x.act) (cond t (a ∷ others) others))
  within_ask true a others goes w = within_act a.act (map (λ (x : Ask). x.act) others) goes w
  within_ask false a others goes w = w

  within_since : (since first : List Ask) → FindNoFiles since → FoundEndWithin queue version (acts_on queue first) → FoundEndWithin queue version (acts_on queue (since ++ first))
  within_since [] first none w = w
  within_since (a ∷ since) first none w =
      within_ask (is_same_queue queue a.queue) a (filter (λ (x : Ask). is_same_queue queue x.queue) (since ++ first)) none.0 (within_since since first none.1 w)

abbrev AllFoundWithin : (version : Version) → List Ask → Type 0
AllFoundWithin version asks = (queue : LogQueue) → FoundEndWithin queue version (acts_on queue asks)

within_first : (version : Version) (life : Life version) → IsFirstLife version life → AllFoundWithin version life.asks
within_first version life f queue =
    subst (λ (l : List Ask). FoundEndWithin queue version (acts_on queue l)) (sym f.asked) (within_since queue version f.since (ask Rewrite (Begin 1) ∷ ask Append (Begin 1) ∷ []) f.none_found (begun_first queue))
  where
    begun_first : (queue : LogQueue) → FoundEndWithin queue version (acts_on queue (ask Rewrite (Begin 1) ∷ ask Append (Begin 1) ∷ []))
    begun_first Append = tt
    begun_first Rewrite = tt

within_next : (version : Version) (before life : Life version) → IsNextLife version before life → AllFoundWithin version before.asks → AllFoundWithin version life.asks
within_next version before life f w queue =
    subst (λ (l : List Ask). FoundEndWithin queue version (acts_on queue l)) (sym f.asked) (within_since queue version f.since (found_asks f.append f.rewrite) f.none_found (found queue))
  where
    found : (queue : LogQueue) → FoundEndWithin queue version (acts_on queue (found_asks f.append f.rewrite))
    found Append = (at_stop before).ends Append (w Append) f.append f.append_left
    found Rewrite = (at_stop before).ends Rewrite (w Rewrite) f.rewrite f.rewrite_left

life_found : FoundEntriesStay → (version : Version) (life : Life version) → AllFoundWithin version life.asks → EntriesAreFound version life
life_found stay version life w append rewrite append_left rewrite_left engine opened content told region =
    stay life.content version life.base life.asks (at_stop life) life.told append rewrite append_left rewrite_left
    ((at_stop life).ends Append (w Append) append append_left) ((at_stop life).ends Rewrite (w Rewrite) rewrite rewrite_left) engine opened content told region

all_found : FoundEntriesStay → (version : Version) (life : Life version) (later : List (Life version)) → AllFoundWithin version life.asks → FollowEachOther version life later
    → AllByRecursion (EntriesAreFound version) (life ∷ later)
all_found stay version life [] w follow = (life_found stay version life w, tt)
all_found stay version life (next ∷ later) w follow = (life_found stay version life w, all_found stay version next later (within_next version life next follow.0 w) follow.1)

pub entries_found : FoundEntriesStay → WrittenEntriesAreFound
entries_found stay version life later first follow = all_found stay version life later (within_first version life first) follow
