-- What was read tells the contents of entries.
use Rattle.raft_engine_prefixes.proofs.Common.{◌≡◌, ◌⊎◌, ℕ, zero, suc, ◌<◌, Bool, true, false, cond, List, [], ◌∷◌, filter, get_or, length, map, Contains, inl, inr, refl, ap, subst, ◌∙◌, arith, Contains-append_right, EntryIndex, FileBlockHandle, LogQueue, Append, Rewrite, Act}
use Rattle.raft_engine_prefixes.proofs.Common.{Ask, Begin, Cut, Delete, Found, Put, Read, Sync, Unsynced, acts_on, ask, is_same_queue, AreBothTold, AreToldByReads, ReadEntryIsTold, TellSoundContents}

contains_cases : {X : Type 0} (x z : X) (xs : List X) (k : ℕ) → k < length (x ∷ xs) → get_or (x ∷ xs) k z ≡ z → (x ≡ z) ⊎ Contains xs z
contains_cases x z xs zero l e = inl e
contains_cases x z xs (suc k) l e = inr (k, omega arith, e)

-- ---- one queue

-- what is asked of a queue is among its acts
acts_have : (queue : LogQueue) (asks : List Ask) (a : Ask) → is_same_queue queue a.queue ≡ true → Contains asks a → Contains (acts_on queue asks) a.act
acts_have queue [] a s c = let l = c.1 in absurd (omega (arith, l))
acts_have queue (b ∷ asks) a s c = at (contains_cases b a asks c.0 c.1 c.2) (acts_have queue asks a s)
  where
    first : (t : Bool) (others : List Ask) → t ≡ true → b.act ≡ a.act → Contains (map (λ (x : Ask). x.act) (cond t (b ∷ others) others)) a.act
    first true others h e = (0, omega arith, e)
    first false others h e = absurd cc

    more : (t : Bool) (others : List Ask) → Contains (map (λ (x : Ask). x.act) others) a.act → Contains (map (λ (x : Ask). x.act) (cond t (b ∷ others) others)) a.act
    more true others h = Contains-append_right (b.act ∷ []) (map (λ (x : Ask). x.act) others) a.act h
    more false others h = h

    at : (b ≡ a) ⊎ Contains asks a → (Contains asks a → Contains (acts_on queue asks) a.act) → Contains (acts_on queue (b ∷ asks)) a.act
    at (inl e) later = first (is_same_queue queue b.queue) (filter (λ (x : Ask). is_same_queue queue x.queue) asks) (ap (λ (x : Ask). is_same_queue queue x.queue) e ∙ s) (ap (λ (x : Ask). x.act) e)
    at (inr h) later = more (is_same_queue queue b.queue) (filter (λ (x : Ask). is_same_queue queue x.queue) asks) (later h)

-- what was read tells contents, where it is sound
read_tells : (acts : List Act) (place : FileBlockHandle) (block : List ℕ) (content : EntryIndex → List ℕ) → Contains acts (Read place block) → AreToldByReads acts content → TellSoundContents place block content
read_tells [] place block content c t = let l = c.1 in absurd (omega (arith, l))
read_tells (act ∷ acts) place block content c t = at (contains_cases act (Read place block) acts c.0 c.1 c.2) (λ h. read_tells acts place block content h (earlier act t))
  where
    earlier : (act : Act) → AreToldByReads (act ∷ acts) content → AreToldByReads acts content
    earlier (Put bytes) t = t
    earlier (Begin seq) t = t
    earlier Sync t = t
    earlier Unsynced t = t
    earlier Delete t = t
    earlier (Cut len) t = t
    earlier (Found files) t = t
    earlier (Read place block) t = t.1

    at : (act ≡ Read place block) ⊎ Contains acts (Read place block) → (Contains acts (Read place block) → TellSoundContents place block content) → TellSoundContents place block content
    at (inl e) later = (subst (λ (x : Act). AreToldByReads (x ∷ acts) content) e t).0
    at (inr h) later = later h

-- ---- both queues

asked_tells : (asks : List Ask) (place : FileBlockHandle) (block : List ℕ) (content : EntryIndex → List ℕ) → Contains asks (ask place.id.queue (Read place block)) → AreBothTold asks content
    → TellSoundContents place block content
asked_tells asks place block content c t = at place.id.queue refl
  where
    at : (queue : LogQueue) → place.id.queue ≡ queue → TellSoundContents place block content
    at Append e = read_tells (acts_on Append asks) place block content (acts_have Append asks (ask place.id.queue (Read place block)) (ap (is_same_queue Append) e) c) t.0.1
    at Rewrite e = read_tells (acts_on Rewrite asks) place block content (acts_have Rewrite asks (ask place.id.queue (Read place block)) (ap (is_same_queue Rewrite) e) c) t.1.1

pub read_told : ReadEntryIsTold
read_told asks place block entry_bytes content e told read sound placed fits = asked_tells asks place block content read told entry_bytes sound e placed fits
