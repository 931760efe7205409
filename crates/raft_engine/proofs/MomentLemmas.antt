-- What was put and synced goes on.
use Rattle.raft_engine.proofs.Common.{◌≡◌, ◌≢◌, ℕ, Bool, true, false, cond, List, [], ◌∷◌, ◌++◌, filter, map, inl, inr, refl, sym, ap, ◌∙◌, subst, append_assoc, append-nil, EntryIndex, LogQueue, Append, Rewrite, Version, Event, Act, Ask, Begin, Found, NumberedBytes, acts_on, ask}
use Rattle.raft_engine.proofs.Common.{is_same_queue, begun, Records, AreFirstOf, GoesOn, FilesHoldTorn, puts_go_on, one_reading, KeptEngine, HaveBothBegun, IsBegunOrFound, IsLasting, IsLastingAfter, before_sync, CallsGoOn, FindNoFiles, MomentsGoOn}

-- ---- first batches

same_first : (a b : List Event) → a ≡ b → AreFirstOf a b
same_first a b e = ([], sym e ∙ sym (append-nil a))

pub first_first : (a b c : List Event) → AreFirstOf a b → AreFirstOf b c → AreFirstOf a c
first_first a b c p q = (p.0 ++ q.0, q.1 ∙ ap (λ (l : List Event). l ++ q.0) p.1 ∙ append_assoc a p.0 q.0)

-- ---- asks of both queues

abbrev pub GoOn : (content : EntryIndex → List ℕ) (version : Version) (base base' : ℕ → Records) (earlier asks : List Ask) → IsLastingAfter content version base earlier → IsLastingAfter content version base' asks → Type 0
GoOn content version base base' earlier asks a b = AreFirstOf a.synced b.synced × AreFirstOf a.batches b.batches

module _ (content : EntryIndex → List ℕ) (version : Version) (base base' : ℕ → Records) where
  one : (files : List NumberedBytes) (g h : List Event) → FilesHoldTorn Append version files g → FilesHoldTorn Append version files h → AreFirstOf g h
  one files g h p q = same_first g h (one_reading Append version files g h p q)

  -- the same moment
  stay : (asks : List Ask) (a : IsLastingAfter content version base asks) (b : IsLastingAfter content version base' asks) → GoOn content version base base' asks asks a b
  stay asks a b = (
    one (begun (before_sync (acts_on Append asks))) a.synced b.synced a.synced_held b.synced_held,
    one (begun (acts_on Append asks)) a.batches b.batches a.batches_held b.batches_held,
  )

  -- one ask more
  step : (queue : LogQueue) (act : Act) (asks : List Ask) → GoesOn act → (a : IsLastingAfter content version base asks)
      (b : IsLastingAfter content version base' (record { queue = queue; act = act } ∷ asks)) → GoOn content version base base' asks (record { queue = queue; act = act } ∷ asks) a b
  step Append act asks goes a b = let p = puts_go_on Append version act (acts_on Append asks) b.synced b.batches goes b.put a.synced a.batches a.put in (p.1, p.0)
  step Rewrite act asks goes a b = (
    one (begun (before_sync (acts_on Append asks))) a.synced b.synced a.synced_held b.synced_held,
    one (begun (acts_on Append asks)) a.batches b.batches a.batches_held b.batches_held,
  )

-- in both queues files were begun
more_some : (t : Bool) (a : Ask) (others : List Ask) → map (λ (x : Ask). x.act) others ≢ [] → map (λ (x : Ask). x.act) (cond t (a ∷ others) others) ≢ []
more_some true a others some e = absurd cc
more_some false a others some e = some e

begun_more : (queue : LogQueue) (a : Ask) (asks : List Ask) → acts_on queue asks ≢ [] → acts_on queue (a ∷ asks) ≢ []
begun_more queue a asks some = more_some (is_same_queue queue a.queue) a (filter (λ (x : Ask). is_same_queue queue x.queue) asks) some

pub both_more : (mid earlier : List Ask) → HaveBothBegun earlier → HaveBothBegun (mid ++ earlier)
both_more [] earlier b = b
both_more (a ∷ mid) earlier b = let r = both_more mid earlier b in (begun_more Append a (mid ++ earlier) r.0, begun_more Rewrite a (mid ++ earlier) r.1)

-- what lasts, after these asks and at each moment before
abbrev pub Ever : (EntryIndex → List ℕ) → Version → (ℕ → Records) → List Ask → Type 0
Ever content version base asks = (later earlier : List Ask) → asks ≡ later ++ earlier → HaveBothBegun earlier → IsLastingAfter content version base earlier

module _ (content : EntryIndex → List ℕ) (version : Version) (base : ℕ → Records) where
  -- through all moments in between
  moments : (mid earlier : List Ask) → Ever content version base (mid ++ earlier)
      → HaveBothBegun earlier → FindNoFiles mid → (a : IsLastingAfter content version base earlier) (b : IsLastingAfter content version base (mid ++ earlier))
      → GoOn content version base base earlier (mid ++ earlier) a b
  moments [] earlier ever both none a b = stay content version base base earlier a b
  moments (x ∷ mid) earlier ever both none a b =
      let m = ever (x ∷ []) (mid ++ earlier) refl (both_more mid earlier both) in
      let r = moments mid earlier (λ y later e. ever (x ∷ y) later (ap (λ (l : List Ask). x ∷ l) e)) both none.1 a m in
      let s = step content version base base x.queue x.act (mid ++ earlier) none.0 m b in
      (first_first a.synced m.synced b.synced r.0 s.0, first_first a.batches m.batches b.batches r.1 s.1)

  pub moments_of : (asks mid earlier : List Ask) → asks ≡ mid ++ earlier → Ever content version base asks → HaveBothBegun earlier → FindNoFiles mid
      → (a : IsLastingAfter content version base earlier) (b : IsLastingAfter content version base asks) → GoOn content version base base earlier asks a b
  moments_of asks mid earlier e ever both none a =
      subst (λ (l : List Ask). Ever content version base l → (b : IsLastingAfter content version base l) → GoOn content version base base earlier l a b) (sym e)
      (λ ever b. moments mid earlier ever both none a b) ever

pub moments_go_on : MomentsGoOn
moments_go_on content engine lasting later mid earlier split both none a b =
    moments content engine.version lasting.base mid earlier
    (λ x rest e is. lasting.ever (later ++ x) rest (split ∙ ap (λ (l : List Ask). later ++ l) e ∙ sym (append_assoc later x rest)) is) both none a b

-- ---- calls

pub first_begun : (asks : List Ask) → IsBegunOrFound asks → HaveBothBegun asks
first_begun asks (inl f) = subst HaveBothBegun (sym f.1) (both_more f.0 (ask Rewrite (Begin 1) ∷ ask Append (Begin 1) ∷ []) ((λ e. absurd cc), (λ e. absurd cc)))
first_begun asks (inr f) = subst HaveBothBegun (sym f.3) (both_more f.0 (ask Rewrite (Found f.2) ∷ ask Append (Found f.1) ∷ []) ((λ e. absurd cc), (λ e. absurd cc)))

-- in one version
calls : (content : EntryIndex → List ℕ) (base : ℕ → Records) (old : List Ask) (new : KeptEngine) (after : IsLasting content new) (mid : List Ask) → new.asks ≡ mid ++ old → HaveBothBegun old → FindNoFiles mid
    → (a : IsLastingAfter content new.version base old) → AreFirstOf a.synced after.now.synced × AreFirstOf a.batches after.now.batches
calls content base old new after mid split both none a =
    let m = after.ever mid old split both in
    let r = moments_of content new.version after.base new.asks mid old split after.ever both none m after.now in
    let s = stay content new.version base after.base old a m in
    (first_first a.synced m.synced after.now.synced s.0 r.0, first_first a.batches m.batches after.now.batches s.1 r.1)

pub calls_go_on : CallsGoOn
calls_go_on content old new before after mid split version none =
    subst (λ (v : Version). (a : IsLastingAfter content v before.base old.asks) → AreFirstOf a.synced after.now.synced × AreFirstOf a.batches after.now.batches) version
    (λ a. calls content before.base old.asks new after mid split (first_begun old.asks before.first) none a) before.now
