-- The entries of all batches end within their blocks, where those of found files do.
use Rattle.raft_engine_prefixes.proofs.Common.{◌≡◌, ℕ, List, [], ◌∷◌, ◌++◌, length, inl, inr, sym, ap, ◌∙◌, subst, arith, length-append, cases_lt, drop_all, length-map, LogQueue, Version, Event, each-append, each_left, each_right, Act, Ask, Begin, Cut, Found, NumberedBytes, Put}
use Rattle.raft_engine_prefixes.proofs.Common.{acts_on, IsLeftOf, begun, FilesHold, numbers, EachEntryIn, EndsWithin, EntriesEndWithin, LeftFilesEndWithin, WrittenEndWithin, FilesHoldTorn}
use Rattle.raft_engine_prefixes.proofs.AnyRestLemmas.{any_stand}
use Rattle.raft_engine_prefixes.proofs.AnyTailLemmas.{begun_read, may_stand}
use Rattle.raft_engine_prefixes.proofs.PrefixLemmas.{all_held}
use Rattle.raft_engine_prefixes.proofs.RestLemmas.{rest_left}
use Rattle.raft_engine_prefixes.proofs.TornLemmas.{one_reading, whole_torn}

abbrev Within : Event → Type 0
Within e = EachEntryIn EndsWithin e.items

module _ (queue : LogQueue) (version : Version) where
  -- ---- each ask

  pub none_within : WrittenEndWithin queue version []
  none_within found h held = subst EntriesEndWithin (sym held) tt

  pub found_within : (acts : List Act) (files : List NumberedBytes) → WrittenEndWithin queue version (Found files ∷ acts)
  found_within acts files found h held = found h held

  pub begin_within : (acts : List Act) (seq : ℕ) → WrittenEndWithin queue version acts → WrittenEndWithin queue version (Begin seq ∷ acts)
  begin_within acts seq within found h held = within found h (begun_read queue version (begun acts) seq h held)

  pub put_within : (acts : List Act) (bytes : List ℕ) (h : List Event) (e : Event) → FilesHold queue version (begun acts) h → FilesHold queue version (begun (Put bytes ∷ acts)) (h ++ e ∷ [])
      → EntriesEndWithin (e ∷ []) → WrittenEndWithin queue version acts → WrittenEndWithin queue version (Put bytes ∷ acts)
  put_within acts bytes h e before after ends within found g held =
      let same : h ++ e ∷ [] ≡ g = one_reading queue version (begun (Put bytes ∷ acts)) (h ++ e ∷ []) g (whole_torn queue version (begun (Put bytes ∷ acts)) (h ++ e ∷ []) after) held in
      subst EntriesEndWithin same (each-append Within h (e ∷ []) (within found h (whole_torn queue version (begun acts) h before)) ends)

  pub cut_within : (acts : List Act) (len : ℕ) (h : List Event) → FilesHoldTorn queue version (begun acts) h → FilesHold queue version (begun (Cut len ∷ acts)) h
      → WrittenEndWithin queue version acts → WrittenEndWithin queue version (Cut len ∷ acts)
  cut_within acts len h before after within found g held =
      let same : h ≡ g = one_reading queue version (begun (Cut len ∷ acts)) h g (whole_torn queue version (begun (Cut len ∷ acts)) h after) held in
      subst EntriesEndWithin same (within found h before)

-- ---- a crash

-- where no file was begun, none is left
none_left : (queue : LogQueue) (asked : List Ask) (files : List NumberedBytes) → length (begun (acts_on queue asked)) ≡ 0 → IsLeftOf queue asked files → files ≡ []
none_left queue asked files none l =
    let acts = acts_on queue asked in
    let f = any_stand acts l.standing (may_stand acts l.standing l.stands) in
    let n = ap length f.1 ∙ length-append (numbers l.standing) f.0 in
    let a = length-map (begun acts) (λ (f : NumberedBytes). f.0) in
    let b = length-map l.standing (λ (f : NumberedBytes). f.0) in
    l.left ∙ drop_all l.gone l.standing (omega (arith, n, a, b, none))

pub left_within : LeftFilesEndWithin
left_within queue version asked synced h files put stays within l g held =
    elim (cases_lt 0 (length (begun (acts_on queue asked)))) [
      | inl some ↦
          let r = rest_left queue version asked synced h files put (omega (arith, stays, some)) l in
          let all : EntriesEndWithin ((r.deleted ++ r.rest) ++ r.is_front.lost) = subst EntriesEndWithin r.is_front.split (within h (all_held queue version (acts_on queue asked) synced h put)) in
          let rest : EntriesEndWithin r.rest = each_right Within r.deleted r.rest (each_left Within (r.deleted ++ r.rest) r.is_front.lost all) in
          subst EntriesEndWithin (one_reading queue version files r.rest g r.held held) rest
      | inr none ↦
          let is : g ≡ [] = subst (λ (fs : List NumberedBytes). FilesHoldTorn queue version fs g) (none_left queue asked files (omega (arith, none)) l) held in
          subst EntriesEndWithin (sym is) tt
    ]
