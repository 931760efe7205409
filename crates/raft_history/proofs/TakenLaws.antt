-- A context with one more batch.
use Rattle.raft_history.proofs.Common.{Append, Rewrite, map_none, map_some, no_both, ◌≡◌, ℕ, true, List, [], ◌∷◌, ◌++◌, Option, Some, None, refl, sym, ap, subst, ◌∙◌, append-nil, arith, LogQueue, after, Table, Event, batch_of, batches}
use Rattle.raft_history.proofs.Common.{IsBounded, FileRange, files_of, Suits, joined_files, follows, Context, AreExact, StandsIn, StandsFor, IsExactFor, completed_steps, taken_with, taken_in, steps_of, HaveStatus, AreInFile, FilesFrom}
use Rattle.raft_history.proofs.Common.{Sound, cleaned_in, MarkedRegions, regions_after, WaitingGroups, groups_in, groups_after, cleaned_by_steps, steps_of_items}
use Rattle.raft_history.proofs.Words.{AllHaveStatus, AreInFiles, records_in_history}
use Rattle.raft_history.proofs.EffectLemmas.{each_right}
use Rattle.raft_history.proofs.ContextLaws.{exact_accepted}
use Rattle.raft_history.proofs.MergeLaws.{regions_taken, taken_refused, rewrite_after, rewrite_read}
use Rattle.raft_history.proofs.MoreLemmas.{groups_in-one}
use Rattle.raft_history.proofs.RecordLemmas.{taken_bounded}
use Rattle.raft_history.proofs.SoundLemmas.{batches-append, in_files-append, status-append, files_follow, follow_files, files_of-append, cleaned-append}
use Rattle.raft_history.proofs.StretchOfHistory.{size-append, size-one}

-- the batch may come next: its queue, its file, its items
pub record IsNextEvent (c : Context) (e : Event) : Type 0 where
  pub suits : Suits e.file.queue c.files
  pub follows : follows c.files (files_of (e ∷ [])) ≡ true
  pub in_file : AreInFile e.file e.items
  pub status : HaveStatus e.file.queue e.items

have_status : (c : Context) (h : List Event) (e : Event) → StandsFor c h → IsNextEvent c e → AllHaveStatus (h ++ e ∷ [])
have_status c h e st n = status-append h (e ∷ []) (st.stands e.file.queue n.suits).sound.markers (n.status, tt)

in_files : (c : Context) (h : List Event) (e : Event) → StandsFor c h → IsNextEvent c e → AreInFiles (h ++ e ∷ [])
in_files c h e st n = in_files-append h (e ∷ []) (st.stands e.file.queue n.suits).sound.items (n.in_file, tt)

files : (c : Context) (h : List Event) (e : Event) → StandsFor c h → IsNextEvent c e → FilesFrom e.file.queue 0 (h ++ e ∷ [])
files c h e st n = files_follow e.file.queue h (e ∷ []) (st.stands e.file.queue n.suits).sound.files (refl, omega arith, tt) (ap (λ p. follows p (files_of (e ∷ []))) (sym st.files) ∙ n.follows)

pub taken_some : (c d : Context) (e : Event) → taken_in c e ≡ Some d → (rs : MarkedRegions) × (regions_after e.file.queue c.regions (completed_steps c.groups (batch_of e) (batch_of e).marker) ≡ Some rs) × (taken_with c e rs ≡ d)
taken_some c d e is = map_some (taken_with c e) (regions_after e.file.queue c.regions (completed_steps c.groups (batch_of e) (batch_of e).marker)) d is (λ rs r p. (rs, r, p))

-- no other queue suits afterwards
one_queue : (q p : LogQueue) (a : Option FileRange) (b : FileRange) → Suits q a → b.queue ≡ q → Suits p (joined_files a (Some b)) → q ≡ p
one_queue q p None b s t u = sym t ∙ u
one_queue q p (Some x) b s t u = sym s ∙ u

groups_more : (h : List Event) (e : Event) (g : WaitingGroups) → g ≡ groups_in (batches h) → groups_after g (batch_of e) (batch_of e).marker ≡ groups_in (batches (h ++ e ∷ []))
groups_more h e g is = ap (λ g. groups_after g (batch_of e) (batch_of e).marker) is ∙ sym (groups_in-one (batches h) (batch_of e)) ∙ ap groups_in (sym (batches-append h (e ∷ [])))

pub taken_stands : (c d : Context) (h : List Event) (e : Event) → IsNextEvent c e → StandsFor c h → taken_in c e ≡ Some d → StandsFor d (h ++ e ∷ [])
taken_stands c d h e n st is = subst (λ d. StandsFor d (h ++ e ∷ [])) s.2 record {
  files = ap (λ p. joined_files p (files_of (e ∷ []))) st.files ∙ sym (files_of-append h (e ∷ []));
  groups = groups_more h e c.groups st.groups;
  few = subst (IsBounded (taken_with c e s.0)) (omega (arith, size-append h (e ∷ []), size-one e)) (taken_bounded e.file.queue c e s.0 (records_in_history h) st.few s.1);
  stands = λ p u. subst (λ p. StandsIn p (taken_with c e s.0) (h ++ e ∷ [])) (one_queue e.file.queue p c.files record { queue = e.file.queue; first_seq = e.file.seq; last_seq = e.file.seq } n.suits refl u) own;
}
  where
    s : (rs : MarkedRegions) × (regions_after e.file.queue c.regions (completed_steps c.groups (batch_of e) (batch_of e).marker) ≡ Some rs) × (taken_with c e rs ≡ d)
    s = taken_some c d e is

    a : StandsIn e.file.queue c h
    a = st.stands e.file.queue n.suits

    exact : (q : LogQueue) → AreExact q c.regions (batches h) → regions_after q c.regions (completed_steps c.groups (batch_of e) (batch_of e).marker) ≡ Some s.0 → AreExact q s.0 (batches (h ++ e ∷ []))
    exact q ex r = regions_taken q c h e s.0 st.groups a.sound.items (in_files c h e st n) ex r

    accepted : (q : LogQueue) → StandsIn q c h → regions_after q c.regions (completed_steps c.groups (batch_of e) (batch_of e).marker) ≡ Some s.0 →
        (r : ℕ) → (t : Option Table) × (after q r None (steps_of r (batches (h ++ e ∷ []))) ≡ Some t)
    accepted Append a r = exact_accepted Append s.0 (batches (h ++ e ∷ [])) (exact Append (a.append refl) r)
    accepted Rewrite a r = λ i. rewrite_after i None (steps_of i (batches (h ++ e ∷ [])))

    own : StandsIn e.file.queue (taken_with c e s.0) (h ++ e ∷ [])
    own = record {
      sound = record { files = files c h e st n; items = in_files c h e st n; markers = have_status c h e st n; accepted = accepted e.file.queue a s.1 };
      cleaned = ap (λ l. l ++ cleaned_by_steps e.file.queue (steps_of_items e.items)) a.cleaned
          ∙ ap (λ l. cleaned_in e.file.queue h ++ l) (sym (append-nil (cleaned_by_steps e.file.queue (steps_of_items e.items)))) ∙ sym (cleaned-append e.file.queue h (e ∷ []));
      append = λ q. exact Append (a.append q) (subst (λ q. regions_after q c.regions (completed_steps c.groups (batch_of e) (batch_of e).marker) ≡ Some s.0) q s.1);
    }

pub taken_exact : (c d : Context) (h : List Event) (e : Event) → IsNextEvent c e → IsExactFor c h → taken_in c e ≡ Some d → IsExactFor d (h ++ e ∷ [])
taken_exact c d h e n ex is = let s = taken_some c d e is in record {
  stands = taken_stands c d h e n ex.stands is;
  regions = λ p u. subst (λ d. Suits p d.files → AreExact p d.regions (batches (h ++ e ∷ []))) s.2
      (λ u. subst (λ p. AreExact p s.0 (batches (h ++ e ∷ [])))
      (one_queue e.file.queue p c.files record { queue = e.file.queue; first_seq = e.file.seq; last_seq = e.file.seq } n.suits refl u)
      (regions_taken e.file.queue c h e s.0 ex.stands.groups (ex.stands.stands e.file.queue n.suits).sound.items (in_files c h e ex.stands n) (ex.regions e.file.queue n.suits) s.1)) u;
}

sound_is : (s : LogQueue) (h : List Event) (e : Event) (n : ℕ) → FilesFrom s n (h ++ e ∷ []) → e.file.queue ≡ s
sound_is s [] e n f = f.0
sound_is s (x ∷ h) e n f = sound_is s h e x.file.seq f.2

pub taken_none : (c : Context) (h : List Event) (e : Event) → IsNextEvent c e → StandsFor c h → taken_in c e ≡ None → Sound (h ++ e ∷ []) → ⊥
taken_none c h e n st is sound = by e.file.queue (map_none (taken_with c e) (regions_after e.file.queue c.regions (completed_steps c.groups (batch_of e) (batch_of e).marker)) is) n.suits (sound_is sound.queue h e 0 sound.sound.files)
  where
    by : (q : LogQueue) → regions_after q c.regions (completed_steps c.groups (batch_of e) (batch_of e).marker) ≡ None → Suits q c.files → q ≡ sound.queue → ⊥
    by Rewrite r u p = no_both r (rewrite_read c.regions (completed_steps c.groups (batch_of e) (batch_of e).marker)).1
    by Append r u p = let f = taken_refused Append c h e st.groups (st.stands e.file.queue n.suits).sound.items (in_files c h e st n) ((st.stands Append u).append refl) r in
        no_both (ap (λ q. after q f.0 None (steps_of f.0 (batches (h ++ e ∷ [])))) (sym p) ∙ f.1) (sound.sound.accepted f.0).1

-- a batch that may not come next makes no sound history
pub next_sound : (c : Context) (h : List Event) (e : Event) → StandsFor c h → Sound (h ++ e ∷ []) → IsNextEvent c e
next_sound c h e st sound = record {
  suits = subst (Suits e.file.queue) (sym st.files) (first h sound.sound.files);
  follows = ap (λ p. follows p (files_of (e ∷ []))) st.files ∙ follow_files sound.queue h (e ∷ []) sound.sound.files;
  in_file = (each_right (λ (e : Event). AreInFile e.file e.items) h (e ∷ []) sound.sound.items).0;
  status = (each_right (λ (e : Event). HaveStatus e.file.queue e.items) h (e ∷ []) sound.sound.markers).0;
}
  where
    first : (h : List Event) → FilesFrom sound.queue 0 (h ++ e ∷ []) → Suits e.file.queue (files_of h)
    first [] f = tt
    first (x ∷ h) f = f.0 ∙ sym (sound_is sound.queue (x ∷ h) e 0 f)
