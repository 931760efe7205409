-- What holds of two histories, one behind the other, holds of each.
use Rattle.raft_history.proofs.Common.{Append, Rewrite, option_and_then_some, AreInFile, HaveStatus, ◌≡◌, ℕ, ◌+◌, List, [], ◌∷◌, ◌++◌, Option, Some, None, sym, ap, subst, ◌∙◌, arith, append-nil, flat_map, flat_map-append, LogQueue, Step}
use Rattle.raft_history.proofs.Common.{after, Table, accepted_alone, steps_rewritten, after-append, Event, BatchSteps, batches, effects, effects_behind, steps_of, EachApart, numbered_from, IsSmall, FilesFrom, last_from, IsSoundIn, Sound}
use Rattle.raft_history.proofs.Common.{Apart, AreOfQueue, IsOfQueue, records_in, steps_on, steps_of_items}
use Rattle.std.specs.Prelude.{length}
use Rattle.raft_history.proofs.Words.{AreInFiles, records_in_history, all_steps}
use Rattle.raft_history.proofs.EffectLemmas.{all_steps-append, each_left, each_right}
use Rattle.raft_history.proofs.JoinedLemmas.{effects-append}
use Rattle.raft_history.proofs.SoundLemmas.{batches-append, files-back, steps_good, without_marker}
use Rattle.raft_history.proofs.WithoutMarkers.{plain_steps}
use Rattle.raft_history.proofs.WaitingLemmas.{records-append}
use Rattle.raft_history.proofs.JoinedLemmas as joined

-- ---- sizes

pub size-append : (h k : List Event) → records_in_history (h ++ k) ≡ records_in_history h + records_in_history k
size-append h k = ap records_in (flat_map-append (λ (e : Event). steps_of_items e.items) h k) ∙ records-append (flat_map (λ (e : Event). steps_of_items e.items) h) (flat_map (λ (e : Event). steps_of_items e.items) k)

pub size-one : (e : Event) → records_in_history (e ∷ []) ≡ records_in (steps_of_items e.items)
size-one e = ap records_in (append-nil (steps_of_items e.items))

pub small_front : (h k : List Event) → IsSmall (h ++ k) → IsSmall h
small_front h k s = record { few = omega (arith, s.few, size-append h k) }

pub small_back : (h k : List Event) → IsSmall (h ++ k) → IsSmall k
small_back h k s = record { few = omega (arith, s.few, size-append h k) }

-- ---- queues

front_of_queue : (q : LogQueue) (h k : List Event) → AreOfQueue q (h ++ k) → AreOfQueue q h
front_of_queue q [] k a = tt
front_of_queue q (e ∷ h) k a = (a.0, front_of_queue q h k a.1)

back_of_queue : (q : LogQueue) (h k : List Event) → AreOfQueue q (h ++ k) → AreOfQueue q k
back_of_queue q [] k a = a
back_of_queue q (e ∷ h) k a = back_of_queue q h k a.1

both_of_queue : (q : LogQueue) (h k : List Event) → AreOfQueue q h → AreOfQueue q k → AreOfQueue q (h ++ k)
both_of_queue q [] k a b = b
both_of_queue q (e ∷ h) k a b = (a.0, both_of_queue q h k a.1 b)

pub of_front : (q : LogQueue) (h k : List Event) → IsOfQueue q (h ++ k) → IsOfQueue q h
of_front q h k a = record { each = front_of_queue q h k a.each }

pub of_back : (q : LogQueue) (h k : List Event) → IsOfQueue q (h ++ k) → IsOfQueue q k
of_back q h k a = record { each = back_of_queue q h k a.each }

pub of_both : (q : LogQueue) (h k : List Event) → IsOfQueue q h → IsOfQueue q k → IsOfQueue q (h ++ k)
of_both q h k a b = record { each = both_of_queue q h k a.each b.each }

-- ---- apart effects

pub apart_front : (h k : List Event) → Apart (h ++ k) → Apart h
apart_front h k a = record { each = joined.apart_front (batches h) (batches k) (subst (λ l. EachApart (effects l)) (batches-append h k) a.each) }

pub apart_back : (h k : List Event) → Apart (h ++ k) → Apart k
apart_back h k a = record { each = joined.apart_back (batches h) (batches k) (subst (λ l. EachApart (effects l)) (batches-append h k) a.each) }

-- ---- soundness

files_front : (q : LogQueue) (n : ℕ) (h k : List Event) → FilesFrom q n (h ++ k) → FilesFrom q n h
files_front q n [] k f = tt
files_front q n (e ∷ h) k f = (f.0, f.1, files_front q e.file.seq h k f.2)

files_lower : (q : LogQueue) (n : ℕ) (h : List Event) → FilesFrom q n h → FilesFrom q 0 h
files_lower q n [] f = tt
files_lower q n (e ∷ h) f = (f.0, omega arith, f.2)

-- the first of two lists of steps, and what it leaves
parted : (q : LogQueue) (r : ℕ) (ss rs : List Step) (t : Option Table) → after q r None (ss ++ rs) ≡ Some t → (u : Option Table) × (after q r None ss ≡ Some u) × (after q r u rs ≡ Some t)
parted q r ss rs t is = option_and_then_some (λ (u : Option Table). after q r u rs) (after q r None ss) t (sym (after-append q r None ss rs) ∙ is) (λ u e k. (u, e, k))

steps_parted : (r : ℕ) (h k : List BatchSteps) → (rs : List Step) × (steps_of r (h ++ k) ≡ steps_of r h ++ rs)
steps_parted r h k = (all_steps r (effects_behind (numbered_from 0 h) (numbered_from (length h) k)), ap (all_steps r) (effects-append h k) ∙ all_steps-append r (effects h) _)

accepted_front : (q : LogQueue) (r : ℕ) (h k : List Event) (t : Option Table) → after q r None (steps_of r (batches (h ++ k))) ≡ Some t → (u : Option Table) × (after q r None (steps_of r (batches h)) ≡ Some u)
accepted_front q r h k t is =
    let s = steps_parted r (batches h) (batches k) in
    let p = parted q r (steps_of r (batches h)) s.0 t (ap (after q r None) (sym (ap (steps_of r) (batches-append h k) ∙ s.1)) ∙ is) in
    (p.0, p.1)

-- in the append queue each batch's steps stand alone
pub plain-append : (r : ℕ) (h k : List Event) → FilesFrom Append 0 h → FilesFrom Append 0 k → FilesFrom Append 0 (h ++ k) → steps_of r (batches (h ++ k)) ≡ steps_of r (batches h) ++ steps_of r (batches k)
plain-append r h k a b c =
    plain_steps r (batches (h ++ k)) (without_marker 0 (h ++ k) c) ∙ ap (flat_map (λ (b : BatchSteps). steps_on r b.steps)) (batches-append h k) ∙ flat_map-append (λ (b : BatchSteps). steps_on r b.steps) (batches h) (batches k)
    ∙ ap (λ l. l ++ flat_map (λ (b : BatchSteps). steps_on r b.steps) (batches k)) (sym (plain_steps r (batches h) (without_marker 0 h a))) ∙ ap (λ l. steps_of r (batches h) ++ l) (sym (plain_steps r (batches k) (without_marker 0 k b)))

accepted_back : (q : LogQueue) (r : ℕ) (h k : List Event) (t : Option Table) → FilesFrom q 0 h → FilesFrom q 0 k → FilesFrom q 0 (h ++ k) → AreInFiles k → after q r None (steps_of r (batches (h ++ k))) ≡ Some t
    → (u : Option Table) × (after q r None (steps_of r (batches k)) ≡ Some u)
accepted_back Append r h k t a b c i is =
    let p = parted Append r (steps_of r (batches h)) (steps_of r (batches k)) t (ap (after Append r None) (sym (plain-append r h k a b c)) ∙ is) in
    accepted_alone Append r p.0 t (steps_of r (batches k)) (steps_good r k i) p.2
accepted_back Rewrite r h k t a b c i is = steps_rewritten r None (steps_of r (batches k))

pub sound_in_front : (q : LogQueue) (h k : List Event) → IsSoundIn q (h ++ k) → IsSoundIn q h
sound_in_front q h k s = record {
  files = files_front q 0 h k s.files;
  items = each_left (λ (e : Event). AreInFile e.file e.items) h k s.items;
  markers = each_left (λ (e : Event). HaveStatus e.file.queue e.items) h k s.markers;
  accepted = λ r. accepted_front q r h k (s.accepted r).0 (s.accepted r).1;
}

pub sound_in_back : (q : LogQueue) (h k : List Event) → IsSoundIn q (h ++ k) → IsSoundIn q k
sound_in_back q h k s =
    let back = files_lower q (last_from 0 h) k (files-back q 0 h k s.files) in
    record {
      files = back;
      items = each_right (λ (e : Event). AreInFile e.file e.items) h k s.items;
      markers = each_right (λ (e : Event). HaveStatus e.file.queue e.items) h k s.markers;
      accepted = λ r. accepted_back q r h k (s.accepted r).0 (files_front q 0 h k s.files) back s.files (each_right (λ (e : Event). AreInFile e.file e.items) h k s.items) (s.accepted r).1;
    }

pub sound_front : (h k : List Event) → Sound (h ++ k) → Sound h
sound_front h k s = record { queue = s.queue; sound = sound_in_front s.queue h k s.sound }

pub sound_back : (h k : List Event) → Sound (h ++ k) → Sound k
sound_back h k s = record { queue = s.queue; sound = sound_in_back s.queue h k s.sound }
