-- The steps of a history whose items may stand in their files are steps; histories that are joined.
use Rattle.raft_history.proofs.Common.{Append, le-leb, leb-true, HaveStatus, flat_map-append, map-append, ◌≡◌, ℕ, true, List, [], ◌∷◌, ◌++◌, Some, None, refl, ap, AllByRecursion, LogQueue, Step, IsStep, AreSteps, Event, BatchSteps}
use Rattle.raft_history.proofs.Common.{marker_in, batch_of, batches, files_of, joined_files, follows, steps_of, EachApart, effects, AreInFile, FilesFrom, last_from, cleaned_in, RegionStep, steps_on, steps_of_items, cleaned_by_steps}
use Rattle.raft_history.proofs.Words.{AreInFiles, AllHaveStatus}
use Rattle.raft_history.proofs.EachStepLemmas.{each_step_of, own_steps}
use Rattle.raft_history.proofs.EffectLemmas.{each-append, each_weaker}
use Rattle.raft_history.proofs.ReadItemLemmas.{IsStepInFile, is_step, steps_in_file}
use Rattle.raft_history.proofs.WithoutMarkers.{plain_apart}

-- ---- good steps

are_steps : (ss : List Step) → AllByRecursion IsStep ss → AreSteps ss
are_steps [] h = tt
are_steps (s ∷ ss) h = (h.0, are_steps ss h.1)

pub own_good : (r : ℕ) (is : List RegionStep) → AllByRecursion (λ (i : RegionStep). IsStep i.step) is → AreSteps (steps_on r is)
own_good r is h = are_steps (steps_on r is) (own_steps IsStep (λ a b. tt) r is (each_weaker (λ i. IsStep i.step) (λ i. i.region ≡ r → IsStep i.step) (λ i k e. k) is h))

batches_good : (r : ℕ) (h : List Event) → AreInFiles h → AllByRecursion (λ (b : BatchSteps). AllByRecursion (λ (i : RegionStep). i.region ≡ r → IsStep i.step) b.steps) (batches h)
batches_good r [] k = tt
batches_good r (e ∷ h) k = (
  each_weaker (λ i. IsStepInFile e.file i.step) (λ i. i.region ≡ r → IsStep i.step) (λ i s own. is_step e.file i.step s) (steps_of_items e.items) (steps_in_file e.file e.items k.0),
  batches_good r h k.1,
)

pub steps_good : (r : ℕ) (h : List Event) → AreInFiles h → AreSteps (steps_of r (batches h))
steps_good r h k = are_steps (steps_of r (batches h)) (each_step_of IsStep (λ a b. tt) r (batches h) (batches_good r h k))

-- ---- joined histories

pub batches-append : (h k : List Event) → batches (h ++ k) ≡ batches h ++ batches k
batches-append h k = map-append batch_of h k

pub in_files-append : (h k : List Event) → AreInFiles h → AreInFiles k → AreInFiles (h ++ k)
in_files-append h k a b = each-append (λ (e : Event). AreInFile e.file e.items) h k a b

pub status-append : (h k : List Event) → AllHaveStatus h → AllHaveStatus k → AllHaveStatus (h ++ k)
status-append h k a b = each-append (λ (e : Event). HaveStatus e.file.queue e.items) h k a b

pub files-append : (q : LogQueue) (n : ℕ) (h k : List Event) → FilesFrom q n h → FilesFrom q (last_from n h) k → FilesFrom q n (h ++ k)
files-append q n [] k a b = b
files-append q n (e ∷ h) k a b = (a.0, a.1, files-append q e.file.seq h k a.2 b)

pub files-back : (q : LogQueue) (n : ℕ) (h k : List Event) → FilesFrom q n (h ++ k) → FilesFrom q (last_from n h) k
files-back q n [] k a = a
files-back q n (e ∷ h) k a = files-back q e.file.seq h k a.2

last-append : (n : ℕ) (h k : List Event) → last_from n (h ++ k) ≡ last_from (last_from n h) k
last-append n [] k = refl
last-append n (e ∷ h) k = last-append e.file.seq h k

pub files_of-append : (h k : List Event) → files_of (h ++ k) ≡ joined_files (files_of h) (files_of k)
files_of-append [] k = refl
files_of-append (e ∷ h) [] = ap (λ l. Some record { queue = e.file.queue; first_seq = e.file.seq; last_seq = l }) (last-append e.file.seq h [])
files_of-append (e ∷ h) (f ∷ k) = ap (λ l. Some record { queue = e.file.queue; first_seq = e.file.seq; last_seq = l }) (last-append e.file.seq h (f ∷ k))

pub files_follow : (q : LogQueue) (h k : List Event) → FilesFrom q 0 h → FilesFrom q 0 k → follows (files_of h) (files_of k) ≡ true → FilesFrom q 0 (h ++ k)
files_follow q [] k a b f = b
files_follow q (e ∷ h) [] a b f = files-append q 0 (e ∷ h) [] a tt
files_follow q (e ∷ h) (d ∷ k) a b f = files-append q 0 (e ∷ h) (d ∷ k) a (b.0, leb-true _ _ f, b.2)

pub follow_files : (q : LogQueue) (h k : List Event) → FilesFrom q 0 (h ++ k) → follows (files_of h) (files_of k) ≡ true
follow_files q [] k a = refl
follow_files q (e ∷ h) [] a = refl
follow_files q (e ∷ h) (d ∷ k) a = le-leb _ _ (files-back q 0 (e ∷ h) (d ∷ k) a).1

pub cleaned-append : (q : LogQueue) (h k : List Event) → cleaned_in q (h ++ k) ≡ cleaned_in q h ++ cleaned_in q k
cleaned-append q h k = flat_map-append (λ (e : Event). cleaned_by_steps q (steps_of_items e.items)) h k

pub without_marker : (n : ℕ) (h : List Event) → FilesFrom Append n h → AllByRecursion (λ (b : BatchSteps). b.marker ≡ None) (batches h)
without_marker n [] f = tt
without_marker n (e ∷ h) f = (ap (λ q. marker_in q e.items) f.0, without_marker e.file.seq h f.2)

-- in the append queue effects are always apart
pub append_apart : (n : ℕ) (h : List Event) → FilesFrom Append n h → EachApart (effects (batches h))
append_apart n h f = plain_apart (batches h) (without_marker n h f)
