-- What one reading of a queue gives has its places and files in the queue.
use Rattle.raft_engine_laws.proofs.Common.{◌≡◌, ℕ, true, List, [], ◌∷◌, Option, Some, None, sym, subst, ◌∙◌, ◌<◌, ◌^◌, ◌-◌, AllByRecursion, EntryIndex, LogQueue, Append, Rewrite, Stored, said_of_key, last_pair, Step, Run, Compact, Truncate, Put, Del, AtomicGroup, Clean, table_of}
use Rattle.raft_engine_laws.proofs.Common.{after, Table, IsStepOfQueue, placed_in, is_placed_in, last_pair_stands, same_some, each_placed, Event, BatchSteps, batches, steps_of, FilesFrom, IsSoundIn, RegionStep, steps_of_items, each_step_of, items_in_queue, AreInFiles}
use Rattle.raft_engine_laws.proofs.Common.{each_weaker}
use Rattle.std.specs.FinMap as finite
use Rattle.raft_engine_laws.proofs.KeyLemmas.{pair_such}
use Rattle.raft_engine_laws.proofs.StepEntries.{PutsSuch, steps_are}

abbrev pub IsBounded : EntryIndex → Type 0
IsBounded e = e.index < 2 ^ 64 - 1

abbrev ArePlaced : LogQueue → List EntryIndex → Type 0
ArePlaced q es = AllByRecursion (λ (e : EntryIndex). is_placed_in q e ≡ true) es

puts_placed : (q : LogQueue) (s : Step) → IsStepOfQueue q s → PutsSuch (λ (e : EntryIndex). is_placed_in q e ≡ true) s
puts_placed q (Run run) h = h.placed
puts_placed q (Compact i) h = tt
puts_placed q (Truncate i) h = tt
puts_placed q (Put key value file) h = tt
puts_placed q (Del key) h = tt
puts_placed q (AtomicGroup a b) h = tt
puts_placed q Clean h = tt

pub steps_placed : (q : LogQueue) (id : ℕ) (o v : Option Table) (ss : List Step) → AllByRecursion (IsStepOfQueue q) ss → ArePlaced q (table_of id o).entries → after q id o ss ≡ Some v → ArePlaced q (table_of id v).entries
steps_placed q id o v ss h k is =
    steps_are (λ (e : EntryIndex). is_placed_in q e ≡ true) q id o v ss (each_weaker (IsStepOfQueue q) (PutsSuch (λ (e : EntryIndex). is_placed_in q e ≡ true)) (puts_placed q) ss h) k is

-- the last pair that steps say is in a file of the queue
pub said_of_queue : (q : LogQueue) (key : List ℕ) (ss : List Step) (x : Stored) → AllByRecursion (IsStepOfQueue q) ss → last_pair key ss ≡ Some x → x.file.queue ≡ q
said_of_queue q = pair_such (IsStepOfQueue q) (λ x. x.file.queue ≡ q) says
  where
    says : (s : Step) (x : Stored) → IsStepOfQueue q s → said_of_key s ≡ Some x → x.file.queue ≡ q
    says (Put k value file) x h e = subst (λ (y : Stored). y.file.queue ≡ q) (same_some _ x e) h
    says (Run run) x h e = absurd cc
    says (Compact i) x h e = absurd cc
    says (Truncate i) x h e = absurd cc
    says (Del k) x h e = absurd cc
    says (AtomicGroup a b) x h e = absurd cc
    says Clean x h e = absurd cc

history_of_queue : (q : LogQueue) (n r : ℕ) (h : List Event) → FilesFrom q n h → AreInFiles h → AllByRecursion (λ (b : BatchSteps). AllByRecursion (λ (s : RegionStep). s.region ≡ r → IsStepOfQueue q s.step) b.steps) (batches h)
history_of_queue q n r [] f a = tt
history_of_queue q n r (e ∷ h) f a = (weaker (steps_of_items e.items) (items_in_queue q e.file e.items f.0 a.0), history_of_queue q e.file.seq r h f.2 a.1)
  where
    weaker : (is : List RegionStep) → AllByRecursion (λ (i : RegionStep). IsStepOfQueue q i.step) is → AllByRecursion (λ (s : RegionStep). s.region ≡ r → IsStepOfQueue q s.step) is
    weaker [] h = tt
    weaker (i ∷ is) h = (λ e. h.0, weaker is h.1)

pub steps_of_queue : (q : LogQueue) (r : ℕ) (h : List Event) → FilesFrom q 0 h → AreInFiles h → AllByRecursion (IsStepOfQueue q) (steps_of r (batches h))
steps_of_queue q r h f a = each_step_of (IsStepOfQueue q) (λ a b. tt) r (batches h) (history_of_queue q 0 r h f a)

-- ---- one reading of a queue

module _ (q : LogQueue) (r : ℕ) (h : List Event) (o : Option Table) (sound : IsSoundIn q h) (read : after q r None (steps_of r (batches h)) ≡ Some o) where
  steps : AllByRecursion (IsStepOfQueue q) (steps_of r (batches h))
  steps = steps_of_queue q r h sound.files sound.items

  -- its entries have their places in the queue
  pub read_places : placed_in q (table_of r o).entries ≡ (table_of r o).entries
  read_places = each_placed q (table_of r o).entries (steps_placed q r None o (steps_of r (batches h)) steps tt read)

  -- and the last pairs their files
  pub read_files : (key : List ℕ) (s : Stored) → last_pair key (steps_of r (batches h)) ≡ Some s → s.file.queue ≡ q
  read_files key s e = said_of_queue q key (steps_of r (batches h)) s steps e

  pub read_pairs : (key : List ℕ) (s : Stored) → finite.get (table_of r o).keys key ≡ Some s → s.file.queue ≡ q
  read_pairs key s e = read_files key s (sym (last_pair_stands q key r o (steps_of r (batches h)) read) ∙ e)

  -- and their indexes are bounded
  pub read_bounded : AllByRecursion IsBounded (table_of r o).entries
  read_bounded = steps_are IsBounded q r None o (steps_of r (batches h)) (each_weaker (IsStepOfQueue q) (PutsSuch IsBounded) puts (steps_of r (batches h)) steps) tt read
    where
      puts : (s : Step) → IsStepOfQueue q s → PutsSuch IsBounded s
      puts (Run run) h = h.consecutive.bounded
      puts (Compact i) h = tt
      puts (Truncate i) h = tt
      puts (Put key value file) h = tt
      puts (Del key) h = tt
      puts (AtomicGroup a b) h = tt
      puts Clean h = tt
