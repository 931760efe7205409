-- Where effects are apart, a region's steps stand in files that never go down.
use Rattle.raft_history.proofs.Common.{Append, Rewrite, Begin, cond_both, Effect, completed_by, effects_behind, effects, whole_steps, region_steps_in, steps_by, steps_of, first_in, AreApart, EachApart, has_status, Numbered, numbered_from}
use Rattle.raft_history.proofs.Common.{markers_of, open_stretch, ◌≡◌, ℕ, suc, zero, ◌+◌, ◌<◌, ◌≤◌, Bool, true, false, cond, ◌&&◌, List, [], ◌∷◌, ◌++◌, refl, sym, ap, subst, ◌∙◌, inr, arith, append-nil, slice_index_or, lt_of_not-le}
use Rattle.raft_history.proofs.Common.{flat_map-append, AllByRecursion, FileId, LogQueue, Item, Step, Run, AtomicGroup, Event, BatchSteps, batches, AreInFile, FilesFrom, IsSoundIn, Apart, RegionStep, names, steps_on, steps_of_items}
use Rattle.raft_history.proofs.Common.{RiseFrom, ◌||◌, min, Option, Some, None, option_map_or, filter-append, filter_map, is_some, slice_get, cons_option, FileBlockHandle, EntryIndex, end_of, place_seq, entry_seq, lesser, least, seqs_in}
use Rattle.raft_history.proofs.Common.{entries_within, least_seq, at_most_group_seq, has_clean, greatest_compaction, least_cut, is_unjoined, rewritten_within, overlay, kept_if, overlaid_table, is_same, other, table_of, Table, is_placed_in}
use Rattle.raft_history.proofs.Common.{placed_in, IsReadingOfBoth, is_named, IsOneReading, record_seqs, AreLeastFiles, IsAtOrBelow, HasNoneBelow, Tables}
use Rattle.std.proofs.Common.{filter, map, nat_le}
use Rattle.raft_history.proofs.Words.{AreInFiles, is_on, region_steps_of, all_steps, are_middles}
use Rattle.raft_history.proofs.EffectLemmas.{by_completed, each-append, each_weaker, steps_in-none}
use Rattle.raft_history.proofs.FileOrderLemmas.{StepRises, StepsRise, run_here, steps_lower, rise-append, seq_of, InOrder, lower, some_of, steps_order}
use Rattle.raft_history.proofs.ReadItemLemmas.{IsStepInFile, steps_in_file}
use Rattle.raft_history.proofs.StepListLemmas.{own-append}
use Rattle.raft_history.proofs.StretchLemmas.{effects_are, later_from}
use Rattle.raft_history.proofs.SoundLemmas.{append_apart}
use Rattle.std.specs.FinMap as finite

-- ---- the files of a history, by the numbers of its batches

seq_of_batch : ℕ → List Event → ℕ → ℕ
seq_of_batch seq [] i = seq
seq_of_batch seq (e ∷ h) zero = e.file.seq
seq_of_batch seq (e ∷ h) (suc i) = seq_of_batch e.file.seq h i

-- a number for each batch, which never goes down
abbrev NeverFalls : (ℕ → ℕ) → Type 0
NeverFalls seq_at = (i j : ℕ) → i ≤ j → seq_at i ≤ seq_at j

files_from : (q : LogQueue) (seq : ℕ) (h : List Event) → FilesFrom q seq h → (i : ℕ) → seq ≤ seq_of_batch seq h i
unfolding seq_of_batch
files_from q seq [] f i = omega arith
files_from q seq (e ∷ h) f zero = f.1
files_from q seq (e ∷ h) f (suc i) = omega (arith, f.1, files_from q e.file.seq h f.2 i)

files_never_fall : (q : LogQueue) (seq : ℕ) (h : List Event) → FilesFrom q seq h → NeverFalls (seq_of_batch seq h)
unfolding seq_of_batch
files_never_fall q seq [] f i j l = omega arith
files_never_fall q seq (e ∷ h) f zero zero l = omega arith
files_never_fall q seq (e ∷ h) f zero (suc j) l = files_from q e.file.seq h f.2 j
files_never_fall q seq (e ∷ h) f (suc i) zero l = absurd (omega (arith, l))
files_never_fall q seq (e ∷ h) f (suc i) (suc j) l = files_never_fall q e.file.seq h f.2 i j (omega (arith, l))

-- ---- a batch stands in its file

-- these steps stand in this file
abbrev AreHere : LogQueue → ℕ → List RegionStep → Type 0
AreHere q seq steps = AllByRecursion (λ (s : RegionStep). StepRises q seq seq s.step) steps

-- a batch has the file of its number, and its steps stand there
record IsFiled (q : LogQueue) (seq_at : ℕ → ℕ) (p : Numbered) : Type 0 where
  number : p.batch.seq ≡ seq_at p.number
  here : AreHere q p.batch.seq p.batch.steps

step_here : (file : FileId) (s : Step) → IsStepInFile file s → StepRises file.queue file.seq file.seq s
step_here file (Run es) h = run_here file es h.1
step_here file _ h = omega arith

items_here : (file : FileId) (items : List Item) → AreInFile file items → AreHere file.queue file.seq (steps_of_items items)
items_here file items h = each_weaker (λ s. IsStepInFile file s.step) (λ s. StepRises file.queue file.seq file.seq s.step) (λ s k. step_here file s.step k) (steps_of_items items) (steps_in_file file items h)

all_filed : (q : LogQueue) (seq_at : ℕ → ℕ) (seq n : ℕ) (h : List Event) → ((i : ℕ) → seq_at (n + i) ≡ seq_of_batch seq h i) → FilesFrom q seq h → AreInFiles h → AllByRecursion (IsFiled q seq_at) (numbered_from n (batches h))
unfolding seq_of_batch
all_filed q seq_at seq n [] is f a = tt
all_filed q seq_at seq n (e ∷ h) is f a = (
  record { number = sym (ap seq_at (omega arith) ∙ is 0); here = subst (λ q. AreHere q e.file.seq (steps_of_items e.items)) f.0 (items_here e.file e.items a.0) },
  all_filed q seq_at e.file.seq (suc n) h (λ i. ap seq_at (omega arith) ∙ is (suc i)) f.2 a.1,
)

-- ---- rows of batches

-- batches of a history in order, their numbers from one to another
abbrev IsRow : LogQueue → (ℕ → ℕ) → ℕ → ℕ → List Numbered → Type 0
IsRow q seq_at n m [] = n ≤ m
IsRow q seq_at n m (p ∷ ps) = (n ≤ p.number) × IsFiled q seq_at p × IsRow q seq_at p.number m ps

row_lower : (q : LogQueue) (seq_at : ℕ → ℕ) (k n m : ℕ) (ps : List Numbered) → k ≤ n → IsRow q seq_at n m ps → IsRow q seq_at k m ps
row_lower q seq_at k n m [] l h = omega (arith, l, h)
row_lower q seq_at k n m (p ∷ ps) l h = (omega (arith, l, h.0), h.1, h.2)

row_order : (q : LogQueue) (seq_at : ℕ → ℕ) (n m : ℕ) (ps : List Numbered) → IsRow q seq_at n m ps → n ≤ m
row_order q seq_at n m [] h = h
row_order q seq_at n m (p ∷ ps) h = omega (arith, h.0, row_order q seq_at p.number m ps h.2)

-- with one batch more behind
row_push : (q : LogQueue) (seq_at : ℕ → ℕ) (n m k : ℕ) (ps : List Numbered) (p : Numbered) → IsRow q seq_at n m ps → m ≤ p.number → p.number ≤ k → IsFiled q seq_at p → IsRow q seq_at n k (ps ++ p ∷ [])
row_push q seq_at n m k [] p h l u f = (omega (arith, h, l), f, u)
row_push q seq_at n m k (o ∷ ps) p h l u f = (h.0, h.1, row_push q seq_at o.number m k ps p h.2 l u f)

row_filter : (q : LogQueue) (seq_at : ℕ → ℕ) (t : Numbered → Bool) (n m : ℕ) (ps : List Numbered) → IsRow q seq_at n m ps → IsRow q seq_at n m (filter t ps)
row_filter q seq_at t n m [] h = h
row_filter q seq_at t n m (p ∷ ps) h =
    let rest : IsRow q seq_at p.number m (filter t ps) = row_filter q seq_at t p.number m ps h.2 in
    cond_both (t p) (p ∷ filter t ps) (filter t ps) (IsRow q seq_at n m) (λ e. (h.0, h.1, rest)) (λ e. row_lower q seq_at n p.number m (filter t ps) h.0 rest)

row_open : (q : LogQueue) (seq_at : ℕ → ℕ) (n m : ℕ) (ps : List Numbered) → IsRow q seq_at n m ps → IsRow q seq_at n m (open_stretch ps)
unfolding open_stretch
row_open q seq_at n m [] h = h
row_open q seq_at n m (p ∷ ps) h = cond_both (has_status Begin p.batch.marker && are_middles ps) (p ∷ ps) (open_stretch ps) (IsRow q seq_at n m) (λ e. h)
    (λ e. row_lower q seq_at n p.number m (open_stretch ps) h.0 (row_open q seq_at p.number m ps h.2))

here_rises : (q : LogQueue) (seq r : ℕ) (steps : List RegionStep) → AreHere q seq steps → StepsRise q seq seq (steps_on r steps)
unfolding steps_on
here_rises q seq r [] h = omega arith
here_rises q seq r (s ∷ steps) h =
    let rest : StepsRise q seq seq (map (λ (s : RegionStep). s.step) (filter (is_on r) steps)) = here_rises q seq r steps h.1 in
    cond_both (is_on r s) (s ∷ filter (is_on r) steps) (filter (is_on r) steps) (λ is. StepsRise q seq seq (map (λ (s : RegionStep). s.step) is)) (λ e. (seq, h.0, rest)) (λ e. rest)

row_rises : (q : LogQueue) (seq_at : ℕ → ℕ) (r n m : ℕ) (ps : List Numbered) → NeverFalls seq_at → IsRow q seq_at n m ps → StepsRise q (seq_at n) (seq_at m) (steps_on r (region_steps_of ps))
unfolding steps_on
row_rises q seq_at r n m [] up h = up n m h
row_rises q seq_at r n m (p ∷ ps) up h = subst (StepsRise q (seq_at n) (seq_at m)) (sym (own-append r p.batch.steps (region_steps_of ps)))
    (rise-append q (seq_at n) (seq_at p.number) (seq_at m) (steps_on r p.batch.steps) (steps_on r (region_steps_of ps))
    (steps_lower q (seq_at n) (seq_at p.number) (seq_at p.number) (steps_on r p.batch.steps) (up n p.number h.0) (subst (λ x. StepsRise q x x (steps_on r p.batch.steps)) h.1.number (here_rises q p.batch.seq r p.batch.steps h.1.here)))
    (row_rises q seq_at r p.number m ps up h.2))

-- ---- effects

-- the batches of an effect are a row
abbrev HasRow : LogQueue → (ℕ → ℕ) → Effect → Type 0
HasRow q seq_at e = IsRow q seq_at (first_in e) e.last.number (e.earlier ++ e.last ∷ [])

effect_rises : (q : LogQueue) (seq_at : ℕ → ℕ) (r : ℕ) (e : Effect) → NeverFalls seq_at → HasRow q seq_at e → StepsRise q (seq_at (first_in e)) (seq_at e.last.number) (steps_by r e.earlier e.last)
unfolding whole_steps
effect_rises q seq_at r e up h = go e.earlier h
  where
    go : (l : List Numbered) → IsRow q seq_at (slice_index_or l 0 e.last).number e.last.number (l ++ e.last ∷ []) → StepsRise q (seq_at (slice_index_or l 0 e.last).number) (seq_at e.last.number) (steps_by r l e.last)
    go [] h = subst (λ is. StepsRise q (seq_at e.last.number) (seq_at e.last.number) (steps_on r is)) (append-nil e.last.batch.steps) (row_rises q seq_at r e.last.number e.last.number (e.last ∷ []) up h)
    go (o ∷ os) h = rise-append q (seq_at o.number) (seq_at e.last.number) (seq_at e.last.number) (steps_on r all) (cond (names r all) (AtomicGroup o.batch.seq e.last.batch.seq ∷ []) [])
        (subst (λ is. StepsRise q (seq_at o.number) (seq_at e.last.number) (steps_on r is)) same (row_rises q seq_at r o.number e.last.number ((o ∷ os) ++ e.last ∷ []) up h))
        (ends (names r all))
      where
        all : List RegionStep
        all = region_steps_of (o ∷ os) ++ e.last.batch.steps

        same : region_steps_of ((o ∷ os) ++ e.last ∷ []) ≡ all
        same = flat_map-append (λ (p : Numbered). p.batch.steps) (o ∷ os) (e.last ∷ []) ∙ ap (λ l. region_steps_of (o ∷ os) ++ l) (append-nil e.last.batch.steps)

        ends : (b : Bool) → StepsRise q (seq_at e.last.number) (seq_at e.last.number) (cond b (AtomicGroup o.batch.seq e.last.batch.seq ∷ []) [])
        ends true = (seq_at e.last.number, omega arith, omega arith)
        ends false = omega arith

completed_rows : (q : LogQueue) (seq_at : ℕ → ℕ) (n : ℕ) (olds : List Numbered) (p : Numbered) → IsRow q seq_at 0 n olds → n ≤ p.number → IsFiled q seq_at p → AllByRecursion (HasRow q seq_at) (completed_by p.batch.marker olds p)
unfolding markers_of
completed_rows q seq_at n olds p h l f = by_completed (AllByRecursion (HasRow q seq_at)) olds p tt (λ e. ((omega arith, f, omega arith), tt)) (λ g o os m e.
    let r : IsRow q seq_at 0 n (o ∷ os) = subst (IsRow q seq_at 0 n) e (row_open q seq_at 0 n (markers_of g olds) (row_filter q seq_at _ 0 n olds h)) in
    ((omega arith, r.1, row_push q seq_at o.number n p.number os p r.2 l (omega arith) f), tt))

all_rows : (q : LogQueue) (seq_at : ℕ → ℕ) (n : ℕ) (olds : List Numbered) (bs : List BatchSteps) → IsRow q seq_at 0 n olds →
    AllByRecursion (IsFiled q seq_at) (numbered_from n bs) → AllByRecursion (HasRow q seq_at) (effects_behind olds (numbered_from n bs))
unfolding effects_behind
all_rows q seq_at n olds [] h k = tt
all_rows q seq_at n olds (b ∷ bs) h k = each-append (HasRow q seq_at) (completed_by b.marker olds (record { number = n; batch = b })) (effects_behind (olds ++ record { number = n; batch = b } ∷ []) (numbered_from (suc n) bs))
    (completed_rows q seq_at n olds (record { number = n; batch = b }) h (omega arith) k.0)
    (all_rows q seq_at (suc n) (olds ++ record { number = n; batch = b } ∷ []) bs (row_push q seq_at 0 n (suc n) olds (record { number = n; batch = b }) h (omega arith) (omega arith) k.0) k.1)

-- ---- effects that are apart

-- where both name the region, the later effect begins in no file below the last of the earlier one
abbrev Follows : (ℕ → ℕ) → ℕ → Effect → Effect → Type 0
Follows seq_at r e f = names r (region_steps_in e) ≡ true → names r (region_steps_in f) ≡ true → seq_at e.last.number ≤ seq_at (first_in f)

abbrev EachFollows : (ℕ → ℕ) → ℕ → List Effect → Type 0
EachFollows seq_at r [] = Unit {0}
EachFollows seq_at r (e ∷ es) = AllByRecursion (Follows seq_at r e) es × EachFollows seq_at r es

begins_behind : (r : ℕ) (e f : Effect) → AreApart e f → first_in e ≤ e.last.number → e.last.number < f.last.number → names r (region_steps_in e) ≡ true → names r (region_steps_in f) ≡ true → e.last.number < first_in f
begins_behind r e f apart low l a b = go f.earlier refl
  where
    go : (l : List Numbered) → f.earlier ≡ l → e.last.number < (slice_index_or l 0 f.last).number
    go [] is = l
    go (q ∷ qs) is = lt_of_not-le (λ k. apart (omega (arith, low, l), subst (λ x. (slice_index_or x 0 f.last).number ≤ e.last.number) (sym is) k) (inr (λ none. none_is none is)) r a b)
      where
        none_is : f.earlier ≡ [] → f.earlier ≡ q ∷ qs → ⊥
        none_is x y = cc

all_follow : (seq_at : ℕ → ℕ) (r : ℕ) (e : Effect) (es : List Effect) → NeverFalls seq_at → first_in e ≤ e.last.number →
    AllByRecursion (AreApart e) es → AllByRecursion (λ f. suc e.last.number ≤ f.last.number) es → AllByRecursion (Follows seq_at r e) es
all_follow seq_at r e [] up low a l = tt
all_follow seq_at r e (f ∷ es) up low a l = (λ x y. up e.last.number (first_in f) (omega (arith, begins_behind r e f a.0 low (omega (arith, l.0)) x y)), all_follow seq_at r e es up low a.1 l.1)

each_follows : (q : LogQueue) (seq_at : ℕ → ℕ) (r n : ℕ) (es : List Effect) → NeverFalls seq_at → RiseFrom n es → EachApart es → AllByRecursion (HasRow q seq_at) es → EachFollows seq_at r es
each_follows q seq_at r n [] up rise apart rows = tt
each_follows q seq_at r n (e ∷ es) up rise apart rows = (
  all_follow seq_at r e es up (row_order q seq_at (first_in e) e.last.number (e.earlier ++ e.last ∷ []) rows.0) apart.0 (later_from (suc e.last.number) es rise.1),
  each_follows q seq_at r (suc e.last.number) es up rise.1 apart.1 rows.1,
)

effects_rise : (q : LogQueue) (seq_at : ℕ → ℕ) (r low : ℕ) (es : List Effect) → NeverFalls seq_at → AllByRecursion (HasRow q seq_at) es →
    AllByRecursion (λ e. names r (region_steps_in e) ≡ true → low ≤ seq_at (first_in e)) es → EachFollows seq_at r es →
    (high : ℕ) × StepsRise q low high (all_steps r es)
effects_rise q seq_at r low [] up rows from follows = (low, omega arith)
effects_rise q seq_at r low (e ∷ es) up rows from follows = go (names r (region_steps_in e)) refl (λ l k. effects_rise q seq_at r l es up rows.1 k follows.1)
  where
    go : (b : Bool) → names r (region_steps_in e) ≡ b →
        ((l : ℕ) → AllByRecursion (λ e. names r (region_steps_in e) ≡ true → l ≤ seq_at (first_in e)) es →
        (high : ℕ) × StepsRise q l high (all_steps r es)) → (high : ℕ) × StepsRise q low high (steps_by r e.earlier e.last ++ all_steps r es)
    go true is rest =
        let behind = rest (seq_at e.last.number) (each_weaker (Follows seq_at r e) (λ f. names r (region_steps_in f) ≡ true → seq_at e.last.number ≤ seq_at (first_in f)) (λ f k. k is) es follows.0) in (
          behind.0,
          rise-append q low (seq_at e.last.number) behind.0 (steps_by r e.earlier e.last) (all_steps r es)
              (steps_lower q low (seq_at (first_in e)) (seq_at e.last.number) (steps_by r e.earlier e.last) (from.0 is)
              (effect_rises q seq_at r e up rows.0)) behind.1,
        )
    go false is rest =
        let behind = rest low from.1 in
        (behind.0, subst (λ l. StepsRise q low behind.0 (l ++ all_steps r es)) (sym (steps_in-none r e is)) behind.1)

pub history_rises : (q : LogQueue) (h : List Event) → IsSoundIn q h → Apart h → (r : ℕ) → (high : ℕ) × StepsRise q 0 high (steps_of r (batches h))
history_rises q h s a r = effects_rise q seq_at r 0 (effects (batches h)) up rows (each_weaker (HasRow q seq_at) (λ e. names r (region_steps_in e) ≡ true → 0 ≤ seq_at (first_in e)) (λ e k n. omega arith) (effects (batches h)) rows)
    (each_follows q seq_at r 0 (effects (batches h)) up (effects_are (batches h)).rise a.each rows)
  where
    seq_at : ℕ → ℕ
    seq_at = seq_of_batch 0 h

    up : NeverFalls seq_at
    up = files_never_fall q 0 h s.files

    rows : AllByRecursion (HasRow q seq_at) (effects (batches h))
    rows = all_rows q seq_at 0 [] (batches h) (omega arith) (all_filed q seq_at 0 0 h (λ i. ap (seq_of_batch 0 h) (omega arith)) s.files s.items)

-- ---- the least files of the tables of one reading, and of both queues: those of all records, since entries stand in the order of their files

-- ---- least numbers

left_least : (j k : Option ℕ) (n : ℕ) → IsAtOrBelow j n → IsAtOrBelow (lesser j k) n
left_least None k n h = absurd h
left_least (Some a) None n h = h
left_least (Some a) (Some b) n h = omega (arith, h)

right_least : (j k : Option ℕ) (n : ℕ) → IsAtOrBelow k n → IsAtOrBelow (lesser j k) n
right_least None k n h = h
right_least (Some a) None n h = absurd h
right_least (Some a) (Some b) n h = omega (arith, h)

least_each : (ns : List ℕ) → AllByRecursion (IsAtOrBelow (least ns)) ns
least_each [] = tt
least_each (n ∷ ns) = (
  left_least (Some n) (least ns) n (omega arith),
  each_weaker (IsAtOrBelow (least ns)) (IsAtOrBelow (lesser (Some n) (least ns))) (λ m h. right_least (Some n) (least ns) m h) ns (least_each ns),
)

lowered_least : (group : Option (ℕ × ℕ)) (k : Option ℕ) (n : ℕ) → IsAtOrBelow k n → IsAtOrBelow (at_most_group_seq group k) n
lowered_least None k n h = h
lowered_least (Some group) None n h = absurd h
lowered_least (Some group) (Some a) n h = elim (nat_le a group.1) as (λ b. cond b (min group.0 a) a ≤ n) [
  | true ↦ omega (arith, h)
  | false ↦ h
]

-- numbers at or above this one
abbrev From : ℕ → List ℕ → Type 0
From low ns = AllByRecursion (λ n. low ≤ n) ns

absorbed : (low n : ℕ) (k : Option ℕ) → low ≤ n → lesser (Some low) (lesser (Some n) k) ≡ lesser (Some low) k
absorbed low n None l = ap Some (omega (arith, l))
absorbed low n (Some m) l = ap Some (omega (arith, l))

least_behind : (low : ℕ) (ns ms : List ℕ) → From low ns → lesser (Some low) (least (ns ++ ms)) ≡ lesser (Some low) (least ms)
least_behind low [] ms h = refl
least_behind low (n ∷ ns) ms h = absorbed low n (least (ns ++ ms)) h.0 ∙ least_behind low ns ms h.1

-- ---- the least file

entry_seqs : List EntryIndex → List ℕ
entry_seqs es = filter_map (λ e. place_seq e.entries) es

seqs_from : (q : LogQueue) (low high : ℕ) (es : List EntryIndex) → InOrder q low high es → From low (entry_seqs es)
unfolding entry_seqs
seqs_from q low high [] h = tt
seqs_from q low high (e ∷ es) h = go e.entries h.1 (seqs_from q low high es (lower q low (seq_of e.entries) high es h.1 h.2))
  where
    go : (o : Option FileBlockHandle) → low ≤ seq_of o → From low (filter_map (λ (e : EntryIndex). place_seq e.entries) es) → From low (cons_option (place_seq o) (filter_map (λ (e : EntryIndex). place_seq e.entries) es))
    go None l rest = rest
    go (Some handle) l rest = (l, rest)

first_is_least : (q : LogQueue) (low high : ℕ) (ms : List ℕ) (es : List EntryIndex) → InOrder q low high es → lesser (entry_seq (slice_get es 0)) (least ms) ≡ least (entry_seqs es ++ ms)
unfolding is_placed_in entry_seqs
first_is_least q low high ms [] h = refl
first_is_least q low high ms (e ∷ es) h = go e.entries h.0 (λ l. seqs_from q l high es) h.2
  where
    go : (o : Option FileBlockHandle) → option_map_or (λ (place : FileBlockHandle). is_same place.id.queue q) o false ≡ true →
        ((l : ℕ) → InOrder q l high es → From l (filter_map (λ (e : EntryIndex). place_seq e.entries) es)) → InOrder q (seq_of o) high es
        → lesser (place_seq o) (least ms) ≡ least (cons_option (place_seq o) (filter_map (λ (e : EntryIndex). place_seq e.entries) es) ++ ms)
    go None is from h = absurd cc
    go (Some handle) is from h = sym (least_behind handle.id.seq (filter_map (λ (e : EntryIndex). place_seq e.entries) es) ms (from handle.id.seq h))

-- in each queue the entries stand in the order of their files
abbrev AreInOrder : List EntryIndex → Type 0
AreInOrder es = (q : LogQueue) → (high : ℕ) × InOrder q 0 high (placed_in q es)

least_is : (q : LogQueue) (t : Table) → AreInOrder t.entries → least_seq q t ≡ least (record_seqs q t)
unfolding entry_seqs
least_is q t h = first_is_least q 0 (h q).0 (seqs_in q t.keys) (placed_in q t.entries) (h q).1

least_files : (t : Table) → AreInOrder t.entries → AreLeastFiles t
least_files t h = record { append = least_is Append t h; rewrite = ap (at_most_group_seq t.atomic_group) (least_is Rewrite t h) }

pub none_below : (q : LogQueue) (t : Table) → AreLeastFiles t → HasNoneBelow q t
none_below Append t h = subst (λ k. AllByRecursion (IsAtOrBelow k) (record_seqs Append t)) (sym h.append) (least_each (record_seqs Append t))
none_below Rewrite t h = subst (λ k. AllByRecursion (IsAtOrBelow k) (record_seqs Rewrite t)) (sym h.rewrite)
    (each_weaker (IsAtOrBelow (least (record_seqs Rewrite t))) (IsAtOrBelow (at_most_group_seq t.atomic_group (least (record_seqs Rewrite t))))
    (lowered_least t.atomic_group (least (record_seqs Rewrite t))) (record_seqs Rewrite t) (least_each (record_seqs Rewrite t)))

-- ---- entries of one queue, and of both

own_placed : (q : LogQueue) (low high : ℕ) (es : List EntryIndex) → InOrder q low high es → placed_in q es ≡ es
unfolding placed_in
own_placed q low high [] h = refl
own_placed q low high (e ∷ es) h = rw h.0 (ap (λ l. e ∷ l) (own_placed q (seq_of e.entries) high es h.2))

none_placed : (q : LogQueue) (low high : ℕ) (es : List EntryIndex) → InOrder q low high es → placed_in (other q) es ≡ []
unfolding placed_in is_placed_in
none_placed q low high [] h = refl
none_placed q low high (e ∷ es) h = rw (elsewhere q e.entries h.0) (none_placed q (seq_of e.entries) high es h.2)
  where
    apart : (q p : LogQueue) → is_same p q ≡ true → is_same p (other q) ≡ false
    apart Append Append is = refl
    apart Append Rewrite is = cc
    apart Rewrite Append is = cc
    apart Rewrite Rewrite is = refl

    elsewhere : (q : LogQueue) (o : Option FileBlockHandle) → option_map_or (λ (place : FileBlockHandle). is_same place.id.queue q) o false ≡ true →
        option_map_or (λ (place : FileBlockHandle). is_same place.id.queue (other q)) o false ≡ false
    elsewhere q None is = refl
    elsewhere q (Some handle) is = apart q handle.id.queue is

of_one : (q : LogQueue) (high : ℕ) (es : List EntryIndex) → InOrder q 0 high es → AreInOrder es
of_one Append high es h Append = (high, subst (InOrder Append 0 high) (sym (own_placed Append 0 high es h)) h)
of_one Append high es h Rewrite = (0, subst (InOrder Rewrite 0 0) (sym (none_placed Append 0 high es h)) (omega arith))
of_one Rewrite high es h Append = (0, subst (InOrder Append 0 0) (sym (none_placed Rewrite 0 high es h)) (omega arith))
of_one Rewrite high es h Rewrite = (high, subst (InOrder Rewrite 0 high) (sym (own_placed Rewrite 0 high es h)) h)

placed-append : (q : LogQueue) (xs ys : List EntryIndex) → placed_in q (xs ++ ys) ≡ placed_in q xs ++ placed_in q ys
unfolding placed_in
placed-append q xs ys = filter-append (is_placed_in q) xs ys

of_two : (low high : ℕ) (xs ys : List EntryIndex) → InOrder Rewrite 0 low xs → InOrder Append 0 high ys → AreInOrder (xs ++ ys)
of_two low high xs ys h k Append = (high, subst (InOrder Append 0 high) (sym (placed-append Append xs ys ∙ ap (λ l. l ++ placed_in Append ys) (none_placed Rewrite 0 low xs h) ∙ own_placed Append 0 high ys k)) k)
of_two low high xs ys h k Rewrite = (
  low,
  subst (InOrder Rewrite 0 low) (sym (placed-append Rewrite xs ys ∙ ap (λ l. placed_in Rewrite xs ++ l) (none_placed Append 0 high ys k)
      ∙ append-nil (placed_in Rewrite xs) ∙ own_placed Rewrite 0 low xs h)) h,
)

-- ---- a history

reading_order : (q : LogQueue) (h : List Event) (tables : Tables) (cleaned : List ℕ) → IsSoundIn q h → Apart h → IsOneReading q h tables cleaned → (r : ℕ) → (high : ℕ) × InOrder q 0 high (table_of r (finite.get tables r)).entries
reading_order q h tables cleaned s a one r =
    let rises = history_rises q h s a r in
    (rises.0, steps_order q 0 rises.0 r None (finite.get tables r) (steps_of r (batches h)) rises.1 (omega arith) (one.tables_read r))

pub least_read : (q : LogQueue) (h : List Event) (tables : Tables) (cleaned : List ℕ) → IsSoundIn q h → Apart h → IsOneReading q h tables cleaned → (r : ℕ) → AreLeastFiles (table_of r (finite.get tables r))
least_read q h tables cleaned s a one r =
    let order = reading_order q h tables cleaned s a one r in
    least_files (table_of r (finite.get tables r)) (of_one q order.0 (table_of r (finite.get tables r)).entries order.1)

-- ---- both queues

overlay_order : (ss : List Step) (low high : ℕ) (appended rewritten : Table) → InOrder Rewrite 0 low rewritten.entries → InOrder Append 0 high appended.entries → AreInOrder (overlay ss appended rewritten).entries
unfolding entries_within
overlay_order ss low high appended rewritten h k =
    cond_both (has_clean ss) appended.entries (rewritten_within (greatest_compaction ss) (least_cut ss) appended.entries rewritten.entries ++ appended.entries) AreInOrder (λ t. of_one Append high appended.entries k)
    (λ t. of_two low high (rewritten_within (greatest_compaction ss) (least_cut ss) appended.entries rewritten.entries) appended.entries kept k)
  where
    kept : InOrder Rewrite 0 low (rewritten_within (greatest_compaction ss) (least_cut ss) appended.entries rewritten.entries)
    kept = cond_both (is_unjoined (least_cut ss) (end_of rewritten.entries) appended.entries) [] (entries_within (greatest_compaction ss) (least_cut ss) rewritten.entries) (InOrder Rewrite 0 low) (λ t. omega arith)
        (λ t. some_of Rewrite _ 0 low rewritten.entries h)

kept_order : (b : Bool) (r : ℕ) (t : Table) → AreInOrder t.entries → AreInOrder (table_of r (kept_if b t)).entries
kept_order true r t h = h
kept_order false r t h = of_one Append 0 [] (omega arith)

pub least_of_both : (h g : List Event) (tables : Tables) (cleaned : List ℕ) → IsSoundIn Rewrite h → Apart h → IsSoundIn Append g → IsReadingOfBoth h g tables cleaned → (r : ℕ) → AreLeastFiles (table_of r (finite.get tables r))
least_of_both h g tables cleaned s a t b r = subst (λ (o : Option Table). AreLeastFiles (table_of r o)) (sym (b.overlaid r)) (go (is_named r (batches g)))
  where
    old : (low : ℕ) × InOrder Rewrite 0 low (table_of r (finite.get b.rewritten r)).entries
    old = reading_order Rewrite h b.rewritten [] s a b.rewrite_read r

    new : (high : ℕ) × InOrder Append 0 high (table_of r (finite.get b.appended r)).entries
    new = reading_order Append g b.appended cleaned t (record { each = append_apart 0 g t.files }) b.append_read r

    go : (n : Bool) → AreLeastFiles (table_of r (cond n (overlaid_table r (steps_of r (batches g)) (finite.get b.appended r) (finite.get b.rewritten r)) (finite.get b.rewritten r)))
    go true = least_files (table_of r (overlaid_table r (steps_of r (batches g)) (finite.get b.appended r) (finite.get b.rewritten r)))
        (kept_order (cond (has_clean (steps_of r (batches g))) (is_some (finite.get b.appended r)) (is_some (finite.get b.appended r) || is_some (finite.get b.rewritten r))) r
        (overlay (steps_of r (batches g)) (table_of r (finite.get b.appended r)) (table_of r (finite.get b.rewritten r)))
        (overlay_order (steps_of r (batches g)) old.0 new.0 (table_of r (finite.get b.appended r)) (table_of r (finite.get b.rewritten r)) old.1 new.1))
    go false = least_files (table_of r (finite.get b.rewritten r)) (of_one Rewrite old.0 (table_of r (finite.get b.rewritten r)).entries old.1)
