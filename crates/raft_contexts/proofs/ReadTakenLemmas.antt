-- Items as they were read, taken in one after another.
use Rattle.raft_contexts.proofs.Common.{each_left, ◌≡◌, ◌+◌, get_or, at_drop_more, Bool, true, false, cond, MatchBool, ◌==◌, ℕ, ◌≤◌, ◌<◌, List, [], ◌∷◌, ◌++◌, length, take, drop, Some, Result, Ok, Err, refl, sym, ap, subst, ◌∙◌, arith}
use Rattle.raft_contexts.proofs.Common.{length-drop, Error, FileBlockHandle, FileId, LogQueue, EntryIndex, end_of, entries_of_block, IsDecodedIn, AreDecodedIn, spans_taken, spans_of, content_shown, item_shown, items_shown, ReadItem, Counts}
use Rattle.raft_contexts.proofs.Common.{joined_mark, mark_of, Run, Put, start_of, run_stays, StandForSteps, RegionStep, Tables, steps_of_items, stand_after, Accessor, table_in, IsStepTaken, regions_in, one_step, AreStepsOfQueue}
use Rattle.raft_contexts.proofs.Common.{AreStepsTaken, first_index, mark_in, MarkedTables, false≢true, Step, entries_after_replay, IsStepOfQueue, Marks, AreCountsOf, get_own, one_written, all_marks, is_put}
use Rattle.std.specs.FinMap as finite
use Rattle.raft_base.specs.declared.errors.Error.TheVariants as errors
use Rattle.raft_records.specs.declared.read_batch.ReadContent.TheVariants as contents
use Rattle.raft_contexts.proofs.TakenLemmas.{run_mark, step_taken, taken_none, each_more, each_refused, rest_of_queue, by_accessor}
use Rattle.raft_contexts.proofs.WaitingItemLemmas.{items-append}
use Rattle.raft_contexts.proofs.ImpliedMarkLemmas.{replayed_within, unmarked_all, put_all}

-- an item that stands in where there is none
abbrev no_read_item : ReadItem
no_read_item = record { region = 0; content = contents.Run 0 0 }

pub next_read : (items : List ReadItem) (i : ℕ) → i < length items → drop i items ≡ get_or items i no_read_item ∷ drop (i + 1) items
next_read items i low = at_drop_more (λ l. l) items i no_read_item low

-- the run of some spans begins at the first index
pub first_of_spans : (first : ℕ) (place : FileBlockHandle) (spans : List (ℕ × ℕ)) → false ≡ (length spans == 0) → first_index (entries_of_block first place spans) ≡ Some first
first_of_spans first place [] h = absurd cc
first_of_spans first place (s ∷ ss) h = refl

-- a run that begins among the entries of its region, or right behind them, leaves the region marks as they are
pub run_unmarked : (q : LogQueue) (id : ℕ) (tables next : Tables) (kept : Marks) (run after : List EntryIndex) (first : ℕ) (ends : ℕ × ℕ) → StandForSteps q (record { tables = tables; marks = all_marks tables kept }) →
    first_index run ≡ Some first → entries_after_replay q (table_in tables id).entries run ≡ Some after → (table_in next id).entries ≡ after → next ≡ finite.insert tables id (table_in next id) →
    ends ≡ (start_of (table_in tables id).entries, end_of (table_in tables id).entries) → 0 < ends.1 → ends.0 ≤ first → first ≤ ends.1
    → all_marks next kept ≡ finite.insert (all_marks tables kept) id (joined_mark q id (mark_in (all_marks tables kept) id) (finite.get tables id) (mark_of (Run run)))
run_unmarked q id tables next kept run after first ends h first_is is now one at some low high =
    unmarked_all id tables next kept (table_in next id) (one_written tables next id (table_in next id) one) (ap (λ t. finite.get t id) one ∙ get_own tables id (table_in next id))
    (ap (λ (l : List EntryIndex). mark_of (Run l)) now ∙ replayed_within q es run after first (h id).2.stands.own_table.run first_is is filled from to)
    ∙ ap (finite.insert all id) (sym stays)
  where
    es : List EntryIndex
    es = (table_in tables id).entries

    all : Marks
    all = all_marks tables kept

    filled : 0 < end_of es
    filled = omega (arith, ap (λ (p : ℕ × ℕ). p.1) at, some)

    from : start_of es ≤ first
    from = omega (arith, ap (λ (p : ℕ × ℕ). p.0) at, low)

    to : first ≤ end_of es
    to = omega (arith, ap (λ (p : ℕ × ℕ). p.1) at, high)

    stays : joined_mark q id (mark_in all id) (finite.get tables id) (mark_of (Run run)) ≡ mark_in all id
    stays = sym (run_mark q id run first (end_of es) (finite.get tables id) (mark_in all id) first_is refl) ∙ run_stays q (mark_in all id) es first (h id).2.stands.fits filled from to

abbrev with_all : Tables → List ℕ → Counts → Accessor
with_all tables cleaned counts = record { tables = tables; cleaned = cleaned; counts = counts }

same_accessor : (x y : Accessor) → x.tables ≡ y.tables → x.counts ≡ y.counts → x.cleaned ≡ y.cleaned → x ≡ y
same_accessor x y t k l = ap (λ tables. with_all tables x.cleaned x.counts) t ∙ ap (λ counts. with_all y.tables x.cleaned counts) k ∙ ap (λ cleaned. with_all y.tables cleaned y.counts) l

abbrev beside : MarkedTables → Accessor → MarkedTables
beside a mid = record { accessor = mid; marks = a.marks }

-- a pair that is tried is put, or all is as it was
pub put_taken : (q : LogQueue) (id : ℕ) (key value : List ℕ) (file : FileId) (a : MarkedTables) (mid : Accessor) (taken : Bool)
    → IsStepTaken q id (Put key value file) a.accessor.tables a.accessor.counts a.accessor.cleaned (cond taken (Ok tt) (Err errors.Memory)) mid.tables mid.counts mid.cleaned
    → MatchBool taken (AreStepsTaken q (one_step id (Put key value file)) (Ok tt) a (beside a mid)) (beside a mid ≡ a)
put_taken q id key value file a mid true k =
    step_taken q id (Put key value file) a (beside a mid) (Ok tt) (finite.get mid.tables id) k.ok k.one k.cleaned k.counts_ok (put_all q id a.accessor.tables mid.tables a.marks key value file k.ok k.one) tt
put_taken q id key value file a mid false k = ap (beside a) (same_accessor mid a.accessor k.err k.counts_err k.cleaned_err)

-- a put that the accessor takes or refuses
pub by_put_step : (q : LogQueue) (id : ℕ) (s : Step) (a : MarkedTables) (mid : Accessor) (r : Result Unit Error) → true ≡ is_put s → IsStepOfQueue q s → AreCountsOf a.accessor.tables a.accessor.counts →
    IsStepTaken q id s a.accessor.tables a.accessor.counts a.accessor.cleaned r mid.tables mid.counts mid.cleaned → AreStepsTaken q (one_step id s) r a (beside a mid)
by_put_step q id (Put key value file) a mid (Ok u) e h counted k = by_accessor q id (Put key value file) a (beside a mid) (Ok u) h counted (put_all q id a.accessor.tables mid.tables a.marks key value file k.ok k.one) k
by_put_step q id (Put key value file) a mid (Err x) e h counted k = by_accessor q id (Put key value file) a (beside a mid) (Err x) h counted tt k
by_put_step q id _ a mid r e h counted k = absurd (false≢true (sym e))

-- the items are such as may be taken in, and these are their spans
pub record AreTakeable (q : LogQueue) (place : FileBlockHandle) (items : List ReadItem) (spans : List (ℕ × ℕ)) : Type 0 where
  pub whole : spans_of items ≡ length spans
  pub steps : AreStepsOfQueue q (steps_of_items (items_shown place items spans))
  pub decoded : AreDecodedIn place.id (items_shown place items spans)

-- what is taken in of the items that are left completes what is taken in of all
abbrev pub IsMidway : LogQueue → FileBlockHandle → List ReadItem → List (ℕ × ℕ) → MarkedTables → List ReadItem → List (ℕ × ℕ) → MarkedTables → Type 0
IsMidway q place items spans a left rest b =
    AreTakeable q place left rest
    × StandForSteps q (regions_in b)
    × ((r : Result Unit Error) (c : MarkedTables) → AreStepsTaken q (steps_of_items (items_shown place left rest)) r b c → AreStepsTaken q (steps_of_items (items_shown place items spans)) r a c)

-- the spans of an item in front are there
pub has_spans : (q : LogQueue) (place : FileBlockHandle) (x : ReadItem) (xs left : List ReadItem) (rest : List (ℕ × ℕ)) (n : ℕ) → left ≡ x ∷ xs → n ≡ spans_taken x.content → AreTakeable q place left rest → n ≤ length rest
has_spans q place x xs left rest n e is h = omega (arith, is, h.whole, ap spans_of e)

module _ (q : LogQueue) (place : FileBlockHandle) (x : ReadItem) (xs left : List ReadItem) (rest own behind : List (ℕ × ℕ)) (n : ℕ)
    (e : left ≡ x ∷ xs) (is : n ≡ spans_taken x.content) (front : own ≡ take n rest) (back : behind ≡ drop n rest) where
  -- the steps of an item in front, and those of the others
  split : steps_of_items (items_shown place left rest) ≡ steps_of_items (item_shown place x own ∷ []) ++ steps_of_items (items_shown place xs behind)
  split = rw (e, front, back, is) (items-append (item_shown place x (take (spans_taken x.content) rest) ∷ []) (items_shown place xs (drop (spans_taken x.content) rest)))

  pub steps_in_front : AreTakeable q place left rest → AreStepsOfQueue q (steps_of_items (item_shown place x own ∷ []))
  steps_in_front h = each_left (λ (s : RegionStep). IsStepOfQueue q s.step) (steps_of_items (item_shown place x own ∷ [])) (steps_of_items (items_shown place xs behind)) (subst (AreStepsOfQueue q) split h.steps)

  both : AreTakeable q place left rest → IsDecodedIn place.id (content_shown place x.content own) × AreDecodedIn place.id (items_shown place xs behind)
  both h = rw (front, back, is) (subst (λ (l : List ReadItem). AreDecodedIn place.id (items_shown place l rest)) e h.decoded)

  pub decoded_in_front : AreTakeable q place left rest → IsDecodedIn place.id (content_shown place x.content own)
  decoded_in_front h = (both h).0

  takeable_behind : AreTakeable q place left rest → AreTakeable q place xs behind
  takeable_behind h = record {
    whole = omega (arith, is, h.whole, ap spans_of e, ap length back, length-drop n rest);
    steps = rest_of_queue q (steps_of_items (item_shown place x own ∷ [])) (steps_of_items (items_shown place xs behind)) _ split h.steps;
    decoded = (both h).1;
  }

  -- one more item is taken in
  pub midway_more : (items : List ReadItem) (spans : List (ℕ × ℕ)) (a b c : MarkedTables) → IsMidway q place items spans a left rest b →
      AreStepsTaken q (steps_of_items (item_shown place x own ∷ [])) (Ok tt) b c → IsMidway q place items spans a xs behind c
  midway_more items spans a b c h t = (
    takeable_behind h.0,
    stand_after q (regions_in b) (regions_in c) (steps_of_items (item_shown place x own ∷ [])) (steps_in_front h.0) h.1 t.ok,
    λ r d u. h.2 r d (each_more q (steps_of_items (item_shown place x own ∷ [])) (steps_of_items (items_shown place xs behind)) _ b c d r split h.0.steps t u),
  )

  -- one item is refused
  pub midway_refused : (items : List ReadItem) (spans : List (ℕ × ℕ)) (a b c : MarkedTables) (f : Error) →
      IsMidway q place items spans a left rest b → AreStepsTaken q (steps_of_items (item_shown place x own ∷ [])) (Err f) b c →
      AreStepsTaken q (steps_of_items (items_shown place items spans)) (Err f) a c
  midway_refused items spans a b c f h t = h.2 (Err f) c (each_refused q (steps_of_items (item_shown place x own ∷ [])) (steps_of_items (items_shown place xs behind)) _ b c f split t)

-- all are taken in
pub midway_all : (q : LogQueue) (place : FileBlockHandle) (items left : List ReadItem) (spans rest : List (ℕ × ℕ)) (a b : MarkedTables) → left ≡ [] →
    IsMidway q place items spans a left rest b → AreStepsTaken q (steps_of_items (items_shown place items spans)) (Ok tt) a b
midway_all q place items left spans rest a b e h = h.2 (Ok tt) b (subst (λ (l : List ReadItem). AreStepsTaken q (steps_of_items (items_shown place l rest)) (Ok tt) b b) (sym e) (taken_none q b))
