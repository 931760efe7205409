-- What is known of the atomic groups of batches, as a machine gathers it.
use Rattle.raft_engine.proofs.Common.{◌≡◌, ◌≢◌, true, false, ◌<◌, ℕ, Bool, List, [], ◌∷◌, ◌++◌, Vec, length, Option, Some, None, refl, sym, ap, ◌∙◌, subst, arith, IsTrue, MatchBool, AllByRecursion, AllWithin, HoldsAt, option_and_then, option_or, recursion_from_All, Global}
use Rattle.raft_engine.proofs.Common.{IsArgumentRefusal, IsInvalidArgument, Error, FileBlockHandle, Rewrite, Part, first_marker, marker_byte, status_of, Item, items_shown, ReadItem, Event, marker_in, HaveStatus, IsSmall, Sound, HasReplayed, SegmentsHold, segments_unique}
use Rattle.raft_engine.proofs.Common.{AreGroupsInRows, open_by, AreJoined, IsSummaryOf, Marked, joined_summary, HaveRows, NoneIsInRows, AreUnmarked, IsMarkedAs, IsUnmarked, marked_shown, rows_shown, GroupRows, MarkedBatch}
use Rattle.std.specs.Option.{option_map}
use Rattle.raft_base.specs.declared.errors.Error.TheVariants as errors
use Rattle.raft_history.specs.Batches.{batch_of}

-- what is known of one batch
pub of_one : (rows : GroupRows) (batch : MarkedBatch) → rows.first ≡ Some batch → rows.left ≡ open_by (marked_shown batch).marker batch.seq → rows.rest_stands ≡ true
    → (e : Event) → IsMarkedAs e batch → IsSummaryOf (rows_shown rows) (e ∷ [])
of_one rows batch first left rest e is =
    let marked : marked_shown batch ≡ record { marker = (batch_of e).marker; seq = e.file.seq } = λ i. record { marker = sym is.marker i; seq = sym is.seq i } in
    record {
      first = ap (option_map marked_shown) first ∙ ap (λ (m : Marked). Some m) marked;
      left = left ∙ ap (λ (m : Marked). open_by m.marker m.seq) marked;
      inner = (λ x. tt, λ x. rest);
    }

-- one batch more
pub one_more : (old one new : GroupRows) → AreJoined (rows_shown old) (rows_shown one) (rows_shown new) → (h : List Event) (e : Event) → IsSummaryOf (rows_shown old) h
    → IsSummaryOf (rows_shown one) (e ∷ []) → IsSummaryOf (rows_shown new) (h ++ e ∷ [])
one_more old one new j h e a b = joined_summary (rows_shown old) (rows_shown one) (rows_shown new) j h (e ∷ []) a b

-- the last of a history that can be read has a status
pub last_status : (h : List Event) (e : Event) → Sound (h ++ e ∷ []) → HaveStatus e.file.queue e.items
last_status h e s = go h s.sound.markers
  where
    go : (h : List Event) → AllByRecursion (λ (x : Event). HaveStatus x.file.queue x.items) (h ++ e ∷ []) → HaveStatus e.file.queue e.items
    go [] all = all.0
    go (x ∷ h) all = go h all.1

-- ---- batches as they were read

first_of_none : (items : List Item) → AllByRecursion (λ (item : Item). marker_byte item.content ≡ None) items → first_marker items ≡ None
unfolding first_marker
first_of_none [] h = refl
first_of_none (item ∷ items) h = ap (λ (byte : Option ℕ). option_or (option_map (λ status. (item.raft_group_id, status)) (option_and_then status_of byte)) (first_marker items)) h.0 ∙ first_of_none items h.1

none_shown : (items : List ReadItem) → AreUnmarked items → (place : FileBlockHandle) (spans : List (ℕ × ℕ)) → AllByRecursion (λ (item : Item). marker_byte item.content ≡ None) (items_shown place items spans)
none_shown [] h place spans = tt
none_shown (item ∷ items) h place spans = (h.0 place _, none_shown items h.1 place _)

-- what is shown of unmarked items has no group marker
pub none_marked : (items : List ReadItem) (place : FileBlockHandle) (spans : List (ℕ × ℕ)) (batch : List Item) → AreUnmarked items → items_shown place items spans ≡ batch → marker_in Rewrite batch ≡ None
none_marked items place spans batch h shown =
    subst (λ (l : List Item). marker_in Rewrite l ≡ None) shown (ap (option_map _) (first_of_none (items_shown place items spans) (none_shown items h place spans)))

-- what the test of each item says of all
pub all_unmarked : (items : List ReadItem) (all : Bool)
    → MatchBool all (AllWithin IsUnmarked items 0 (length items)) ((k : ℕ) × (k < length items) × HoldsAt (λ (i : ReadItem). Unit {0}) items k)
    → IsTrue all → AreUnmarked items
all_unmarked items true h is = recursion_from_All IsUnmarked items (λ k d low. h k d (omega arith) low)
all_unmarked items false h is = let no : false ≡ true = is in absurd cc

-- ---- the batches of segments

-- a refusal as an argument is an invalid argument
pub invalid : (text : List ℕ) (e : Error) → IsArgumentRefusal text e → e ≢ errors.Memory → IsInvalidArgument e
invalid text (errors.InvalidArgument t) r other = tt
invalid text (errors.Corruption t) r other = absurd r
invalid text (errors.Io t) r other = absurd r
invalid text (errors.Codec t) r other = absurd r
invalid text (errors.Message t) r other = absurd r
invalid text (errors.TryAgain t) r other = absurd r
invalid text errors.EntryCompacted r other = absurd r
invalid text errors.EntryNotFound r other = absurd r
invalid text errors.Full r other = absurd r
invalid text (errors.Other t) r other = absurd r
invalid text errors.Memory r other = absurd (other refl)
invalid text errors.Failed r other = absurd r

-- what is known of groups is a summary of batches
abbrev pub Summed : GroupRows → List Event → Type 0
Summed rows h = IsSummaryOf (rows_shown rows) h

module _ (front segments : List (Vec Part Global)) (all : front ≡ segments) (old new : GroupRows) (none : Summed old []) (read : HasReplayed (SegmentsHold front) Summed Summed old new) where
  pub rows_held : ((h : List Event) → Summed new h → AreGroupsInRows h) → HaveRows (SegmentsHold segments)
  rows_held rows = record {
    batches = read.history;
    held = subst (λ (ss : List (Vec Part Global)). SegmentsHold ss read.history) all read.held;
    rows = λ small. rows read.history (read.stands [] small none);
  }

  pub rows_out : ((h : List Event) → Summed new h → AreGroupsInRows h → ⊥) → (e : Error) → IsInvalidArgument e → NoneIsInRows (SegmentsHold segments) e
  rows_out out e invalid h held small sound =
      let same : read.history ≡ h = segments_unique segments read.history h (subst (λ (ss : List (Vec Part Global)). SegmentsHold ss read.history) all read.held) held in (
        out h (subst (Summed new) same (read.stands [] (subst IsSmall (sym same) small) none)),
        invalid,
      )
