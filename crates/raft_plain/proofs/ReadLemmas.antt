-- A reading goes on with a batch, or can't.
use Rattle.raft_plain.proofs.Common.{List, [], ◌∷◌, ◌++◌, Some, None, refl, sym, ap, subst, ◌∙◌, ◌≡◌, ◌≤◌, ◌<◌, ℕ, append-nil, arith, map, flat_map-append, AllByRecursion, option_and_then, nat_cmp, FileId, LogQueue, Append, AreDecodedIn, Item, after-append, Step, after}
use Rattle.raft_plain.proofs.Common.{steps-one, no_both, items_in_file, reading_by_region, reading_refused, own-append, batches-append, cleaned-append, files-append, files-back, in_files-append, status-append, Event, BatchSteps, batches, marker_in, effects_behind, markers_of}
use Rattle.raft_plain.proofs.Common.{open_stretch, steps_of, HaveStatus, IsSoundIn, Sound, cleaned_in, last_from, region_step_shown, RegionStep, Tables, cleaned_by, cleaned_by_steps, steps_of_items, steps_on, tables_after, event, group_in, groups_in, steps_by_batch, Stretches}
use Rattle.raft_plain.proofs.Common.{AreOpenAfter, stretches_after, effect_after, tables_shown, table_shown, AreStepsOf, HasRead, stretch_shown, stretches_shown, Reading}
use Rattle.std.specs.FinMap as finite
use Rattle.raft_plain.proofs.GroupLemmas.{stretches_go_on, effects_are_defined}
use Rattle.raft_plain.proofs.KeyedLemmas.{none-of}

nothing_read : (q : LogQueue) (r : ℕ) → after q r None (steps_of r (batches [])) ≡ Some (finite.get (finite.empty {R = nat_cmp}) r)
unfolding effects_behind
nothing_read q r = ap Some (sym (finite.get-empty nat_cmp r))

no_group : (g : ℕ) → None ≡ (group_in g []).stretch
unfolding markers_of open_stretch
no_group g = refl

none_on : (r : ℕ) → steps_on r [] ≡ steps_of r (batches [])
unfolding effects_behind steps_on
none_on r = refl

pub read_none : (q : LogQueue) (reading : Reading) → reading.regions.entries ≡ [] → reading.steps.items ≡ [] → reading.last ≡ 0 → reading.waiting.entries ≡ [] → HasRead q reading []
read_none q reading regions steps last waiting = record {
  sound = record { files = tt; items = tt; markers = tt; accepted = λ r. (finite.get (finite.empty {R = nat_cmp}) r, nothing_read q r) };
  one_reading = record {
    tables_read = λ r. nothing_read q r ∙ ap (λ m. Some (finite.get m r)) (sym (none-of table_shown reading.regions.entries regions));
    regions_cleaned = refl;
  };
  last = last;
  waiting = λ g. ap (λ (m : Stretches). finite.get m g) (none-of (λ _ s. stretch_shown s) reading.waiting.entries waiting) ∙ finite.get-empty nat_cmp g ∙ no_group g;
  steps = λ is. record {
    each = λ r. ap (λ ss. steps_on r (map region_step_shown ss)) steps ∙ none_on r;
    cleaned = ap (λ ss. cleaned_by_steps Append (map region_step_shown ss)) steps;
  };
}

last_more : (n : ℕ) (h : List Event) (e : Event) → last_from n (h ++ e ∷ []) ≡ e.file.seq
last_more n [] e = refl
last_more n (x ∷ h) e = last_more x.file.seq h e

last_status : (h : List Event) (e : Event) → AllByRecursion (λ (x : Event). HaveStatus x.file.queue x.items) (h ++ e ∷ []) → HaveStatus e.file.queue e.items
last_status [] e all = all.0
last_status (x ∷ h) e all = last_status h e all.1

-- one batch more of the append queue
append_more : (h : List Event) (items : List Item) (file : FileId) (steps new : List RegionStep) → file.queue ≡ Append → batches (h ++ event items file ∷ []) ≡ batches h ++ record { steps = steps_of_items items; marker = None; seq = file.seq } ∷ []
    → AreStepsOf h steps → new ≡ steps ++ steps_of_items items → AreStepsOf (h ++ event items file ∷ []) new
append_more h items file steps new queue more are is = record {
  each = λ r. ap (steps_on r) is ∙ own-append r steps (steps_of_items items) ∙ ap (λ (l : List Step). l ++ steps_on r (steps_of_items items)) (are.each r)
      ∙ sym (ap (steps_of r) more ∙ steps-one r (batches h) (record { steps = steps_of_items items; marker = None; seq = file.seq }));
  cleaned = ap (cleaned_by_steps Append) is ∙ flat_map-append (λ (s : RegionStep). cleaned_by s.region s.step) steps (steps_of_items items)
      ∙ ap (λ (l : List ℕ). l ++ cleaned_by_steps Append (steps_of_items items)) are.cleaned
      ∙ sym (cleaned-append Append h (event items file ∷ []) ∙ ap (λ (l : List ℕ). cleaned_in Append h ++ l) (append-nil (cleaned_by_steps Append (steps_of_items items))));
}

module _ (q : LogQueue) (reading : Reading) (h : List Event) (items : List Item) (file : FileId) (read : HasRead q reading h) (queue : file.queue ≡ q) where
  abbrev f : Event
  f = event items file

  abbrev maps : Tables
  maps = tables_shown reading.regions

  abbrev stretches : Stretches
  stretches = stretches_shown reading.waiting

  abbrev batch : BatchSteps
  batch = record { steps = steps_of_items items; marker = marker_in q items; seq = file.seq }

  abbrev effect : List RegionStep
  effect = effect_after stretches (marker_in q items) (steps_of_items items) file.seq

  batches_more : batches (h ++ f ∷ []) ≡ batches h ++ batch ∷ []
  batches_more = batches-append h (f ∷ []) ∙ ap (λ (p : LogQueue). batches h ++ record { steps = steps_of_items items; marker = marker_in p items; seq = file.seq } ∷ []) queue

  steps_to : (r : ℕ) → after q r None (steps_of r (batches (h ++ f ∷ []))) ≡ after q r (finite.get maps r) (steps_on r effect)
  steps_to r =
      ap (λ bs. after q r None (steps_of r bs)) batches_more
      ∙ ap (after q r None) (steps-one r (batches h) batch)
      ∙ after-append q r None (steps_of r (batches h)) (steps_by_batch r (groups_in (batches h)) batch batch.marker)
      ∙ ap (option_and_then (λ u. after q r u (steps_by_batch r (groups_in (batches h)) batch batch.marker))) (read.one_reading.tables_read r)
      ∙ sym (effects_are_defined q r (finite.get maps r) (batches h) batch stretches read.waiting)

  steps_more : (new : List RegionStep) → new ≡ map region_step_shown reading.steps.items ++ effect → q ≡ Append → AreStepsOf (h ++ f ∷ []) new
  steps_more new is of =
      append_more h items file (map region_step_shown reading.steps.items) new (queue ∙ of)
      (batches_more ∙ ap (λ (p : LogQueue). batches h ++ record { steps = steps_of_items items; marker = marker_in p items; seq = file.seq } ∷ []) of)
      (read.steps of)
      (is ∙ ap (λ (p : LogQueue). map region_step_shown reading.steps.items ++ effect_after stretches (marker_in p items) (steps_of_items items) file.seq) of)

  pub batch_read : AreDecodedIn file items → HaveStatus q items → reading.last ≤ file.seq → (new : Reading)
      → tables_after q maps effect ≡ Some (tables_shown new.regions)
      → stretches_shown new.waiting ≡ stretches_after stretches (marker_in q items) (steps_of_items items) file.seq
      → map region_step_shown new.steps.items ≡ map region_step_shown reading.steps.items ++ effect → new.last ≡ file.seq → HasRead q new (h ++ f ∷ [])
  batch_read decoded status order new accepted waits steps last =
      let each : (r : ℕ) → after q r None (steps_of r (batches (h ++ f ∷ []))) ≡ Some (finite.get (tables_shown new.regions) r) =
      λ r. steps_to r ∙ reading_by_region q maps (tables_shown new.regions) effect accepted r in
      record {
        sound = record {
          files = files-append q 0 h (f ∷ []) read.sound.files (queue, subst (λ n. n ≤ file.seq) read.last order, tt);
          items = in_files-append h (f ∷ []) read.sound.items (items_in_file file items decoded, tt);
          markers = status-append h (f ∷ []) read.sound.markers (subst (λ (p : LogQueue). HaveStatus p items) (sym queue) status, tt);
          accepted = λ r. (finite.get (tables_shown new.regions) r, each r);
        };
        one_reading = record { tables_read = each; regions_cleaned = refl };
        last = last ∙ sym (last_more 0 h f);
        waiting = subst (λ bs. AreOpenAfter bs (stretches_shown new.waiting)) (sym batches_more)
            (subst (λ m. AreOpenAfter (batches h ++ batch ∷ []) m) (sym waits) (stretches_go_on (batches h) batch stretches read.waiting));
        steps = steps_more (map region_step_shown new.steps.items) steps;
      }

  queue_of : (s : Sound (h ++ f ∷ [])) → s.queue ≡ q
  queue_of s = sym (files-back s.queue 0 h (f ∷ []) s.sound.files).0 ∙ queue

  pub effect_unsound : tables_after q maps effect ≡ None → ¬ (Sound (h ++ f ∷ []))
  effect_unsound none s =
      let sound = subst (λ (p : LogQueue). IsSoundIn p (h ++ f ∷ [])) (queue_of s) s.sound in
      let refused = reading_refused q maps effect none in
      no_both (steps_to refused.0 ∙ refused.1) (sound.accepted refused.0).1

  pub status_unsound : (HaveStatus q items → ⊥) → ¬ (Sound (h ++ f ∷ []))
  status_unsound none s = none (subst (λ (p : LogQueue). HaveStatus p items) queue (last_status h f s.sound.markers))

pub order_unsound : (q : LogQueue) (reading : Reading) (h : List Event) (items : List Item) (file : FileId) → HasRead q reading h → file.seq < reading.last → ¬ (Sound (h ++ event items file ∷ []))
order_unsound q reading h items file read below s =
    let back = (files-back s.queue 0 h (event items file ∷ []) s.sound.files).1 in
    let last = read.last in
    omega (arith, below, back, last)
