-- A group of events in a row.
use Rattle.raft_engine_laws.proofs.Common.{◌≡◌, ℕ, suc, List, [], ◌∷◌, ◌++◌, length, map, Option, refl, sym, ap, subst, ◌∙◌, append-nil, append_assoc, flat_map, AllByRecursion, flat_map-append, AtomicGroupStatus, Begin, Middle, End, Event, GroupMarker, BatchSteps, batch_of}
use Rattle.raft_engine_laws.proofs.Common.{batches, batch_with_marker, Numbered, numbered_from, effects, steps_of, whole_steps, EachApart, Apart, RegionStep, steps_of_items, batches-append, HasNoMarker, LeavesOpen, IsMarked, IsWholeGroup}
use Rattle.raft_engine_laws.proofs.ApartLemmas.{apart_plain, apart_held}
use Rattle.raft_engine_laws.proofs.GroupLemmas.{held_adds}
use Rattle.raft_engine_laws.proofs.RowLemmas.{middles, row_apart, row_steps}

pub alone_apart : (h : List Event) (e : Event) → HasNoMarker e → Apart h → Apart (h ++ e ∷ [])
alone_apart h e plain apart = record { each = subst (λ l. EachApart (effects l)) (sym (batches-append h (e ∷ []))) (apart_plain (batches h) (batch_of e) plain apart.each) }

pub open_apart : (h : List Event) (e : Event) → LeavesOpen e → Apart h → Apart (h ++ e ∷ [])
open_apart h e held apart = record { each = subst (λ l. EachApart (effects l)) (sym (batches-append h (e ∷ []))) (apart_held (batches h) (batch_of e) held apart.each) }

pub open_adds : (h : List Event) (e : Event) → LeavesOpen e → (r : ℕ) → steps_of r (batches (h ++ e ∷ [])) ≡ steps_of r (batches h)
open_adds h e held r = ap (steps_of r) (batches-append h (e ∷ [])) ∙ held_adds r (batches h) (batch_of e) held

-- what is read of an event beside its marker
abbrev read_of : Event → List RegionStep × ℕ
read_of e = (steps_of_items e.items, e.file.seq)

marked_is : (g : ℕ) (s : AtomicGroupStatus) (e : Event) → IsMarked g s e → batch_of e ≡ batch_with_marker (steps_of_items e.items) g s e.file.seq
marked_is g s e h = ap (λ (m : Option GroupMarker). record { steps = steps_of_items e.items; marker = m; seq = e.file.seq }) h

middles_are : (g : ℕ) (ms : List Event) → AllByRecursion (IsMarked g Middle) ms → batches ms ≡ middles g (map read_of ms)
middles_are g [] h = refl
middles_are g (e ∷ ms) h = ap (λ b. b ∷ batches ms) (marked_is g Middle e h.0) ∙ ap (λ l. batch_with_marker (steps_of_items e.items) g Middle e.file.seq ∷ l) (middles_are g ms h.1)

steps_between : (g n : ℕ) (ms : List Event) → flat_map (λ (p : Numbered). p.batch.steps) (numbered_from n (middles g (map read_of ms))) ≡ flat_map (λ (e : Event). steps_of_items e.items) ms
steps_between g n [] = refl
steps_between g n (e ∷ ms) = ap (λ l. steps_of_items e.items ++ l) (steps_between g (suc n) ms)

module _ (h ms : List Event) (g : ℕ) (begin end : Event) (group : IsWholeGroup g begin ms end) where
  abbrev first : BatchSteps
  first = batch_with_marker (steps_of_items begin.items) g Begin begin.file.seq

  abbrev last : BatchSteps
  last = batch_with_marker (steps_of_items end.items) g End end.file.seq

  row_is : batches (h ++ begin ∷ (ms ++ end ∷ [])) ≡ (batches h ++ first ∷ middles g (map read_of ms)) ++ last ∷ []
  row_is =
      batches-append h (begin ∷ (ms ++ end ∷ []))
      ∙ ap (λ b. batches h ++ b ∷ batches (ms ++ end ∷ [])) (marked_is g Begin begin group.begins)
      ∙ ap (λ l. batches h ++ first ∷ l) (batches-append ms (end ∷ []) ∙ ap (λ l. l ++ batch_of end ∷ []) (middles_are g ms group.goes_on) ∙ ap (λ b. middles g (map read_of ms) ++ b ∷ []) (marked_is g End end group.ends))
      ∙ sym (append_assoc (batches h) (first ∷ middles g (map read_of ms)) (last ∷ []))

  -- it stays apart from all before it
  pub group_apart : Apart h → Apart (h ++ begin ∷ (ms ++ end ∷ []))
  group_apart apart = record { each = subst (λ l. EachApart (effects l)) (sym row_is) (row_apart g (batches h) (steps_of_items begin.items) begin.file.seq (map read_of ms) (steps_of_items end.items) end.file.seq apart.each) }

  all_steps_are : (steps_of_items begin.items ++ flat_map (λ (p : Numbered). p.batch.steps)
      (numbered_from (suc (length (batches h))) (middles g (map read_of ms)))) ++ steps_of_items end.items ≡ flat_map
      (λ (e : Event). steps_of_items e.items) (begin ∷ (ms ++ end ∷ []))
  all_steps_are =
      append_assoc (steps_of_items begin.items) _ (steps_of_items end.items)
      ∙ ap (λ l. steps_of_items begin.items ++ (l ++ steps_of_items end.items)) (steps_between g (suc (length (batches h))) ms)
      ∙ ap (λ l. steps_of_items begin.items ++ (flat_map (λ (e : Event). steps_of_items e.items) ms ++ l)) (sym (append-nil (steps_of_items end.items)))
      ∙ ap (λ l. steps_of_items begin.items ++ l) (sym (flat_map-append (λ (e : Event). steps_of_items e.items) ms (end ∷ [])))

  -- and its steps come behind theirs
  pub group_steps : (r : ℕ) → steps_of r (batches (h ++ begin ∷ (ms ++ end ∷ []))) ≡ steps_of r (batches h) ++ whole_steps r (flat_map (λ (e : Event). steps_of_items e.items) (begin ∷ (ms ++ end ∷ []))) begin.file.seq end.file.seq
  group_steps r =
      ap (steps_of r) row_is
      ∙ row_steps g (batches h) (steps_of_items begin.items) begin.file.seq (map read_of ms) (steps_of_items end.items) end.file.seq r
      ∙ ap (λ l. steps_of r (batches h) ++ whole_steps r l begin.file.seq end.file.seq) all_steps_are
