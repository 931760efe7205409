-- Files whose reading stops can't be read.
use Rattle.raft_engine.proofs.Common.{◌≡◌, ◌≢◌, inl, inr, ℕ, List, [], ◌∷◌, ◌++◌, map, refl, sym, ap, ◌∙◌, subst, append_assoc, arith, Error, FileId, LogQueue, Version, IsBatchAt, Part, StandBetween, Item, batch_inside, Event, IsSmall, Sound, small_front, sound_front}
use Rattle.raft_engine.proofs.Common.{NumberedBytes, HoldsFrom, CannotFollowAt, GoneOn, IsNothing, StopsAmong, history_in, each_cut, batch_unique, parts_unique, PartHolds, PartsHold, FilesCannotBeRead, FilesHold, whole_file}
use Rattle.raft_base.specs.declared.errors.Error.TheVariants as errors
use Rattle.raft_engine.proofs.RefusedLemmas.{unheld}

-- what files hold their parts do
parts_held : (queue : LogQueue) (version : Version) (files : List NumberedBytes) (h : List Event) → FilesHold queue version files h → PartsHold (map (whole_file queue version) files) h
parts_held queue version [] h held = held
parts_held queue version (f ∷ files) h held = record {
  first = held.first;
  rest = held.rest;
  first_held = held.first_held;
  rest_held = parts_held queue version files held.rest held.rest_held;
  split = held.split;
}

event_is : (x : Event) (items : List Item) (id : FileId) → x.items ≡ items → x.file ≡ id → x ≡ record { items = items; file = id }
event_is x items id same there = ap (λ (l : List Item). record x { items = l }) same ∙ ap (λ (f : FileId). record { items = items; file = f }) there

-- batches that stand up to one come first of all that are held, and then that one
stand_first : (part : Part) (i at next : ℕ) (front : List (List Item)) (items : List Item) (h : List Event) → StandBetween part i at front → IsBatchAt part at items next → HoldsFrom part i h
    → (rest : List Event) × (h ≡ (history_in part front ++ history_in part (items ∷ [])) ++ rest)
stand_first part i at next [] items [] e b ends = let n = batch_inside part at items next b in absurd (omega (arith, e, ends, n.0, n.1))
stand_first part i at next [] items (x ∷ h) e b held =
    let same = batch_unique part i x.items items held.1.0 next held.1.1 (subst (λ (n : ℕ). IsBatchAt part n items next) (sym e) b) in
    (h, ap (λ (y : Event). y ∷ h) (event_is x items part.id same.0 held.0))
stand_first part i at next (c ∷ front) items [] s b ends = let n = batch_inside part i c s.0 s.1 in absurd (omega (arith, ends, n.0, n.1))
stand_first part i at next (c ∷ front) items (x ∷ h) s b held =
    let same = batch_unique part i x.items c held.1.0 s.0 held.1.1 s.1 in
    let more = stand_first part s.0 at next front items h s.2 b (subst (λ (n : ℕ). HoldsFrom part n h) same.1 held.1.2) in
    (more.0, ap (λ (y : Event). y ∷ h) (event_is x c part.id same.0 held.0) ∙ ap (λ (l : List Event). record { items = c; file = part.id } ∷ l) more.1)

pub stops_unread : (queue : LogQueue) (version : Version) (files : List NumberedBytes) (e : Error) → e ≢ errors.Memory → StopsAmong IsNothing Sound (map (whole_file queue version) files) e
    → FilesCannotBeRead queue version files
stops_unread queue version files e other stops = record { unsound = none }
  where
    none : (h : List Event) → FilesHold queue version files h → IsSmall h → ¬ (Sound h)
    none h held small sound =
        let all = each_cut PartHolds stops.before (stops.part ∷ stops.after) h (subst (λ (parts : List Part). PartsHold parts h) stops.split (parts_held queue version files h held)) in
        let next = all.rest_held in
        let first : all.first ≡ stops.history = parts_unique stops.before all.first stops.history all.first_held stops.held in
        elim (stops.stops.reason other) [
          | inl unreadable ↦ unheld stops.part stops.stops.at (stops.stops.front, stops.stops.readable) unreadable stops.stops.before_end next.first next.first_held
          | inr c ↦ follows h small sound c all.first all.rest next.first next.rest first all.split next.split next.first_held
        ]
      where
        follows : (h : List Event) → IsSmall h → Sound h → CannotFollowAt (GoneOn (GoneOn IsNothing stops.history) (history_in stops.part stops.stops.front)) stops.part stops.stops.at
            → (before rest own after : List Event) → before ≡ stops.history → h ≡ before ++ rest → rest ≡ own ++ after → HoldsFrom stops.part 0 own → ⊥
        follows h small sound c before rest own after is split more own_held =
            let front : List Event = history_in stops.part stops.stops.front in
            let here : List Event = history_in stops.part (c.items ∷ []) in
            let g = stand_first stops.part 0 stops.stops.at c.next stops.stops.front c.items own stops.stops.readable c.stands own_held in
            let later : List Event = g.0 ++ after in
            let whole : h ≡ ((stops.history ++ front) ++ here) ++ later =
            split ∙ ap (λ (t : List Event). t ++ rest) is ∙ ap (λ (t : List Event). stops.history ++ t) (more ∙ ap (λ (t : List Event). t ++ after) g.1 ∙ append_assoc (front ++ here) g.0 after)
            ∙ sym (append_assoc stops.history (front ++ here) later) ∙ ap (λ (t : List Event). t ++ later) (sym (append_assoc stops.history front here)) in
            c.unsound (stops.history ++ front) (small_front ((stops.history ++ front) ++ here) later (subst IsSmall whole small)) (stops.history, ([], refl, refl), refl)
            (sound_front ((stops.history ++ front) ++ here) later (subst Sound whole sound))
