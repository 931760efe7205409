-- The contents of the entries that an opened engine has.
use Rattle.raft_engine.proofs.Common.{◌≡◌, ◌⊎◌, ℕ, ◌+◌, ◌≤◌, List, [], ◌∷◌, ◌++◌, Option, Some, None, length, take, inl, inr, refl, sym, ap, ◌∙◌, subst, arith, IfSome, MatchOption, take_all, EntryIndex, FileBlockHandle, LogQueue, Append, Rewrite, Version, batch_inside, Event}
use Rattle.raft_engine.proofs.Common.{each_weaker, Ask, NumberedBytes, cut_last, last_of, HoldsFrom, FilesHold, whole_file, AreRisingFrom, numbers, EndsWithin, EntriesEndWithin, FilesEndWithin, PlaceStands, StandsAt, FilesHoldTorn, consecutive_rise, numbers_on_last, stand}
use Rattle.raft_engine.proofs.Common.{cut_found, one_reading, whole_torn, AreCut, IsCut, IsFirstBegun, IsUntorn, table_in, FoundContentsStay, FoundEntriesStay, StandsInCut}
use Rattle.raft_engine.specs.FoundFiles.{IsReady}

module _ (queue : LogQueue) (version : Version) where
  -- the files, cut where reading stops, hold these batches
  record CutHeld (files : List NumberedBytes) (h : List Event) : Type 0 where
    pub cut : List NumberedBytes
    pub are_cut : AreCut queue version files cut
    pub rising : AreRisingFrom 0 (numbers cut)
    pub held : FilesHold queue version cut h

  nothing_held : (seq : ℕ) (h : List Event) → HoldsFrom (whole_file queue version (seq, [])) 0 h → h ≡ []
  nothing_held seq [] held = refl
  nothing_held seq (e ∷ h) held = let n = batch_inside (whole_file queue version (seq, [])) 0 e.items held.1.0 held.1.1 in absurd (omega (arith, n.0, n.1))

  split_last : (f : NumberedBytes) (files : List NumberedBytes) → (closed : List NumberedBytes) × (last : NumberedBytes) × (f ∷ files ≡ closed ++ last ∷ [])
  split_last f [] = ([], f, refl)
  split_last f (g ∷ files) = let s = split_last g files in (f ∷ s.0, s.1, ap (λ (fs : List NumberedBytes). f ∷ fs) s.2)

  cut_whole : (closed : List NumberedBytes) (last : NumberedBytes) → closed ++ last ∷ [] ≡ cut_last (length last.1) (closed ++ last ∷ [])
  cut_whole closed last =
      sym (last_of (λ (old : List ℕ). take (length last.1) old) closed last ∙ ap (λ (bytes : List ℕ). closed ++ (last.0, bytes) ∷ []) (take_all (length last.1) last.1 (omega arith)))

  ready_cut : (asks later : List Ask) (files left : List NumberedBytes) (h : List Event) → IsReady queue version asks later files left → FilesHold queue version left h → CutHeld files h
  ready_cut asks later files left h r held = go r.ready
    where
      untorn : (fs : List NumberedBytes) → files ≡ fs → IsUntorn queue version asks later files left → CutHeld files h
      untorn [] e u = record {
        cut = [];
        are_cut = inl (e, refl);
        rising = tt;
        held = subst (λ (l : List NumberedBytes). FilesHold queue version l h) (u.same ∙ e) held;
      }
      untorn (f ∷ fs) e u =
          let s = split_last f fs in
          let split : files ≡ s.0 ++ s.1 ∷ [] = e ∙ s.2 in
          record {
            cut = files;
            are_cut = inr (record {
              closed = s.0;
              last = s.1;
              at = length s.1.1;
              split = split;
              stops = u.ends s.0 s.1 split;
              is = split ∙ cut_whole s.0 s.1 ∙ ap (cut_last (length s.1.1)) (sym split);
            });
            rising = consecutive_rise (numbers files) r.consecutive;
            held = subst (λ (l : List NumberedBytes). FilesHold queue version l h) u.same held;
          }

      go : IsFirstBegun queue asks later files left ⊎ (IsUntorn queue version asks later files left ⊎ IsCut queue version asks later files left) → CutHeld files h
      go (inl b) =
          let one = subst (λ (l : List NumberedBytes). FilesHold queue version l h) b.first held in
          record {
            cut = [];
            are_cut = inl (b.none, refl);
            rising = tt;
            held = one.split ∙ ap (λ (g : List Event). g ++ one.rest) (nothing_held 1 one.first one.first_held) ∙ one.rest_held;
          }
      go (inr (inl u)) = untorn files refl u
      go (inr (inr c)) = record {
        cut = cut_last c.at files;
        are_cut = inr (record { closed = c.closed; last = c.last; at = c.at; split = c.split; stops = c.torn.0; is = refl });
        rising = subst (AreRisingFrom 0) (sym (numbers_on_last (λ (old : List ℕ). take c.at old) files)) (consecutive_rise (numbers files) r.consecutive);
        held = subst (λ (l : List NumberedBytes). FilesHold queue version l h) c.cut held;
      }

  -- what is read of files is held by them, once they are cut
  cut_held : (files cut : List NumberedBytes) (h : List Event) → AreCut queue version files cut → FilesHoldTorn queue version files h → FilesHold queue version cut h
  cut_held files cut h (inl none) held =
      let is : h ≡ [] = subst (λ (fs : List NumberedBytes). FilesHoldTorn queue version fs h) none.0 held in
      subst (λ (fs : List NumberedBytes). FilesHold queue version fs h) (sym none.1) is
  cut_held files cut h (inr c) held =
      subst (λ (fs : List NumberedBytes). FilesHold queue version fs h) (sym (c.is ∙ ap (cut_last c.at) c.split))
      (cut_found queue version c.closed c.last h c.at (subst (λ (fs : List NumberedBytes). FilesHoldTorn queue version fs h) c.split held) c.stops)

  cut_within : (files cut : List NumberedBytes) (g h : List Event) → FilesEndWithin queue version files → AreCut queue version files cut → FilesHold queue version cut g
      → FilesHoldTorn queue version files h → EntriesEndWithin g
  cut_within files cut g h ends are held torn =
      let same : h ≡ g = one_reading queue version cut h g (whole_torn queue version cut h (cut_held files cut h are torn)) (whole_torn queue version cut g held) in
      subst EntriesEndWithin same (ends h torn)

  -- an entry that stands in the cut files
  in_cut : (files cut : List NumberedBytes) → AreCut queue version files cut → (e : EntryIndex) (o : Option FileBlockHandle) → e.entries ≡ o
      → IfSome o (λ (place : FileBlockHandle). e.entry_offset + e.entry_len ≤ place.len) → MatchOption o ⊥ (λ (place : FileBlockHandle). PlaceStands queue cut place) → StandsInCut queue version files e
  in_cut files cut are e None is ends stands = absurd stands
  in_cut files cut are e (Some place) is ends stands =
      let whole = stands.whole in
      record {
        cut = cut;
        are_cut = are;
        place = place;
        of_queue = stands.of_queue;
        placed = is;
        block = stands.block;
        stands = stands.stands;
        inside = omega (arith, whole, ends);
      }

pub entries_stay : FoundContentsStay → FoundEntriesStay
entries_stay stay content version base asks lasting told append rewrite append_left rewrite_left append_ends rewrite_ends engine o other other_told r =
    let w = o.read.are_wanted in
    let g = w.recovered in
    let a = ready_cut Append version [] _ append w.append_left g.appended (w.append_ready []) g.append_held in
    let b = ready_cut Rewrite version [] _ rewrite w.rewrite_left g.rewritten (w.rewrite_ready []) g.rewrite_held in
    let all = stand version 0 0 a.cut b.cut g.appended g.rewritten engine.accessor.tables engine.accessor.cleaned a.rising b.rising a.held b.held
    (cut_within Append version append a.cut g.appended o.read.appended append_ends a.are_cut a.held o.read.append_held)
    (cut_within Rewrite version rewrite b.cut g.rewritten o.read.rewritten rewrite_ends b.are_cut b.held o.read.rewrite_held) g.reading r in
    each_weaker (λ (e : EntryIndex). EndsWithin e × (StandsAt Append a.cut e ⊎ StandsAt Rewrite b.cut e)) (λ (e : EntryIndex). other e ≡ content e)
    (λ e s. stay content version base asks lasting told append rewrite append_left rewrite_left engine o other other_told e
    (elim s.1 [
      | inl p ↦ inl (in_cut Append version append a.cut a.are_cut e e.entries refl s.0 p)
      | inr p ↦ inr (in_cut Rewrite version rewrite b.cut b.are_cut e e.entries refl s.0 p)
    ]))
    (table_in engine r).entries all
