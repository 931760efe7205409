-- The contents of the entries that an opened engine finds.
use Rattle.raft_engine.proofs.Common.{◌≡◌, ◌⊎◌, inl, inr, ℕ, List, [], ◌∷◌, ◌++◌, Some, length, take, sym, ap, ◌∙◌, subst, arith, take_all, LogQueue, Append, Rewrite, Version, Item, Batch, Act, Ask, NumberedBytes, Put, Sync, acts_on, begun, cut_last, bytes_at, last_of}
use Rattle.raft_engine.proofs.Common.{whole_file, KeepsBytes, StopsAt, bytes_for, AreCut, IsLastCut, IsCut, IsFirstBegun, IsUntorn, KeptEngine, IsOpened, asks_that_tell, FoundContentsStay, AreMadeReady, AreReady, FoundFilesAreReady, found_asks}
use Rattle.raft_engine.specs.FoundFiles.{IsReady}
use Rattle.raft_engine.proofs.FoundLemmas.{one_last, one_stopped}
use Rattle.raft_engine.proofs.ReadyLemmas.{both_ready, no_last, opening_split}

-- ---- files that are cut where reading stops are those that are ready

module _ (queue : LogQueue) (version : Version) (files : List NumberedBytes) where
  cut_at : (closed : List NumberedBytes) (last : NumberedBytes) (at : ℕ) → files ≡ closed ++ last ∷ [] → cut_last at files ≡ closed ++ (last.0, take at last.1) ∷ []
  cut_at closed last at split = ap (cut_last at) split ∙ last_of (λ old. take at old) closed last

  same_cut : (asks later : List Ask) (left cut : List NumberedBytes) → IsReady queue version asks later files left → IsLastCut queue version files cut → cut ≡ left
  same_cut asks later left cut r c = go r.ready
    where
      go : IsFirstBegun queue asks later files left ⊎ (IsUntorn queue version asks later files left ⊎ IsCut queue version asks later files left) → cut ≡ left
      go (inl b) = absurd (no_last c.closed c.last (sym b.none ∙ c.split))
      go (inr (inl u)) =
          let ends = one_stopped (whole_file queue version c.last) c.at (length c.last.1) c.stops (u.ends c.closed c.last c.split) in
          c.is ∙ cut_at c.closed c.last c.at c.split
          ∙ ap (λ (bytes : List ℕ). c.closed ++ (c.last.0, bytes) ∷ []) (take_all c.at c.last.1 (omega (arith, ends)))
          ∙ sym c.split ∙ sym u.same
      go (inr (inr k)) =
          let same : k.last ≡ c.last = one_last k.closed c.closed k.last c.last (sym k.split ∙ c.split) in
          let at = one_stopped (whole_file queue version c.last) c.at k.at c.stops (subst (λ (f : NumberedBytes). StopsAt (whole_file queue version f) k.at) same k.torn.0) in
          c.is ∙ ap (λ (n : ℕ). cut_last n files) at ∙ sym k.cut

  -- what stands in the one stands in the other
  stands_ready : (asks later : List Ask) (left cut : List NumberedBytes) → IsReady queue version asks later files left → AreCut queue version files cut
      → (seq offset len : ℕ) (block : List ℕ) → bytes_at cut seq offset len ≡ Some block → bytes_at left seq offset len ≡ Some block
  stands_ready asks later left cut r (inl none) seq offset len block stands =
      let nothing = sym (ap (λ (l : List NumberedBytes). bytes_at l seq offset len) none.1) ∙ stands in absurd cc
  stands_ready asks later left cut r (inr c) seq offset len block stands = sym (ap (λ (l : List NumberedBytes). bytes_at l seq offset len) (same_cut asks later left cut r c)) ∙ stands

-- ---- and they stay once the rewrite queue is told

abbrev pub BytesStay : Type 0
BytesStay = (acts : List Act) (act : Act) (seq offset len : ℕ) (block : List ℕ) → KeepsBytes act → bytes_at (begun acts) seq offset len ≡ Some block → bytes_at (begun (act ∷ acts)) seq offset len ≡ Some block

told_stands : BytesStay → (queue : LogQueue) (version : Version) (number : ℕ) (told : Batch) (items : List Item) (asked : List Ask) (seq offset len : ℕ) (block : List ℕ)
    → bytes_at (begun (acts_on queue asked)) seq offset len ≡ Some block → bytes_at (begun (acts_on queue (asks_that_tell version number told items ++ asked))) seq offset len ≡ Some block
told_stands stay queue version number told [] asked seq offset len block stands = stands
told_stands stay Append version number told (item ∷ items) asked seq offset len block stands = stands
told_stands stay Rewrite version number told (item ∷ items) asked seq offset len block stands =
    let put : Act = Put (bytes_for (record { id = record { queue = Rewrite; seq = number }; version = version }) told) in
    stay (put ∷ acts_on Rewrite asked) Sync seq offset len block tt (stay (acts_on Rewrite asked) put seq offset len block tt stands)

module _ (ready : FoundFilesAreReady) (version : Version) (append rewrite : List NumberedBytes) (engine : KeptEngine) (o : IsOpened version append rewrite engine) where
  abbrev pub asked : List Ask
  asked = o.read.are_wanted.rewrite_missing ++ (o.read.are_wanted.append_missing ++ found_asks append rewrite)

  are_ready : AreReady version append rewrite o.read.are_wanted.append_left o.read.are_wanted.rewrite_left asked
  are_ready =
      let w = o.read.are_wanted in both_ready version append rewrite w.append_left w.rewrite_left w.append_missing w.rewrite_missing w.append_ready w.rewrite_ready

  pub made : AreMadeReady version append rewrite o.read.are_wanted.append_left o.read.are_wanted.rewrite_left asked o.read.are_wanted.recovered.appended o.read.are_wanted.recovered.rewritten
  made =
      let w = o.read.are_wanted in
      ready version asked append rewrite w.append_left w.rewrite_left w.recovered.appended w.recovered.rewritten are_ready w.recovered.append_held w.recovered.rewrite_held

  pub all_asked : engine.asks ≡ asks_that_tell version o.read.are_wanted.seq o.read.are_wanted.told o.read.are_wanted.told.items ++ asked
  all_asked =
      let w = o.read.are_wanted in
      o.read.asked ∙ ap (λ (l : List Ask). l ++ found_asks append rewrite) w.are ∙ opening_split version w.append_missing w.rewrite_missing w.seq w.told (found_asks append rewrite)

  stays_in : BytesStay → (queue : LogQueue) (files left : List NumberedBytes) (missing : List Ask) → IsReady queue version [] (missing ++ []) files left → begun (acts_on queue asked) ≡ left
      → (cut : List NumberedBytes) → AreCut queue version files cut → (seq offset len : ℕ) (block : List ℕ) → bytes_at cut seq offset len ≡ Some block
      → bytes_at (begun (acts_on queue engine.asks)) seq offset len ≡ Some block
  stays_in stay queue files left missing r are cut c seq offset len block stands =
      let w = o.read.are_wanted in
      let there = stands_ready queue version files [] (missing ++ []) left cut r c seq offset len block stands in
      subst (λ (l : List Ask). bytes_at (begun (acts_on queue l)) seq offset len ≡ Some block) (sym all_asked)
      (told_stands stay queue version w.seq w.told w.told.items asked seq offset len block (ap (λ (l : List NumberedBytes). bytes_at l seq offset len) are ∙ there))

pub contents_stay : FoundFilesAreReady → BytesStay → FoundContentsStay
contents_stay ready stay content version base asks lasting told append rewrite append_left rewrite_left engine o other other_told e (inl s) =
    let w = o.read.are_wanted in
    let m = made ready version append rewrite engine o in
    let stands = stays_in ready version append rewrite engine o stay Append append w.append_left w.append_missing (w.append_ready []) m.append_files s.cut s.are_cut s.place.id.seq s.place.offset s.place.len s.block s.stands in
    other_told.0.0 s.place s.block s.of_queue stands e s.placed s.inside
    ∙ sym (lasting.told Append told.0 append s.cut append_left s.are_cut s.place s.block s.of_queue s.stands e s.placed s.inside)
contents_stay ready stay content version base asks lasting told append rewrite append_left rewrite_left engine o other other_told e (inr s) =
    let w = o.read.are_wanted in
    let m = made ready version append rewrite engine o in
    let stands = stays_in ready version append rewrite engine o stay Rewrite rewrite w.rewrite_left w.rewrite_missing (w.rewrite_ready []) m.rewrite_files s.cut s.are_cut s.place.id.seq s.place.offset s.place.len s.block s.stands in
    other_told.1.0 s.place s.block s.of_queue stands e s.placed s.inside
    ∙ sym (lasting.told Rewrite told.1 rewrite s.cut rewrite_left s.are_cut s.place s.block s.of_queue s.stands e s.placed s.inside)
