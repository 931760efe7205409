-- Items that move records within the rewrite queue, region by region.
use Rattle.raft_engine_laws.proofs.Common.{◌≡◌, ◌⊎◌, ℕ, Bool, true, false, cond, List, [], ◌∷◌, ◌++◌, map, Option, Some, None, option_map, if◌then◌else◌, inl, inr, refl, sym, ap, subst, ◌∙◌, append-nil, filter, flat_map, AllByRecursion, option_and_then, false≢true, eqb-true}
use Rattle.raft_engine_laws.proofs.Common.{EntryIndex, FileId, Rewrite, OpType, is_reserved, Item, Content, entries, command, pair, Keys, Step, Run, Compact, Truncate, Put, Del, AtomicGroup, Clean, table_of, after, Table, after_rewrite, after_rewrite_key, placed_in}
use Rattle.raft_engine_laws.proofs.Common.{AreTableEntries, same_some, RegionStep, Tables, with_table, content_step, pair_step, steps_of_items, steps_on, by_region, with_own, with_other, own_none, own_head, own_other, is_on, with_step, Rewriting, after_content, after_items}
use Rattle.raft_engine_laws.proofs.Common.{after_rewrite_pair, with_change, some_is, none_some, with_same, AreCopies, AreRecordsMoved, run_of, MovesAgain, MoveAgain}
use Rattle.std.specs.FinMap as finite
use Rattle.raft_records.specs.declared.key_value.OpType.TheVariants as operations
use Rattle.raft_engine_laws.proofs.AgainSteps.{after_again, afters_again, IsStepAgain, IsAgain, none_copied, copies_split, takes, reads, run_again, put_again, at_end}

-- ---- many steps on a region

module _ (content : EntryIndex → List ℕ) (seq id : ℕ) (t w : Table) (sound : AreTableEntries t.entries) (told : w.entries ≡ placed_in Rewrite t.entries) where
  abbrev to : FileId
  to = record { queue = Rewrite; seq = seq }

  abbrev IsMidway : Table → Table → List EntryIndex → Type 0
  IsMidway k p todo = IsAgain content seq id t w sound told k p todo

  steps_again : (ss : List Step) (o q v u : Option Table) (todo : List EntryIndex) → AllByRecursion (IsStepAgain to t.keys) ss → IsMidway (table_of id o) (table_of id q) todo → AreCopies content (flat_map run_of ss) todo
      → afters_again seq id o ss ≡ Some v → after Rewrite id q ss ≡ Some u → AreRecordsMoved content to t (table_of id v) w (table_of id u)
  steps_again [] o q v u todo all h copies is puts =
      subst (λ (x : Option Table). AreRecordsMoved content to t (table_of id x) w (table_of id u)) (same_some o v is) (subst (λ (x : Option Table). AreRecordsMoved content to t (table_of id o) w (table_of id x)) (same_some q u puts)
      (at_end content seq id t w sound told (table_of id o) (table_of id q) (subst (IsMidway (table_of id o) (table_of id q)) (none_copied content todo copies) h)))
  steps_again (Run [] ∷ ss) o q v u todo all h copies is puts = absurd all.0
  steps_again (Run (g ∷ gs) ∷ ss) o q v u todo all h copies is puts =
      let c : (a : List EntryIndex) × (b : List EntryIndex) × (todo ≡ a ++ b) × AreCopies content (g ∷ gs) a × AreCopies content (flat_map run_of ss) b = copies_split content (g ∷ gs) (flat_map run_of ss) todo copies in
      go (λ o q b. steps_again ss o q v u b all.1) c.0 c.1 c.2 c.3 c.4
    where
      go : ((o q : Option Table) (b : List EntryIndex) → IsMidway (table_of id o) (table_of id q) b → AreCopies content (flat_map run_of ss) b →
          afters_again seq id o ss ≡ Some v → after Rewrite id q ss ≡ Some u → AreRecordsMoved content to t (table_of id v) w (table_of id u))
          → (a b : List EntryIndex) → todo ≡ a ++ b → AreCopies content (g ∷ gs) a → AreCopies content (flat_map run_of ss) b → AreRecordsMoved content to t (table_of id v) w (table_of id u)
      go rest [] b two k l = absurd k
      go rest (m ∷ ms) b two k l = rest _ _ b (run_again content seq id t w sound told (table_of id o) (table_of id q) todo b m ms g gs h two k) l
          (sym (ap (λ (x : Option (List EntryIndex)). option_and_then (λ u. afters_again seq id u ss)
          (option_map Some (option_map {U = Table} (λ es. record (table_of id o) { entries = es }) x)))
          (takes content seq id t w sound told (table_of id o) (table_of id q) todo b m ms g gs h two k)) ∙ is)
          (sym (ap (λ (x : Option (List EntryIndex)). option_and_then (λ u. after Rewrite id u ss)
          (option_map Some (option_map {U = Table} (λ es. record (table_of id q) { entries = es }) x)))
          (reads content seq id t w sound told (table_of id o) (table_of id q) todo b m ms g gs h two k)) ∙ puts)
  steps_again (Put key value file ∷ ss) o q v u todo all h copies is puts = go (λ o q h is puts. steps_again ss o q v u todo all.1 h copies is puts) (after_again seq (table_of id o) (Put key value file)) refl is
    where
      go : ((o q : Option Table) → IsMidway (table_of id o) (table_of id q) todo → afters_again seq id o ss ≡ Some v → after Rewrite id q ss ≡ Some u → AreRecordsMoved content to t (table_of id v) w (table_of id u))
          → (x : Option (Option Table)) → after_again seq (table_of id o) (Put key value file) ≡ x → option_and_then (λ u. afters_again seq id u ss) x ≡ Some v → AreRecordsMoved content to t (table_of id v) w (table_of id u)
      go rest None e k = absurd (none_some k)
      go rest (Some y) e k = rest y (Some (record (table_of id q) { keys = finite.insert (table_of id q).keys key (record { value = value; file = file }) }))
          (put_again content seq id t w sound told (table_of id o) (table_of id q) todo key value file y h all.0 e) k puts
  steps_again (Compact i ∷ ss) o q v u todo all h copies is puts = absurd all.0
  steps_again (Truncate i ∷ ss) o q v u todo all h copies is puts = absurd all.0
  steps_again (Del key ∷ ss) o q v u todo all h copies is puts = absurd all.0
  steps_again (AtomicGroup a b ∷ ss) o q v u todo all h copies is puts = absurd all.0
  steps_again (Clean ∷ ss) o q v u todo all h copies is puts = absurd all.0

  -- from the tables as they were
  pub all_again : (ss : List Step) (o q v u : Option Table) → AllByRecursion (IsStepAgain to t.keys) ss → table_of id o ≡ t → table_of id q ≡ w →
      (flat_map run_of ss ≡ []) ⊎ AreCopies content (flat_map run_of ss) (placed_in Rewrite t.entries)
      → afters_again seq id o ss ≡ Some v → after Rewrite id q ss ≡ Some u → AreRecordsMoved content to t (table_of id v) w (table_of id u)
  all_again ss o q v u all at_o at_q (inl none) is puts = steps_again ss o q v u [] all (subst (λ k. IsMidway k (table_of id q) []) (sym at_o) (subst (λ p. IsMidway t p []) (sym at_q) (record {
    done = [];
    copies = [];
    rest = placed_in Rewrite t.entries;
    split = refl;
    copied = tt;
    ends = inr (refl, refl);
    entries = sound.in_front;
    read = told;
    pairs = λ key. inl (refl, refl);
  }))) (subst (λ l. AreCopies content l []) (sym none) tt) is puts
  all_again ss o q v u all at_o at_q (inr copies) is puts = steps_again ss o q v u (placed_in Rewrite t.entries) all
      (subst (λ k. IsMidway k (table_of id q) (placed_in Rewrite t.entries)) (sym at_o)
      (subst (λ p. IsMidway t p (placed_in Rewrite t.entries)) (sym at_q) (record {
        done = [];
        copies = [];
        rest = [];
        split = sym (append-nil (placed_in Rewrite t.entries));
        copied = tt;
        ends = inl refl;
        entries = sound.in_front;
        read = told;
        pairs = λ key. inl (refl, refl);
      }))) copies is puts

-- ---- all regions

-- all tables after such steps in order
abbrev tables_again : ℕ → Tables → List RegionStep → Option Tables
tables_again seq tables [] = Some tables
tables_again seq tables (s ∷ steps) = option_and_then (λ t. tables_again seq (with_table tables s.region t) steps) (after_again seq (table_of s.region (finite.get tables s.region)) s.step)

module _ (file : FileId) (seq : ℕ) (keys : Keys) (m n : Tables) (id : ℕ) (rest : List RegionStep) (later : Tables → Option Tables) (h : (k : Tables) → later k ≡ Some n → tables_again seq k rest ≡ Some n) where
  pair_again : (op : OpType) (key : List ℕ) (value : Option (List ℕ)) (at : Option FileId) (v : List ℕ) (f : FileId) → op ≡ operations.Put → value ≡ Some v → at ≡ Some f
      → option_and_then (λ t. later (with_table m id t)) (option_map Some (after_rewrite_pair None seq (table_of id (finite.get m id)) op key value)) ≡ Some n → tables_again seq m (with_step id (pair_step op key value at) rest) ≡ Some n
  pair_again operations.Put key (Some value) (Some at) v f a b c e =
      elim (after_rewrite_key None seq (table_of id (finite.get m id)) key)
      as (λ o. option_and_then (λ t. later (with_table m id t)) (option_map Some o) ≡ Some n →
      option_and_then (λ t. tables_again seq (with_table m id t) rest) (option_map Some o) ≡ Some n) [
        | None ↦ λ e. absurd (none_some e)
        | Some t ↦ λ e. h _ e
      ] e
  pair_again operations.Put key (Some value) None v f a b c e = absurd (none_some c)
  pair_again operations.Put key None at v f a b c e = absurd (none_some b)
  pair_again operations.Del key value at v f a b c e = absurd cc

  content_again : (content : Content) → MovesAgain file keys content →
      option_and_then (λ t. later (with_table m id t)) (after_content (Rewriting None seq) id (finite.get m id) content) ≡ Some n →
      tables_again seq m (with_step id (content_step content) rest) ≡ Some n
  content_again (entries []) a e = absurd a
  content_again (entries (x ∷ es)) a e =
      elim (after_rewrite None (table_of id (finite.get m id)) (x ∷ es))
      as (λ o. option_and_then (λ t. later (with_table m id t)) (option_map Some o) ≡ Some n →
      option_and_then (λ t. tables_again seq (with_table m id t) rest) (option_map Some o) ≡ Some n) [
        | None ↦ λ e. absurd (none_some e)
        | Some t ↦ λ e. h _ e
      ] e
  content_again (command c) a e = absurd a
  content_again (pair p) a e = go (is_reserved p.key) refl e
    where
      go : (b : Bool) → is_reserved p.key ≡ b → option_and_then (λ t. later (with_table m id t)) (if b then Some (finite.get m id) else option_map Some (with_change (Rewriting None seq) (table_of id (finite.get m id)) p)) ≡ Some n
          → tables_again seq m (with_step id (if b then None else pair_step p.op_type p.key p.value p.file_id) rest) ≡ Some n
      go true k e = h m (subst (λ k. later k ≡ Some n) (with_same m id) e)
      go false k e = elim a [
        | inl r ↦ absurd (false≢true (sym k ∙ r))
        | inr q ↦ pair_again p.op_type p.key p.value p.file_id q.stored.value file q.put q.value q.in_file e
      ]

items_again : (file : FileId) (seq : ℕ) (keys : ℕ → Keys) (m n : Tables) (items : List Item) →
    AllByRecursion (λ (item : Item). MovesAgain file (keys item.raft_group_id) item.content) items →
    after_items (Rewriting None seq) m items ≡ Some n → tables_again seq m (steps_of_items items) ≡ Some n
items_again file seq keys m n [] all e = e
items_again file seq keys m n (item ∷ items) all e =
    content_again file seq (keys item.raft_group_id) m n item.raft_group_id (steps_of_items items) (λ k. after_items (Rewriting None seq) k items) (λ k. items_again file seq keys k n items all.1) item.content all.0 e

-- region by region
again_by_region : (seq : ℕ) (m n : Tables) (steps : List RegionStep) → tables_again seq m steps ≡ Some n → (r : ℕ) → afters_again seq r (finite.get m r) (steps_on r steps) ≡ Some (finite.get n r)
again_by_region seq m n [] e r = ap (afters_again seq r (finite.get m r)) (own_none r) ∙ ap (λ (t : Tables). Some (finite.get t r)) (same_some m n e)
again_by_region seq m n (s ∷ steps) e r = go (λ k e. again_by_region seq k n steps e r) (after_again seq (table_of s.region (finite.get m s.region)) s.step) refl e
  where
    go : ((k : Tables) → tables_again seq k steps ≡ Some n → afters_again seq r (finite.get k r) (steps_on r steps) ≡ Some (finite.get n r))
        → (x : Option (Option Table)) → after_again seq (table_of s.region (finite.get m s.region)) s.step ≡ x → option_and_then (λ t. tables_again seq (with_table m s.region t) steps) x ≡ Some n
        → afters_again seq r (finite.get m r) (steps_on r (s ∷ steps)) ≡ Some (finite.get n r)
    go rest None k e = absurd (none_some e)
    go rest (Some u) k e = elim (by_region r s.region) [
      | inl same ↦ subst (λ q. afters_again seq q (finite.get m q) (steps_on q (s ∷ steps)) ≡ Some (finite.get n q)) (sym same)
          (ap (afters_again seq s.region (finite.get m s.region)) (own_head s steps) ∙ ap (option_and_then (λ u. afters_again seq s.region u (steps_on s.region steps))) k
          ∙ subst (λ o. afters_again seq s.region o (steps_on s.region steps) ≡ Some (finite.get n s.region)) (with_own m s.region u)
          (subst (λ q. afters_again seq q (finite.get (with_table m s.region u) q) (steps_on q steps) ≡ Some (finite.get n q)) same
          (rest (with_table m s.region u) e)))
      | inr other ↦ ap (afters_again seq r (finite.get m r)) (own_other r s steps other.0) ∙ subst (λ o. afters_again seq r o (steps_on r steps) ≡ Some (finite.get n r)) (with_other m s.region r u other.1) (rest (with_table m s.region u) e)
    ]

-- ---- what the steps are

one_step : (file : FileId) (keys : Keys) (c : Content) → MovesAgain file keys c → (s : Step) → content_step c ≡ Some s → IsStepAgain file keys s
one_step file keys (entries []) a s e = absurd a
one_step file keys (entries (x ∷ es)) a s e = subst (IsStepAgain file keys) (some_is e) tt
one_step file keys (command c) a s e = absurd a
one_step file keys (pair p) (inl r) s e = absurd (none_some (sym (ap (λ b. cond b None (pair_step p.op_type p.key p.value p.file_id)) r) ∙ e))
one_step file keys (pair p) (inr q) s e = go (is_reserved p.key) e
  where
    is : pair_step p.op_type p.key p.value p.file_id ≡ Some (Put p.key q.stored.value file)
    is = ap (λ (op : OpType). pair_step op p.key p.value p.file_id) q.put
        ∙ ap (λ (v : Option (List ℕ)). pair_step operations.Put p.key v p.file_id) q.value
        ∙ ap (λ (f : Option FileId). pair_step operations.Put p.key (Some q.stored.value) f) q.in_file

    go : (b : Bool) → cond b None (pair_step p.op_type p.key p.value p.file_id) ≡ Some s → IsStepAgain file keys s
    go true e = absurd (none_some e)
    go false e = subst (IsStepAgain file keys) (some_is (sym is ∙ e)) (q.stored, q.there, q.queue, refl, refl)

each_step : (file : FileId) (keys : ℕ → Keys) (items : List Item) →
    AllByRecursion (λ (item : Item). MovesAgain file (keys item.raft_group_id) item.content) items →
    AllByRecursion (λ (i : RegionStep). IsStepAgain file (keys i.region) i.step) (steps_of_items items)
each_step file keys [] h = tt
each_step file keys (item ∷ items) h = go (content_step item.content) (one_step file (keys item.raft_group_id) item.content h.0) (each_step file keys items h.1)
  where
    go : (o : Option Step) → ((s : Step) → o ≡ Some s → IsStepAgain file (keys item.raft_group_id) s) → AllByRecursion (λ (i : RegionStep). IsStepAgain file (keys i.region) i.step) (steps_of_items items)
        → AllByRecursion (λ (i : RegionStep). IsStepAgain file (keys i.region) i.step) (with_step item.raft_group_id o (steps_of_items items))
    go None h rest = rest
    go (Some s) h rest = (h s refl, rest)

on_own : (P : ℕ → Step → Type 0) (r : ℕ) (is : List RegionStep) → AllByRecursion (λ (i : RegionStep). P i.region i.step) is → AllByRecursion (P r) (steps_on r is)
unfolding steps_on
on_own P r [] h = tt
on_own P r (i ∷ is) h = go (is_on r i) refl (on_own P r is h.1)
  where
    go : (b : Bool) → is_on r i ≡ b → AllByRecursion (P r) (map (λ i. i.step) (filter (is_on r) is)) → AllByRecursion (P r) (map (λ i. i.step) (cond b (i ∷ filter (is_on r) is) (filter (is_on r) is)))
    go true k rest = (subst (λ q. P q i.step) (sym (eqb-true r i.region k)) h.0, rest)
    go false k rest = rest

-- what such items make of a region
pub region_again : (content : EntryIndex → List ℕ) (seq r : ℕ) (m n : Tables) (items : List Item) (w u : Option Table) → MoveAgain content m (record { queue = Rewrite; seq = seq }) items → after_items (Rewriting None seq) m items ≡ Some n
    → AreTableEntries (table_of r (finite.get m r)).entries → (table_of r w).entries ≡ placed_in Rewrite (table_of r (finite.get m r)).entries → after Rewrite r w (steps_on r (steps_of_items items)) ≡ Some u
    → AreRecordsMoved content (record { queue = Rewrite; seq = seq }) (table_of r (finite.get m r)) (table_of r (finite.get n r)) (table_of r w) (table_of r u)
region_again content seq r m n items w u a is sound told puts =
    all_again content seq r (table_of r (finite.get m r)) (table_of r w) sound told (steps_on r (steps_of_items items)) (finite.get m r) w (finite.get n r) u
    (on_own (λ q s. IsStepAgain (record { queue = Rewrite; seq = seq }) (table_of q (finite.get m q)).keys s) r (steps_of_items items)
    (each_step (record { queue = Rewrite; seq = seq }) (λ q. (table_of q (finite.get m q)).keys) items a.contents))
    refl refl (a.copied r) (again_by_region seq m n (steps_of_items items) (items_again (record { queue = Rewrite; seq = seq }) seq (λ q. (table_of q (finite.get m q)).keys) m n items a.contents is) r) puts
