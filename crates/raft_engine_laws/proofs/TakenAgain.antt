-- Tables take items that move records within the rewrite queue, of many regions and in any order, if their rewritten pairs are in no later file.
use Rattle.raft_engine_laws.proofs.Common.{◌≡◌, ℕ, ◌≤◌, eqb, Bool, true, false, cond, List, [], ◌∷◌, ◌++◌, Option, Some, None, option_map, inl, inr, refl, sym, ap, subst, ◌∙◌, append-nil, arith, flat_map, nat_lt, false≢true, nat_tests, AllByRecursion, option_and_then, EntryIndex}
use Rattle.raft_engine_laws.proofs.Common.{FileId, LogQueue, Append, Rewrite, OpType, is_reserved, Item, Content, Pair, entries, command, pair, Stored, moved_to, with_moved, Run, Put, Del, Step, table_of, Table, after_rewrite_key, rewritten_in, rewritten_pair, placed_in}
use Rattle.raft_engine_laws.proofs.Common.{AreTableEntries, RegionStep, Tables, pair_step, steps_of_items, steps_on, with_table, by_region, with_own, with_other, own_head, own_other, with_step, Rewriting, after_content, after_items, after_rewrite_pair, with_change, with_same}
use Rattle.raft_engine_laws.proofs.Common.{AreCopies, IsPutAgain, MoveAgain, MovesAgain, entries_on, run_of}
use Rattle.std.specs.FinMap as finite
use Rattle.raft_records.specs.declared.key_value.OpType.TheVariants as operations
use Rattle.raft_engine_laws.proofs.AgainSteps.{IsAgain, copies_split, put_again, run_again, takes}
use Rattle.raft_engine_laws.proofs.CopiedPairs.{now_there}

-- ---- the entries of items

-- a run more
pub entries_run : (r id : ℕ) (e : EntryIndex) (es : List EntryIndex) (items : List Item) → r ≡ id → entries_on r (record { raft_group_id = id; content = entries (e ∷ es) } ∷ items) ≡ (e ∷ es) ++ entries_on r items
entries_run r id e es items same =
    ap (λ q. entries_on q (record { raft_group_id = id; content = entries (e ∷ es) } ∷ items)) same
    ∙ ap (λ (l : List Step). flat_map run_of l) (own_head (record { region = id; step = Run (e ∷ es) }) (steps_of_items items))
    ∙ ap (λ q. (e ∷ es) ++ entries_on q items) (sym same)

-- steps on another region, or of a key
step_none : (r : ℕ) (s : RegionStep) (steps : List RegionStep) → run_of s.step ≡ [] → flat_map run_of (steps_on r (s ∷ steps)) ≡ flat_map run_of (steps_on r steps)
step_none r s steps none = elim (by_region r s.region) [
  | inl same ↦ ap (λ q. flat_map run_of (steps_on q (s ∷ steps))) same ∙ ap (λ (l : List Step). flat_map run_of l) (own_head s steps)
      ∙ ap (λ (l : List EntryIndex). l ++ flat_map run_of (steps_on s.region steps)) none ∙ ap (λ q. flat_map run_of (steps_on q steps)) (sym same)
  | inr other ↦ ap (λ (l : List Step). flat_map run_of l) (own_other r s steps other.0)
]

-- a change of a key has none
pub entries_pair : (r id : ℕ) (p : Pair) (items : List Item) → entries_on r (record { raft_group_id = id; content = pair p } ∷ items) ≡ entries_on r items
entries_pair r id p items = go (is_reserved p.key)
  where
    step : (op : OpType) (value : Option (List ℕ)) (file : Option FileId) → flat_map run_of (steps_on r (with_step id (pair_step op p.key value file) (steps_of_items items))) ≡ flat_map run_of (steps_on r (steps_of_items items))
    step operations.Put (Some value) (Some file) = step_none r (record { region = id; step = Put p.key value file }) (steps_of_items items) refl
    step operations.Put (Some value) None = refl
    step operations.Put None file = refl
    step operations.Del value file = step_none r (record { region = id; step = Del p.key }) (steps_of_items items) refl

    go : (b : Bool) → flat_map run_of (steps_on r (with_step id (cond b None (pair_step p.op_type p.key p.value p.file_id)) (steps_of_items items))) ≡ flat_map run_of (steps_on r (steps_of_items items))
    go true = refl
    go false = step p.op_type p.value p.file_id

-- ---- in the midst of the items

-- a pair in a file up to the one that it moves to
low_moves : (seq : ℕ) (k : Table) (key : List ℕ) (x : Stored) → finite.get k.keys key ≡ Some x → x.file.queue ≡ Rewrite → x.file.seq ≤ seq
    → after_rewrite_key None seq k key ≡ Some (record k { keys = finite.insert k.keys key (record x { file = record { queue = Rewrite; seq = seq } }) })
low_moves seq k key x there queue low =
    ap (option_map (λ keys. record k { keys = keys })) (
    ap (λ (o : Option Stored). rewritten_in None seq k.keys key (option_map (λ (y : Stored). y.file) o)) there
    ∙ ap (λ (l : LogQueue). rewritten_pair None seq k.keys key l x.file.seq) queue
    ∙ ap (λ b. cond b None (Some (with_moved k.keys key (record { queue = Rewrite; seq = seq })))) (not_below seq x.file.seq low)
    ∙ ap (λ (o : Option Stored). Some (moved_to (record { queue = Rewrite; seq = seq }) k.keys key o)) there)
  where
    not_below : (n m : ℕ) → m ≤ n → nat_lt n m ≡ false
    not_below n m low = grind (arith, nat_tests)

module _ (content : EntryIndex → List ℕ) (seq : ℕ) (tables : Tables) (sound : (r : ℕ) → AreTableEntries (table_of r (finite.get tables r)).entries)
    (low : (r : ℕ) (key : List ℕ) (s : Stored) → finite.get (table_of r (finite.get tables r)).keys key ≡ Some s → s.file.queue ≡ Rewrite → s.file.seq ≤ seq) where
  abbrev to : FileId
  to = record { queue = Rewrite; seq = seq }

  abbrev own : ℕ → Table
  own r = table_of r (finite.get tables r)

  -- what the rewrite files give of a region
  abbrev given : ℕ → Table
  given r = record (own r) { entries = placed_in Rewrite (own r).entries }

  -- a region's table in the midst of the items, of which these are left
  pub record IsMidway (m : Tables) (items : List Item) (r : ℕ) : Type 0 where
    pub put : Table
    pub todo : List EntryIndex
    pub again : IsAgain content seq r (own r) (given r) (sound r) refl (table_of r (finite.get m r)) put todo
    pub copies : AreCopies content (entries_on r items) todo

  abbrev Moves : Item → Type 0
  Moves item = MovesAgain to (own item.raft_group_id).keys item.content

  abbrev Taken : Tables → List Item → Type 0
  Taken m items = (n : Tables) × (after_items (Rewriting None seq) m items ≡ Some n)

  -- where the table of one region changes
  change : (m : Tables) (id : ℕ) (u : Table) (item : Item) (items : List Item) → ((r : ℕ) → IsMidway m (item ∷ items) r)
      → ((r : ℕ) → eqb r id ≡ false → entries_on r (item ∷ items) ≡ entries_on r items)
      → (put : Table) (todo : List EntryIndex) → IsAgain content seq id (own id) (given id) (sound id) refl u put todo → AreCopies content (entries_on id items) todo
      → (r : ℕ) → IsMidway (with_table m id (Some u)) items r
  change m id u item items h other put todo again copies r = elim (by_region r id) [
    | inl same ↦ subst (λ q. IsMidway (with_table m id (Some u)) items q) (sym same) (record {
      put = put;
      todo = todo;
      again = subst (λ (o : Option Table). IsAgain content seq id (own id) (given id) (sound id) refl (table_of id o) put todo) (sym (with_own m id (Some u))) again;
      copies = copies;
    })
    | inr o ↦ record {
      put = (h r).put;
      todo = (h r).todo;
      again = subst (λ (x : Option Table). IsAgain content seq r (own r) (given r) (sound r) refl (table_of r x) (h r).put (h r).todo) (sym (with_other m id r (Some u) o.1)) (h r).again;
      copies = subst (λ l. AreCopies content l (h r).todo) (other r o.0) (h r).copies;
    }
  ]

  -- a run of copies
  module _ (m : Tables) (id : ℕ) (e : EntryIndex) (es : List EntryIndex) (items : List Item) (h : (r : ℕ) → IsMidway m (record { raft_group_id = id; content = entries (e ∷ es) } ∷ items) r)
      (rest : (n : Tables) → ((r : ℕ) → IsMidway n items r) → Taken n items) where
    abbrev item : Item
    item = record { raft_group_id = id; content = entries (e ∷ es) }

    abbrev k : Table
    k = table_of id (finite.get m id)

    other : (r : ℕ) → eqb r id ≡ false → entries_on r (item ∷ items) ≡ entries_on r items
    other r o = ap (λ (l : List Step). flat_map run_of l) (own_other r (record { region = id; step = Run (e ∷ es) }) (steps_of_items items) o)

    run_taken : (a b : List EntryIndex) → (h id).todo ≡ a ++ b → AreCopies content (e ∷ es) a → AreCopies content (entries_on id items) b → Taken m (item ∷ items)
    run_taken [] b two c d = absurd c
    run_taken (x ∷ xs) b two c d =
        let s = h id in
        let after = s.again.copies ++ (e ∷ es ++ (b ++ (s.again.rest ++ placed_in Append (own id).entries))) in
        let u : Table = record k { entries = after } in
        let more = run_again content seq id (own id) (given id) (sound id) refl k s.put s.todo b x xs e es s.again two c in
        let r = rest (with_table m id (Some u)) (change m id u item items h other _ b more d) in
        let first : after_content (Rewriting None seq) id (finite.get m id) (entries (e ∷ es)) ≡ Some (Some u) =
        ap (λ (o : Option (List EntryIndex)). option_map Some (option_map {U = Table} (λ l. record k { entries = l }) o))
        (takes content seq id (own id) (given id) (sound id) refl k s.put s.todo b x xs e es s.again two c) in
        (r.0, ap (option_and_then (λ o. after_items (Rewriting None seq) (with_table m id o) items)) first ∙ r.1)

    run_moves : Taken m (item ∷ items)
    run_moves =
        let c = copies_split content (e ∷ es) (entries_on id items) (h id).todo (subst (λ l. AreCopies content l (h id).todo) (entries_run id id e es items refl) (h id).copies) in
        run_taken c.0 c.1 c.2 c.3 c.4

  -- the change of a key
  module _ (m : Tables) (id : ℕ) (p : Pair) (items : List Item) (h : (r : ℕ) → IsMidway m (record { raft_group_id = id; content = pair p } ∷ items) r)
      (rest : (n : Tables) → ((r : ℕ) → IsMidway n items r) → Taken n items) where
    abbrev change_item : Item
    change_item = record { raft_group_id = id; content = pair p }

    abbrev here : Table
    here = table_of id (finite.get m id)

    -- it is skipped
    skipped : is_reserved p.key ≡ true → Taken m (change_item ∷ items)
    skipped reserved =
        let r = rest m (λ r. record { put = (h r).put; todo = (h r).todo; again = (h r).again; copies = subst (λ l. AreCopies content l (h r).todo) (entries_pair r id p items) (h r).copies }) in (
          r.0,
          ap (λ b. option_and_then (λ o. after_items (Rewriting None seq) (with_table m id o) items) (cond b (Some (finite.get m id)) (option_map Some (with_change (Rewriting None seq) here p)))) reserved
              ∙ ap (λ n. after_items (Rewriting None seq) n items) (with_same m id) ∙ r.1,
        )

    -- or put again
    put_taken : is_reserved p.key ≡ false → IsPutAgain to (own id).keys p → Taken m (change_item ∷ items)
    put_taken plain q =
        let s = h id in
        let u : Table = record here { keys = finite.insert here.keys p.key (record q.stored { file = to }) } in
        let moved : after_rewrite_key None seq here p.key ≡ Some u = elim (now_there None seq (own id).keys (given id).keys here.keys s.put.keys p.key q.stored q.there s.again.pairs) [
          | inl there ↦ low_moves seq here p.key q.stored there q.queue (low id p.key q.stored q.there q.queue)
          | inr there ↦ low_moves seq here p.key (record q.stored { file = to }) there refl (omega arith)
        ] in
        let more = put_again content seq id (own id) (given id) (sound id) refl here s.put s.todo p.key q.stored.value to (Some u) s.again (q.stored, q.there, q.queue, refl, refl) (ap (option_map Some) moved) in
        let r = rest (with_table m id (Some u)) (change m id u change_item items h (λ r o. entries_pair r id p items) _ s.todo more (subst (λ l. AreCopies content l s.todo) (entries_pair id id p items) s.copies)) in
        let first : after_content (Rewriting None seq) id (finite.get m id) (pair p) ≡ Some (Some u) =
        ap (λ b. cond b (Some (finite.get m id)) (option_map Some (with_change (Rewriting None seq) here p))) plain
        ∙ ap (λ (op : OpType). option_map Some (after_rewrite_pair None seq here op p.key p.value)) q.put
        ∙ ap (λ (v : Option (List ℕ)). option_map Some (after_rewrite_pair None seq here operations.Put p.key v)) q.value ∙ ap (option_map Some) moved in
        (r.0, ap (option_and_then (λ o. after_items (Rewriting None seq) (with_table m id o) items)) first ∙ r.1)

    change_moves : MovesAgain to (own id).keys (pair p) → Taken m (change_item ∷ items)
    change_moves a = go (is_reserved p.key) refl
      where
        go : (b : Bool) → is_reserved p.key ≡ b → Taken m (change_item ∷ items)
        go true e = skipped e
        go false e = elim a [ inl r ↦ absurd (false≢true (sym e ∙ r)) | inr q ↦ put_taken e q ]

  -- ---- all items

  all_taken : (items : List Item) (m : Tables) → AllByRecursion Moves items → ((r : ℕ) → IsMidway m items r) → Taken m items
  all_taken [] m all h = (m, refl)
  all_taken (item ∷ items) m all h = go item.raft_group_id item.content all.0 h (λ n k. all_taken items n all.1 k)
    where
      go : (id : ℕ) (c : Content) → Moves (record { raft_group_id = id; content = c }) → ((r : ℕ) → IsMidway m (record { raft_group_id = id; content = c } ∷ items) r)
          → ((n : Tables) → ((r : ℕ) → IsMidway n items r) → Taken n items) → Taken m (record { raft_group_id = id; content = c } ∷ items)
      go id (entries []) a h rest = absurd a
      go id (entries (e ∷ es)) a h rest = run_moves m id e es items h rest
      go id (command c) a h rest = absurd a
      go id (pair p) a h rest = change_moves m id p items h rest a

  at_first : (items : List Item) → MoveAgain content tables to items → (r : ℕ) → IsMidway tables items r
  at_first items a r = elim (a.copied r) [
    | inl none ↦ record {
      put = given r;
      todo = [];
      again = record { done = []; copies = []; rest = placed_in Rewrite (own r).entries; split = refl; copied = tt; ends = inr (refl, refl); entries = (sound r).in_front; read = refl; pairs = λ key. inl (refl, refl) };
      copies = subst (λ l. AreCopies content l []) (sym none) tt;
    }
    | inr copies ↦ record {
      put = given r;
      todo = placed_in Rewrite (own r).entries;
      again = record { done = []; copies = []; rest = []; split = sym (append-nil (placed_in Rewrite (own r).entries)); copied = tt; ends = inl refl; entries = (sound r).in_front; read = refl; pairs = λ key. inl (refl, refl) };
      copies = copies;
    }
  ]

  pub again_is_taken : (items : List Item) → MoveAgain content tables to items → Taken tables items
  again_is_taken items a = all_taken items tables a.contents (at_first items a)
