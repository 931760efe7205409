-- The items that take something away of the tables, beside the steps that do, and where they are placed.
use Rattle.raft_engine_laws.proofs.Common.{◌≡◌, ℕ, Bool, true, false, cond, List, [], ◌∷◌, ◌++◌, map, Option, Some, None, refl, sym, ap, subst, ◌∙◌, CompressionType, FileBlockHandle, FileId, end_of, OpType, is_reserved, Item, Content, entries, command, pair, placed_content}
use Rattle.raft_engine_laws.proofs.Common.{placed_item, Step, table_of, Tables, content_step, pair_step, steps_on, steps_of_items, with_step, some_is, none_some, SayTheSame, takes_away, taking_steps, told_of, told_items, is_deletion, content_takes_away, item_takes_from}
use Rattle.raft_engine_laws.proofs.Common.{taking_items}
use Rattle.std.specs.FinMap as finite
use Rattle.raft_records.specs.declared.command.Command.TheVariants as commands
use Rattle.raft_records.specs.declared.key_value.OpType.TheVariants as operations
use Rattle.raft_engine_laws.proofs.ToldItems.{told_same}

-- ---- items and their steps

-- a content takes away just where its step does
word : (end : ℕ) (c : Content) (s : Step) → content_step c ≡ Some s → takes_away end s ≡ content_takes_away end c
word end (entries []) s k = ap (takes_away end) (some_is (sym k))
word end (entries (e ∷ es)) s k = ap (takes_away end) (some_is (sym k))
word end (command commands.Clean) s k = ap (takes_away end) (some_is (sym k))
word end (command (commands.Compact i)) s k = ap (takes_away end) (some_is (sym k))
word end (command (commands.Truncate i)) s k = ap (takes_away end) (some_is (sym k))
word end (pair p) s k = of p.op_type p.value p.file_id (is_reserved p.key) k
  where
    of : (op : OpType) (value : Option (List ℕ)) (file : Option FileId) (b : Bool) → cond b None (pair_step op p.key value file) ≡ Some s → takes_away end s ≡ is_deletion op
    of op value file true k = absurd (none_some k)
    of operations.Put (Some value) (Some file) false k = ap (takes_away end) (some_is (sym k))
    of operations.Put (Some value) None false k = absurd (none_some k)
    of operations.Put None file false k = absurd (none_some k)
    of operations.Del value file false k = ap (takes_away end) (some_is (sym k))

module _ (tables : Tables) where
  same_steps : (items : List Item) → steps_of_items (taking_items tables items) ≡ taking_steps tables (steps_of_items items)
  same_steps [] = refl
  same_steps (item ∷ items) = go (content_step item.content) refl (item_takes_from tables item) refl (same_steps items)
    where
      go : (o : Option Step) → content_step item.content ≡ o → (b : Bool) → item_takes_from tables item ≡ b → steps_of_items (taking_items tables items) ≡ taking_steps tables (steps_of_items items)
          → steps_of_items (cond b (item ∷ (taking_items tables items)) (taking_items tables items)) ≡ taking_steps tables (with_step item.raft_group_id o (steps_of_items items))
      go None k true l ih = ap (λ o. with_step item.raft_group_id o (steps_of_items (taking_items tables items))) k ∙ ih
      go None k false l ih = ih
      go (Some s) k true l ih = ap (λ o. with_step item.raft_group_id o (steps_of_items (taking_items tables items))) k ∙ ap (λ l. record { region = item.raft_group_id; step = s } ∷ l) ih
          ∙ ap (λ c. cond c (record { region = item.raft_group_id; step = s } ∷ taking_steps tables (steps_of_items items))
          (taking_steps tables (steps_of_items items)))
          (sym (word (end_of (table_of item.raft_group_id (finite.get tables item.raft_group_id)).entries) item.content s k ∙ l))
      go (Some s) k false l ih = ih
          ∙ ap (λ c. cond c (record { region = item.raft_group_id; step = s } ∷ taking_steps tables (steps_of_items items))
          (taking_steps tables (steps_of_items items)))
          (sym (word (end_of (table_of item.raft_group_id (finite.get tables item.raft_group_id)).entries) item.content s k ∙ l))

  -- what is told of the items that take something away
  pub taking_told : (items : List Item) (r : ℕ) → SayTheSame (steps_on r (steps_of_items (told_items (taking_items tables items)))) (steps_on r (taking_steps tables (steps_of_items items)))
  taking_told items r = subst (λ l. SayTheSame (steps_on r (steps_of_items (told_items (taking_items tables items)))) (steps_on r l)) (same_steps items) (told_same (taking_items tables items) r)

  -- ---- places

  module _ (place : FileBlockHandle) (compression : CompressionType) where
    placed_takes : (end : ℕ) (c : Content) → content_takes_away end (placed_content place compression c) ≡ content_takes_away end c
    placed_takes end (entries []) = refl
    placed_takes end (entries (e ∷ es)) = refl
    placed_takes end (command c) = refl
    placed_takes end (pair p) = refl

    placed_told : (id : ℕ) (c : Content) → told_of id (placed_content place compression c) ≡ told_of id c
    placed_told id (entries []) = refl
    placed_told id (entries (e ∷ es)) = refl
    placed_told id (command c) = refl
    placed_told id (pair p) = refl

    pub placed_same : (items : List Item) → told_items (taking_items tables (map (placed_item place compression) items)) ≡ told_items (taking_items tables items)
    placed_same [] = refl
    placed_same (item ∷ items) =
        ap (λ b. told_items (cond b (placed_item place compression item ∷ (taking_items tables (map (placed_item place compression) items)))
        (taking_items tables (map (placed_item place compression) items))))
        (placed_takes (end_of (table_of item.raft_group_id (finite.get tables item.raft_group_id)).entries) item.content)
        ∙ go (item_takes_from tables item) (placed_same items)
      where
        go : (b : Bool) → told_items (taking_items tables (map (placed_item place compression) items)) ≡ told_items (taking_items tables items) →
            told_items (cond b (placed_item place compression item ∷ (taking_items tables (map (placed_item place compression) items)))
            (taking_items tables (map (placed_item place compression) items))) ≡ told_items
            (cond b (item ∷ taking_items tables items) (taking_items tables items))
        go true ih = ap (λ l. l ++ told_items (taking_items tables (map (placed_item place compression) items))) (placed_told item.raft_group_id item.content) ∙ ap (λ l. told_of item.raft_group_id item.content ++ l) ih
        go false ih = ih
