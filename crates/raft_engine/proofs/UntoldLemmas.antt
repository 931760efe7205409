-- What is told of items.
use Rattle.raft_engine.proofs.Common.{◌≡◌, ℕ, cond, List, [], ◌∷◌, ◌++◌, map, Some, None, refl, sym, ap, ◌∙◌, subst, CompressionType, FileBlockHandle, OpType, Content, Item, command, entries, pair, placed_content, placed_item, raised_item, Step, Tables, content_step, is_reserved}
use Rattle.raft_engine.proofs.Common.{pair_step, steps_of_items, steps_on, own-append, with_step, steps-append, SayTheSame, TakeAway, TakesAway, taking_items, taking_steps, told_items}
use Rattle.raft_records.specs.declared.key_value.OpType.TheVariants as operations

-- ---- items that take away, in a batch

pub away-append : (a b : List Item) → TakeAway a → TakeAway b → TakeAway (a ++ b)
away-append [] b h k = k
away-append (item ∷ a) b h k = (h.0, away-append a b h.1 k)

placed_step : (place : FileBlockHandle) (compression : CompressionType) (c : Content) → TakesAway c → content_step (placed_content place compression c) ≡ content_step c
placed_step place compression (entries es) t = absurd t
placed_step place compression (command c) t = refl
placed_step place compression (pair p) t = go p.op_type t
  where
    go : (op : OpType) → op ≡ operations.Del → cond (is_reserved p.key) None (pair_step op p.key p.value (Some place.id)) ≡ cond (is_reserved p.key) None (pair_step op p.key p.value p.file_id)
    go operations.Put e = absurd cc
    go operations.Del e = refl

-- wherever they are placed, their steps are the same
pub placed_steps : (place : FileBlockHandle) (compression : CompressionType) (items : List Item) → TakeAway items → steps_of_items (map (placed_item place compression) items) ≡ steps_of_items items
placed_steps place compression [] t = refl
placed_steps place compression (item ∷ items) t =
    ap (λ o. with_step item.raft_group_id o (steps_of_items (map (placed_item place compression) items))) (placed_step place compression item.content t.0)
    ∙ ap (λ l. with_step item.raft_group_id (content_step item.content) l) (placed_steps place compression items t.1)

placed_takes : (place : FileBlockHandle) (compression : CompressionType) (c : Content) → TakesAway c → TakesAway (placed_content place compression c)
placed_takes place compression (entries es) t = absurd t
placed_takes place compression (command c) t = tt
placed_takes place compression (pair p) t = t

pub placed_away : (place : FileBlockHandle) (compression : CompressionType) (items : List Item) → TakeAway items → TakeAway (map (placed_item place compression) items)
placed_away place compression [] t = tt
placed_away place compression (item ∷ items) t = (placed_takes place compression item.content t.0, placed_away place compression items t.1)

-- they have no entries that could be raised
pub raised_same : (n : ℕ) (items : List Item) → TakeAway items → map (raised_item n) items ≡ items
raised_same n [] t = refl
raised_same n (item ∷ items) t = go item.content t.0 (raised_same n items t.1)
  where
    go : (c : Content) → TakesAway c → map (raised_item n) items ≡ items → raised_item n (record item { content = c }) ∷ map (raised_item n) items ≡ record item { content = c } ∷ items
    go (entries es) t same = absurd t
    go (command c) t same = ap (λ l. record item { content = command c } ∷ l) same
    go (pair p) t same = ap (λ l. record item { content = pair p } ∷ l) same

-- ---- untold items and more

-- steps say the same as themselves
same_self : (ss : List Step) → SayTheSame ss ss
same_self ss = record { indexes = λ i. refl; keys = λ key. refl }

-- what is told of a batch may stand for those of its steps that take something away
pub untold_more : ((tables : Tables) (items : List Item) (r : ℕ)
    → SayTheSame (steps_on r (steps_of_items (told_items (taking_items tables items)))) (steps_on r (taking_steps tables (steps_of_items items))))
    → ((tables : Tables) (place : FileBlockHandle) (compression : CompressionType) (items : List Item)
    → told_items (taking_items tables (map (placed_item place compression) items)) ≡ told_items (taking_items tables items))
    → ((a b c d : List Step) → SayTheSame a b → SayTheSame c d → SayTheSame (a ++ c) (b ++ d))
    → (tables : Tables) (place : FileBlockHandle) (compression : CompressionType) (untold items : List Item) (r : ℕ)
    → SayTheSame (steps_on r (steps_of_items (untold ++ told_items (taking_items tables items))))
    (steps_on r (steps_of_items untold ++ taking_steps tables (steps_of_items (map (placed_item place compression) items))))
untold_more same placed joined tables place compression untold items r =
    let all = map (placed_item place compression) items in
    let told : List Item = told_items (taking_items tables items) in
    let taken = taking_steps tables (steps_of_items all) in
    let one : SayTheSame (steps_on r (steps_of_items told)) (steps_on r taken) =
    subst (λ l. SayTheSame (steps_on r (steps_of_items l)) (steps_on r taken)) (placed tables place compression items) (same tables all r) in
    let left = ap (steps_on r) (steps-append untold told) ∙ own-append r (steps_of_items untold) (steps_of_items told) in
    let right = own-append r (steps_of_items untold) taken in
    subst (λ l. SayTheSame l (steps_on r (steps_of_items untold ++ taken))) (sym left)
    (subst (λ l. SayTheSame (steps_on r (steps_of_items untold) ++ steps_on r (steps_of_items told)) l) (sym right) (joined _ _ _ _ (same_self (steps_on r (steps_of_items untold))) one))
