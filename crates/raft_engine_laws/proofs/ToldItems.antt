-- What is told of items takes away what they take away.
use Rattle.raft_engine_laws.proofs.Common.{◌≡◌, ℕ, Bool, true, false, cond, eqb, ◌||◌, List, [], ◌∷◌, ◌++◌, Option, Some, None, option_map, refl, sym, ap, subst, ◌∙◌, AllByRecursion, option_or, option_and_then, FileId, LogQueue, Append, Rewrite, OpType, first_marker, is_reserved}
use Rattle.raft_engine_laws.proofs.Common.{marker_byte, marker_byte_in, status_of, Item, Content, entries, command, pair, speaks_of_index, Step, Run, Truncate, Put, Del, marker_in, AreInFile, IsInFile, IsPairIn, HaveStatus, RegionStep, content_step, pair_step, steps_on}
use Rattle.raft_engine_laws.proofs.Common.{steps_of_items, each-append, own-append, own_none, own_cons, with_step, some_is, none_some, HasNoMarker, is_index_spoken, is_key_dropped, drops_key, IsRemoval, AreRemovals, SayTheSame, TakesAway, TakeAway, told_of, told_items}
use Rattle.raft_records.specs.declared.command.Command.TheVariants as commands
use Rattle.raft_records.specs.declared.key_value.OpType.TheVariants as operations
use Rattle.raft_engine_laws.proofs.KeptWrites.{on_region}
use Rattle.raft_engine_laws.proofs.TestLemmas.{any-append}

-- ---- the same is said

same_self : (a : List Step) → SayTheSame a a
same_self a = record { indexes = λ i. refl; keys = λ key. refl }

pub same_both : (a b c d : List Step) → SayTheSame a b → SayTheSame c d → SayTheSame (a ++ c) (b ++ d)
same_both a b c d h k = record {
  indexes = λ i. any-append (speaks_of_index i) a c ∙ ap (λ x. x || is_index_spoken c i) (h.indexes i) ∙ ap (λ x. is_index_spoken b i || x) (k.indexes i) ∙ sym (any-append (speaks_of_index i) b d);
  keys = λ key. any-append (drops_key key) a c ∙ ap (λ x. x || is_key_dropped c key) (h.keys key) ∙ ap (λ x. is_key_dropped b key || x) (k.keys key) ∙ sym (any-append (drops_key key) b d);
}

-- one step for another on a region
one_for : (r id : ℕ) (s t : Step) → SayTheSame (s ∷ []) (t ∷ []) → SayTheSame (steps_on r (record { region = id; step = s } ∷ [])) (steps_on r (record { region = id; step = t } ∷ []))
one_for r id s t h =
    subst (λ l. SayTheSame l (steps_on r (record { region = id; step = t } ∷ []))) (sym (own_cons r (record { region = id; step = s }) []))
    (subst (λ l. SayTheSame (cond (eqb r id) (s ∷ steps_on r []) (steps_on r [])) l) (sym (own_cons r (record { region = id; step = t }) []))
    (go (eqb r id)))
  where
    go : (b : Bool) → SayTheSame (cond b (s ∷ steps_on r []) (steps_on r [])) (cond b (t ∷ steps_on r []) (steps_on r []))
    go true = same_both (s ∷ []) (t ∷ []) (steps_on r []) (steps_on r []) h (same_self (steps_on r []))
    go false = same_self (steps_on r [])

-- no step for one that says nothing
none_for : (r id : ℕ) (t : Step) → SayTheSame [] (t ∷ []) → SayTheSame (steps_on r []) (steps_on r (record { region = id; step = t } ∷ []))
none_for r id t h = subst (λ l. SayTheSame (steps_on r []) l) (sym (own_cons r (record { region = id; step = t }) [])) (go (eqb r id))
  where
    go : (b : Bool) → SayTheSame (steps_on r []) (cond b (t ∷ steps_on r []) (steps_on r []))
    go true = same_both [] (t ∷ []) (steps_on r []) (steps_on r []) h (same_self (steps_on r []))
    go false = same_self (steps_on r [])

told_one : (r id : ℕ) (content : Content) → SayTheSame (steps_on r (steps_of_items (told_of id content))) (steps_on r (with_step id (content_step content) []))
told_one r id (entries []) = none_for r id (Run []) (record { indexes = λ i. refl; keys = λ key. refl })
told_one r id (entries (e ∷ es)) = one_for r id (Truncate e.index) (Run (e ∷ es)) (record { indexes = λ i. refl; keys = λ key. refl })
told_one r id (command commands.Clean) = same_self _
told_one r id (command (commands.Compact i)) = same_self _
told_one r id (command (commands.Truncate i)) = same_self _
told_one r id (pair p) = of p.op_type p.value p.file_id (is_reserved p.key) refl
  where
    silent : (value : List ℕ) (file : FileId) → SayTheSame [] (Put p.key value file ∷ [])
    silent value file = record { indexes = λ i. refl; keys = λ key. refl }

    put : (value : Option (List ℕ)) (file : Option FileId) → SayTheSame (steps_on r []) (steps_on r (with_step id (pair_step operations.Put p.key value file) []))
    put (Some value) (Some file) = none_for r id (Put p.key value file) (silent value file)
    put (Some value) None = same_self _
    put None file = same_self _

    of : (op : OpType) (value : Option (List ℕ)) (file : Option FileId) (b : Bool) → is_reserved p.key ≡ b
        → SayTheSame (steps_on r (steps_of_items (told_of id (pair (record { op_type = op; key = p.key; value = value; file_id = file }))))) (steps_on r (with_step id (cond b None (pair_step op p.key value file)) []))
    of operations.Put value file true e = same_self _
    of operations.Put value file false e = put value file
    of operations.Del value file b e = subst (λ c. SayTheSame (steps_on r (with_step id (cond c None (Some (Del p.key))) [])) (steps_on r (with_step id (cond b None (Some (Del p.key))) []))) (sym e) (same_self _)

pub steps-append : (a b : List Item) → steps_of_items (a ++ b) ≡ steps_of_items a ++ steps_of_items b
steps-append [] b = refl
steps-append (item ∷ a) b = go (content_step item.content) (steps-append a b)
  where
    go : (o : Option Step) → steps_of_items (a ++ b) ≡ steps_of_items a ++ steps_of_items b → with_step item.raft_group_id o (steps_of_items (a ++ b)) ≡ with_step item.raft_group_id o (steps_of_items a) ++ steps_of_items b
    go None h = h
    go (Some s) h = ap (λ l. record { region = item.raft_group_id; step = s } ∷ l) h

pub told_same : (items : List Item) (r : ℕ) → SayTheSame (steps_on r (steps_of_items (told_items items))) (steps_on r (steps_of_items items))
told_same [] r = same_self _
told_same (item ∷ items) r =
    subst (λ l. SayTheSame (steps_on r l) (steps_on r (steps_of_items (item ∷ items)))) (sym (steps-append (told_of item.raft_group_id item.content) (told_items items)))
    (subst (λ l. SayTheSame l (steps_on r (steps_of_items (item ∷ items)))) (sym (own-append r (steps_of_items (told_of item.raft_group_id item.content)) (steps_of_items (told_items items))))
    (subst (λ l. SayTheSame (steps_on r (steps_of_items (told_of item.raft_group_id item.content)) ++ steps_on r (steps_of_items (told_items items))) l) (sym (split (content_step item.content)))
    (same_both _ _ _ _ (told_one r item.raft_group_id item.content) (told_same items r))))
  where
    split : (o : Option Step) → steps_on r (with_step item.raft_group_id o (steps_of_items items)) ≡ steps_on r (with_step item.raft_group_id o []) ++ steps_on r (steps_of_items items)
    split None = ap (λ l. l ++ steps_on r (steps_of_items items)) (sym (own_none r))
    split (Some s) = own-append r (record { region = item.raft_group_id; step = s } ∷ []) (steps_of_items items)

-- ---- commands and deletions

pub told_away : (items : List Item) → TakeAway (told_items items)
told_away [] = tt
told_away (item ∷ items) = each-append (λ (item : Item). TakesAway item.content) (told_of item.raft_group_id item.content) (told_items items) (go item.content) (told_away items)
  where
    go : (content : Content) → TakeAway (told_of item.raft_group_id content)
    go (entries []) = tt
    go (entries (e ∷ es)) = (tt, tt)
    go (command c) = (tt, tt)
    go (pair p) = of p.op_type
      where
        of : (op : OpType) → TakeAway (told_of item.raft_group_id (pair (record p { op_type = op })))
        of operations.Put = tt
        of operations.Del = (refl, tt)

steps_away : (items : List Item) → TakeAway items → AllByRecursion (λ (i : RegionStep). IsRemoval i.step) (steps_of_items items)
steps_away [] h = tt
steps_away (item ∷ items) h = go (content_step item.content) (one item.content h.0) (steps_away items h.1)
  where
    one : (content : Content) → TakesAway content → (s : Step) → content_step content ≡ Some s → IsRemoval s
    one (entries es) h s e = absurd h
    one (command commands.Clean) h s e = subst IsRemoval (some_is e) tt
    one (command (commands.Compact i)) h s e = subst IsRemoval (some_is e) tt
    one (command (commands.Truncate i)) h s e = subst IsRemoval (some_is e) tt
    one (pair p) h s e = at (is_reserved p.key) (sym (ap (λ (op : OpType). cond (is_reserved p.key) None (pair_step op p.key p.value p.file_id)) h) ∙ e)
      where
        at : (b : Bool) → cond b None (Some (Del p.key)) ≡ Some s → IsRemoval s
        at true e = absurd (none_some e)
        at false e = subst IsRemoval (some_is e) tt

    go : (o : Option Step) → ((s : Step) → o ≡ Some s → IsRemoval s) → AllByRecursion (λ (i : RegionStep). IsRemoval i.step) (steps_of_items items) →
        AllByRecursion (λ (i : RegionStep). IsRemoval i.step) (with_step item.raft_group_id o (steps_of_items items))
    go None h rest = rest
    go (Some s) h rest = (h s refl, rest)

pub away_removals : (items : List Item) → TakeAway items → (r : ℕ) → AreRemovals (steps_on r (steps_of_items items))
away_removals items h r = on_region IsRemoval r (steps_of_items items) (steps_away items h)

pub away_in_file : (file : FileId) (items : List Item) → TakeAway items → AreInFile file items
away_in_file file [] h = tt
away_in_file file (item ∷ items) h = (go item.content h.0, away_in_file file items h.1)
  where
    go : (content : Content) → TakesAway content → IsInFile file content
    go (entries es) h = absurd h
    go (command c) h = tt
    go (pair p) h = λ ordinary. subst (λ (op : OpType). IsPairIn file op p.value p.file_id) (sym h) tt

unmarked : (items : List Item) → TakeAway items → AllByRecursion (λ (item : Item). marker_byte item.content ≡ None) items
unmarked [] h = tt
unmarked (item ∷ items) h = (go item.content h.0, unmarked items h.1)
  where
    go : (content : Content) → TakesAway content → marker_byte content ≡ None
    go (entries es) h = absurd h
    go (command c) h = refl
    go (pair p) h = ap (λ (op : OpType). marker_byte_in op p.key p.value) h

no_first : (items : List Item) → AllByRecursion (λ (item : Item). marker_byte item.content ≡ None) items → first_marker items ≡ None
unfolding first_marker
no_first [] h = refl
no_first (item ∷ items) h = ap (λ o. option_or (option_map (λ status. (item.raft_group_id, status)) (option_and_then status_of o)) (first_marker items)) h.0 ∙ no_first items h.1

pub away_status : (items : List Item) → TakeAway items → HaveStatus Rewrite items
away_status items h = go items (unmarked items h)
  where
    go : (items : List Item) → AllByRecursion (λ (item : Item). marker_byte item.content ≡ None) items → HaveStatus Rewrite items
    go [] h = tt
    go (item ∷ items) h = (λ byte e. absurd (none_some (sym h.0 ∙ e)), go items h.1)

pub away_unmarked : (file : FileId) (items : List Item) → TakeAway items → HasNoMarker (record { items = items; file = file })
away_unmarked file items h = go file.queue
  where
    go : (q : LogQueue) → marker_in q items ≡ None
    go Append = refl
    go Rewrite = ap (option_map (λ m. record { group = m.0; status = m.1 })) (no_first items (unmarked items h))
