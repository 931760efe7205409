-- What batches put is in their files.
use Rattle.raft_engine_laws.proofs.Common.{◌≡◌, ℕ, ◌<◌, Bool, true, false, cond, List, [], ◌∷◌, Option, Some, None, refl, sym, subst, AllByRecursion, EntryIndex, FileBlockHandle, FileId, OpType, IsPlaceInFile, is_reserved, Item, Content, entries, command, pair, place_seq, Step}
use Rattle.raft_engine_laws.proofs.Common.{Run, Compact, Truncate, Put, Del, Clean, same_some, Event, BatchSteps, batches, steps_of, AreInFile, IsInFile, IsPairIn, RegionStep, steps_of_items, content_step, pair_step, each_step_of, AreInFiles, with_step, AreFilesBelow}
use Rattle.raft_records.specs.declared.command.Command.TheVariants as commands
use Rattle.raft_records.specs.declared.key_value.OpType.TheVariants as operations
use Rattle.raft_engine_laws.proofs.FileWords.{IsSeqBelow, AreBelow, IsStepBelow}

places_below : (n : ℕ) (file : FileId) (es : List EntryIndex) → file.seq < n → AllByRecursion (λ (e : EntryIndex). IsPlaceInFile file e.entries) es → AreBelow n es
places_below n file [] h k = tt
places_below n file (e ∷ es) h k = (one e.entries k.0, places_below n file es h k.1)
  where
    one : (o : Option FileBlockHandle) → IsPlaceInFile file o → IsSeqBelow n (place_seq o)
    one None k = absurd k
    one (Some place) k = subst (λ (f : FileId). f.seq < n) (sym k) h

step_below : (n : ℕ) (file : FileId) (content : Content) (s : Step) → file.seq < n → IsInFile file content → content_step content ≡ Some s → IsStepBelow n s
step_below n file (entries es) s h k e = subst (IsStepBelow n) (same_some (Run es) s e) (places_below n file es h k.1)
step_below n file (command commands.Clean) s h k e = subst (IsStepBelow n) (same_some Clean s e) tt
step_below n file (command (commands.Compact index)) s h k e = subst (IsStepBelow n) (same_some (Compact index) s e) tt
step_below n file (command (commands.Truncate index)) s h k e = subst (IsStepBelow n) (same_some (Truncate index) s e) tt
step_below n file (pair p) s h k e = go (is_reserved p.key) refl e
  where
    put : (value : Option (List ℕ)) (id : Option FileId) → IsPairIn file operations.Put value id → pair_step operations.Put p.key value id ≡ Some s → IsStepBelow n s
    put (Some value) (Some id) k e = subst (IsStepBelow n) (same_some (Put p.key value id) s e) (subst (λ (f : FileId). f.seq < n) (sym k) h)
    put (Some value) None k e = absurd k
    put None id k e = absurd k

    of : (o : OpType) → IsPairIn file o p.value p.file_id → pair_step o p.key p.value p.file_id ≡ Some s → IsStepBelow n s
    of operations.Put k e = put p.value p.file_id k e
    of operations.Del k e = subst (IsStepBelow n) (same_some (Del p.key) s e) tt

    go : (b : Bool) → is_reserved p.key ≡ b → cond b None (pair_step p.op_type p.key p.value p.file_id) ≡ Some s → IsStepBelow n s
    go true r e = absurd cc
    go false r e = of p.op_type (k r) e

items_below : (n : ℕ) (file : FileId) (items : List Item) → file.seq < n → AreInFile file items → AllByRecursion (λ (i : RegionStep). IsStepBelow n i.step) (steps_of_items items)
items_below n file [] h k = tt
items_below n file (item ∷ items) h k = go (content_step item.content) (λ s e. step_below n file item.content s h k.0 e) (items_below n file items h k.1)
  where
    go : (o : Option Step) → ((s : Step) → o ≡ Some s → IsStepBelow n s) →
        AllByRecursion (λ (i : RegionStep). IsStepBelow n i.step) (steps_of_items items) → AllByRecursion (λ (i : RegionStep). IsStepBelow n i.step)
        (with_step item.raft_group_id o (steps_of_items items))
    go None each rest = rest
    go (Some s) each rest = (each s refl, rest)

history_below : (n r : ℕ) (h : List Event) → AreFilesBelow n h → AreInFiles h → AllByRecursion (λ (b : BatchSteps). AllByRecursion (λ (s : RegionStep). s.region ≡ r → IsStepBelow n s.step) b.steps) (batches h)
history_below n r [] a b = tt
history_below n r (e ∷ h) a b = (weaker (steps_of_items e.items) (items_below n e.file e.items a.0 b.0), history_below n r h a.1 b.1)
  where
    weaker : (is : List RegionStep) → AllByRecursion (λ (i : RegionStep). IsStepBelow n i.step) is → AllByRecursion (λ (s : RegionStep). s.region ≡ r → IsStepBelow n s.step) is
    weaker [] h = tt
    weaker (i ∷ is) h = (λ e. h.0, weaker is h.1)

pub steps_below : (n r : ℕ) (h : List Event) → AreFilesBelow n h → AreInFiles h → AllByRecursion (IsStepBelow n) (steps_of r (batches h))
steps_below n r h a b = each_step_of (IsStepBelow n) (λ a b. tt) r (batches h) (history_below n r h a b)
