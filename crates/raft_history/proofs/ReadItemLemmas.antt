-- Items and entries that are read from a file, or placed in one.
use Rattle.raft_history.proofs.Common.{Append, Rewrite, ◌≡◌, true, false, List, [], ◌∷◌, Option, Some, None, refl, ap, ◌∙◌, option_map_or, AllByRecursion, FileBlockHandle, FileId, LogQueue, EntryIndex, IsPlaceInFile, IsDecodedIn, entries}
use Rattle.raft_history.proofs.Common.{is_same, IsRunIn, is_placed_in, ℕ, Bool, cond, same_some, OpType, is_reserved, Item, Content, command, pair, Step, Run, Compact, Truncate, Put, Del, Clean, IsStep, IsPairIn, IsInFile, AreInFile}
use Rattle.raft_history.proofs.Common.{IsStepOfQueue, RegionStep, pair_step, content_step, steps_of_items, subst, sym, AreDecodedIn, IsWritableWith, suc, ◌-◌, ◌^◌, ◌<◌, CompressionType, RisesFrom, IsRun, end_of_content, placed_content}
use Rattle.raft_history.proofs.Common.{placed_item, FitsBehind, FitTogether}
use Rattle.raft_history.proofs.Words.{with_step}
use Rattle.raft_records.specs.declared.key_value.OpType.TheVariants.{Put, Del}
use Rattle.std.proofs.Common.{map}
use Rattle.raft_records.specs.declared.command.Command.TheVariants as commands
use Rattle.raft_records.specs.declared.key_value.OpType.TheVariants as operations

same_queue : (q : LogQueue) → is_same q q ≡ true
same_queue Append = refl
same_queue Rewrite = refl

pub is_in_queue : (file : FileId) (place : Option FileBlockHandle) → IsPlaceInFile file place → option_map_or (λ (place : FileBlockHandle). is_same place.id.queue file.queue) place false ≡ true
is_in_queue file None h = absurd h
is_in_queue file (Some handle) h = ap (λ (f : FileId). is_same f.queue file.queue) h ∙ same_queue file.queue

in_queue : (file : FileId) (es : List EntryIndex) → AllByRecursion (λ (e : EntryIndex). IsPlaceInFile file e.entries) es → AllByRecursion (λ (e : EntryIndex). is_placed_in file.queue e ≡ true) es
unfolding is_placed_in
in_queue file [] h = tt
in_queue file (e ∷ es) h = (is_in_queue file e.entries h.0, in_queue file es h.1)

pub read_run : (file : FileId) (es : List EntryIndex) → IsDecodedIn file (entries es) → IsRunIn file.queue es
read_run file es h = record { consecutive = h.0; placed = in_queue file es h.1 }

-- ---- what a step is that stands in a batch of a file

-- the entries of a run have places in the file, and a put names it
abbrev pub IsStepInFile : FileId → Step → Type 0
IsStepInFile file (Run es) = IsInFile file (entries es)
IsStepInFile file (Put key value id) = id ≡ file
IsStepInFile file _ = Unit {0}

step_in_file : (file : FileId) (content : Content) (s : Step) → IsInFile file content → content_step content ≡ Some s → IsStepInFile file s
step_in_file file (entries es) s h e = subst (IsStepInFile file) (same_some (Run es) s e) h
step_in_file file (command commands.Clean) s h e = subst (IsStepInFile file) (same_some Clean s e) tt
step_in_file file (command (commands.Compact index)) s h e = subst (IsStepInFile file) (same_some (Compact index) s e) tt
step_in_file file (command (commands.Truncate index)) s h e = subst (IsStepInFile file) (same_some (Truncate index) s e) tt
step_in_file file (pair p) s h e = go (is_reserved p.key) refl e
  where
    of : (o : OpType) (value : Option (List ℕ)) (id : Option FileId) → IsPairIn file o value id → pair_step o p.key value id ≡ Some s → IsStepInFile file s
    of operations.Put (Some value) (Some id) h e = subst (IsStepInFile file) (same_some (Put p.key value id) s e) h
    of operations.Put (Some value) None h e = absurd h
    of operations.Put None id h e = absurd h
    of operations.Del value id h e = subst (IsStepInFile file) (same_some (Del p.key) s e) tt

    go : (b : Bool) → is_reserved p.key ≡ b → cond b None (pair_step p.op_type p.key p.value p.file_id) ≡ Some s → IsStepInFile file s
    go true k e = absurd cc
    go false k e = of p.op_type p.value p.file_id (h k) e

pub steps_in_file : (file : FileId) (items : List Item) → AreInFile file items → AllByRecursion (λ (s : RegionStep). IsStepInFile file s.step) (steps_of_items items)
steps_in_file file [] h = tt
steps_in_file file (item ∷ items) h = go (content_step item.content) (λ s e. step_in_file file item.content s h.0 e) (steps_in_file file items h.1)
  where
    go : (o : Option Step) → ((s : Step) → o ≡ Some s → IsStepInFile file s) → AllByRecursion (λ (s : RegionStep). IsStepInFile file s.step) (steps_of_items items)
        → AllByRecursion (λ (s : RegionStep). IsStepInFile file s.step) (with_step item.raft_group_id o (steps_of_items items))
    go None each rest = rest
    go (Some s) each rest = (each s refl, rest)

pub is_of_queue : (file : FileId) (s : Step) → IsStepInFile file s → IsStepOfQueue file.queue s
is_of_queue file (Run es) h = read_run file es h
is_of_queue file (Put key value id) h = ap (λ (f : FileId). f.queue) h
is_of_queue file _ h = tt

pub is_step : (file : FileId) (s : Step) → IsStepInFile file s → IsStep s
is_step file (Run es) h = h.0.run
is_step file _ h = tt

-- ---- items that were read from a file are as histories ask it of a batch of that file

pub pair_in : (file : FileId) (op : OpType) (value : Option (List ℕ)) → IsWritableWith op value → IsPairIn file op value (Some file)
pair_in file Put None w = absurd w
pair_in file Put (Some v) w = refl
pair_in file Del value w = tt

content_in_file : (file : FileId) (content : Content) → IsDecodedIn file content → IsInFile file content
content_in_file file (entries es) h = h
content_in_file file (command c) h = tt
content_in_file file (pair p) h = λ plain. subst (λ (id : Option FileId). IsPairIn file p.op_type p.value id) (sym h.1) (pair_in file p.op_type p.value h.0)

pub items_in_file : (file : FileId) (items : List Item) → AreDecodedIn file items → AreInFile file items
items_in_file file [] h = tt
items_in_file file (item ∷ items) h = (content_in_file file item.content h.0, items_in_file file items h.1)

-- ---- items that a write has placed may stand in the file of their places

module _ (place : FileBlockHandle) (compression : CompressionType) where
  abbrev placed : EntryIndex → EntryIndex
  placed e = record e { entries = Some place; compression_type = compression }

  rises : (start : ℕ) (es : List EntryIndex) → RisesFrom start es → RisesFrom start (map placed es)
  rises start [] h = tt
  rises start (e ∷ es) h = (h.0, rises (suc start) es h.1)

  runs : (es : List EntryIndex) → IsRun es → IsRun (map placed es)
  runs [] h = tt
  runs (e ∷ es) h = rises (suc e.index) es h

  below_last : (es : List EntryIndex) → AllByRecursion (λ (e : EntryIndex). e.index < 2 ^ 64 - 1) es → AllByRecursion (λ (e : EntryIndex). e.index < 2 ^ 64 - 1) (map placed es)
  below_last [] h = tt
  below_last (e ∷ es) h = (h.0, below_last es h.1)

  each_placed : (es : List EntryIndex) → AllByRecursion (λ (e : EntryIndex). IsPlaceInFile place.id e.entries) (map placed es)
  each_placed [] = tt
  each_placed (e ∷ es) = (refl, each_placed es)

  content_in : (s : ℕ) (content : Content) → FitsBehind s content → IsInFile place.id (placed_content place compression content)
  content_in s (entries es) h = (record { run = runs es h.0.run; bounded = below_last es h.0.bounded }, each_placed es)
  content_in s (command c) h = tt
  content_in s (pair p) h = λ kept. pair_in place.id p.op_type p.value h

  pub items_in : (s : ℕ) (items : List Item) → FitTogether s items → AreInFile place.id (map (placed_item place compression) items)
  items_in s [] h = tt
  items_in s (item ∷ items) h = (content_in s item.content h.0, items_in (end_of_content s item.content) items h.1)
