-- Batches lie in the files that hold them.
use Rattle.raft_engine_prefixes.proofs.Common.{ℕ, List, [], ◌∷◌, sym, subst, AllByRecursion, FileId, LogQueue, Version, Part, Event, each-append, NumberedBytes, HoldsFrom, FilesHold, whole_file}

module _ (IsFine : FileId → Type 0) where
  abbrev AreFine : List Event → Type 0
  AreFine h = AllByRecursion (λ (e : Event). IsFine e.file) h

  part_fine : (part : Part) (at : ℕ) (h : List Event) → HoldsFrom part at h → IsFine part.id → AreFine h
  part_fine part at [] held fine = tt
  part_fine part at (e ∷ h) held fine = (subst IsFine (sym held.0) fine, part_fine part held.1.0 h held.1.2 fine)

  -- what holds of each file of these holds of the file of each batch
  pub files_fine : (queue : LogQueue) (version : Version) (files : List NumberedBytes) (h : List Event) → FilesHold queue version files h
      → AllByRecursion (λ (file : NumberedBytes). IsFine (record { queue = queue; seq = file.0 })) files → AreFine h
  files_fine queue version [] h held fine = subst AreFine (sym held) tt
  files_fine queue version (file ∷ files) h held fine =
      subst AreFine (sym held.split)
      (each-append (λ (e : Event). IsFine e.file) held.first held.rest (part_fine (whole_file queue version file) 0 held.first held.first_held fine.0) (files_fine queue version files held.rest held.rest_held fine.1))
