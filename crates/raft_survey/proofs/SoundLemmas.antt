-- Files of which scans say nothing are sound.
use Rattle.raft_survey.proofs.Common.{◌≡◌, ◌⊎◌, inl, inr, ℕ, ◌+◌, ◌-◌, arith, List, [], ◌∷◌, ◌++◌, length, refl, sym, ap, ◌∙◌, subst, AllByRecursion, FileId, LogFileContext, LogQueue, Version, Part, part_of, Item, Content, entries, command, pair}
use Rattle.raft_survey.proofs.Common.{framed_at, batch_inside, batch_header, header_ends, file_of, FileSize, AreSaidOf, IsSaidOfContent, IsScanned, AreRead, IsContentRead, AreSoundBetween, IsSoundPart, AreVisited, IsWalkFrom, Met, batch, damage, Batch, FileScan, AreScansOf}
use Rattle.raft_survey.proofs.Common.{IsScanOf, AreWalkedFrom, HasWalkedFile, LeadsNowhere, AreSoundFiles, AreSoundParts, IsSoundFile}

-- where nothing stands together, nothing stands in either part
none_in_front : {X : Type 0} (xs ys : List X) → xs ++ ys ≡ [] → xs ≡ []
none_in_front [] ys none = refl
none_in_front (x ∷ xs) ys none = absurd cc

none_behind : {X : Type 0} (xs ys : List X) → xs ++ ys ≡ [] → ys ≡ []
none_behind [] ys none = none
none_behind (x ∷ xs) ys none = absurd cc

-- what nothing is said of can be read
content_none : (part : Part) (offset region : ℕ) (content : Content) → IsSaidOfContent part offset region content [] → IsContentRead part content
content_none part offset region (entries es) are = are
content_none part offset region (command c) are = tt
content_none part offset region (pair p) are = tt

-- items of which nothing is said can be read
said_none : (part : Part) (offset : ℕ) (items : List Item) → AreSaidOf part offset items [] → AreRead part items
said_none part offset [] are = tt
said_none part offset (item ∷ items) are =
    let first = subst (IsSaidOfContent part offset item.raft_group_id item.content) (none_in_front are.0 are.1 (sym are.2)) are.3 in
    let rest = subst (AreSaidOf part offset items) (none_behind are.0 are.1 (sym are.2)) are.4 in
    (content_none part offset item.raft_group_id item.content first, said_none part offset items rest)

-- what is said stays
scan_none : (part : Part) (at : ℕ) (m : Met) (old new : FileScan) → IsScanned old part at m new → new.damages.items ≡ [] → old.damages.items ≡ []
scan_none part at m old new scanned none = none_in_front old.damages.items scanned.said (sym scanned.behind ∙ none)

visits_none : (part : Part) (ms : List (ℕ × Met)) (old new : FileScan) → AreVisited IsScanned part old ms new → new.damages.items ≡ [] → old.damages.items ≡ []
visits_none part [] old new visited none = ap (λ (s : FileScan). s.damages.items) visited ∙ none
visits_none part (m ∷ ms) old new visited none = scan_none part m.0 m.1 old visited.0 visited.1 (visits_none part ms visited.0 new visited.2 none)

-- a walk of which nothing is said meets sound batches alone, up to the end
walk_sound : (part : Part) (at : ℕ) (ms : List (ℕ × Met)) (old new : FileScan) → IsWalkFrom part at ms → AreVisited IsScanned part old ms new → new.damages.items ≡ []
    → (batches : List (List Item)) × AreSoundBetween part at (length part.bytes) batches
walk_sound part at [] old new walk visited none = ([], walk)
walk_sound part at ((a, batch items next) ∷ ms) old new walk visited none =
    let between = visits_none part ms visited.0 new visited.2 none in
    let scanned = visited.1 in
    let said : scanned.said ≡ [] = none_behind old.damages.items scanned.said (sym scanned.behind ∙ between) in
    let read = said_none part (part.offset + a) items (subst (AreSaidOf part (part.offset + a) items) said scanned.is_said) in
    let rest = walk_sound part next ms visited.0 new walk.3 visited.2 none in
    (items ∷ rest.0, (next, walk.2, read, rest.1))
walk_sound part at ((a, damage next e) ∷ ms) old new walk visited none =
    let between = visits_none part ms visited.0 new visited.2 none in
    let scanned = visited.1 in
    let said : scanned.said ≡ [] = none_behind old.damages.items scanned.said (sym scanned.behind ∙ between) in
    let one = scanned.is_said in
    let never : record { offset = part.offset + a; kind = Batch e } ∷ [] ≡ [] = sym one ∙ said in absurd cc

-- so it is of parts
walked_none : (file : LogFileContext) (offset : ℕ) (parts : List (List ℕ)) (old new : FileScan) → AreWalkedFrom IsScanned file offset parts old new → new.damages.items ≡ [] → old.damages.items ≡ []
walked_none file offset [] old new walked none = ap (λ (s : FileScan). s.damages.items) walked ∙ none
walked_none file offset (bytes ∷ parts) old new walked none =
    visits_none (part_of file offset bytes) walked.1.met old walked.0 walked.1.visited (walked_none file (offset + length bytes) parts walked.0 new walked.2 none)

parts_sound : (file : LogFileContext) (offset : ℕ) (parts : List (List ℕ)) (old new : FileScan) → AreWalkedFrom IsScanned file offset parts old new → new.damages.items ≡ [] → AreSoundParts file offset parts
parts_sound file offset [] old new walked none = tt
parts_sound file offset (bytes ∷ parts) old new walked none = (
  walk_sound (part_of file offset bytes) 0 walked.1.met old walked.0 walked.1.is_walk walked.1.visited (walked_none file (offset + length bytes) parts walked.0 new walked.2 none),
  parts_sound file (offset + length bytes) parts walked.0 new walked.2 none,
)

-- the last of sound parts is sound
last_sound : (file : LogFileContext) (offset : ℕ) (parts : List (List ℕ)) (last : List ℕ) → AreSoundParts file offset (parts ++ last ∷ []) → (at : ℕ) × IsSoundPart (part_of file at last)
last_sound file offset [] last sound = (offset, sound.0)
last_sound file offset (bytes ∷ parts) last sound = last_sound file (offset + length bytes) parts last sound.1

-- no header leads nowhere in front of batches
leads_on : (part : Part) (left : ℕ) → LeadsNowhere part.bytes left → IsSoundPart part → ⊥
leads_on part left nowhere ([], ends) = let room = nowhere.room in absurd (omega (arith, room, ends))
leads_on part left nowhere (items ∷ batches, sound) =
    let next = sound.0 in
    let b = sound.1 in
    let header = batch_header part 0 items next b in
    let len = length (framed_at b).bytes in
    let long = nowhere.nowhere (framed_at b).offset len header in
    let ends : next ≡ 0 + len = header_ends part 0 next (framed_at b).offset len items header b in
    let inside = batch_inside part 0 items next b in
    absurd (omega (arith, long, ends, inside.1))

-- so all bytes of a file were shown, if the last part is sound
whole_read : (file : LogFileContext) (parts : List (List ℕ)) (last : List ℕ) (read len : ℕ) → (read ≡ len) ⊎ LeadsNowhere last (len - read) → AreSoundParts file 0 (parts ++ last ∷ []) → read ≡ len
whole_read file parts last read len (inl whole) sound = whole
whole_read file parts last read len (inr nowhere) sound = let s = last_sound file 0 parts last sound in absurd (leads_on (part_of file s.0 last) (len - read) nowhere s.1)

-- the context of a file
pub context_of : (version : Version) (file : LogFileContext) (id made : FileId) → file ≡ record { id = id; version = version } → id ≡ made → file ≡ record { id = made; version = version }
context_of version file id made is same = is ∙ ap (λ (i : FileId). record { id = i; version = version }) same

module _ (Gives : FileId → ℕ → List ℕ → Type 0) (queue : LogQueue) (version : Version) where
  -- of a file
  file_sound : (size : FileSize) (scan : FileScan) → IsScanOf Gives queue version size scan → scan.damages.items ≡ []
      → IsSoundFile (Gives (file_of queue size.seq)) (record { id = file_of queue size.seq; version = version }) size.len
  file_sound size scan is none =
      let file : LogFileContext = record { id = file_of queue size.seq; version = version } in
      let w = is.walked in
      let sound = parts_sound file 0 (w.parts ++ w.last ∷ []) is.first scan w.walked none in
      record {
        bytes = w.bytes;
        read = w.read;
        whole = whole_read file w.parts w.last (length w.bytes) size.len w.whole sound;
        parts = w.parts ++ w.last ∷ [];
        all = w.all;
        sound = sound;
      }

  -- a scan that has seen nothing yet, and was shown the file
  pub scan_of : (size : FileSize) (file : LogFileContext) (begun scan : FileScan) → file ≡ record { id = file_of queue size.seq; version = version } → begun.batches ≡ 0 → begun.read ≡ size.len → begun.unseen ≡ 0 → begun.damages.items ≡ [] → begun.seq ≡ size.seq → begun.len ≡ size.len
      → HasWalkedFile IsScanned (Gives file.id) file size.len begun scan → IsScanOf Gives queue version size scan
  scan_of size file begun scan is batches read unseen undamaged seq len walked = record {
    first = begun;
    batches = batches;
    read = read;
    unseen = unseen;
    undamaged = undamaged;
    seq = seq;
    len = len;
    walked = subst (λ (f : LogFileContext). HasWalkedFile IsScanned (Gives f.id) f size.len begun scan) is walked;
  }

  -- of the files of a queue
  pub files_sound : (sizes : List FileSize) (scans : List FileScan) → AreScansOf Gives queue version sizes scans → AllByRecursion (λ (s : FileScan). s.damages.items ≡ []) scans → AreSoundFiles Gives queue version sizes
  files_sound [] [] are none = tt
  files_sound [] (scan ∷ scans) are none = absurd are
  files_sound (size ∷ sizes) [] are none = absurd are
  files_sound (size ∷ sizes) (scan ∷ scans) are none = (file_sound size scan are.0 none.0, files_sound sizes scans are.1 none.1)
