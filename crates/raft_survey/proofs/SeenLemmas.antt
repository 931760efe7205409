-- What a walk through files shows a visitor, as it is seen from outside.
use Rattle.raft_survey.proofs.Common.{ℕ, ◌+◌, List, [], ◌∷◌, ◌++◌, length, ap, subst, FileId, LogFileContext, LogQueue, Append, Rewrite, Version, Part, part_of, file_of, FileSize, AreVisited, HasWalked, Met, AreBothWalked, AreFilesWalked, AreWalkedFrom, HasWalkedFile}

-- a visitor is seen so, and something holds of it that each visit keeps
module _ {V U : Type 0} (see : V → U) (Holds : V → Type 0) (Visits : V → Part → ℕ → Met → V → Type 0) (Sees : U → Part → ℕ → Met → U → Type 0)
    (seen : (old : V) (part : Part) (at : ℕ) (met : Met) (new : V) → Holds old → Visits old part at met new → Sees (see old) part at met (see new) × Holds new) where
  visits_seen : (part : Part) (ms : List (ℕ × Met)) (old new : V) → Holds old → AreVisited Visits part old ms new → AreVisited Sees part (see old) ms (see new) × Holds new
  visits_seen part [] old new holds visited = (ap see visited, subst Holds visited holds)
  visits_seen part (m ∷ ms) old new holds visited =
      let one = seen old part m.0 m.1 visited.0 holds visited.1 in let rest = visits_seen part ms visited.0 new one.1 visited.2 in
      ((see visited.0, one.0, rest.0), rest.1)

  part_seen : (part : Part) (old new : V) → Holds old → HasWalked Visits part old new → HasWalked Sees part (see old) (see new) × Holds new
  part_seen part old new holds walked =
      let all = visits_seen part walked.met old new holds walked.visited in (record { met = walked.met; is_walk = walked.is_walk; visited = all.0 }, all.1)

  parts_seen : (file : LogFileContext) (offset : ℕ) (parts : List (List ℕ)) (old new : V) → Holds old → AreWalkedFrom Visits file offset parts old new → AreWalkedFrom Sees file offset parts (see old) (see new) × Holds new
  parts_seen file offset [] old new holds walked = (ap see walked, subst Holds walked holds)
  parts_seen file offset (bytes ∷ parts) old new holds walked =
      let one = part_seen (part_of file offset bytes) old walked.0 holds walked.1 in let rest = parts_seen file (offset + length bytes) parts walked.0 new one.1 walked.2 in
      ((see walked.0, one.0, rest.0), rest.1)

  file_seen : (Gives : ℕ → List ℕ → Type 0) (file : LogFileContext) (len : ℕ) (old new : V) → Holds old → HasWalkedFile Visits Gives file len old new → HasWalkedFile Sees Gives file len (see old) (see new) × Holds new
  file_seen Gives file len old new holds walked =
      let all = parts_seen file 0 (walked.parts ++ walked.last ∷ []) old new holds walked.walked in (
        record { bytes = walked.bytes; read = walked.read; inside = walked.inside; whole = walked.whole; parts = walked.parts; last = walked.last; cut = walked.cut; all = walked.all; walked = all.0 },
        all.1,
      )

  files_seen : (Gives : FileId → ℕ → List ℕ → Type 0) (queue : LogQueue) (version : Version) (sizes : List FileSize) (old new : V) → Holds old → AreFilesWalked Visits Gives queue version sizes old new
      → AreFilesWalked Sees Gives queue version sizes (see old) (see new) × Holds new
  files_seen Gives queue version [] old new holds walked = (ap see walked, subst Holds walked holds)
  files_seen Gives queue version (size ∷ sizes) old new holds walked =
      let one = file_seen (Gives (file_of queue size.seq)) (record { id = file_of queue size.seq; version = version }) size.len old walked.0 holds walked.1 in
      let rest = files_seen Gives queue version sizes walked.0 new one.1 walked.2 in
      ((see walked.0, one.0, rest.0), rest.1)

  pub both_seen : (Gives : FileId → ℕ → List ℕ → Type 0) (version : Version) (append rewrite : List FileSize) (old new : V) → Holds old → AreBothWalked Visits Gives version append rewrite old new
      → AreBothWalked Sees Gives version append rewrite (see old) (see new) × Holds new
  both_seen Gives version append rewrite old new holds walked =
      let first = files_seen Gives Append version append old walked.0 holds walked.1 in
      let second = files_seen Gives Rewrite version rewrite walked.0 new first.1 walked.2 in
      ((see walked.0, first.0, second.0), second.1)
