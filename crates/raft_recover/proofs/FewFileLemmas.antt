-- Files hold no more records than they have bytes.
use Rattle.raft_recover.proofs.Common.{◌<◌, ◌≤◌, ◌^◌, List, refl, length, arith, LogQueue, Version, Event, IsSmall, PartHolds, records_in_history, part_few, FilesHold, bytes_of_files, whole_file, NumberedBytes}
use Rattle.raft_replay.proofs.FewRecordLemmas.{each_few}

module _ (queue : LogQueue) (version : Version) where
  files_few : (files : List NumberedBytes) (h : List Event) → FilesHold queue version files h → records_in_history h ≤ bytes_of_files files
  files_few =
      each_few (λ (file : NumberedBytes). PartHolds (whole_file queue version file)) (λ file. length file.1) bytes_of_files (λ file files. refl)
      (λ file h held. let a = part_few (whole_file queue version file) 0 h held in omega (arith, a))

  pub small_files : (files : List NumberedBytes) (h : List Event) → FilesHold queue version files h → bytes_of_files files < 2 ^ 63 → IsSmall h
  small_files files h held few = let a = files_few files h held in record { few = omega (arith, a, few) }
