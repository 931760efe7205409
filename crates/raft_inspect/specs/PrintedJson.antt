-- What is printed of an opening, and at the end of a check, as lines of JSON.
use Rattle.std.specs.Prelude.{List, [], ◌∷◌, ◌++◌, ℕ, nat_eq, codes, Option, Some, None, if◌then◌else◌}
use Rattle.serde_json.specs.Data.{Data, string}
use Rattle.raft_base.specs.declared.errors.Error.{Error}
use Rattle.raft_base.specs.declared.pipe_log.LogQueue.{LogQueue}
use Rattle.raft_base.specs.declared.pipe_log.LogQueue.TheVariants.{Append, Rewrite}
use Rattle.raft_engine.specs.declared.recovered.CutTail.{CutTail}
use Rattle.raft_listing.specs.Reasons.{reason_text}
use Rattle.raft_report.specs.JsonData.{count, json_line, object_of}
use Rattle.raft_report.specs.JsonLines.{no_files_data, queue_data}
use Rattle.raft_inspect.specs.Printed.{verdict_word}
use Rattle.raft_inspect.specs.declared.findings.Findings.{Findings}
use Rattle.raft_inspect.specs.declared.opening.Opening.{Opening}
use Rattle.raft_inspect.specs.declared.opening.Opening.TheVariants.{Opens, Refuses}

-- that an opening refuses the files, and why
abbrev pub refused_data : Error → Data
refused_data error = object_of ((codes "opening", string (codes "refused")) ∷ (codes "why", string (reason_text error)) ∷ [])

-- what an opening would cut off from a queue's last file
abbrev pub cut_data : LogQueue → Option CutTail → Data
cut_data queue None = object_of ((codes "cut", count 0) ∷ (codes "opening", string (codes "opens")) ∷ (codes "queue", queue_data queue) ∷ [])
cut_data queue (Some tail) =
    object_of ((codes "cut", count tail.len) ∷ (codes "file", count tail.file) ∷ (codes "offset", count tail.offset) ∷ (codes "opening", string (codes "opens")) ∷ (codes "queue", queue_data queue) ∷ (codes "why", string (reason_text tail.error)) ∷ [])

-- the lines of what an opening would do: that it refuses the files, and why; or what it cuts off from each queue
abbrev pub opening_json : Opening → List ℕ
opening_json (Refuses error) = json_line (refused_data error)
opening_json (Opens recovered) = json_line (cut_data Append recovered.append) ++ json_line (cut_data Rewrite recovered.rewrite)

-- the line of a queue that has so many files: where it has none
abbrev pub empty_json : LogQueue → ℕ → List ℕ
empty_json queue files = if nat_eq files 0 then json_line (no_files_data queue) else []

-- the last word
abbrev pub verdict_data : List ℕ → Data
verdict_data word = object_of ((codes "verdict", string word) ∷ [])

-- the lines behind those of the files
abbrev pub ending_json : Findings → List ℕ
ending_json found =
    empty_json Append found.append_files ++ (empty_json Rewrite found.rewrite_files ++ (opening_json found.opening ++ json_line (verdict_data (verdict_word found))))
