-- What is printed of an opening, and at the end of a check, as text.
use Rattle.std.specs.Prelude.{ℕ, nat_eq, List, [], ◌++◌, codes, Option, Some, None, Bool, true, false, ◌&&◌, if◌then◌else◌}
use Rattle.std.specs.Fmt.{decimal}
use Rattle.raft_base.specs.declared.pipe_log.LogQueue.{LogQueue}
use Rattle.raft_base.specs.declared.pipe_log.LogQueue.TheVariants.{Append, Rewrite}
use Rattle.raft_replay.specs.Stops.{queue_text}
use Rattle.raft_engine.specs.declared.recovered.CutTail.{CutTail}
use Rattle.raft_listing.specs.Reasons.{reason_text}
use Rattle.raft_survey.specs.Reported.{no_files_line}
use Rattle.raft_inspect.specs.declared.findings.Findings.{Findings}
use Rattle.raft_inspect.specs.declared.opening.Opening.{Opening}
use Rattle.raft_inspect.specs.declared.opening.Opening.TheVariants.{Opens, Refuses}

-- that an opening refuses the files, and why
abbrev pub refused_line : List ℕ → List ℕ
refused_line why = codes "opening: refused: " ++ (why ++ codes "\n")

-- that so many bytes of a file are cut off, from an offset on
abbrev pub tail_words : LogQueue → CutTail → List ℕ
tail_words queue tail =
    codes "opening: would open, and cut "
    ++ (decimal tail.len ++ (codes " bytes of " ++ (queue_text queue ++ (codes " file " ++ (decimal tail.file ++ (codes " from offset " ++ (decimal tail.offset ++ codes " on: ")))))))

-- the line of what an opening would cut off from a queue's last file
abbrev pub cut_line : LogQueue → Option CutTail → List ℕ
cut_line queue None = codes "opening: would open, and cut nothing of the " ++ (queue_text queue ++ codes " queue\n")
cut_line queue (Some tail) = tail_words queue tail ++ (reason_text tail.error ++ codes "\n")

-- the lines of what an opening would do: that it refuses the files, and why; or what it cuts off from each queue
abbrev pub opening_text : Opening → List ℕ
opening_text (Refuses error) = refused_line (reason_text error)
opening_text (Opens recovered) = cut_line Append recovered.append ++ cut_line Rewrite recovered.rewrite

-- the line of a queue that has so many files: where it has none
abbrev pub empty_line : LogQueue → ℕ → List ℕ
empty_line queue files = if nat_eq files 0 then no_files_line queue else []

-- the last word: whether files are sound, if there are some
abbrev pub word_of : Bool → Bool → List ℕ
word_of true is_sound = codes "empty"
word_of false true = codes "sound"
word_of false false = codes "damaged"

abbrev pub verdict_word : Findings → List ℕ
verdict_word found = word_of (nat_eq found.append_files 0 && nat_eq found.rewrite_files 0) found.is_sound

-- the lines behind those of the files
abbrev pub ending_text : Findings → List ℕ
ending_text found =
    empty_line Append found.append_files ++ (empty_line Rewrite found.rewrite_files ++ (opening_text found.opening ++ (verdict_word found ++ codes "\n")))
