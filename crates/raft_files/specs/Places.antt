-- The bytes at a place of files.
use Rattle.std.specs.Prelude.{ℕ, ◌+◌, ◌<◌, ◌==◌, nat_le, List, [], ◌∷◌, length, take, drop, Option, Some, None, if◌then◌else◌}
use Rattle.raft_files.specs.Disk.{NumberedBytes}

-- so many bytes from an offset on, where there are as many
abbrev pub stretch_of : List ℕ → ℕ → ℕ → Option (List ℕ)
stretch_of bytes offset len = if nat_le (offset + len) (length bytes) then Some (take len (drop offset bytes)) else None

-- the same of the file with this number
abbrev pub bytes_at : List NumberedBytes → ℕ → ℕ → ℕ → Option (List ℕ)
bytes_at [] seq offset len = None
bytes_at (file ∷ files) seq offset len = if file.0 == seq then stretch_of file.1 offset len else bytes_at files seq offset len

-- the number is above that of the last file, if there is one
abbrev pub IsNext : ℕ → List NumberedBytes → Type 0
IsNext seq [] = Unit {0}
IsNext seq (file ∷ []) = file.0 < seq
IsNext seq (file ∷ next ∷ files) = IsNext seq (next ∷ files)
