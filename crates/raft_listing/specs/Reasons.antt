-- Why something can't be read, or is refused, in words.
use Rattle.std.specs.Prelude.{ℕ, nat_eq, List, ◌++◌, codes, map, chars, encode_utf8_all, string_bytes, if◌then◌else◌}
use Rattle.std.specs.IoError.{error_kind}
use Rattle.std.specs.declared.io.ErrorKind.{ErrorKind}
use Rattle.std.specs.declared.io.ErrorKind.TheVariants.{UnexpectedEof}
use Rattle.raft_base.specs.declared.errors.Error.{Error}
use Rattle.raft_base.specs.declared.errors.Error.TheVariants as errors

-- a space for a line break, and each other character as it is
abbrev pub unbroken : ℕ → ℕ
unbroken c = if nat_eq c 10 then 32 else c

-- a text in one line: each line break is a space
abbrev pub in_line : List ℕ → List ℕ
in_line text = encode_utf8_all (map unbroken (chars text))

-- why a read or a write failed
abbrev pub io_words : ErrorKind → List ℕ
io_words UnexpectedEof = codes "IO Error: bytes end too early"
io_words _ = codes "IO Error: a read or a write failed"

-- a reason in words, in one line
abbrev pub reason_text : Error → List ℕ
reason_text (errors.InvalidArgument text) = codes "Invalid Argument: " ++ in_line (string_bytes text)
reason_text (errors.Corruption text) = codes "Corruption: " ++ in_line (string_bytes text)
reason_text (errors.Io e) = io_words (error_kind e)
reason_text (errors.Codec e) = codes "Codec Error: a number is cut short, or is none"
reason_text (errors.Message e) = codes "Message Error"
reason_text (errors.TryAgain text) = codes "TryAgain Error: " ++ in_line (string_bytes text)
reason_text errors.EntryCompacted = codes "Entry Compacted"
reason_text errors.EntryNotFound = codes "Entry Not Found"
reason_text errors.Full = codes "Full"
reason_text (errors.Other text) = codes "Other Error: " ++ in_line (string_bytes text)
reason_text errors.Memory = codes "Memory"
reason_text errors.Failed = codes "Failed"
