-- What a context holds in numbers, as a plain value.
use Rattle.raft_history.specs.Kept as numbers
use Rattle.raft_contexts.specs.declared.kept.Kept.{Kept}

-- the program's six numbers as a plain value
abbrev pub kept_shown : Kept → numbers.Kept
kept_shown k = record { entries = k.entries; keys = k.keys; marks = k.marks; deleted_keys = k.deleted_keys; cleaned = k.cleaned; waiting_items = k.waiting_items }
