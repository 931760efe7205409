use Rattle.raft_listing.proofs.Common.{◌≡◌, ◌++◌, IsUtf8, string_bytes, chars_rest, in_line}
use Rattle.raft_listing.proofs.damage.append_named_reason.Given as goal

-- the text so far and what is left of the reason, in one line, make up the whole
abbrev pub invariant-loop-letter : goal.invariant-loop-letter
invariant-loop-letter l =
    IsUtf8 (chars_rest l.letter-iterator)
    × (string_bytes l.text ++ in_line (chars_rest l.letter-iterator) ≡ string_bytes l.fn.text ++ (l.name ++ in_line (string_bytes l.why)))
