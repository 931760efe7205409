use Rattle.raft_size.proofs.Common.{◌++◌, ℕ, List, ap, sym, codes, lit<, decimal_digit}
use Rattle.raft_size.proofs.readable_size.ReadableSize.count_and_unit.Goals as goal

pub returns-then-size-eq0-clause-text : goal.returns-then-size-eq0-clause-text
returns-then-size-eq0-clause-text c = rw c.if-size-eq0.true (ap (λ (digits : List ℕ). digits ++ codes "KiB") (sym (decimal_digit 0 (lit< tt))))
