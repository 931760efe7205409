-- A region mark changed by a call, as a slot keeps it.
use Rattle.raft_contexts.proofs.Common.{Result, Ok, Err, AllocError, Mark, MarkChange, ChangesMark, IsOneUpdated}

-- the call changed it in place
pub one_changed : {F : Type 0} (g : MarkChange F) (f : F) (old : Mark) (r : Result (Unit {0}) AllocError) (new : Mark) → ChangesMark g f old r new → IsOneUpdated g f old r new
one_changed g f old (Ok a) new ch = record { changed = ch; err = λ kept. tt }
one_changed g f old (Err x) new ch = record { changed = tt; err = λ kept. kept new ch }
