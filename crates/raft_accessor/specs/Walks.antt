-- Calls of a closure at tables, one after another.
use Rattle.std.specs.Prelude.{◌≡◌, ℕ, Bool, List, [], ◌∷◌, ◌++◌, if◌then◌else◌}
use Rattle.std.specs.Borrow.{Bor}
use Rattle.std.specs.Fn.{Mut, CalledAt, Called}
use Rattle.raft_table.specs.Table.{Table}

-- the closure and the tables that were kept, before and after a call at a table, which is kept where the closure answers true
abbrev pub Collects : {F : Type 0} → Mut F (Bor Table × Unit {0}) Bool → F × List Table → Table → F × List Table → Type 0
Collects g p t q = (b : Bool) × CalledAt g p.0 t b q.0 × (q.1 ≡ (if b then p.1 ++ t ∷ [] else p.1))

-- the closure and the ids that were kept, before and after a call at a table, whose id is kept where the closure answers true
abbrev pub KeepsId : {F : Type 0} → Mut F (Bor Table × Unit {0}) Bool → F × List ℕ → Table → F × List ℕ → Type 0
KeepsId g p t q = (b : Bool) × CalledAt g p.0 t b q.0 × (q.1 ≡ (if b then p.1 ++ t.region_id ∷ [] else p.1))

-- the closure and its last answer, before and after a call at that answer and a table
abbrev pub Makes : {F B : Type 0} → Mut F (B × (Bor Table × Unit {0})) B → F × B → Table → F × B → Type 0
Makes g p t q = (shown : Bor Table) × (shown.now ≡ t) × Called g p.0 (p.1, (shown, tt)) q.1 q.0
