-- Steps whose entries stand in files that never go down keep the entries of a table in the order of their files.
use Rattle.raft_history.proofs.Common.{Append, Rewrite, accepted_is, cond_both, some_is, option_and_then_some, ◌≡◌, ℕ, ◌≤◌, Bool, true, false, List, [], ◌∷◌, ◌++◌, Option, Some, None, refl, sym, ap, subst, arith, option_map_or}
use Rattle.raft_history.proofs.Common.{FileBlockHandle, FileId, LogQueue, EntryIndex, IsPlaceInFile, is_same, entries_after_replay, leaves_hole, Step, Run, Compact, Truncate, Clean, table_of, after_step, after, Table, below, from}
use Rattle.raft_history.proofs.Common.{is_placed_in, same_some}
use Rattle.std.proofs.Common.{filter}
use Rattle.std.specs.Option.{option_map}
use Rattle.raft_history.proofs.Words.{ArePlacesInFile}
use Rattle.raft_history.proofs.ReadItemLemmas.{is_in_queue}

-- ---- entries in the order of their files

abbrev pub seq_of : Option FileBlockHandle → ℕ
seq_of None = 0
seq_of (Some handle) = handle.id.seq

-- all places are in this queue, and the files never go down, from one number to another
abbrev pub InOrder : LogQueue → ℕ → ℕ → List EntryIndex → Type 0
InOrder q low high [] = low ≤ high
InOrder q low high (e ∷ es) = (is_placed_in q e ≡ true) × (low ≤ seq_of e.entries) × InOrder q (seq_of e.entries) high es

pub lower : (q : LogQueue) (a low high : ℕ) (es : List EntryIndex) → a ≤ low → InOrder q low high es → InOrder q a high es
lower q a low high [] l h = omega (arith, l, h)
lower q a low high (e ∷ es) l h = (h.0, omega (arith, l, h.1), h.2)

higher : (q : LogQueue) (low high b : ℕ) (es : List EntryIndex) → high ≤ b → InOrder q low high es → InOrder q low b es
higher q low high b [] l h = omega (arith, l, h)
higher q low high b (e ∷ es) l h = (h.0, h.1, higher q (seq_of e.entries) high b es l h.2)

pub some_of : (q : LogQueue) (p : EntryIndex → Bool) (low high : ℕ) (es : List EntryIndex) → InOrder q low high es → InOrder q low high (filter p es)
some_of q p low high [] h = h
some_of q p low high (e ∷ es) h =
    let rest : InOrder q (seq_of e.entries) high (filter p es) = some_of q p (seq_of e.entries) high es h.2 in
    cond_both (p e) (e ∷ filter p es) (filter p es) (InOrder q low high) (λ t. (h.0, h.1, rest)) (λ t. lower q low (seq_of e.entries) high (filter p es) h.1 rest)

behind : (q : LogQueue) (low mid high : ℕ) (xs ys : List EntryIndex) → InOrder q low mid xs → InOrder q mid high ys → InOrder q low high (xs ++ ys)
behind q low mid high [] ys h k = lower q low mid high ys h k
behind q low mid high (x ∷ xs) ys h k = (h.0, h.1, behind q (seq_of x.entries) mid high xs ys h.2 k)

place_here : (file : FileId) (o : Option FileBlockHandle) → IsPlaceInFile file o → (option_map_or (λ (place : FileBlockHandle). is_same place.id.queue file.queue) o false ≡ true) × (seq_of o ≡ file.seq)
place_here file None h = absurd h
place_here file (Some handle) h = (is_in_queue file (Some handle) h, ap (λ (f : FileId). f.seq) h)

pub run_here : (file : FileId) (es : List EntryIndex) → ArePlacesInFile file es → InOrder file.queue file.seq file.seq es
unfolding is_placed_in
run_here file [] h = omega arith
run_here file (e ∷ es) h =
    let is = place_here file e.entries h.0 in
    (is.0, omega (arith, is.1), subst (λ s. InOrder file.queue s file.seq es) (sym is.1) (run_here file es h.1))

-- ---- steps

-- the entries of a step are in files of this queue that never go down, from one number to another
abbrev pub StepRises : LogQueue → ℕ → ℕ → Step → Type 0
StepRises q low high (Run run) = InOrder q low high run
StepRises q low high _ = low ≤ high

-- so are those of steps, one behind another
abbrev pub StepsRise : LogQueue → ℕ → ℕ → List Step → Type 0
StepsRise q low high [] = low ≤ high
StepsRise q low high (s ∷ ss) = (mid : ℕ) × StepRises q low mid s × StepsRise q mid high ss

step_lower : (q : LogQueue) (a low high : ℕ) (s : Step) → a ≤ low → StepRises q low high s → StepRises q a high s
step_lower q a low high (Run run) l h = lower q a low high run l h
step_lower q a low high _ l h = omega (arith, l, h)

pub steps_lower : (q : LogQueue) (a low high : ℕ) (ss : List Step) → a ≤ low → StepsRise q low high ss → StepsRise q a high ss
steps_lower q a low high [] l h = omega (arith, l, h)
steps_lower q a low high (s ∷ ss) l h = (h.0, step_lower q a low h.0 s l h.1, h.2)

pub rise-append : (q : LogQueue) (low mid high : ℕ) (ss rs : List Step) → StepsRise q low mid ss → StepsRise q mid high rs → StepsRise q low high (ss ++ rs)
rise-append q low mid high [] rs h k = steps_lower q low mid high rs h k
rise-append q low mid high (s ∷ ss) rs h k = (h.0, h.1, rise-append q h.0 mid high ss rs h.2 k)

-- ---- tables

-- what a table becomes whose entries are in such files
changed_order : (q : LogQueue) (low high r : ℕ) (v u : Option Table) → Some v ≡ Some u → low ≤ high → InOrder q 0 low (table_of r v).entries → InOrder q 0 high (table_of r u).entries
changed_order q low high r v u e l h = subst (λ (u : Option Table). InOrder q 0 high (table_of r u).entries) (same_some v u e) (higher q 0 low high (table_of r v).entries l h)

run_order : (q : LogQueue) (low mid : ℕ) (es run a : List EntryIndex) → InOrder q 0 low es → InOrder q low mid run → entries_after_replay q es run ≡ Some a → InOrder q 0 mid a
unfolding below
run_order q low mid es [] a h k e = subst (InOrder q 0 mid) (same_some es a e) (higher q 0 low mid es k h)
run_order Append low mid es (x ∷ run) a h k e =
    subst (InOrder Append 0 mid) (accepted_is (leaves_hole es x.index) (below x.index es ++ x ∷ run) a e) (behind Append 0 low mid (below x.index es) (x ∷ run) (some_of Append _ 0 low es h) k)
run_order Rewrite low mid es (x ∷ run) a h k e = subst (InOrder Rewrite 0 mid) (some_is e)
    (cond_both (leaves_hole es x.index) (x ∷ run) (below x.index es ++ x ∷ run) (InOrder Rewrite 0 mid) (λ t. lower Rewrite 0 low mid (x ∷ run) (omega arith) k)
    (λ t. behind Rewrite 0 low mid (below x.index es) (x ∷ run) (some_of Rewrite _ 0 low es h) k))

step_order : (q : LogQueue) (low mid r : ℕ) (o u : Option Table) (s : Step) → StepRises q low mid s → InOrder q 0 low (table_of r o).entries → after_step q (table_of r o) s ≡ Some u → InOrder q 0 mid (table_of r u).entries
unfolding from below
step_order q low mid r o u (Run run) k h e = go (entries_after_replay q (table_of r o).entries run) refl e
  where
    go : (y : Option (List EntryIndex)) → entries_after_replay q (table_of r o).entries run ≡ y → option_map Some (option_map {U = Table} (λ es. record (table_of r o) { entries = es }) y) ≡ Some u → InOrder q 0 mid (table_of r u).entries
    go None p e = absurd cc
    go (Some a) p e = changed_order q mid mid r (Some (record (table_of r o) { entries = a })) u e (omega arith) (run_order q low mid (table_of r o).entries run a h k p)
step_order q low mid r o u (Compact i) k h e = changed_order q low mid r _ u e k (some_of q _ 0 low (table_of r o).entries h)
step_order q low mid r o u (Truncate i) k h e = changed_order q low mid r _ u e k (some_of q _ 0 low (table_of r o).entries h)
step_order q low mid r o u Clean k h e = changed_order q low mid r None u e k (omega arith)
step_order q low mid r o u _ k h e = changed_order q low mid r _ u e k h

pub steps_order : (q : LogQueue) (low high r : ℕ) (o u : Option Table) (ss : List Step) → StepsRise q low high ss → InOrder q 0 low (table_of r o).entries → after q r o ss ≡ Some u → InOrder q 0 high (table_of r u).entries
steps_order q low high r o u [] k h e = subst (λ (u : Option Table). InOrder q 0 high (table_of r u).entries) (same_some o u e) (higher q 0 low high (table_of r o).entries k h)
steps_order q low high r o u (s ∷ ss) k h e =
    option_and_then_some (λ (v : Option Table). after q r v ss) (after_step q (table_of r o) s) u e (λ v is e. steps_order q k.0 high r v u ss k.2 (step_order q low k.0 r o v s k.1 h is) e)
