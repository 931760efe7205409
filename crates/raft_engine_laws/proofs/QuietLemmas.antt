-- What takes nothing away that is rewritten needn't be told.
use Rattle.raft_engine_laws.proofs.Common.{◌≡◌, ℕ, List, [], ◌∷◌, ◌++◌, Option, None, refl, sym, ap, subst, ◌∙◌, cond, list_any, EntryIndex, Rewrite, same_some, Step, Run, table_of, Table, below, Event, IsOneReading, RegionStep, Tables, steps_on, IsRegionKept, AreKept, drops_key}
use Rattle.raft_engine_laws.proofs.Common.{unspoken, SayEnough, SayTheSame}
use Rattle.std.specs.FinMap as finite
use Rattle.raft_engine_laws.proofs.TestLemmas.{or_none, any-append}
use Rattle.raft_engine_laws.proofs.UnspokenLemmas.{unspoken_same, spoken-append, unspoken-steps, unspoken-run}

quiet_kept : (content : EntryIndex → List ℕ) (id : ℕ) (kept untold fewer : List Step) (rewritten t : Table) →
    IsRegionKept content id kept untold rewritten t → SayEnough untold fewer rewritten.entries → IsRegionKept content id kept fewer rewritten t
quiet_kept content id kept untold fewer rewritten t k q = record {
  steps = k.steps;
  sound = k.sound;
  own = k.own;
  read = k.read;
  seen = k.seen;
  over = k.over;
  moved = k.moved;
  told = q.entries ∙ k.told;
  covers = λ i is. k.covers i (q.covers i is);
  spoken = k.spoken;
  pair_moved = k.pair_moved;
  pair_told = λ key s is queue. ap (λ b. cond b None (finite.get rewritten.keys key)) (q.keys key) ∙ k.pair_told key s is queue;
  pair_gone = λ key none. ap (λ b. cond b None (finite.get rewritten.keys key)) (q.keys key) ∙ k.pair_gone key none;
  pair_covers = λ key is. k.pair_covers key (sym (q.keys key) ∙ is);
  pair_spoken = k.pair_spoken;
}

pub fewer_kept : (content : EntryIndex → List ℕ) (append rewrite : List Event) (untold fewer : List RegionStep) (tables rewritten : Tables) → AreKept content append rewrite untold tables → IsOneReading Rewrite rewrite rewritten []
    → ((r : ℕ) → SayEnough (steps_on r untold) (steps_on r fewer) (table_of r (finite.get rewritten r)).entries) → AreKept content append rewrite fewer tables
fewer_kept content append rewrite untold fewer tables rewritten h read enough = record {
  append_sound = h.append_sound;
  rewrite_sound = h.rewrite_sound;
  apart = h.apart;
  rewritten = h.rewritten;
  read = h.read;
  each = λ r. quiet_kept content r _ (steps_on r untold) (steps_on r fewer) (table_of r (finite.get h.rewritten r)) (table_of r (finite.get tables r)) (h.each r)
      (subst (λ (o : Option Table). SayEnough (steps_on r untold) (steps_on r fewer) (table_of r o).entries) (same_some _ _ (sym (read.tables_read r) ∙ h.read.tables_read r)) (enough r));
}

-- a run behind all rewritten entries that are live says nothing
pub quiet_run : (untold : List Step) (e : EntryIndex) (run es : List EntryIndex) → below e.index (unspoken untold es) ≡ unspoken untold es → SayEnough (untold ++ Run (e ∷ run) ∷ []) untold es
quiet_run untold e run es all = record {
  covers = λ i is. spoken-append untold (Run (e ∷ run) ∷ []) i ∙ rw (is) refl;
  entries = sym (sym (unspoken-steps untold (Run (e ∷ run) ∷ []) es) ∙ unspoken-run e run (unspoken untold es) ∙ all);
  keys = λ key. sym (any-append (drops_key key) untold (Run (e ∷ run) ∷ []) ∙ or_none (list_any (drops_key key) untold));
}

-- what says the same stands for the untold steps
pub same_kept : (content : EntryIndex → List ℕ) (append rewrite : List Event) (untold other : List RegionStep) (tables : Tables) →
    AreKept content append rewrite untold tables → ((r : ℕ) → SayTheSame (steps_on r other) (steps_on r untold)) →
    AreKept content append rewrite other tables
same_kept content append rewrite untold other tables h same = fewer_kept content append rewrite untold other tables h.rewritten h h.read
    (λ r. record { covers = λ i is. sym ((same r).indexes i) ∙ is; entries = unspoken_same (steps_on r other) (steps_on r untold) (table_of r (finite.get h.rewritten r)).entries (same r).indexes; keys = (same r).keys })
