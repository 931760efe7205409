-- The front of the append files is deleted.
use Rattle.raft_engine_laws.proofs.Common.{◌≡◌, ℕ, List, [], ◌++◌, sym, subst, EntryIndex, Append, table_of, Event, batches, steps_of, IsSoundIn, Tables, own_none, plain-append, sound_in_front, sound_in_back, NeedsNoneBelow, AreFilesBelow, IsRegionKept, AreKept}
use Rattle.std.specs.FinMap as finite
use Rattle.raft_engine_laws.proofs.FileSteps.{steps_below}
use Rattle.raft_engine_laws.proofs.ShorterRegion.{shorter_kept}

module _ (content : EntryIndex → List ℕ) (n : ℕ) (dropped later rewrite : List Event) (tables : Tables) (h : AreKept content (dropped ++ later) rewrite [] tables)
    (below : AreFilesBelow n dropped) (needs : (r : ℕ) → NeedsNoneBelow Append n (table_of r (finite.get tables r))) where
  front : IsSoundIn Append dropped
  front = sound_in_front Append dropped later h.append_sound

  back : IsSoundIn Append later
  back = sound_in_back Append dropped later h.append_sound

  parts : (r : ℕ) → steps_of r (batches (dropped ++ later)) ≡ steps_of r (batches dropped) ++ steps_of r (batches later)
  parts r = plain-append r dropped later front.files back.files h.append_sound.files

  -- the front of the append files is deleted
  pub shorter : AreKept content later rewrite [] tables
  shorter = record {
    append_sound = back;
    rewrite_sound = h.rewrite_sound;
    apart = h.apart;
    rewritten = h.rewritten;
    read = h.read;
    each = λ r. subst (λ l. IsRegionKept content r (steps_of r (batches later)) l (table_of r (finite.get h.rewritten r)) (table_of r (finite.get tables r))) (sym (own_none r))
        (shorter_kept content r n (steps_of r (batches dropped)) (steps_of r (batches later)) (table_of r (finite.get h.rewritten r)) (table_of r (finite.get tables r))
        (subst (λ l. IsRegionKept content r l [] (table_of r (finite.get h.rewritten r)) (table_of r (finite.get tables r))) (parts r)
        (subst (λ l. IsRegionKept content r (steps_of r (batches (dropped ++ later))) l (table_of r (finite.get h.rewritten r))
        (table_of r (finite.get tables r))) (own_none r) (h.each r)))
        (steps_below n r dropped below front.items) (needs r));
  }
