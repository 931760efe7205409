-- Keys that are put by a rewriting, in the kept tables and in what is read of the rewrite queue.
use Rattle.raft_engine_laws.proofs.Common.{◌≡◌, ℕ, if◌then◌else◌, List, [], ◌∷◌, Option, Some, None, option_map, refl, sym, ap, subst, ◌∙◌, option_and_then, FileId, Rewrite, Keys, file_at, Put, table_of, after, Table, rewritten_in, same_some, Tables, with_table, steps_of_items}
use Rattle.raft_engine_laws.proofs.Common.{steps_on, IsOther, with_own, with_other, own_none, own_head, with_step, Rewriting, after_items, AreOrdinary, put_items}
use Rattle.std.specs.FinMap as finite
use Rattle.raft_engine_laws.proofs.CopiedPairs.{moved_all, put_all}

-- ---- the kept tables

-- the puts on the tables of all regions: that of the region has its pairs moved, the others are as they were
pub puts_move : (gate : Option ℕ) (seq id : ℕ) (ps : List (List ℕ × List ℕ)) (m n : Tables) (t : Table) (out : Keys) → AreOrdinary ps → moved_all gate seq t.keys ps ≡ Some out → finite.get m id ≡ Some t
    → after_items (Rewriting gate seq) m (put_items id (record { queue = Rewrite; seq = seq }) ps) ≡ Some n
    → (table_of id (finite.get n id) ≡ record t { keys = out }) × ((r : ℕ) → IsOther r id → finite.get n r ≡ finite.get m r)
puts_move gate seq id [] m n t out ordinary moved there is = (
  ap (λ (x : Tables). table_of id (finite.get x id)) (sym (same_some m n is)) ∙ ap (table_of id) there
      ∙ ap (λ (k : Keys). record t { keys = k }) (same_some t.keys out moved),
  λ r other. ap (λ (x : Tables). finite.get x r)
      (sym (same_some m n is)),
)
puts_move gate seq id (p ∷ ps) m n t out ordinary moved there is = go (rewritten_in gate seq t.keys p.0 (file_at t.keys p.0)) refl (λ k u rest e. puts_move gate seq id ps k n u out ordinary.1 rest e) moved
  where
    first : option_and_then (λ o. after_items (Rewriting gate seq) (with_table m id o) (put_items id (record { queue = Rewrite; seq = seq }) ps))
        (option_map Some (option_map {U = Table} (λ keys. record t { keys = keys }) (rewritten_in gate seq t.keys p.0 (file_at t.keys p.0)))) ≡ Some n
    first = subst (λ (o : Option Table). option_and_then
        (λ o. after_items (Rewriting gate seq) (with_table m id o) (put_items id (record { queue = Rewrite; seq = seq }) ps))
        (option_map Some (option_map {U = Table} (λ keys. record (table_of id o) { keys = keys })
        (rewritten_in gate seq (table_of id o).keys p.0 (file_at (table_of id o).keys p.0)))) ≡ Some n) there
        (subst (λ b. option_and_then (λ o. after_items (Rewriting gate seq) (with_table m id o)
        (put_items id (record { queue = Rewrite; seq = seq }) ps))
        (if b then Some (finite.get m id) else option_map Some
        (option_map {U = Table} (λ keys. record (table_of id (finite.get m id)) { keys = keys })
        (rewritten_in gate seq (table_of id (finite.get m id)).keys p.0 (file_at (table_of id (finite.get m id)).keys p.0)))) ≡ Some n) ordinary.0
        is)

    go : (x : Option Keys) → rewritten_in gate seq t.keys p.0 (file_at t.keys p.0) ≡ x
        → ((k : Tables) (u : Table) → moved_all gate seq u.keys ps ≡ Some out → finite.get k id ≡ Some u → after_items (Rewriting gate seq) k (put_items id (record { queue = Rewrite; seq = seq }) ps) ≡ Some n
        → (table_of id (finite.get n id) ≡ record u { keys = out }) × ((r : ℕ) → IsOther r id → finite.get n r ≡ finite.get k r))
        → option_and_then (λ k. moved_all gate seq k ps) x ≡ Some out
        → (table_of id (finite.get n id) ≡ record t { keys = out }) × ((r : ℕ) → IsOther r id → finite.get n r ≡ finite.get m r)
    go None e rest k = absurd cc
    go (Some keys) e rest k =
        let all = rest (with_table m id (Some (record t { keys = keys }))) (record t { keys = keys }) k
        (with_own m id (Some (record t { keys = keys })))
        (subst (λ (x : Option Keys). option_and_then
        (λ o. after_items (Rewriting gate seq) (with_table m id o) (put_items id (record { queue = Rewrite; seq = seq }) ps))
        (option_map Some (option_map {U = Table} (λ keys. record t { keys = keys }) x)) ≡ Some n) e first) in
        (all.0, λ r other. all.1 r other ∙ with_other m id r (Some (record t { keys = keys })) other.1)

-- ---- what is read of the rewrite queue

pub puts_read : (id : ℕ) (file : FileId) (ps : List (List ℕ × List ℕ)) (o : Option Table) → AreOrdinary ps →
    (v : Option Table) × (after Rewrite id o (steps_on id (steps_of_items (put_items id file ps))) ≡ Some v) ×
    ((table_of id v).entries ≡ (table_of id o).entries) × ((table_of id v).keys ≡ put_all file (table_of id o).keys ps)
puts_read id file [] o ordinary = (o, ap (after Rewrite id o) (own_none id), refl, refl)
puts_read id file (p ∷ ps) o ordinary =
    let t : Table = record (table_of id o) { keys = finite.insert (table_of id o).keys p.0 (record { value = p.1; file = file }) } in
    let steps : steps_of_items (put_items id file (p ∷ ps)) ≡ record { region = id; step = Put p.0 p.1 file } ∷ steps_of_items (put_items id file ps) =
    ap (λ b. with_step id (if b then None else Some (Put p.0 p.1 file)) (steps_of_items (put_items id file ps))) ordinary.0 in
    let rest : (v : Option Table) × (after Rewrite id (Some t) (steps_on id (steps_of_items (put_items id file ps))) ≡ Some v) ×
    ((table_of id v).entries ≡ t.entries) × ((table_of id v).keys ≡ put_all file t.keys ps) = puts_read id file ps (Some t) ordinary.1 in
    (rest.0, ap (λ l. after Rewrite id o (steps_on id l)) steps ∙ ap (after Rewrite id o) (own_head (record { region = id; step = Put p.0 p.1 file }) (steps_of_items (put_items id file ps))) ∙ rest.1, rest.2, rest.3)
