use Rattle.raft_opening.proofs.Common.{◌≡◌, ℕ, ◌+◌, ◌<◌, List, [], ◌∷◌, ◌++◌, get_or, length, take, take_all, take_more, refl, sym, subst, Error, FileId, IsCorruption, damaged_entries_text, AreNamed, IsDamageNamed, DamagedBatch}
use Rattle.raft_base.specs.declared.errors.Error.TheVariants as errors
use Rattle.raft_opening.proofs.NamedLemmas.{named_more}
use Rattle.raft_opening.proofs.damaged.named_batches.Goals as goal

-- the name of the next batch behind those of the batches before it
next_named : (id : FileId) (begins : List ℕ) (i d : ℕ) (batches new : List DamagedBatch) (error : Error) → i < length begins → AreNamed id (take i begins) batches
    → IsCorruption (damaged_entries_text id (get_or begins i d)) error → (error ≡ errors.Memory → ⊥) → new ≡ batches ++ record { file = id.seq; offset = get_or begins i d; error = error } ∷ [] → AreNamed id (take (i + 1) begins) new
next_named id begins i d batches new error low before why other is =
    let x : ℕ = get_or begins i d in
    let batch : DamagedBatch = record { file = id.seq; offset = x; error = error } in
    let one : IsDamageNamed id x batch = record { file = refl; offset = refl; why = why; not_memory = other } in
    let more : AreNamed id (take i begins ++ x ∷ []) (batches ++ batch ∷ []) = named_more (IsDamageNamed id) (take i begins) batches x batch before one in
    subst (λ (xs : List ℕ). AreNamed id xs new) (sym (take_more begins i d low)) (subst (AreNamed id (take i begins ++ x ∷ [])) (sym is) more)

pub loop-offset-preserved : goal.loop-offset-preserved
loop-offset-preserved c =
    next_named c.args.file c.args.offsets.now c.loop-offset.offset-index _ c.loop-offset.batches.items c.push.new.self.items c.damage_at-error.result c.loop-offset-test.true c.loop-offset.invariant c.damage_at-error.ensures c.in_ok-unless_memory.ensures.ok c.in_ok-push.ensures.items

pub returns-clause-ok : goal.returns-clause-ok
returns-clause-ok c = subst (λ (xs : List ℕ). AreNamed c.args.file xs c.loop-offset.batches.items) (take_all c.loop-offset.offset-index c.args.offsets.now c.loop-offset-test.false) c.loop-offset.invariant
