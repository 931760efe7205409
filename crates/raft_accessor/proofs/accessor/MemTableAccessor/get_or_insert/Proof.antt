-- `get_or_insert` says of what `lend_or_make` lent that want of memory is the crate's error. Assumes `Logic`.
use Rattle.raft_accessor.proofs.Common.{◌≡◌, ℕ, [], ◌∷◌, refl, sym, subst, ⊤, proved, leaves, Accessor, table_in, IsTableMade, lent_as, the_row, IfOk, IfErr, Result, Ok, Err, Memory}
use mathlib.Core.Option.{none}
use seplogic.Ra.Ura.{Ura}
use base.Logic.{id⊢, ent, emp, ex_i, ex_e}
use base.Fml.{ftrue, flft, Lft, GName}
use mir.Syntax.{named, w64}
use contract.Monad.{fact, fact_i}
use contract.Running.{tables}
use types.Logic.{Logic, sem}
use types.Kit.{‵, raw, ◌⊛◌, some, later, ◌$◌, ◌∵◌, !, qed, by, move, keep, drop, use0, use1, use2, split, join, pick, await}
use types.Run.{enter, addr, stop, no_more, and_then, returns}
use types.ByLocal.{alloc_all, pass_all, free_all, look_at, get, through, sets, lands_as}
use denote.Builtin.{u64}
use denote.Exit.{yes, no}
use denote.Follow.{follows_so, follows_by, such_by}
use denote.Laws.{shows}
use denote.Param.Laws.{Laws, of_field}
use denote.Param.Shared.{copy_shared}
use denote.Plain.{uint_vals, uint_Tells}
use denote.Ref.{mut_vals, mut_Tells}
use denote.Signature.{plain, mut_ref_to, type_at}
use denote.Steps.{nothing, heard, peeks}
use denote.Struct.Field.{shr_ref_field}
use denote.Struct.Laws.{shr_ref_laws, shr_ref_copy}
use denote.Triple.Call.{calls_at}
use denote.Triple.Clauses.{Lasts, lasts}
use denote.Triple.Spec.{triple_of}
use denote.Triple.Table.{framed}
use denote.Triple.Walked.{Stays, stay_dropped, walk_of, Goes-dropped, Goes-spent_ref}
use Rattle.std.proofs.alloc.AllocError.TheLaws as refused_laws
use Rattle.std.proofs.result.Result.TheLaws as result_laws
use Rattle.std.specs.contracts.alloc.AllocError as refused
use Rattle.raft_base.proofs.errors.Error.TheLaws as error_laws
use Rattle.raft_base.specs.contracts.errors.Error as error
use Rattle.raft_table.proofs.memtable.MemTable.TheLaws as table_laws
use Rattle.raft_table.specs.contracts.memtable.MemTable as table
use Rattle.raft_accessor.specs.contracts.accessor.MemTableAccessor.get_or_insert as f
use Rattle.raft_accessor.specs.contracts.accessor.MemTableAccessor.lend_or_make as g
use Rattle.raft_accessor.specs.contracts.accessor.to_memory_error as h
use Rattle.raft_accessor.proofs.accessor.MemTableAccessor.get_or_insert.Statement.{statement}
use Rattle.raft_accessor.proofs.accessor.MemTableAccessor.get_or_insert.Code as code
use Rattle.raft_accessor.proofs.accessor.MemTableAccessor.lend_or_make.Met as g_met
use Rattle.raft_accessor.proofs.accessor.to_memory_error.Met as h_met

abbrev stayed : Stays f.ended.signature.params f.ended.kept
stayed = (stay_dropped (mut_ref_to (0 ∷ []) tt (plain (λ _. the_row))) no, (stay_dropped (plain (λ _. u64)) yes, tt))

abbrev lent_laws : (κ : Lft) → Laws (shr_ref_field (record { mir = named 0; lft = κ }) table.the_row tt).row
lent_laws κ =
    of_field (shr_ref_field (record { mir = named 0; lft = κ }) table.the_row tt) (shr_ref_laws (record { mir = named 0; lft = κ }) table.the_row tt) refl
    (copy_shared (shr_ref_field (record { mir = named 0; lft = κ }) table.the_row tt) (shr_ref_copy (record { mir = named 0; lft = κ }) table.the_row tt table_laws.the_row_laws.shr_laws))

-- what the accessor becomes does not depend on how the error is called
kept : {X E : Type 0} (id : ℕ) (r : Result X E) (old new : Accessor) → IsTableMade id r old new → IsTableMade id (lent_as r) old new
kept id (Ok x) old new made = record { ok = made.ok; err = made.err; counts = made.counts; cleaned = made.cleaned }
kept id (Err e) old new made = record { ok = made.ok; err = made.err; counts = made.counts; cleaned = made.cleaned }

ends_so : {M : Type 1} {𝓤 : Ura M} (𝓛 : Logic 𝓤) (γ : GName) (P P' : Accessor → Type 0) → ((n : Accessor) → P n → P' n)
    → ent 𝓤 (sem 𝓛 (follows_so the_row the_row γ none (λ _ _. ⊤) P)) (sem 𝓛 (follows_so the_row the_row γ none (λ _ _. ⊤) P'))
unfolding such_by
ends_so {𝓤 = 𝓤} 𝓛 γ P P' more = ex_e 𝓤 _ (λ s. ex_i 𝓤 (λ (t : (p : (Accessor → Accessor) × Accessor) × ((w : Accessor) → ⊤) × P' p.1).
    sem 𝓛 (follows_by Accessor Accessor the_row.coded.code the_row.coded.code γ none t.0.0 t.0.1)) (s.0, s.1, more s.0.1 s.2))

table_kept : {X E : Type 0} (P : X → Type 0) (r : Result X E) → IfOk r P → IfOk (lent_as r) P
table_kept P (Ok x) p = p
table_kept P (Err e) p = tt

memory_told : {X E : Type 0} (r : Result X E) → IfErr (lent_as r) (λ e. e ≡ Memory)
memory_told (Ok x) = tt
memory_told (Err e) = refl

pub get_or_insert_spec : {M : Type 1} → statement M
get_or_insert_spec 𝓤 𝓛 𝓜 𝓡 wired =
    let c = f.clauses 𝓛 𝓜.mem 𝓡.returns in let W = walk_of 𝓛 f.ended stayed c in
    proved 𝓛 f.ended stayed c 𝓜 𝓡 (Goes-spent_ref 𝓛 1 (0 ∷ []) tt (plain (λ _. the_row)), (Goes-dropped 𝓛 1 (plain (λ _. u64)) yes (λ κs x w. refl), tt))
    f.Key.name code.function (code.unfolded 𝓤 𝓛.H 𝓜 𝓡 wired)
    (λ κs. (mut_vals, (uint_vals w64, tt))) (λ κs. (mut_Tells (named 0) κs.0 the_row, (uint_Tells w64, tt))) (λ κs qs bounds a n are.
    let y : W.Ghost = ((κs, qs, bounds, a, (mut_vals a.0, (uint_vals w64 a.1.0, tt))), n) in
    let G = triple_of 𝓛 g.signature (g.spec 𝓛 𝓜.mem 𝓡.returns) in let z : G.Ghost = ((κs, qs, bounds, a, (mut_vals a.0, (uint_vals w64 a.1.0, tt))), tt) in
    let L = triple_of 𝓛 h.signature (h.spec 𝓛 𝓜.mem 𝓡.returns) in
    let A = type_at g.signature.result κs in let B = type_at f.signature.result κs in
    let id = a.1.0 in let old = a.0.now in let γ = a.0.ghost_name in
    qed 𝓛 (raw (G.pre z) ∷ []) ∵ enter ! _ _ _ _ _ $
    alloc_all ! (λ l. pass_all ! refl ((tt, tt), ((tt, record { fits = are.1.0.1 }), tt)) $
    sets ! (addr ! (through ! refl (stop !))) refl (tt, tt) $
    calls_at ! (framed 𝓤 𝓛.H 𝓜 (tables 𝓤 𝓛.H 𝓜 𝓡 𝓡.env)) G (g_met.met 𝓤 𝓛 𝓜 𝓡 (code.calls-raft_accessor::accessor::MemTableAccessor::lend_or_make 𝓡.env wired)) z
    (and_then ! (get ! refl) (and_then ! (get ! refl) (no_more !))) (λ v.
    use1 𝓛 (later (some (λ (r : A.Denot). ((‵ (flft κs.0 qs.0) ⊛ ‵ ftrue) ⊛ ‵ (A.own_val r (v ∷ []))) ⊛ some (λ (ws : Lasts g.ended κs a). ‵ (lasts g.ended κs a ws)
    ⊛ ‵ (follows_so the_row the_row γ none (λ _ _. ⊤) (λ new. IsTableMade id r old new)) ⊛ raw (fact 𝓤 (IfOk r (λ t. t.now ≡ table_in old.tables id))))))) (id⊢ 𝓤 _) $
    await ! tt $ pick ! (λ r. split ! $ split ! $ move ! (1 ∷ []) $ peeks ! A _ (shows 𝓛 A) r (v ∷ []) (λ is.
    let of_a = result_laws.the_row_laws (shr_ref_field (record { mir = named 0; lft = κs.0 }) table.the_row tt).row refused.the_row (lent_laws κs.0) refused_laws.the_row_laws in
    lands_as ! refl refl ((of_a.lawful 𝓛).typed r (v ∷ []) is).0 $
    nothing ! $ move ! (1 ∷ 0 ∷ []) $ join ! $ move ! (1 ∷ 0 ∷ []) $ join ! $ nothing ! $ move ! (1 ∷ 0 ∷ []) $
    let z' : L.Ghost = ((κs, qs, bounds, (r, tt), ((v ∷ []), tt)), tt) in
    use2 𝓛 (raw (L.pre z')) (id⊢ 𝓤 _) $
    calls_at ! (framed 𝓤 𝓛.H 𝓜 (tables 𝓤 𝓛.H 𝓜 𝓡 𝓡.env)) L (h_met.met 𝓤 𝓛 𝓜 𝓡 (code.calls-raft_accessor::accessor::to_memory_error 𝓡.env wired)) z'
    (and_then ! (get ! refl) (no_more !)) (λ u.
    use1 𝓛 (later (some (λ (x : B.Denot). ((‵ (flft κs.0 qs.0) ⊛ ‵ ftrue) ⊛ ‵ (B.own_val x (u ∷ []))) ⊛ some (λ (ws : Lasts h.ended κs (r, tt)). ‵ (lasts h.ended κs (r, tt) ws)
    ⊛ raw (fact 𝓤 (x ≡ lent_as r)))))) (id⊢ 𝓤 _) $
    await ! tt $ pick ! (λ x. split ! $ split ! $ move ! (1 ∷ []) $ peeks ! B _ (shows 𝓛 B) x (u ∷ []) (λ is'.
    let of_b = result_laws.the_row_laws (shr_ref_field (record { mir = named 0; lft = κs.0 }) table.the_row tt).row error.the_row (lent_laws κs.0) error_laws.the_row_laws in
    lands_as ! refl refl ((of_b.lawful 𝓛).typed x (u ∷ []) is').0 $
    move ! (2 ∷ []) $ pick ! (λ ws'. split ! $ drop ! $ heard ! _ (λ same.
    move ! (2 ∷ []) $ pick ! (λ ws. split ! $ drop ! $ split ! $ move ! (1 ∷ []) $ heard ! _ (λ is_table.
    use1 𝓛 (‵ (follows_so the_row the_row γ none (λ _ _. ⊤) (λ new. IsTableMade id x old new))) (ends_so 𝓛 γ (λ new. IsTableMade id r old new) (λ new. IsTableMade id x old new)
    (λ new made. subst (λ w. IsTableMade id w old new) (sym same) (kept id r old new made))) $
    returns ! (look_at ! 0 refl) $ free_all ! refl $
    let Tabled = IfOk x (λ t. t.now ≡ table_in old.tables id) in let Told = IfErr x (λ e. e ≡ Memory) in
    use0 𝓛 (raw (fact 𝓤 Told)) (fact_i 𝓤 Told (emp 𝓤) (subst (λ w. IfErr w (λ e. e ≡ Memory)) (sym same) (memory_told r))) $
    use0 𝓛 (raw (fact 𝓤 Tabled)) (fact_i 𝓤 Tabled (emp 𝓤) (subst (λ w. IfOk w (λ t. t.now ≡ table_in old.tables id)) (sym same) (table_kept (λ t. t.now ≡ table_in old.tables id) r is_table))) $
    join ! $ move ! (1 ∷ 0 ∷ []) $ join ! $
    nothing ! $ nothing ! $ join ! $ nothing ! $ join ! $ keep ! (3 ∷ 0 ∷ 2 ∷ 1 ∷ []) $
    by ! (leaves 𝓛 f.ended stayed c y u x (tt, (tt, tt)) (tt, (tt, tt)))))))))))))))
